use Rattle.std.proofs.Common.{◌≡◌, ◌∙◌, [], ◌∷◌, ◌++◌, true, false, List, sym, ap, subst}
use Rattle.std.proofs.lemmas.Bool.{both_ways}
use Rattle.rtl_flat.specs.Process.{Task, doing, task}
use Rattle.rtl_rule.specs.declared.finding.Finding.{Finding}
use Rattle.rtl_rule.specs.declared.rule.Rule.TheVariants.{CombLoop}
use Rattle.rtl_rule.specs.Parts.{found, within}
use Rattle.rtl_flat.specs.Flats.{flat}
use Rattle.check_loops.specs.check_found.Gathered.{Gets}
use Rattle.check_loops.proofs.check_found_proofs.Gathering.{gets_nothing, gets_one}
use Rattle.check_loops.proofs.check_found_proofs.Sites.{task_at}
use Rattle.check_assign.specs.Assigned.{IsCombLoop, comb_loop_at}
use Rattle.check_assign.proofs.loops.push_loop.Goals as goal

pub returns-then-not-on_cycle : goal.returns-then-not-on_cycle
returns-then-not-on_cycle c = λ one there.
    let d = flat c.args.design.now in
    let other : c.args.on_cycle ≡ false = cc in
    gets_nothing (IsCombLoop d) (comb_loop_at d) c.args.found.now.items (within (c.args.p.0, one) one.does) (λ broken. both_ways c.args.on_cycle other (c.requires.on_cycle.1 broken))

pub returns : goal.returns
returns c = λ other there.
    let d = flat c.args.design.now in
    let p = c.args.p.0 in
    let process = c.index-process.result.now in
    let one = task process in
    let at = task_at c.args.design.now p process c.requires.inside c.index-process.ensures in
    let same : one ≡ other = cc (at, there) in
    let site = within (p, one) (doing process.does) in
    let looped : c.args.on_cycle ≡ true = cc in
    let shown : comb_loop_at d site ≡ record { rule = CombLoop; signal = c.in_ok-signal.signal; instance = process.instance; spot = process.spot }
    = ap (λ signal. found CombLoop site signal) (sym (c.in_ok-signal.ensures one at)) in
    subst (λ (t : Task). Gets (IsCombLoop d) (comb_loop_at d) (within (p, t) t.does ∷ []) c.args.found.now.items c.push.new.self.items) same
    (subst (λ (fs : List Finding). Gets (IsCombLoop d) (comb_loop_at d) (site ∷ []) c.args.found.now.items fs) (sym (c.in_ok-push.ensures.items ∙ ap (λ f. c.args.found.now.items ++ f ∷ []) (sym shown)))
    (gets_one (IsCombLoop d) (comb_loop_at d) c.args.found.now.items site (c.requires.on_cycle.0 looped)))
