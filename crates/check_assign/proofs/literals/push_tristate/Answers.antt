use Rattle.std.proofs.Common.{◌≡◌, ◌∙◌, [], ◌∷◌, ◌++◌, false, true, length, List, sym, ap, subst, arith}
use Rattle.std.specs.List.{flat_map}
use Rattle.std.specs.Prelude.{vec_len}
use Rattle.std.proofs.lemmas.Bool.{both_ways, eqb-true, eqb-false}
use Rattle.std.proofs.lemmas.List.{nil_from_length}
use Rattle.rtl_flat.specs.Process.{Task, doing, task}
use Rattle.rtl_rule.specs.declared.finding.Finding.{Finding}
use Rattle.rtl_rule.specs.declared.rule.Rule.TheVariants.{Tristate}
use Rattle.rtl_rule.specs.Parts.{found_at, has_literal, is_z, least_place, nodes, valued_trees, within}
use Rattle.rtl_flat.specs.Flats.{flat}
use Rattle.check_loops.specs.check_found.Gathered.{Gets}
use Rattle.check_loops.proofs.check_found_proofs.Gathering.{gets_nothing, gets_one}
use Rattle.check_loops.proofs.check_found_proofs.Sites.{task_at}
use Rattle.check_assign.specs.Assigned.{IsTristate, tristate_at}
use Rattle.check_assign.specs.Marks.{z_spots}
use Rattle.check_assign.proofs.Zeds.{z_empty, z_there}
use Rattle.check_assign.proofs.literals.push_tristate.Goals as goal

pub returns-then-is_empty : goal.returns-then-is_empty
returns-then-is_empty c = λ other there.
    let d = flat c.args.design.now in
    let p = c.args.p.0 in
    let process = c.index-process.result.now in
    let at = task_at c.args.design.now p process c.requires c.index-process.ensures in
    let same : task process ≡ other = cc (at, there) in
    let spots = c.in_ok-spots.spots in
    let size : vec_len spots ≡ 0 = eqb-true (vec_len spots) 0 (sym c.is_empty.ensures ∙ c.if-is_empty.true) in
    let none : spots.items ≡ [] = nil_from_length spots.items (omega (arith, spots.ok.0, size)) in
    let never : has_literal is_z (doing process.does) ≡ false = z_empty process.spot (flat_map nodes (valued_trees (doing process.does))) (sym (c.in_ok-spots.ensures process.spot) ∙ none) in
    subst (λ (t : Task). Gets IsTristate (tristate_at d) (within (p, t) t.does ∷ []) c.args.found.now.items c.args.found.now.items) same
    (gets_nothing IsTristate (tristate_at d) c.args.found.now.items (within (p, task process) (doing process.does)) (λ broken. both_ways (has_literal is_z (doing process.does)) never broken))

pub returns : goal.returns
returns c = λ other there.
    let d = flat c.args.design.now in
    let p = c.args.p.0 in
    let process = c.index-process.result.now in
    let one = task process in
    let at = task_at c.args.design.now p process c.requires c.index-process.ensures in
    let same : one ≡ other = cc (at, there) in
    let spots = c.in_ok-spots.spots in
    let trees = flat_map nodes (valued_trees (doing process.does)) in
    let some : z_spots process.spot trees ≡ [] → ⊥ = λ none.
    let size : length spots.items ≡ 0 = ap length (c.in_ok-spots.ensures process.spot ∙ none) in
    eqb-false (vec_len spots) 0 (sym c.is_empty.ensures ∙ c.if-is_empty.false) (omega (arith, spots.ok.0, size)) in
    let broken : has_literal is_z (doing process.does) ≡ true = z_there process.spot trees some in
    let site = within (p, one) (doing process.does) in
    let place : c.least_place.result ≡ least_place process.spot (z_spots process.spot trees)
    = c.least_place.ensures ∙ ap (least_place process.spot) (c.deref.ensures.value ∙ c.in_ok-spots.ensures process.spot) in
    let shown : tristate_at d site ≡ record { rule = Tristate; signal = c.in_ok-signal.signal; instance = process.instance; spot = c.least_place.result }
    = ap (λ signal. found_at Tristate site signal (least_place process.spot (z_spots process.spot trees))) (sym (c.in_ok-signal.ensures one at))
    ∙ ap (λ spot. found_at Tristate site c.in_ok-signal.signal spot) (sym place) in
    subst (λ (t : Task). Gets IsTristate (tristate_at d) (within (p, t) t.does ∷ []) c.args.found.now.items c.push.new.self.items) same
    (subst (λ (fs : List Finding). Gets IsTristate (tristate_at d) (site ∷ []) c.args.found.now.items fs) (sym (c.in_ok-push.ensures.items ∙ ap (λ f. c.args.found.now.items ++ f ∷ []) (sym shown)))
    (gets_one IsTristate (tristate_at d) c.args.found.now.items site broken))
