use Rattle.std.proofs.Common.{◌≡◌, ◌∙◌, refl, ap, sym, subst, true, false, not, ◌&&◌, Bool, [], ◌∷◌, ◌++◌, List, Option}
use Rattle.rtl_flat.specs.declared.expr.SigId.{SigId}
use Rattle.rtl_flat.specs.Process.{Task}
use Rattle.rtl_rule.specs.declared.finding.Finding.{Finding}
use Rattle.rtl_rule.specs.declared.rule.Rule.TheVariants.{NeverWakes}
use Rattle.rtl_rule.specs.Parts.{found, within}
use Rattle.rtl_flat.specs.Flats.{flat}
use Rattle.check_found.specs.Gathered.{Gets, task_sites}
use Rattle.check_sense.specs.Sense.{IsNeverWakes, can_wake, never_wakes_at}
use Rattle.check_sense.specs.Telling.{has_level_list, itself}
use Rattle.check_sense.proofs.Findings.{task_is}
use Rattle.check_sense.proofs.Woken.{gets_never, gets_none_never}
use Rattle.check_sense.proofs.waking.push_never.Goals as goal

and_none : (a b : Bool) → b ≡ false → (a && b) ≡ false
and_none true b h = h
and_none false b h = refl

pub returns-then-not-has_level_list : goal.returns-then-not-has_level_list
returns-then-not-has_level_list c = λ t at.
    let d = flat c.args.scans.now.design.now in
    let p = c.args.p.0 in
    let same = task_is c.args.scans.now.design.now p c.index-process.result.now c.requires.inside c.index-process.ensures t at in
    gets_none_never d p t (ap (λ b. b && not (can_wake d p t.does)) (sym (ap (λ (t : Task). has_level_list t.does) same) ∙ sym c.has_level_list.ensures ∙ c.if-not-has_level_list.true)) c.args.found.now.items

pub returns-then-wakes : goal.returns-then-wakes
returns-then-wakes c = λ t at.
    let d = flat c.args.scans.now.design.now in
    let p = c.args.p.0 in
    gets_none_never d p t (and_none (has_level_list t.does) (not (can_wake d p t.does)) (ap not (sym (c.in_ok-wakes.ensures t at) ∙ c.if-wakes.true))) c.args.found.now.items

pub returns : goal.returns
returns c = λ t at.
    let d = flat c.args.scans.now.design.now in
    let p = c.args.p.0 in
    let old = c.args.found.now.items in
    let process = c.index-process.result.now in
    let same = task_is c.args.scans.now.design.now p process c.requires.inside c.index-process.ensures t at in
    let level = sym (ap (λ (t : Task). has_level_list t.does) same) ∙ sym c.has_level_list.ensures ∙ c.if-not-has_level_list.false in
    let asleep = sym (c.in_ok-wakes.ensures t at) ∙ c.if-wakes.false in
    let pushed = c.in_ok-push.ensures.items ∙ ap (λ (t : Task). old ++ found NeverWakes (within (p, t) t.does) c.first_written.result ∷ []) same
    ∙ ap (λ (signal : Option SigId). old ++ found NeverWakes (within (p, t) t.does) signal ∷ []) (c.first_written.ensures t at) in
    subst (λ (new : List Finding). Gets (IsNeverWakes d) (never_wakes_at d) (task_sites itself p t) old new) (sym pushed) (gets_never d p t level asleep old)
