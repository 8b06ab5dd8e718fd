use Rattle.std.proofs.Common.{◌∙◌, ℕ, false, cond, None, refl, sym}
use Rattle.std.specs.Ordering.{nat_cmp}
use Rattle.std.specs.BTreeMap.{get}
use Rattle.std.proofs.lemmas.Result.{on_ok_weaker}
use Rattle.rtl_flat.specs.Process.{task}
use Rattle.rtl_rule.specs.declared.rule.Rule.TheVariants.{MixedAssign}
use Rattle.rtl_flat.specs.Flats.{flat}
use Rattle.check_assign.specs.Assigned.{IsMixedAssign, mixed_assign_at}
use Rattle.check_loops.specs.check_found.Marked.{is_some_spot}
use Rattle.check_assign.proofs.Firsts.{first_of, mixed_inside, mixed_tells}
use Rattle.check_loops.proofs.check_found_proofs.Shown.{gets_no, gets_shown}
use Rattle.check_assign.proofs.kinds.push_mixed.Goals as goal

pub returns-then-is_empty : goal.returns-then-is_empty
returns-then-is_empty c = λ p.
    let d = flat c.args.design.now in
    let one = task c.args.process.now in
    gets_no (IsMixedAssign d) (mixed_assign_at d) d p one
    (mixed_tells d p one (λ s. first_of d false one.does s) (λ s. None) (λ s. refl) (λ s. sym (c.is_empty.ensures c.if-is_empty.true s) ∙ c.in_ok-late.ensures s))
    c.args.found.now.items

pub returns : goal.returns
returns c =
    let d = flat c.args.design.now in
    let one = task c.args.process.now in
    let marks = λ (s : ℕ). get nat_cmp c.in_ok-now.now.spots s in
    let others = λ (s : ℕ). get nat_cmp c.in_ok-late.late.spots s in
    on_ok_weaker c.push.result (λ shows p.
    gets_shown (IsMixedAssign d) (mixed_assign_at d) MixedAssign one.instance d p one (mixed_inside d p one) (λ s. cond (is_some_spot (others s)) (marks s) None)
    (mixed_tells d p one marks others c.in_ok-now.ensures c.in_ok-late.ensures) c.args.found.now.items c.push.new.found.items shows)
    c.push.ensures
