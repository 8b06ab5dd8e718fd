use Rattle.std.proofs.Common.{ℕ, ◌≡◌, true, false, not, cond, None}
use Rattle.std.specs.Prelude.{slice_index_or}
use Rattle.std.specs.Ordering.{nat_cmp}
use Rattle.std.specs.BTreeMap.{get}
use Rattle.std.proofs.lemmas.Bool.{both_ways}
use Rattle.std.proofs.lemmas.Result.{on_ok_weaker}
use Rattle.rtl_flat.specs.Process.{doing, task}
use Rattle.rtl_rule.specs.declared.rule.Rule.TheVariants.{BlockingState}
use Rattle.rtl_flat.specs.Flats.{flat}
use Rattle.rtl_rule.specs.Parts.{is_clocked}
use Rattle.check_assign.specs.Assigned.{IsBlockingState, blocking_state_at}
use Rattle.check_assign.proofs.Firsts.{blocking_inside, blocking_tells}
use Rattle.check_loops.proofs.check_found_proofs.Shown.{gets_no, gets_shown}
use Rattle.check_assign.proofs.kinds.push_blocking.Goals as goal

pub returns-then-not-is_clocked : goal.returns-then-not-is_clocked
returns-then-not-is_clocked c = λ p.
    let d = flat c.args.design.now in
    let other : is_clocked (doing c.args.process.now.does) ≡ false = cc in
    gets_no (IsBlockingState d) (blocking_state_at d) d p (task c.args.process.now) (λ s broken. both_ways (is_clocked (doing c.args.process.now.does)) other broken.clocked) c.args.found.now.items

pub returns : goal.returns
returns c =
    let d = flat c.args.design.now in
    let one = task c.args.process.now in
    let clocked : is_clocked (doing c.args.process.now.does) ≡ true = cc in
    let answers = c.args.temporaries.now in
    let marks = λ (s : ℕ). get nat_cmp c.in_ok-now.now.spots s in
    on_ok_weaker c.push.result (λ shows p.
    gets_shown (IsBlockingState d) (blocking_state_at d) BlockingState one.instance d p one (blocking_inside d p one) (λ s. cond (not (slice_index_or answers s false)) (marks s) None)
    (blocking_tells d p one answers c.requires clocked marks c.in_ok-now.ensures) c.args.found.now.items c.push.new.found.items shows)
    c.push.ensures
