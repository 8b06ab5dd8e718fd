use Rattle.std.proofs.Common.{ℕ, ◌≡◌, true, false}
use Rattle.std.specs.Ordering.{nat_cmp}
use Rattle.std.specs.BTreeMap.{get}
use Rattle.std.proofs.lemmas.Bool.{and_parts, both_ways}
use Rattle.std.proofs.lemmas.Result.{on_ok_weaker}
use Rattle.rtl_flat.specs.Process.{doing, task}
use Rattle.rtl_rule.specs.declared.rule.Rule.TheVariants.{NonblockingComb}
use Rattle.rtl_rule.specs.Parts.{has_some}
use Rattle.rtl_flat.specs.Flats.{flat, widths}
use Rattle.check_assign.specs.Assigned.{IsNonblockingComb, is_comb, late, nonblocking_comb_at}
use Rattle.check_assign.proofs.Firsts.{nonblocking_inside, nonblocking_tells}
use Rattle.check_loops.proofs.check_found_proofs.Shown.{gets_no, gets_shown}
use Rattle.check_assign.proofs.kinds.push_nonblocking.Goals as goal

pub returns-then-not-is_comb : goal.returns-then-not-is_comb
returns-then-not-is_comb c = λ p.
    let d = flat c.args.design.now in
    let does = doing c.args.process.now.does in
    let other : is_comb does ≡ false = cc in
    gets_no (IsNonblockingComb d) (nonblocking_comb_at d) d p (task c.args.process.now) (λ s broken. both_ways (is_comb does) other (and_parts (is_comb does) (has_some (widths d) (late d does) s) broken).0) c.args.found.now.items

pub returns : goal.returns
returns c =
    let d = flat c.args.design.now in
    let one = task c.args.process.now in
    let comb : is_comb (doing c.args.process.now.does) ≡ true = cc in
    let marks = λ (s : ℕ). get nat_cmp c.in_ok-late.late.spots s in
    on_ok_weaker c.push.result (λ shows p.
    gets_shown (IsNonblockingComb d) (nonblocking_comb_at d) NonblockingComb one.instance d p one (nonblocking_inside d p one) marks
    (nonblocking_tells d p one comb marks c.in_ok-late.ensures) c.args.found.now.items c.push.new.found.items shows)
    c.push.ensures
