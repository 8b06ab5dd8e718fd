use Rattle.std.proofs.Common.{◌≡◌, ◌∙◌, true, false, not, None, Some, cond, List, sym, ap, subst, arith}
use Rattle.std.specs.Prelude.{slice_index_or}
use Rattle.std.specs.Ordering.{nat_cmp}
use Rattle.std.specs.BTreeMap.{get}
use Rattle.std.proofs.lemmas.Bool.{both_ways, false≢true}
use Rattle.std.proofs.lemmas.Option.{same_Some, slice_get-get_or}
use Rattle.std.proofs.lemmas.Result.{on_ok_weaker}
use Rattle.rtl_flat.specs.Flows.{flow_of}
use Rattle.rtl_flat.specs.Paths.{is_sure}
use Rattle.rtl_flat.specs.Process.{Task, doing, task}
use Rattle.rtl_rule.specs.declared.rule.Rule.TheVariants.{LatchInferred}
use Rattle.rtl_rule.specs.Parts.{written}
use Rattle.rtl_flat.specs.Flats.{flat, widths}
use Rattle.net_model.specs.Gates.{Gate, IsAdmitted}
use Rattle.check_loops.specs.rtl_scan.declared.bits.Row.{Row}
use Rattle.check_loops.specs.rtl_scan.Sets.{mask_of}
use Rattle.check_loops.specs.check_found.Gathered.{Gets, signal_numbers, task_sites}
use Rattle.check_loops.proofs.check_found_proofs.Inside.{written_inside}
use Rattle.check_loops.proofs.check_found_proofs.Sites.{task_at}
use Rattle.check_assign.specs.Assigned.{IsLatchInferred, is_comb, latch_inferred_at}
use Rattle.check_assign.specs.Marks.{any_row, leaves}
use Rattle.check_assign.proofs.Hits.{leaves_some}
use Rattle.check_assign.proofs.Sets.{latch_inside, latch_tells}
use Rattle.check_loops.proofs.check_found_proofs.Shown.{gets_no, gets_shown}
use Rattle.check_assign.proofs.latches.push_latches.Goals as goal

-- a latch with a gate from outside
pub returns-then-gated-p : goal.returns-then-gated-p
returns-then-gated-p c = λ other there.
    let d = flat c.args.scans.now.design.now in
    let p = c.args.p.0 in
    let marked = slice_get-get_or c.args.gated.now p _ (omega (arith, c.requires.inside, c.requires.size)) ∙ ap Some c.if-gated-p.true in
    let (gate, admitted) = (c.requires.gated p).0 marked in
    gets_no (IsLatchInferred d) latch_inferred_at d p other (λ s broken. broken.not_admitted gate admitted) c.args.found.now.items

pub returns-then-not-is_comb : goal.returns-then-not-is_comb
returns-then-not-is_comb c = λ other there.
    let d = flat c.args.scans.now.design.now in
    let p = c.args.p.0 in
    let process = c.index-process.result.now in
    let at = task_at c.args.scans.now.design.now p process c.requires.inside c.index-process.ensures in
    let none : is_comb (doing process.does) ≡ false = cc in
    let same : task process ≡ other = cc (at, there) in
    let comb : is_comb other.does ≡ false = ap (λ (t : Task). is_comb t.does) (sym same) ∙ none in
    gets_no (IsLatchInferred d) latch_inferred_at d p other (λ s broken. both_ways (is_comb other.does) comb broken.level) c.args.found.now.items

pub returns : goal.returns
returns c =
    let d = flat c.args.scans.now.design.now in
    let p = c.args.p.0 in
    let process = c.index-process.result.now in
    let one = task process in
    let at = task_at c.args.scans.now.design.now p process c.requires.inside c.index-process.ensures in
    let comb : is_comb (doing process.does) ≡ true = cc in
    let unmarked = slice_get-get_or c.args.gated.now p _ (omega (arith, c.requires.inside, c.requires.size)) ∙ ap Some c.if-gated-p.false in
    let free : (gate : Gate) → IsAdmitted d p gate → ⊥ =
    λ gate admitted. false≢true (same_Some false true (sym unmarked ∙ (c.requires.gated p).1 (gate, admitted))) in
    let rows = c.written.result.now.rows.items in
    let masks = mask_of c.in_ok-sure.sure.masks in
    let answers = c.temporaries.result.now in
    on_ok_weaker c.push.result (λ shows other there.
    let same : one ≡ other = cc (at, there) in
    subst (λ (t : Task). Gets (IsLatchInferred d) latch_inferred_at (task_sites (signal_numbers d) p t) c.args.found.now.items c.push.new.found.items) same
    (gets_shown (IsLatchInferred d) latch_inferred_at LatchInferred one.instance d p one (latch_inside d p one) (λ s. cond (not (slice_index_or answers s false)) (get nat_cmp c.mark_left.new.marks.spots s) None)
    (λ s. latch_tells d p one answers (record { each = c.temporaries.ensures }) comb free s (any_row (leaves masks) rows s) (leaves_some masks (widths d) (written d one.does) (is_sure (flow_of (widths d) one.does)) rows (written_inside (widths d) one.does) (c.written.ensures.bits one at) (c.in_ok-sure.ensures one at) s) (get nat_cmp c.mark_left.new.marks.spots s)
    (c.in_ok-mark_left.ensures s ∙ ap (λ (rs : List Row). cond (any_row (leaves masks) rs s) (Some process.spot) (get nat_cmp c.new-marks.result.spots s)) c.deref.ensures.value ∙ ap (cond (any_row (leaves masks) rows s) (Some process.spot)) (c.new-marks.ensures s)))
    c.args.found.now.items c.push.new.found.items shows))
    c.push.ensures
