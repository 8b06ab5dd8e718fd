use Rattle.std.proofs.Common.{◌≡◌, ◌∙◌, ◌||◌, Some, cond, List, ap, subst}
use Rattle.std.specs.Ordering.{nat_cmp}
use Rattle.std.specs.BTreeMap.{get}
use Rattle.std.proofs.lemmas.Result.{on_ok_weaker}
use Rattle.rtl_flat.specs.Process.{Task, task}
use Rattle.rtl_rule.specs.declared.rule.Rule.TheVariants.{SeveralDrivers}
use Rattle.rtl_rule.specs.Parts.{written}
use Rattle.rtl_flat.specs.Flats.{flat, widths}
use Rattle.check_loops.specs.rtl_scan.declared.bits.Row.{Row}
use Rattle.check_loops.specs.rtl_scan.Sets.{has_rows}
use Rattle.check_loops.specs.check_found.Masks.{has_in, mask_in}
use Rattle.check_loops.specs.check_found.Gathered.{Gets, signal_numbers, task_sites}
use Rattle.check_loops.proofs.check_found_proofs.Inside.{written_inside}
use Rattle.check_loops.proofs.check_found_proofs.Sites.{task_at}
use Rattle.check_assign.specs.Assigned.{IsSeveralDrivers, lower_writes, several_drivers_at}
use Rattle.check_assign.specs.Marks.{any_row, shares}
use Rattle.check_assign.proofs.Hits.{shares_some}
use Rattle.check_assign.proofs.Sets.{several_inside, several_tells}
use Rattle.check_loops.proofs.check_found_proofs.Shown.{gets_shown}
use Rattle.check_assign.proofs.drivers.push_shared.Goals as goal

pub returns-clause-found : goal.returns-clause-found
returns-clause-found c =
    let d = flat c.args.scans.now.design.now in
    let p = c.args.p.0 in
    let process = c.index-process.result.now in
    let one = task process in
    let at = task_at c.args.scans.now.design.now p process c.requires.inside c.index-process.ensures in
    let rows = c.written-written.result.now.rows.items in
    let masks = mask_in c.args.lower.now in
    let gets : Gets (IsSeveralDrivers d) several_drivers_at (task_sites (signal_numbers d) p one) c.args.found.now.items c.push.new.found.items
    = gets_shown (IsSeveralDrivers d) several_drivers_at SeveralDrivers one.instance d p one (several_inside d p one) (λ s. get nat_cmp c.mark_shared.new.marks.spots s)
    (λ s. several_tells d p one s (any_row (shares masks) rows s) (shares_some masks (widths d) (written d one.does) (lower_writes d p) rows (written_inside (widths d) one.does) (c.written-written.ensures.bits one at) c.requires.lower s) (get nat_cmp c.mark_shared.new.marks.spots s)
    (c.in_ok-mark_shared.ensures s ∙ ap (λ (rs : List Row). cond (any_row (shares masks) rs s) (Some process.spot) (get nat_cmp c.new-marks.result.spots s)) c.deref.ensures.value ∙ ap (cond (any_row (shares masks) rows s) (Some process.spot)) (c.new-marks.ensures s)))
    c.args.found.now.items c.push.new.found.items c.in_ok-push.ensures in
    on_ok_weaker c.insert_all.result (λ _ other there.
    let same : one ≡ other = cc (at, there) in
    subst (λ (t : Task). Gets (IsSeveralDrivers d) several_drivers_at (task_sites (signal_numbers d) p t) c.args.found.now.items c.push.new.found.items) same gets)
    c.insert_all.ensures

pub returns-clause-lower : goal.returns-clause-lower
returns-clause-lower c =
    let before = c.args.lower.now in
    on_ok_weaker c.insert_all.result (λ all one there s k.
    all s k ∙ ap (λ (rs : List Row). has_in before s k || has_rows rs s k) c.deref-2.ensures.value
    ∙ ap (λ b. has_in before s k || b) (c.written-written.ensures.bits one there s k))
    c.insert_all.ensures
