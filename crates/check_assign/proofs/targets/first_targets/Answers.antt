use Rattle.std.proofs.Common.{◌+◌, drop, map, ap}
use Rattle.std.specs.Ordering.{nat_cmp}
use Rattle.std.specs.BTreeMap.{get}
use Rattle.rtl_flat.specs.Process.{action}
use Rattle.rtl_flat.specs.Flats.{flat, widths}
use Rattle.check_loops.proofs.rtl_scan_proofs.Labels.{left_at}
use Rattle.check_assign.specs.Assigned.{own_targets}
use Rattle.check_assign.proofs.Steps.{list_step}
use Rattle.check_assign.proofs.targets.first_targets.Goals as goal

pub loop-one-preserved : goal.loop-one-preserved
loop-one-preserved c = λ s.
    let items = c.deref-one-items.result.now in
    let i = c.loop-one.one-index in
    list_step (own_targets (widths (flat c.args.design.now)) c.args.delayed s) (map (λ one. action one.now) (drop (i + 1) items)) (action c.one-item.result.now) (map (λ one. action one.now) (drop i items))
    (ap (map (λ one. action one.now)) (left_at items i c.one-item.result c.loop-one-test.true c.one-item.is))
    (get nat_cmp c.loop-one.marks.spots s) (get nat_cmp c.note_act.new.marks.spots s) _ (c.in_ok-note_act.ensures s) (c.loop-one.invariant s)
