use Rattle.std.proofs.Common.{map, subst}
use Rattle.rtl_flat.specs.Signs.{width_in}
use Rattle.rtl_flat.specs.Expression.{tree}
use Rattle.rtl_flat.specs.Flows.{reads_all}
use Rattle.rtl_scan.specs.Sets.{Adds}
use Rattle.rtl_scan.proofs.Labels.{left_at, labels_step}
use Rattle.rtl_scan.proofs.spans.Widths.push_labels.Goals as goal

pub loop-item-preserved : goal.loop-item-preserved
loop-item-preserved c = λ s k.
    labels_step (width_in c.args.self.now.signals.now) c.args.items.now c.loop-item.item-index c.item-item.result
    (left_at c.args.items.now c.loop-item.item-index c.item-item.result c.loop-item-test.true c.item-item.is) c.loop-item.rows.items c.push_all.new.rows.items
    (subst (λ (ls : _). Adds (reads_all (width_in c.args.self.now.signals.now) (map tree ls)) c.loop-item.rows.items c.push_all.new.rows.items) c.deref.ensures.value c.in_ok-push_all.ensures) s k _ (c.loop-item.invariant s k)
