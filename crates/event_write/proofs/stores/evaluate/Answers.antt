use Rattle.rtl_flat.specs.Expression.{tree}
use Rattle.event_write.proofs.Widths.{sized_here}
use Rattle.event_write.proofs.stores.evaluate.Goals as goal

pub eval-requires : goal.eval-requires
eval-requires c = sized_here c.args.signals.now c.args.values.now (tree c.args.e.now) c.requires.stored c.requires.expression
