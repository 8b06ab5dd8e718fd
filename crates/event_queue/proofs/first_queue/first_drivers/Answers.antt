use Rattle.std.proofs.Common.{List, subst, sym}
use Rattle.rtl_flat.specs.declared.signal.Signal.{Signal}
use Rattle.rtl_flat.specs.Process.{doing}
use Rattle.rtl_flat.specs.WellFormed.{IsProcess}
use Rattle.event_queue.proofs.Fewness.{is_read, lawful_at}
use Rattle.event_queue.proofs.first_queue.first_drivers.Goals as goal

pub first_driver-requires : goal.first_driver-requires
first_driver-requires c =
    subst (λ (ss : List Signal). IsProcess ss (doing c.process-item.result.does)) (sym c.deref.ensures.value)
    (lawful_at c.args.design.now c.loop-process.process-index c.process-item.result
    (is_read c.args.design.now c.deref-process-items.result.now c.loop-process.process-index c.process-item.result c.deref-process-items.ensures.value c.loop-process-test.true c.process-item.is))
