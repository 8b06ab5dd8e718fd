use Rattle.std.proofs.Common.{◌≡◌, ◌++◌, map, drop}
use Rattle.rtl_flat.specs.Process.{doing}
use Rattle.rtl_flat.specs.Value.{store}
use Rattle.event_queue.specs.First.{now_driver}
use Rattle.event_queue.proofs.first_queue.now_drivers.Given as goal

abbrev pub invariant-loop-process : goal.invariant-loop-process
invariant-loop-process l =
    l.drivers.items ++ map (λ process. now_driver (store l.values) (doing process.does)) (drop l.process-index l.design.processes.items) ≡ map (λ process. now_driver (store l.values) (doing process.does)) l.design.processes.items
