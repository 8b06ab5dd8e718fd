use Rattle.std.proofs.Common.{◌≡◌, ◌++◌, map, drop}
use Rattle.rtl_flat.specs.Process.{doing}
use Rattle.rtl_flat.specs.Signs.{width_in}
use Rattle.event_queue.specs.First.{first_driver}
use Rattle.event_queue.proofs.first_queue.first_drivers.Given as goal

abbrev pub invariant-loop-process : goal.invariant-loop-process
invariant-loop-process l =
    l.drivers.items ++ map (λ process. first_driver (width_in l.design.signals.items) (doing process.does)) (drop l.process-index l.design.processes.items) ≡ map (λ process. first_driver (width_in l.design.signals.items) (doing process.does)) l.design.processes.items
