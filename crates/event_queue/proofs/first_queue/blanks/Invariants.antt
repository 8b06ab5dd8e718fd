use Rattle.std.proofs.Common.{◌≡◌, ◌++◌, map, drop}
use Rattle.rtl_flat.specs.Process.{doing}
use Rattle.rtl_flat.specs.Signs.{width_in}
use Rattle.event_queue.specs.First.{blank}
use Rattle.event_queue.proofs.first_queue.blanks.Given as goal

abbrev pub invariant-loop-process : goal.invariant-loop-process
invariant-loop-process l =
    l.values.items ++ map (λ process. blank (width_in l.design.signals.items) (doing process.does)) (drop l.process-index l.design.processes.items) ≡ map (λ process. blank (width_in l.design.signals.items) (doing process.does)) l.design.processes.items
