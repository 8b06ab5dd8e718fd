use Rattle.std.proofs.Common.{map, take}
use Rattle.rtl_flat.specs.Process.{task}
use Rattle.event_queue.specs.Costs.{AreCosts}
use Rattle.event_queue.proofs.costs.costs_of.Given as goal

abbrev pub invariant-loop-process : goal.invariant-loop-process
invariant-loop-process l = AreCosts (take l.process-index (map task l.design.processes.items)) l.costs
