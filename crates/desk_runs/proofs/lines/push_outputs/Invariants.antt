use Rattle.std.proofs.Common.{◌≡◌, ◌++◌, drop}
use Rattle.event_queue.specs.Sims.{state_of}
use Rattle.desk_runs.specs.Lines.{outputs_text}
use Rattle.desk_runs.proofs.lines.push_outputs.Given as goal

abbrev pub invariant-loop-number : goal.invariant-loop-number
invariant-loop-number l =
    l.out.items ++ outputs_text l.design.instances.items (state_of l.sim).value l.number (drop l.number l.design.signals.items) ≡ l.fn.out.items ++ outputs_text l.design.instances.items (state_of l.sim).value 0 l.design.signals.items
