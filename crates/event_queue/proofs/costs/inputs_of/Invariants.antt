use Rattle.std.proofs.Common.{◌≡◌, ◌≤◌, ◌+◌, drop}
use Rattle.std.specs.Prelude.{sum_by}
use Rattle.event_model.specs.Policies.{one_if}
use Rattle.event_model.specs.Queue.{is_input_kind}
use Rattle.event_queue.proofs.costs.inputs_of.Given as goal

abbrev pub invariant-loop-signal : goal.invariant-loop-signal
invariant-loop-signal l =
    (l.count ≤ l.signal-index)
    × (l.count + sum_by (λ signal. one_if (is_input_kind signal.kind)) (drop l.signal-index l.signals) ≡ sum_by (λ signal. one_if (is_input_kind signal.kind)) l.signals)
