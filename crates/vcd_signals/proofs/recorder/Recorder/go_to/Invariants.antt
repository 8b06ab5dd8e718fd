use Rattle.std.proofs.Common.{◌≤◌, ◌-◌}
use Rattle.vcd_signals.specs.Recording.{IsRecorder, IsSame}
use Rattle.vcd_signals.proofs.recorder.Recorder.go_to.Given as goal

abbrev pub invariant-loop-self : goal.invariant-loop-self
invariant-loop-self l =
    record { is_recorder : IsRecorder l.self; same : IsSame l.fn.self l.self; within : l.self.applied ≤ l.until }

abbrev pub decreases-loop-self : goal.decreases-loop-self
decreases-loop-self l = l.until - l.self.applied
