use Rattle.demo_replay.proofs.Showing.{IsUnderWay}
use Rattle.demo_replay.proofs.replays.take_steps.Given as goal

abbrev pub invariant-loop-step : goal.invariant-loop-step
invariant-loop-step l = IsUnderWay l.fn.run l.run l.step
