use Rattle.std.proofs.Common.{◌≡◌}
use Rattle.event_queue.specs.Sims.{flat_of}
use Rattle.tests_rows.proofs.events.take_last.Given as goal

abbrev pub invariant-loop-taken : goal.invariant-loop-taken
invariant-loop-taken l = flat_of l.sim ≡ flat_of l.initial.sim
