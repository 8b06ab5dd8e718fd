use Rattle.std.proofs.Common.{◌≡◌, false}
use Rattle.event_queue.specs.Sims.{IsSame, Runs, flat_of, is_stuck, left_of, level_of, state_of, work}
use Rattle.event_queue.proofs.sim.EventSim.settle.Given as goal

abbrev pub invariant-loop-choice : goal.invariant-loop-choice
invariant-loop-choice l =
    IsSame l.initial.self l.self
    × (is_stuck l.self ≡ false)
    × Runs l.policy (level_of l.initial.self) (flat_of l.initial.self) (state_of l.initial.self) (left_of l.initial.self) (state_of l.self) (left_of l.self)

abbrev pub decreases-loop-choice : goal.decreases-loop-choice
decreases-loop-choice l = work l.self
