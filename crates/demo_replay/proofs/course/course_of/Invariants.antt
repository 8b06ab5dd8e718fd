use Rattle.demo_replay.specs.Progress.{steps_left}
use Rattle.demo_replay.proofs.Showing.{IsGoing}
use Rattle.demo_replay.proofs.course.course_of.Given as goal

abbrev pub invariant-steps : goal.invariant-steps
invariant-steps l = IsGoing l.setup l.skipped l.fn.trial.number l.run l.steps.items

abbrev pub decreases-steps : goal.decreases-steps
decreases-steps l = steps_left l.run
