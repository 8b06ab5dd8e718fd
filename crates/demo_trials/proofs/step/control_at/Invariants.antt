use Rattle.std.proofs.Common.{◌≡◌, drop, map}
use Rattle.std.specs.List.{slice_get}
use Rattle.demo_trials.specs.Steps.{controls, input}
use Rattle.demo_trials.proofs.step.control_at.Given as goal

-- among the inputs that are left, as many stand before it as are left
abbrev pub invariant-loop-input : goal.invariant-loop-input
invariant-loop-input l =
    slice_get (controls (map input (drop l.input-index l.inputs))) l.left ≡ slice_get (controls (map input l.inputs)) l.before
