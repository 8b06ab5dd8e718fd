use Rattle.std.proofs.Common.{◌≡◌, drop}
use Rattle.text_survey.specs.Depths as spec
use Rattle.text_survey.proofs.Profiles.{both}
use Rattle.text_survey.proofs.depths.least.Given as goal

abbrev pub invariant-loop-place : goal.invariant-loop-place
invariant-loop-place l = both l.least (spec.least_of (drop l.place-index l.places)) ≡ spec.least_of l.places
