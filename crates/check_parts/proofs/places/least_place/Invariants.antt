use Rattle.std.proofs.Common.{◌≡◌, ◌∷◌, drop}
use Rattle.rtl_rule.specs.Parts.{least_place}
use Rattle.check_parts.proofs.places.least_place.Given as goal

abbrev pub invariant-loop-place : goal.invariant-loop-place
invariant-loop-place l =
    least_place l.fn.otherwise (l.least ∷ drop l.place-index l.others) ≡ least_place l.fn.otherwise l.places
