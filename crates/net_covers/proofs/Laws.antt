-- The laws of values at rest that may be unknown, as they are stated.
use Rattle.std.proofs.Common.{◌≡◌, ℕ, true}
use Rattle.rtl_flat.specs.Flats.{Flat}
use Rattle.net_rest.specs.Rest.{IsSolvable}
use Rattle.net_covers.specs.Marks.{RestsMay}
use Rattle.net_covers.proofs.Rest.{rests_tell}

pub rests_may : (d : Flat) (level : ℕ → ℕ) → IsSolvable d level → RestsMay d
rests_may d level solvable marked marks = rests_tell d level solvable (λ i. marked i ≡ true) marks
