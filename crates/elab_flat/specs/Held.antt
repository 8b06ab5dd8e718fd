-- The instances right under one.
-- Worked examples: proofs/Examples.antt.
use Rattle.std.specs.Prelude.{ℕ, ◌+◌, ◌==◌, nat_lt, cond, List, [], ◌∷◌, length, map}
use Rattle.elab_walk.specs.Placements.{Placement}

-- how deep an instance is; the top is 1 deep
abbrev pub depth_of : Placement → ℕ
depth_of placement = length placement.visit.way

-- of the instances behind one of a depth those right under it: one deeper, and before any that isn't deeper
abbrev pub held_under : ℕ → List Placement → List Placement
held_under depth [] = []
held_under depth (first ∷ others) =
    cond (nat_lt depth (depth_of first)) (cond (depth_of first == depth + 1) (first ∷ held_under depth others) (held_under depth others)) []

-- how many signals come before those of each
abbrev pub bases_under : ℕ → List Placement → List ℕ
bases_under depth behind = map (λ placement. placement.base) (held_under depth behind)
