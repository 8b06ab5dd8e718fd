-- It serves inner contracts and proofs; no answer of the program is stated by it.
-- What arrows lead to from a number.
use Rattle.std.specs.Prelude.{ℕ, ◌≡◌, ◌<◌, ◌+◌, Bool, true, false, List, [], ◌∷◌, ◌++◌, length, Vec, slice_index_or}
use Rattle.std.specs.Prelude.{◌⊎◌, ◌↔◌}
use Rattle.std.specs.declared.alloc.Global.{Global}
use Rattle.check_chains.specs.rtl_scan.Arrows.{Among}
use Rattle.check_chains.specs.rtl_scan.Graph.{row}
use Rattle.check_gates.specs.declared.reach.Link.{Link}
use Rattle.check_gates.specs.declared.reach.Reach.{Reach}

-- whether one of some links goes from one number to another
abbrev pub HasLink : List Link → ℕ → ℕ → Type 0
HasLink [] i j = ⊥
HasLink (link ∷ links) i j = ((i ≡ link.source) × (j ≡ link.target)) ⊎ HasLink links i j

-- what is reached from a number, itself among it
pub data Reaches (rows : List (Vec ℕ Global)) (start : ℕ) : ℕ → Type 0 where
  Here : Reaches rows start start
  Onward : (i j : ℕ) → Reaches rows start i → Among (row rows i) j → j < length rows → Reaches rows start j

-- how many numbers aren't marked
abbrev pub unmarked : List Bool → ℕ
unmarked [] = 0
unmarked (true ∷ marks) = unmarked marks
unmarked (false ∷ marks) = unmarked marks + 1

-- what was found is what is marked
pub record AreMarked (reach : Reach) : Type 0 where
  pub each : (k : ℕ) → slice_index_or reach.seen.items k false ≡ true ↔ Among reach.found.items k

-- some numbers are found besides those before
pub record Finds (nodes : List ℕ) (old new : Reach) : Type 0 where
  pub more : List ℕ
  pub added : new.found.items ≡ old.found.items ++ more
  pub size : length new.seen.items ≡ length old.seen.items
  pub each : (k : ℕ) → Among more k → Among nodes k × (k < length old.seen.items)
  pub marked : AreMarked old → AreMarked new
  pub all : AreMarked old → (k : ℕ) → Among nodes k → k < length old.seen.items → Among new.found.items k
  pub left : unmarked new.seen.items + length new.found.items ≡ unmarked old.seen.items + length old.found.items
