-- It serves inner contracts and proofs; no answer of the program is stated by it.
use Rattle.std.specs.Prelude.{◌≡◌, ◌≢◌, ℕ, ◌⊎◌, ◌<◌, Bool, true, false, List, Option, None, Some, nat_lt, slice_index_or}
use Rattle.rank_set.specs.Ranks.{flag}

-- An agenda is a set of numbers, of which each may have a level. Number k is a member where the k-th flag is true.

-- for each number whether it is a member, and its level, if it has one
pub record Numbered : Type 0 where
  pub flags : List Bool
  pub levels : List (Option ℕ)

-- the level of a number; a number past the end has none
abbrev pub level_at : List (Option ℕ) → ℕ → Option ℕ
level_at levels number = slice_index_or levels number None

-- whether a level is below another; having none is above each level
abbrev pub is_below : Option ℕ → Option ℕ → Bool
is_below (Some a) (Some b) = nat_lt a b
is_below (Some a) None = true
is_below None b = false

-- number p is ahead of q: its level is below that of q, or neither is below the other and p is less
abbrev pub IsAhead : List (Option ℕ) → ℕ → ℕ → Type 0
IsAhead levels p q =
    (is_below (level_at levels p) (level_at levels q) ≡ true) ⊎ ((is_below (level_at levels q) (level_at levels p) ≡ false) × (p < q))

-- number p is a member, and it is ahead of each other member
pub record IsLowest (levels : List (Option ℕ)) (flags : List Bool) (p : ℕ) : Type 0 where
  pub member : flag flags p ≡ true
  pub before : (q : ℕ) → flag flags q ≡ true → q ≢ p → IsAhead levels p q
