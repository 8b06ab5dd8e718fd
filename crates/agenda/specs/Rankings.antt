-- It serves inner contracts and proofs; no answer of the program is stated by it.
use Rattle.std.specs.Prelude.{◌≡◌, ℕ, ◌<◌, Bool, List, [], ◌∷◌, length, Option, None, Some, slice_index}
use Rattle.std.specs.List.{Contains}
use Rattle.rank_set.specs.Ranks.{flag}
use Rattle.agenda.specs.Agendas.{IsAhead}

-- The rank of a number is its place in the order of the levels.

-- what numbers are sorted by: the level, where none comes last, and then the number
abbrev pub key_of : Option ℕ → ℕ → List ℕ
key_of (Some level) number = 0 ∷ level ∷ number ∷ []
key_of None number = 1 ∷ 0 ∷ number ∷ []

-- the numbers that have levels, the one that is ahead first
pub record IsRanking (levels : List (Option ℕ)) (number_at : List ℕ) : Type 0 where
  pub length_is : length number_at ≡ length levels
  pub within : (r : ℕ) → r < length number_at → slice_index number_at r < length number_at
  pub all : (p : ℕ) → p < length number_at → Contains number_at p
  pub ascending : (i j : ℕ) → i < j → j < length number_at → IsAhead levels (slice_index number_at i) (slice_index number_at j)

-- the rank of each number
pub record AreRanks (number_at rank_of : List ℕ) : Type 0 where
  pub length_is : length rank_of ≡ length number_at
  pub back : (r : ℕ) → r < length number_at → slice_index rank_of (slice_index number_at r) ≡ r

-- the fields of an agenda: the same set by number and by rank
pub record IsKept (levels : List (Option ℕ)) (by_number by_rank : List Bool) (number_at rank_of : List ℕ) : Type 0 where
  pub by_number_fits : length by_number ≡ length number_at
  pub by_rank_fits : length by_rank ≡ length number_at
  pub ranking : IsRanking levels number_at
  pub ranks : AreRanks number_at rank_of
  pub same : (r : ℕ) → r < length number_at → flag by_rank r ≡ flag by_number (slice_index number_at r)
