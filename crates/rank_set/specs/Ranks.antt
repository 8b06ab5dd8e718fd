-- It serves inner contracts and proofs; no answer of the program is stated by it.
use Rattle.std.specs.Prelude.{◌≡◌, ℕ, ◌<◌, Bool, true, false, List, slice_index_or, take, count_by}

-- A set of ranks is a list of flags: rank k is a member where the k-th flag is true.

-- whether rank k is a member; a rank past the end is none
abbrev pub flag : List Bool → ℕ → Bool
flag flags k = slice_index_or flags k false

-- how many members there are
abbrev pub members : List Bool → ℕ
members flags = count_by (λ b. b) flags

-- there is no member
abbrev pub IsEmpty : List Bool → Type 0
IsEmpty flags = (k : ℕ) → flag flags k ≡ false

-- rank r is a member, and none is below it
pub record IsLeast (flags : List Bool) (r : ℕ) : Type 0 where
  pub member : flag flags r ≡ true
  pub below : (k : ℕ) → k < r → flag flags k ≡ false

-- rank r is a member, and none is above it
pub record IsGreatest (flags : List Bool) (r : ℕ) : Type 0 where
  pub member : flag flags r ≡ true
  pub above : (k : ℕ) → r < k → flag flags k ≡ false

-- rank r is a member, and n members are below it
pub record IsNth (flags : List Bool) (n r : ℕ) : Type 0 where
  pub member : flag flags r ≡ true
  pub before : members (take r flags) ≡ n
