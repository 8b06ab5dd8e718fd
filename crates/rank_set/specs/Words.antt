-- It serves inner contracts and proofs; no answer of the program is stated by it.
use Rattle.std.specs.Prelude.{◌≡◌, ℕ, ◌*◌, ◌/◌, ◌%◌, ◌^◌, ◌<◌, ◌≤◌, Bool, true, false, List, map, length, slice_index}
use Rattle.std.specs.List.{range_with_len}
use Rattle.std.specs.Int.{bit_at}
use Rattle.std.specs.Prelude.{nat_eq, nat_lt}
use Rattle.rank_set.specs.Ranks.{members}

-- How a set lies in words of 64 bits.

-- whether bit k of a word is 1
unfoldable pub bit_flag : ℕ → ℕ → Bool
bit_flag word k = nat_eq (bit_at word k) 1

-- whether bit k of the words is 1, the lowest bit of the first word being bit 0
unfoldable pub has : List ℕ → ℕ → Bool
has words k = bit_flag (slice_index words (k / 64)) (k % 64)

-- no bit is set
abbrev pub IsClear : List ℕ → Type 0
IsClear words = (k : ℕ) → has words k ≡ false

-- bit r is set, and none before it
pub record IsFirstBit (words : List ℕ) (r : ℕ) : Type 0 where
  pub bit : has words r ≡ true
  pub before : (k : ℕ) → k < r → has words k ≡ false

-- bit r is set, and none after it
pub record IsLastBit (words : List ℕ) (r : ℕ) : Type 0 where
  pub bit : has words r ≡ true
  pub after : (k : ℕ) → r < k → has words k ≡ false

-- the first `size` bits of the words
unfoldable pub flags_of : List ℕ → ℕ → List Bool
flags_of words size = map (has words) (range_with_len 0 size)

-- each bit of the summary says whether the word of its number has a bit
abbrev pub IsSummary : List ℕ → List ℕ → Type 0
IsSummary words summary = (w : ℕ) → has summary w ≡ nat_lt 0 (slice_index words w)

-- the fields of a set
pub record IsIndexed (size count : ℕ) (words summary : List ℕ) : Type 0 where
  pub count_is : count ≡ members (flags_of words size)
  pub within : size ≤ 64 * length words
  pub summary_within : length words ≤ 64 * length summary
  pub words_fit : length words ≤ 2 ^ 58
  pub summary_fit : length summary ≤ 2 ^ 58
  pub inside : (k : ℕ) → has words k ≡ true → k < size
  pub summed : IsSummary words summary
