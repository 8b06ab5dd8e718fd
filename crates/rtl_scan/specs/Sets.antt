-- It serves inner contracts and proofs; no answer of the program is stated by it.
-- Sets of bits as masks of signals.
use Rattle.std.specs.Prelude.{ℕ, ◌≡◌, ◌<◌, ◌≤◌, cond, ◌&&◌, ◌||◌, ◌==◌, List, [], ◌∷◌, ◌++◌}
use Rattle.std.specs.List.{AllByRecursion}
use Rattle.std.specs.Option.{unwrap_or}
use Rattle.std.specs.Ordering.{nat_cmp}
use Rattle.std.specs.BTreeMap.{BTreeMap, get}
use Rattle.rtl_bits.specs.Bits.{is_one_at}
use Rattle.rtl_flat.specs.Paths.{BitSet, no_bit, either}
use Rattle.rtl_scan.specs.declared.bits.Row.{Row}

-- the mask of a signal
abbrev pub mask_of : BTreeMap ℕ ℕ → ℕ → ℕ
mask_of masks s = unwrap_or (get nat_cmp masks s) 0

-- another mask for one signal
abbrev pub put : (ℕ → ℕ) → ℕ → ℕ → ℕ → ℕ
put masks signal mask s = cond (s == signal) mask (masks s)

-- the bits of all masks
abbrev pub has : BTreeMap ℕ ℕ → BitSet
has masks s k = is_one_at (mask_of masks s) k

-- the bits of a row
abbrev pub has_row : Row → BitSet
has_row row s k = (s == row.signal.0) && is_one_at row.mask k

-- the bits of some rows
abbrev pub has_rows : List Row → BitSet
has_rows [] = no_bit
has_rows (row ∷ others) = either (has_row row) (has_rows others)

-- some rows get the bits of a set besides their own
pub record Adds (bits : BitSet) (old new : List Row) : Type 0 where
  pub at : (s k : ℕ) → has_rows new s k ≡ (has_rows old s k || bits s k)

-- the row of a mask that isn't 0
abbrev pub row_of : ℕ → ℕ → List Row
row_of signal mask = cond (mask == 0) [] (record { signal = record { 0 = signal }; mask = mask } ∷ [])

-- the rows of a map's entries
abbrev pub rows_of : List (ℕ × ℕ) → List Row
rows_of [] = []
rows_of (entry ∷ others) = row_of entry.0 entry.1 ++ rows_of others

-- rows that each have a bit, in order of signal
abbrev pub IsInOrder : List Row → Type 0
IsInOrder [] = Unit {0}
IsInOrder (row ∷ others) =
    (1 ≤ row.mask) × AllByRecursion (λ other. row.signal.0 < other.signal.0) others × IsInOrder others
