-- It serves inner contracts and proofs; no answer of the program is stated by it.
-- The bits that the process with a number keeps, and those that the processes below a number keep.
use Rattle.std.specs.Prelude.{ℕ, false, take, Option, None, Some}
use Rattle.std.specs.List.{list_any, slice_get}
use Rattle.rtl_flat.specs.Paths.{BitSet}
use Rattle.rtl_flat.specs.Process.{Task}
use Rattle.rtl_flat.specs.Flats.{Flat, widths}
use Rattle.net_start.specs.Stored.{keeps}

abbrev pub kept_in : (ℕ → ℕ) → Option Task → BitSet
kept_in ws None s k = false
kept_in ws (Some one) s k = keeps ws one.does s k

abbrev pub kept_by : Flat → ℕ → BitSet
kept_by d p = kept_in (widths d) (slice_get d.tasks p)

abbrev pub kept_below : Flat → ℕ → BitSet
kept_below d n s k =
    list_any (λ (one : Task). keeps (widths d) one.does s k) (take n d.tasks)
