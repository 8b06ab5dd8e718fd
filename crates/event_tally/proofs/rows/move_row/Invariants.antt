use Rattle.std.proofs.Common.{ℕ, ◌≡◌, ◌<◌, ◌≤◌, ◌∷◌, List, length}
use Rattle.std.specs.Prelude.{slice_index_or}
use Rattle.std.specs.List.{slice_get}
use Rattle.rtl_bits.specs.declared.Bit.{Bit}
use Rattle.rtl_bits.specs.declared.Bit.TheVariants.{Z}
use Rattle.event_tally.specs.Tallies.{IsTalliedAt}
use Rattle.event_tally.proofs.rows.move_row.Given as goal

abbrev pub invariant-loop-k : goal.invariant-loop-k
invariant-loop-k l =
    (length l.row.items ≡ length l.initial.row.items)
    × ((j : ℕ) → l.k ≤ j → slice_get l.row.items j ≡ slice_get l.initial.row.items j)
    × ((j : ℕ) (others : List Bit) → j < l.k → IsTalliedAt l.initial.row.items j (slice_index_or l.old j Z ∷ others) → IsTalliedAt l.row.items j (slice_index_or l.new j Z ∷ others))
