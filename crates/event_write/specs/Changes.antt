-- It serves inner contracts and proofs; no answer of the program is stated by it.
-- The places at which a signal changes, as masks.
use Rattle.std.specs.Prelude.{ℕ, ◌≡◌, List, slice_index_or}
use Rattle.rtl_bits.specs.declared.Bit.{Bit}
use Rattle.rtl_bits.specs.declared.Bit.TheVariants.{X}
use Rattle.rtl_bits.specs.declared.Edge.{Edge}
use Rattle.rtl_bits.specs.declared.Edge.TheVariants.{No, Pos, Neg}
use Rattle.rtl_bits.specs.Bits.{is_one_at}
use Rattle.event_model.specs.Queue.{happens}
use Rattle.event_write.specs.declared.changes.Changes.{Changes}

-- the mask of the places with an event of a kind
abbrev pub mask_of : Changes → Edge → ℕ
mask_of changes No = changes.any
mask_of changes Pos = changes.rises
mask_of changes Neg = changes.falls

-- masks that say where bits change from old values to new ones
abbrev pub AreChanges : List Bit → List Bit → Changes → Type 0
AreChanges old new changes =
    (edge : Edge) (k : ℕ) → is_one_at (mask_of changes edge) k ≡ happens edge (slice_index_or old k X) (slice_index_or new k X)
