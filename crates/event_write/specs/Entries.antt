-- It serves inner contracts and proofs; no answer of the program is stated by it.
-- Prepared writes, and the updates that they are together.
use Rattle.std.specs.Prelude.{◌≡◌, ℕ, ◌≤◌, Bool, true, false, cond, List, [], ◌∷◌, ◌++◌, Option}
use Rattle.std.specs.Option.{option_map}
use Rattle.rtl_bits.specs.declared.Bit.{Bit}
use Rattle.rtl_bits.specs.Bits.{selected}
use Rattle.rtl_flat.specs.declared.signal.Signal.{Signal}
use Rattle.rtl_flat.specs.Process.{Piece}
use Rattle.rtl_flat.specs.Signs.{width_in}
use Rattle.rtl_flat.specs.WellFormed.{IsSelection}
use Rattle.event_model.specs.Writes.{Values, Write, Span, span_of, count_of, counts, write_at}
use Rattle.event_write.specs.declared.entries.Entry.{Entry as Code}
use Rattle.event_write.specs.Stored.{span}

-- the bits for a part of a target, and whether it is its last
pub record Entry : Type 0 where
  pub signal : ℕ
  pub span : Option Span
  pub bits : List Bit
  pub is_last : Bool

abbrev pub entry : Code → Entry
entry code =
    record { signal = code.signal.0; span = option_map span code.span; bits = code.bits; is_last = code.is_last }

-- whether each part of a target can be
abbrev pub AreSelected : List Signal → List Piece → Type 0
AreSelected signals [] = Unit {0}
AreSelected signals (piece ∷ others) =
    IsSelection signals piece.signal piece.selection × (1 ≤ count_of (width_in signals) piece.signal piece.selection) × AreSelected signals others

abbrev pub is_none : List Piece → Bool
is_none [] = true
is_none (piece ∷ others) = false

-- the writes of a value to a target, part by part
abbrev pub entries : (ℕ → ℕ) → Values → List Piece → List Bit → List Entry
entries ws v [] bits = []
entries ws v (piece ∷ others) bits =
    record { signal = piece.signal; span = span_of ws v piece.signal piece.selection; bits = selected (counts ws others) (count_of ws piece.signal piece.selection) bits; is_last = is_none others } ∷ entries ws v others bits

abbrev pub writes_of : Entry → List Write
writes_of e = write_at e.signal e.span e.bits

-- all writes
abbrev pub all_writes : List Entry → List Write
all_writes [] = []
all_writes (e ∷ es) = writes_of e ++ all_writes es

-- writes before those of the first update
abbrev pub glue : List Write → List (List Write) → List (List Write)
glue ws [] = ws ∷ []
glue ws (u ∷ us) = (ws ++ u) ∷ us

-- the updates that entries are, each up to its last one
abbrev pub updates : List Entry → List (List Write)
updates [] = []
updates (e ∷ es) = cond e.is_last (writes_of e ∷ updates es) (glue (writes_of e) (updates es))

-- whether the last entry ends its update
abbrev pub IsClosed : List Entry → Type 0
IsClosed [] = Unit {0}
IsClosed (e ∷ []) = e.is_last ≡ true
IsClosed (e ∷ f ∷ es) = IsClosed (f ∷ es)
