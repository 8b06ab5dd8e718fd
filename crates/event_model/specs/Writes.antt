-- What assignments write (IEEE 1364-2001 sections 6.1 and 9.2).
-- Worked examples: proofs/Example.antt.
use Rattle.std.specs.Prelude.{ℕ, ◌+◌, ◌==◌, nat_lt, ℤ, pos, negsuc, ◌-ℤ◌, cond, if◌then◌else◌, List, [], ◌∷◌, ◌++◌, replicate, Option, None, Some}
use Rattle.rtl_bits.specs.declared.Bit.{Bit}
use Rattle.rtl_bits.specs.declared.Bit.TheVariants.{Z}
use Rattle.rtl_bits.specs.Bits.{has_unknown, replaced, selected}
use Rattle.rtl_flat.specs.Process.{Selection, Whole, BitAt, BitBy, Part, Piece}
use Rattle.rtl_flat.specs.Signs.{sign_of}
use Rattle.rtl_flat.specs.Value.{value, index_number}

-- the bits of each signal, the least significant first
abbrev pub Values : Type 0
Values = ℕ → List Bit

-- f with another value at k
abbrev pub put : {A : Type 0} → (ℕ → A) → ℕ → A → ℕ → A
put f k a j = if j == k then a else f j

-- bits that are written over those of a signal from a place on
pub record Write : Type 0 where
  pub signal : ℕ
  pub at : ℕ
  pub bits : List Bit

-- the values after a write
abbrev pub written : Values → Write → Values
written v w = put v w.signal (replaced w.at w.bits (v w.signal))

-- the values after writes in their order
abbrev pub all_written : Values → List Write → Values
all_written v [] = v
all_written v (w ∷ ws) = all_written (written v w) ws

-- bits of a signal: how many, and from which on
pub record Span : Type 0 where
  pub at : ℕ
  pub count : ℕ

-- one bit, where a signal of so many bits has it; a write to any other is none (section 4.2.1)
abbrev pub bit_inside : ℕ → ℤ → Option Span
bit_inside width (pos k) = if nat_lt k width then Some (record { at = k; count = 1 }) else None
bit_inside width (negsuc k) = None

-- the bits that are selected of a signal, where there are any: an index with an x or z selects none. `ws` gives the
-- widths of signals
abbrev pub span_of : (ℕ → ℕ) → Values → ℕ → Selection → Option Span
span_of ws v signal Whole = Some (record { at = 0; count = ws signal })
span_of ws v signal (BitAt low index) = bit_inside (ws signal) (index -ℤ pos low)
span_of ws v signal (BitBy low index) =
    cond (has_unknown (value v index)) None (bit_inside (ws signal) (index_number (sign_of index) (value v index) -ℤ pos low))
span_of ws v signal (Part low width) = Some (record { at = low; count = width })

-- how many bits a selection has, whether its signal has them or not
abbrev pub count_of : (ℕ → ℕ) → ℕ → Selection → ℕ
count_of ws signal Whole = ws signal
count_of ws signal (BitAt low index) = 1
count_of ws signal (BitBy low index) = 1
count_of ws signal (Part low width) = width

-- how many bits a target has
abbrev pub counts : (ℕ → ℕ) → List Piece → ℕ
counts ws [] = 0
counts ws (piece ∷ others) = count_of ws piece.signal piece.selection + counts ws others

-- bits for a part of a target
abbrev pub write_at : ℕ → Option Span → List Bit → List Write
write_at signal None bits = []
write_at signal (Some span) bits = record { signal = signal; at = span.at; bits = bits } ∷ []

-- the writes of a value to a target, part by part from the left, where the rightmost part has the lowest bits (section
-- 4.1.14); all indices have their values from before the first of them
abbrev pub writes : (ℕ → ℕ) → Values → List Piece → List Bit → List Write
writes ws v [] bits = []
writes ws v (piece ∷ others) bits =
    write_at piece.signal (span_of ws v piece.signal piece.selection) (selected (counts ws others) (count_of ws piece.signal piece.selection) bits) ++ writes ws v others bits

-- z in every bit of every signal: what a driver gives that drives nothing
abbrev pub no_drive : (ℕ → ℕ) → Values
no_drive ws signal = replicate (ws signal) Z

-- what a driver gives to the bits of each signal: z where it drives none
abbrev pub driven : (ℕ → ℕ) → List Piece → List Bit → Values
driven ws target bits = all_written (no_drive ws) (writes ws (no_drive ws) target bits)
