-- The writes of a lawful target end inside their signals.
use Rattle.std.proofs.Common.{◌≡◌, ◌+◌, ◌<◌, ◌≤◌, ℕ, zero, suc, Bool, true, false, cond, List, [], ◌∷◌, length, drop, Option, None, Some, refl, arith}
use Rattle.std.specs.Prelude.{nat_lt, ℤ, pos, negsuc, ◌-ℤ◌, if◌then◌else◌}
use Rattle.std.specs.List.{All}
use Rattle.std.proofs.lemmas.Bool.{ltb-true}
use Rattle.std.proofs.lemmas.List.{length-take}
use Rattle.std.proofs.lemmas.List.Elements.{All-append, All-cons, All-head, All-nil, All-tail}
use Rattle.rtl_bits.specs.declared.Bit.{Bit}
use Rattle.rtl_bits.specs.Bits.{has_unknown, selected}
use Rattle.rtl_flat.specs.declared.signal.Signal.{Signal}
use Rattle.rtl_flat.specs.Process.{Piece, Selection, Whole, BitAt, BitBy, Part}
use Rattle.rtl_flat.specs.Signs.{Has, width_in, sign_of}
use Rattle.rtl_flat.specs.Value.{value, index_number}
use Rattle.rtl_flat.specs.WellFormed.{IsSelection}
use Rattle.event_model.specs.Writes.{Values, Span, bit_inside, count_of, counts, no_drive, span_of, write_at, writes}
use Rattle.event_model.specs.Queue.{bits_in, net_writes}
use Rattle.event_laws.specs.Steady.{IsWithin}

-- whether each part of a target can be
abbrev pub AreSelections : List Signal → List Piece → Type 0
AreSelections signals target =
    All (λ piece. IsSelection signals piece.signal piece.selection) target

-- whether so many bits from where a span begins end inside a signal
abbrev HasRoom : (ℕ → ℕ) → ℕ → Option Span → ℕ → Type 0
HasRoom ws i None n = Unit {0}
HasRoom ws i (Some span) n = span.at + n ≤ ws i

pub has_width : (n : ℕ) (signals : List Signal) (i : ℕ) → Has (λ s. n ≤ s.width) signals i → n ≤ width_in signals i
has_width n [] i h = absurd h
has_width n (s ∷ signals) zero h = h
has_width n (s ∷ signals) (suc i) h = has_width n signals i h

-- what is selected has no more bits than were asked for
pub at_most : (at count : ℕ) (bits : List Bit) → length (selected at count bits) ≤ count
at_most at count bits = let e = length-take count (drop at bits) in omega (arith, e)

bit_room : (ws : ℕ → ℕ) (i : ℕ) (index : ℤ) → HasRoom ws i (bit_inside (ws i) index) 1
bit_room ws i (negsuc k) = tt
bit_room ws i (pos k) = by_place (nat_lt k (ws i)) refl
  where
    by_place : (b : Bool) → nat_lt k (ws i) ≡ b → HasRoom ws i (if b then Some (record { at = k; count = 1 }) else None) 1
    by_place false e = tt
    by_place true e = let below : k < ws i = ltb-true k (ws i) e in omega (arith, below)

known_room : (ws : ℕ → ℕ) (i n : ℕ) (unknown : Bool) (span : Option Span) → HasRoom ws i span n → HasRoom ws i (cond unknown None span) n
known_room ws i n true span h = tt
known_room ws i n false span h = h

part_room :
    (signals : List Signal) (v : Values) (i : ℕ) (selection : Selection) → IsSelection signals i selection →
    HasRoom (width_in signals) i (span_of (width_in signals) v i selection) (count_of (width_in signals) i selection)
part_room signals v i Whole h = omega arith
part_room signals v i (BitAt low index) h = bit_room (width_in signals) i (index -ℤ pos low)
part_room signals v i (BitBy low index) h =
    let index' = index_number (sign_of index) (value v index) -ℤ pos low in
    known_room (width_in signals) i 1 (has_unknown (value v index)) (bit_inside (width_in signals i) index') (bit_room (width_in signals) i index')
part_room signals v i (Part low width) h = has_width (low + width) signals i h.1

write_within : (ws : ℕ → ℕ) (i n : ℕ) (span : Option Span) (bits : List Bit) → length bits ≤ n → HasRoom ws i span n → All (IsWithin ws) (write_at i span bits)
write_within ws i n None bits few room = All-nil (IsWithin ws)
write_within ws i n (Some span) bits few room =
    All-cons (IsWithin ws) (record { signal = i; at = span.at; bits = bits }) [] (omega (arith, few, room)) (All-nil (IsWithin ws))

pub writes_within :
    (signals : List Signal) (v : Values) (target : List Piece) (bits : List Bit) → AreSelections signals target →
    All (IsWithin (width_in signals)) (writes (width_in signals) v target bits)
writes_within signals v [] bits h = All-nil (IsWithin (width_in signals))
writes_within signals v (piece ∷ others) bits h =
    let ws = width_in signals in
    let count = count_of ws piece.signal piece.selection in
    let span = span_of ws v piece.signal piece.selection in
    let part = selected (counts ws others) count bits in
    let here = All-head (λ (one : Piece). IsSelection signals one.signal one.selection) piece others h in
    All-append (IsWithin ws) (write_at piece.signal span part) (writes ws v others bits)
    (write_within ws piece.signal count span part (at_most (counts ws others) count bits) (part_room signals v piece.signal piece.selection here))
    (writes_within signals v others bits (All-tail (λ (one : Piece). IsSelection signals one.signal one.selection) piece others h))

-- the bits of a span are no more than its selection has
bit_count : (width : ℕ) (index : ℤ) (bits : List Bit) → length (bits_in (bit_inside width index) bits) ≤ 1
bit_count width (negsuc k) bits = omega arith
bit_count width (pos k) bits = by_place (nat_lt k width)
  where
    by_place : (b : Bool) → length (bits_in (if b then Some (record { at = k; count = 1 }) else None) bits) ≤ 1
    by_place false = omega arith
    by_place true = at_most k 1 bits

known_count :
    (unknown : Bool) (span : Option Span) (bits : List Bit) (n : ℕ) → length (bits_in span bits) ≤ n →
    length (bits_in (cond unknown None span) bits) ≤ n
known_count true span bits n h = omega arith
known_count false span bits n h = h

pub part_count :
    (ws : ℕ → ℕ) (v : Values) (i : ℕ) (selection : Selection) (bits : List Bit) →
    length (bits_in (span_of ws v i selection) bits) ≤ count_of ws i selection
part_count ws v i Whole bits = at_most 0 (ws i) bits
part_count ws v i (BitAt low index) bits = bit_count (ws i) (index -ℤ pos low) bits
part_count ws v i (BitBy low index) bits =
    let index' = index_number (sign_of index) (value v index) -ℤ pos low in
    known_count (has_unknown (value v index)) (bit_inside (ws i) index') bits 1 (bit_count (ws i) index' bits)
part_count ws v i (Part low width) bits = at_most low width bits

pub nets_within :
    (signals : List Signal) (given : Values) (target : List Piece) → AreSelections signals target →
    All (IsWithin (width_in signals)) (net_writes (width_in signals) given target)
nets_within signals given [] h = All-nil (IsWithin (width_in signals))
nets_within signals given (piece ∷ others) h =
    let ws = width_in signals in
    let count = count_of ws piece.signal piece.selection in
    let span = span_of ws (no_drive ws) piece.signal piece.selection in
    let part = bits_in span (given piece.signal) in
    let few = part_count ws (no_drive ws) piece.signal piece.selection (given piece.signal) in
    let here = All-head (λ (one : Piece). IsSelection signals one.signal one.selection) piece others h in
    All-append (IsWithin ws) (write_at piece.signal span part) (net_writes ws given others)
    (write_within ws piece.signal count span part few (part_room signals (no_drive ws) piece.signal piece.selection here))
    (nets_within signals given others (All-tail (λ (one : Piece). IsSelection signals one.signal one.selection) piece others h))
