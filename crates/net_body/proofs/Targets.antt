-- Targets of assignments.
use Rattle.std.proofs.Common.{◌≡◌, ◌<◌, ◌≤◌, ◌+◌, ℕ, zero, suc, Bool, true, false, cond, map, nat_lt, pos, negsuc, ℤ, ◌-ℤ◌, List, [], ◌∷◌, ◌++◌, length, get_or, Some, None, refl, arith}
use Rattle.std.specs.Prelude.{if◌then◌else◌}
use Rattle.std.specs.List.{All}
use Rattle.std.proofs.lemmas.Bool.{ltb-true}
use Rattle.std.proofs.lemmas.List.Elements.{All-cons, All-head, All-nil, All-tail}
use Rattle.rtl_bits.specs.declared.Bit.{Bit}
use Rattle.rtl_flat.specs.declared.signal.Signal.{Signal}
use Rattle.rtl_flat.specs.declared.act.TargetPart.{TargetPart}
use Rattle.rtl_flat.specs.Process.{Piece, Selection, Whole, BitAt, BitBy, Part, piece, selection}
use Rattle.rtl_flat.specs.Signs.{Has, sign_of, width_in}
use Rattle.rtl_flat.specs.Value.{index_number}
use Rattle.rtl_flat.specs.WellFormed.{IsSelection}
use Rattle.event_model.specs.Writes.{Values, Write, all_written, bit_inside, count_of, write_at, written}
use Rattle.net_model.specs.declared.fill.Fill.{Fill}
use Rattle.net_model.specs.Block.{Maps, span_by, write_each, write_next, write_now}
use Rattle.net_model.specs.Numbers.{digits}
use Rattle.net_body.specs.Entries.{IsInside}

pub width_at : (signals : List Signal) (i : ℕ) (d : Signal) → i < length signals → (get_or signals i d).width ≡ width_in signals i
width_at [] i d h = absurd (omega (arith, h))
width_at (s ∷ signals) zero d h = refl
width_at (s ∷ signals) (suc i) d h = width_at signals i d (omega (arith, h))

-- a signal with a property is there
has_below : (P : Signal → Type 0) (signals : List Signal) (i : ℕ) → Has P signals i → i < length signals
has_below P [] zero h = absurd h
has_below P [] (suc i) h = absurd h
has_below P (s ∷ signals) zero h = omega arith
has_below P (s ∷ signals) (suc i) h =
    let below : i < length signals = has_below P signals i h in omega arith

-- a property of its width
has_width : (P : ℕ → Type 0) (signals : List Signal) (i : ℕ) → Has (λ s. P s.width) signals i → P (width_in signals i)
has_width P [] zero h = absurd h
has_width P [] (suc i) h = absurd h
has_width P (s ∷ signals) zero h = h
has_width P (s ∷ signals) (suc i) h = has_width P signals i h

pub selection_below : (signals : List Signal) (i : ℕ) (selection : Selection) → IsSelection signals i selection → i < length signals
selection_below signals i Whole h = h
selection_below signals i (BitAt low index) h = has_below (λ s. s.low ≡ low) signals i h
selection_below signals i (BitBy low index) h = has_below (λ s. s.low ≡ low) signals i h.0
selection_below signals i (Part low width) h = has_below (λ s. low + width ≤ s.width) signals i h.1

-- ---- bits that are selected are there

one_inside : (signals : List Signal) (i at : ℕ) (bits : List Bit) → i < length signals → at + length bits ≤ width_in signals i → All (IsInside signals) (record { signal = i; at = at; bits = bits } ∷ [])
one_inside signals i at bits there inside =
    All-cons (IsInside signals) (record { signal = i; at = at; bits = bits }) [] (record { there = there; inside = inside }) (All-nil (IsInside signals))

bit_there : (signals : List Signal) (i : ℕ) (bits : List Bit) (z : ℤ) → i < length signals → length bits ≡ 1 → All (IsInside signals) (write_at i (bit_inside (width_in signals i) z) bits)
bit_there signals i bits (pos k) there one = by_test (nat_lt k (width_in signals i)) refl
  where
    by_test : (b : Bool) → nat_lt k (width_in signals i) ≡ b → All (IsInside signals) (write_at i (if b then Some (record { at = k; count = 1 }) else None) bits)
    by_test true e = let below = ltb-true k (width_in signals i) e in one_inside signals i k bits there (omega (arith, below, one))
    by_test false e = All-nil (IsInside signals)
bit_there signals i bits (negsuc k) there one = All-nil (IsInside signals)

pub span_inside : (signals : List Signal) (f : Fill) (n : Values) (i : ℕ) (selection : Selection) (bits : List Bit) → IsSelection signals i selection → length bits ≡ count_of (width_in signals) i selection → All (IsInside signals) (write_at i (span_by (width_in signals) f n i selection) bits)
span_inside signals f n i Whole bits h wide = one_inside signals i 0 bits h (omega (arith, wide))
span_inside signals f n i (BitAt low index) bits h wide =
    bit_there signals i bits (index -ℤ pos low) (has_below (λ s. s.low ≡ low) signals i h) wide
span_inside signals f n i (BitBy low index) bits h wide =
    bit_there signals i bits (index_number (sign_of index) (digits f n index) -ℤ pos low) (has_below (λ s. s.low ≡ low) signals i h.0) wide
span_inside signals f n i (Part low width) bits h wide =
    let most : low + width ≤ width_in signals i = has_width (λ w. low + width ≤ w) signals i h.1 in
    one_inside signals i low bits (has_below (λ s. low + width ≤ s.width) signals i h.1) (omega (arith, wide, most))

-- ---- lists

pub left_all : {A : Type 0} (P : A → Type 0) (xs ys : List A) → All P (xs ++ ys) → All P xs
left_all P [] ys h = All-nil P
left_all P (x ∷ xs) ys h =
    All-cons P x xs (All-head P x (xs ++ ys) h) (left_all P xs ys (All-tail P x (xs ++ ys) h))

pub right_all : {A : Type 0} (P : A → Type 0) (xs ys : List A) → All P (xs ++ ys) → All P ys
right_all P [] ys h = h
right_all P (x ∷ xs) ys h = right_all P xs ys (All-tail P x (xs ++ ys) h)

pub each_append : (delayed : Bool) (m : Maps) (xs ys : List Write) → write_each delayed m (xs ++ ys) ≡ write_each delayed (write_each delayed m xs) ys
each_append delayed m [] ys = refl
each_append delayed m (x ∷ xs) ys =
    each_append delayed (cond delayed (write_next m x) (write_now m x)) xs ys

-- the parts of a target are of signals that there are
pub parts_below : (signals : List Signal) (parts : List TargetPart) → All (λ piece. IsSelection signals piece.signal piece.selection) (map piece parts) → All (λ part. part.signal.0 < length signals) parts
parts_below signals [] h = All-nil (λ (part : TargetPart). part.signal.0 < length signals)
parts_below signals (part ∷ parts) h =
    All-cons (λ (one : TargetPart). one.signal.0 < length signals) part parts
    (selection_below signals part.signal.0 (selection part.select) (All-head (λ (one : Piece). IsSelection signals one.signal one.selection) (piece part) (map piece parts) h))
    (parts_below signals parts (All-tail (λ (one : Piece). IsSelection signals one.signal one.selection) (piece part) (map piece parts) h))

pub parts_selected : (signals : List Signal) (parts : List TargetPart) → All (λ piece. IsSelection signals piece.signal piece.selection) (map piece parts) → All (λ part. IsSelection signals part.signal.0 (selection part.select)) parts
parts_selected signals [] h = All-nil (λ (part : TargetPart). IsSelection signals part.signal.0 (selection part.select))
parts_selected signals (part ∷ parts) h =
    All-cons (λ (one : TargetPart). IsSelection signals one.signal.0 (selection one.select)) part parts
    (All-head (λ (one : Piece). IsSelection signals one.signal one.selection) (piece part) (map piece parts) h)
    (parts_selected signals parts (All-tail (λ (one : Piece). IsSelection signals one.signal one.selection) (piece part) (map piece parts) h))

pub written_append : (v : Values) (xs ys : List Write) → all_written v (xs ++ ys) ≡ all_written (all_written v xs) ys
written_append v [] ys = refl
written_append v (x ∷ xs) ys = written_append (written v x) xs ys
