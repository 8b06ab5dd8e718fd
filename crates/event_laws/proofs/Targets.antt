-- Which bits the writes of a lawful target are over.
use Rattle.std.proofs.Common.{◌≡◌, ◌∙◌, ◌+◌, ◌<◌, ◌≤◌, ◌==◌, ℕ, ℤ, pos, negsuc, ◌-ℤ◌, Bool, true, false, not, ◌&&◌, ◌||◌, nat_lt, nat_le, if◌then◌else◌, List, [], ◌∷◌, ◌++◌, length, map, Option, None, Some, All, refl, sym, ap, inl, inr, arith}
use Rattle.std.specs.List.{list_any}
use Rattle.std.proofs.lemmas.Bool.{and_from, and_parts, eq-eqb, eqb-true, false≢true, le-leb, leb-true, lt-ltb, ltb-true, or_cases, or_left, or_right}
use Rattle.std.proofs.lemmas.Int.{ints}
use Rattle.std.proofs.lemmas.List.Elements.{All-cons, All-head, All-nil, All-tail}
use Rattle.std.proofs.lemmas.List.Folds.{list_any-append}
use Rattle.std.proofs.lemmas.List.Sums.{sum_by-cons}
use Rattle.rtl_bits.specs.declared.Bit.{Bit}
use Rattle.rtl_bits.specs.Bits.{selected}
use Rattle.rtl_flat.specs.declared.signal.Signal.{Signal}
use Rattle.rtl_flat.specs.Flows.{is_place, may_select, may_target, selects, span, targets}
use Rattle.rtl_flat.specs.Process.{Piece, Selection, Whole, BitAt, BitBy, Part}
use Rattle.rtl_flat.specs.Signs.{width_in}
use Rattle.rtl_flat.specs.WellFormed.{selection_width, target_width}
use Rattle.event_model.specs.Bodies.{Now, assigned}
use Rattle.event_model.specs.Traces.{covers, makes_late, makes_now}
use Rattle.event_model.specs.Writes.{Values, Write, Span, bit_inside, count_of, counts, span_of, write_at, writes}
use Rattle.event_laws.specs.Steady.{IsWithin}
use Rattle.event_laws.proofs.Inside.{AreSelections, at_most, writes_within}
use Rattle.event_laws.proofs.Sizes.{selected_length}
use Rattle.event_laws.proofs.Written.{covered, covers_from}

-- ---- widths of targets

part_width : (signals : List Signal) (i : ℕ) (selection : Selection) → count_of (width_in signals) i selection ≡ selection_width signals i selection
part_width signals i Whole = refl
part_width signals i (BitAt low index) = refl
part_width signals i (BitBy low index) = refl
part_width signals i (Part low width) = refl

-- a target has as many bits as its parts
pub same_count : (signals : List Signal) (target : List Piece) → counts (width_in signals) target ≡ target_width signals target
same_count signals [] = refl
same_count signals (piece ∷ others) =
    let here = part_width signals piece.signal piece.selection in
    let rest = same_count signals others in
    let all = sum_by-cons (λ (p : Piece). selection_width signals p.signal p.selection) piece others in
    omega (arith, here, rest, all)

-- ---- what is written whichever index there is

-- whether some write is over a bit
abbrev pub IsOver : ℕ → ℕ → List Write → Type 0
IsOver i k us = list_any (covers i k) us ≡ true

one_over : (i k signal at : ℕ) (bits : List Bit) → i ≡ signal → at ≤ k → k < at + length bits → IsOver i k (record { signal = signal; at = at; bits = bits } ∷ [])
one_over i k signal at bits here from below =
    or_left _ false (covers_from i k (record { signal = signal; at = at; bits = bits }) (sym here) from below)

bit_over : (i k signal width : ℕ) (bits : List Bit) (z : ℤ) → z ≡ pos k → i ≡ signal → k < width → length bits ≡ 1 → IsOver i k (write_at signal (bit_inside width z) bits)
bit_over i k signal width bits (negsuc n) e here below one = absurd (omega (arith, ints, e))
bit_over i k signal width bits (pos n) e here below one =
    let same : n ≡ k = omega (arith, ints, e) in
    by_place (nat_lt n width) (lt-ltb n width (omega (arith, below, same)))
  where
    by_place : (b : Bool) → b ≡ true → IsOver i k (write_at signal (if b then Some (record { at = n; count = 1 }) else None) bits)
    by_place true is =
        let same : n ≡ k = omega (arith, ints, e) in
        one_over i k signal n bits here (omega (arith, same)) (omega (arith, same, one))
    by_place false is = absurd (false≢true is)

-- the place that an index means
pub place_of : (low k : ℕ) (index : ℤ) → is_place low index k ≡ true → index -ℤ pos low ≡ pos k
place_of low k (pos n) is =
    let same : low + k ≡ n = eqb-true (low + k) n is in
    omega (arith, ints, same)
place_of low k (negsuc n) is = absurd (false≢true is)

pub part_over :
    (ws : ℕ → ℕ) (v : Values) (signal : ℕ) (selection : Selection) (i k : ℕ) (bits : List Bit) → length bits ≡ count_of ws signal selection →
    selects ws signal selection i k ≡ true → IsOver i k (write_at signal (span_of ws v signal selection) bits)
part_over ws v signal Whole i k bits size is =
    let (here, inside) = and_parts (i == signal) _ is in
    let (_, below) = and_parts (nat_le 0 k) _ inside in
    let (below', _) = and_parts (nat_lt k (ws signal)) _ below in
    let few : k < ws signal = ltb-true k (ws signal) below' in
    one_over i k signal 0 bits (eqb-true i signal here) (omega arith) (omega (arith, few, size))
part_over ws v signal (BitAt low index) i k bits size is =
    let (here, inside) = and_parts (i == signal) _ is in
    let (below, place) = and_parts (nat_lt k (ws signal)) _ inside in
    bit_over i k signal (ws signal) bits (index -ℤ pos low) (place_of low k index place) (eqb-true i signal here) (ltb-true k (ws signal) below) size
part_over ws v signal (BitBy low index) i k bits size is = absurd (false≢true is)
part_over ws v signal (Part low width) i k bits size is =
    let (here, inside) = and_parts (i == signal) _ is in
    let (from, below) = and_parts (nat_le low k) _ inside in
    let (below', _) = and_parts (nat_lt k (low + width)) _ below in
    let few : k < low + width = ltb-true k (low + width) below' in
    one_over i k signal low bits (eqb-true i signal here) (leb-true low k from) (omega (arith, few, size))

-- what a target has whatever its indices are is written, where the value has bits enough
pub target_over :
    (ws : ℕ → ℕ) (v : Values) (target : List Piece) (bits : List Bit) → counts ws target ≤ length bits → (i k : ℕ) →
    targets ws target i k ≡ true → IsOver i k (writes ws v target bits)
target_over ws v [] bits enough i k is = absurd (false≢true is)
target_over ws v (piece ∷ others) bits enough i k is =
    let count = count_of ws piece.signal piece.selection in
    let part = selected (counts ws others) count bits in
    let here = write_at piece.signal (span_of ws v piece.signal piece.selection) part in
    list_any-append (covers i k) here (writes ws v others bits)
    ∙ elim (or_cases (selects ws piece.signal piece.selection i k) (targets ws others i k) is) [
      | inl chosen ↦
          or_left (list_any (covers i k) here) _
          (part_over ws v piece.signal piece.selection i k part (selected_length (counts ws others) count bits (omega (arith, enough))) chosen)
      | inr there ↦
          or_right (list_any (covers i k) here) _ (target_over ws v others bits (omega (arith, enough)) i k there)
    ]

-- ---- what may be written

only_one : (i k : ℕ) (w : Write) → IsOver i k (w ∷ []) → covers i k w ≡ true
only_one i k w over =
    elim (or_cases (covers i k w) false over) [
      | inl here ↦ here
      | inr none ↦ absurd (false≢true none)
    ]

pub none_over : (i k : ℕ) → IsOver i k [] → ⊥
none_over i k over = false≢true over

-- a write that is over a bit is of its signal, which has that bit
write_inside :
    (ws : ℕ → ℕ) (signal : ℕ) (at : Option Span) (bits : List Bit) (i k : ℕ) → All (IsWithin ws) (write_at signal at bits) →
    IsOver i k (write_at signal at bits) → (i ≡ signal) × (k < ws signal)
write_inside ws signal None bits i k within over = absurd (none_over i k over)
write_inside ws signal (Some at) bits i k within over =
    let w : Write = record { signal = signal; at = at.at; bits = bits } in
    let inside = All-head (IsWithin ws) w [] within in
    let (here, from, below) = covered i k w (only_one i k w over) in
    (sym here, omega (arith, inside, below))

-- the place of a bit that is written alone
bit_place : (i k signal width : ℕ) (bits : List Bit) (z : ℤ) → length bits ≤ 1 → IsOver i k (write_at signal (bit_inside width z) bits) → z ≡ pos k
bit_place i k signal width bits (negsuc n) few over = absurd (none_over i k over)
bit_place i k signal width bits (pos n) few over = by_place (nat_lt n width) over
  where
    by_place : (b : Bool) → IsOver i k (write_at signal (if b then Some (record { at = n; count = 1 }) else None) bits) → pos n ≡ pos k
    by_place true there =
        let (here, from, below) = covered i k (record { signal = signal; at = n; bits = bits }) (only_one i k _ there) in
        let same : n ≡ k = omega (arith, from, below, few) in
        ap pos same
    by_place false there = absurd (none_over i k there)

is_place_from : (low k : ℕ) (index : ℤ) → index -ℤ pos low ≡ pos k → is_place low index k ≡ true
is_place_from low k (pos n) e = eq-eqb (low + k) n (omega (arith, ints, e))
is_place_from low k (negsuc n) e = absurd (omega (arith, ints, e))

in_span : (ws : ℕ → ℕ) (signal low high i k : ℕ) → i ≡ signal → low ≤ k → k < high → k < ws signal → span ws signal low high i k ≡ true
in_span ws signal low high i k here from below inside =
    and_from _ _ (eq-eqb i signal here) (and_from _ _ (le-leb low k from) (and_from _ _ (lt-ltb k high below) (lt-ltb k (ws signal) inside)))

pub part_may :
    (ws : ℕ → ℕ) (v : Values) (signal : ℕ) (selection : Selection) (i k : ℕ) (bits : List Bit) → length bits ≤ count_of ws signal selection →
    All (IsWithin ws) (write_at signal (span_of ws v signal selection) bits) → IsOver i k (write_at signal (span_of ws v signal selection) bits) →
    may_select ws signal selection i k ≡ true
part_may ws v signal Whole i k bits few within over =
    let inside = write_inside ws signal (span_of ws v signal Whole) bits i k within over in
    in_span ws signal 0 (ws signal) i k inside.0 (omega arith) inside.1 inside.1
part_may ws v signal (BitAt low index) i k bits few within over =
    let inside = write_inside ws signal (span_of ws v signal (BitAt low index)) bits i k within over in
    and_from _ _ (eq-eqb i signal inside.0) (and_from _ _ (lt-ltb k (ws signal) inside.1)
    (is_place_from low k index (bit_place i k signal (ws signal) bits (index -ℤ pos low) few over)))
part_may ws v signal (BitBy low index) i k bits few within over =
    let inside = write_inside ws signal (span_of ws v signal (BitBy low index)) bits i k within over in
    in_span ws signal 0 (ws signal) i k inside.0 (omega arith) inside.1 inside.1
part_may ws v signal (Part low width) i k bits few within over =
    let inside = write_inside ws signal (span_of ws v signal (Part low width)) bits i k within over in
    let (here, from, below) = covered i k (record { signal = signal; at = low; bits = bits }) (only_one i k _ over) in
    in_span ws signal low (low + width) i k inside.0 from (omega (arith, below, few)) inside.1

pub left_within : (ws : ℕ → ℕ) (xs ys : List Write) → All (IsWithin ws) (xs ++ ys) → All (IsWithin ws) xs
left_within ws [] ys h = All-nil (IsWithin ws)
left_within ws (x ∷ xs) ys h =
    All-cons (IsWithin ws) x xs (All-head (IsWithin ws) x (xs ++ ys) h) (left_within ws xs ys (All-tail (IsWithin ws) x (xs ++ ys) h))

pub right_within : (ws : ℕ → ℕ) (xs ys : List Write) → All (IsWithin ws) (xs ++ ys) → All (IsWithin ws) ys
right_within ws [] ys h = h
right_within ws (x ∷ xs) ys h = right_within ws xs ys (All-tail (IsWithin ws) x (xs ++ ys) h)

all_may :
    (ws : ℕ → ℕ) (v : Values) (target : List Piece) (bits : List Bit) → All (IsWithin ws) (writes ws v target bits) → (i k : ℕ) →
    IsOver i k (writes ws v target bits) → may_target ws target i k ≡ true
all_may ws v [] bits within i k over = absurd (none_over i k over)
all_may ws v (piece ∷ others) bits within i k over =
    let count = count_of ws piece.signal piece.selection in
    let part = selected (counts ws others) count bits in
    let here = write_at piece.signal (span_of ws v piece.signal piece.selection) part in
    elim (or_cases (list_any (covers i k) here) (list_any (covers i k) (writes ws v others bits)) (sym (list_any-append (covers i k) here (writes ws v others bits)) ∙ over)) [
      | inl first ↦
          or_left (may_select ws piece.signal piece.selection i k) _
          (part_may ws v piece.signal piece.selection i k part (at_most (counts ws others) count bits) (left_within ws here (writes ws v others bits) within) first)
      | inr there ↦
          or_right (may_select ws piece.signal piece.selection i k) _ (all_may ws v others bits (right_within ws here (writes ws v others bits) within) i k there)
    ]

-- a lawful target has each bit that is written
pub target_may :
    (signals : List Signal) (v : Values) (target : List Piece) (bits : List Bit) → AreSelections signals target → (i k : ℕ) →
    IsOver i k (writes (width_in signals) v target bits) → may_target (width_in signals) target i k ≡ true
target_may signals v target bits lawful =
    all_may (width_in signals) v target bits (writes_within signals v target bits lawful)

-- ---- assignments

all_now : (i k : ℕ) (us : List Write) → list_any (makes_now i k) (map Now us) ≡ list_any (covers i k) us
all_now i k [] = refl
all_now i k (w ∷ us) = ap (λ b. covers i k w || b) (all_now i k us)

none_late : (i k : ℕ) (us : List Write) → list_any (makes_late i k) (map Now us) ≡ false
none_late i k [] = refl
none_late i k (w ∷ us) = none_late i k us

or_none : (b : Bool) → (b || false) ≡ b
or_none true = refl
or_none false = refl

pub now_assigned : (i k : ℕ) (delayed : Bool) (us : List Write) → list_any (makes_now i k) (assigned delayed us) ≡ (not delayed && list_any (covers i k) us)
now_assigned i k false us = all_now i k us
now_assigned i k true us = refl

pub late_assigned : (i k : ℕ) (delayed : Bool) (us : List Write) → list_any (makes_late i k) (assigned delayed us) ≡ (delayed && list_any (covers i k) us)
late_assigned i k false us = none_late i k us
late_assigned i k true us = or_none (list_any (covers i k) us)
