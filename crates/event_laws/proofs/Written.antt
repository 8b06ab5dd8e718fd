-- Bits that are written, and bits that stay as they were.
use Rattle.std.proofs.Common.{◌≡◌, ◌∙◌, ◌⊎◌, ◌+◌, ◌-◌, ◌<◌, ◌≤◌, ◌==◌, ℕ, true, false, ◌&&◌, nat_lt, nat_le, List, [], ◌∷◌, ◌++◌, length, get_or, take, drop, All, refl, sym, ap, inl, inr, arith}
use Rattle.std.specs.List.{list_any}
use Rattle.std.proofs.lemmas.Bool.{and_from, and_parts, cases_Bool, cases_eq, cases_lt, eq-eqb, eqb-true, false≢true, le-leb, leb-true, lt-ltb, ltb-true, or_cases, or_parts}
use Rattle.std.proofs.lemmas.List.{get_or-append_right, get_or-drop, get_or-take, get_or_append_left, length-append, length-take}
use Rattle.std.proofs.lemmas.List.Elements.{All-head, All-tail}
use Rattle.rtl_bits.specs.declared.Bit.{Bit}
use Rattle.rtl_bits.specs.declared.Bit.TheVariants.{X}
use Rattle.rtl_bits.specs.Bits.{replaced}
use Rattle.event_model.specs.Bodies.{Made, Now, Later, after_made}
use Rattle.rtl_flat.specs.Flats.{Flat, widths}
use Rattle.event_model.specs.Traces.{Same, covers, makes_now}
use Rattle.event_model.specs.Writes.{Values, Write, written}
use Rattle.event_laws.specs.Steady.{HaveWidths, IsWithin}
use Rattle.event_laws.proofs.Lengths.{fits, have_written, put_at, put_other}
use Rattle.event_laws.proofs.Made.{IsMadeWithin}

-- ---- one write

-- where a write is over a bit
pub covered : (i k : ℕ) (w : Write) → covers i k w ≡ true → (w.signal ≡ i) × (w.at ≤ k) × (k < w.at + length w.bits)
covered i k w h =
    let (here, inside) = and_parts (w.signal == i) (nat_le w.at k && nat_lt k (w.at + length w.bits)) h in
    let (from, below) = and_parts (nat_le w.at k) (nat_lt k (w.at + length w.bits)) inside in
    (eqb-true w.signal i here, leb-true w.at k from, ltb-true k (w.at + length w.bits) below)

pub covers_from : (i k : ℕ) (w : Write) → w.signal ≡ i → w.at ≤ k → k < w.at + length w.bits → covers i k w ≡ true
covers_from i k w here from below =
    and_from _ _ (eq-eqb w.signal i here) (and_from _ _ (le-leb w.at k from) (lt-ltb k (w.at + length w.bits) below))

bit_before : (at : ℕ) (part a : List Bit) (k : ℕ) → k < at → at + length part ≤ length a → get_or (replaced at part a) k X ≡ get_or a k X
bit_before at part a k before inside =
    let front = length-take at a in
    let two = length-append (take at a) part in
    get_or_append_left (take at a ++ part) (drop (at + length part) a) X k (omega (arith, front, two, before, inside))
    ∙ get_or_append_left (take at a) part X k (omega (arith, front, before, inside))
    ∙ get_or-take at a k X before

bit_over :
    (at : ℕ) (part a : List Bit) (k : ℕ) → at ≤ k → k < at + length part → at + length part ≤ length a →
    get_or (replaced at part a) k X ≡ get_or part (k - at) X
bit_over at part a k from below inside =
    let front = length-take at a in
    let two = length-append (take at a) part in
    get_or_append_left (take at a ++ part) (drop (at + length part) a) X k (omega (arith, front, two, below, inside))
    ∙ get_or-append_right (take at a) part at k X (omega (arith, front, inside)) from

bit_behind :
    (at : ℕ) (part a : List Bit) (k : ℕ) → at + length part ≤ k → at + length part ≤ length a →
    get_or (replaced at part a) k X ≡ get_or a k X
bit_behind at part a k behind inside =
    let front = length-take at a in
    let two = length-append (take at a) part in
    let n = at + length part in
    let place : n + (k - n) ≡ k = omega (arith, behind) in
    get_or-append_right (take at a ++ part) (drop n a) n k X (omega (arith, front, two, inside)) behind
    ∙ get_or-drop n a (k - n) X ∙ ap (λ j. get_or a j X) place

-- it has the write's bit where the write is over it
pub bit_written :
    (v : Values) (w : Write) (i k : ℕ) → w.at + length w.bits ≤ length (v w.signal) → covers i k w ≡ true →
    get_or (written v w i) k X ≡ get_or w.bits (k - w.at) X
bit_written v w i k inside is =
    let over = covered i k w is in
    ap (λ a. get_or a k X) (put_at v w.signal i (replaced w.at w.bits (v w.signal)) (sym over.0))
    ∙ bit_over w.at w.bits (v w.signal) k over.1 over.2 inside

-- and stays as it was elsewhere
pub bit_kept :
    (v : Values) (w : Write) (i k : ℕ) → w.at + length w.bits ≤ length (v w.signal) → covers i k w ≡ false → Same (written v w) v i k
bit_kept v w i k inside not_over =
    elim (cases_eq i w.signal) [
      | inl here ↦
          ap (λ a. get_or a k X) (put_at v w.signal i (replaced w.at w.bits (v w.signal)) here)
          ∙ elsewhere here (cases_lt k w.at) (cases_lt k (w.at + length w.bits)) ∙ ap (λ j. get_or (v j) k X) (sym here)
      | inr other ↦ ap (λ a. get_or a k X) (put_other v w.signal i (replaced w.at w.bits (v w.signal)) other)
    ]
  where
    elsewhere :
        i ≡ w.signal → (k < w.at) ⊎ (w.at ≤ k) → (k < w.at + length w.bits) ⊎ (w.at + length w.bits ≤ k) →
        get_or (replaced w.at w.bits (v w.signal)) k X ≡ get_or (v w.signal) k X
    elsewhere here (inl before) end = bit_before w.at w.bits (v w.signal) k before inside
    elsewhere here (inr from) (inl below) =
        absurd (false≢true (sym not_over ∙ covers_from i k w (sym here) from below))
    elsewhere here (inr from) (inr behind) = bit_behind w.at w.bits (v w.signal) k behind inside

pub written_in :
    (d : Flat) (v : Values) (w : Write) → HaveWidths d v → IsWithin (widths d) w → (i k : ℕ) → covers i k w ≡ true →
    get_or (written v w i) k X ≡ get_or w.bits (k - w.at) X
written_in d v w have inside i k is = bit_written v w i k (fits d v w have inside) is

pub written_out :
    (d : Flat) (v : Values) (w : Write) → HaveWidths d v → IsWithin (widths d) w → (i k : ℕ) → covers i k w ≡ false →
    Same (written v w) v i k
written_out d v w have inside i k not_over =
    bit_kept v w i k (fits d v w have inside) not_over

-- ---- all that is made at once

abbrev pub AreMadeWithin : Flat → List Made → Type 0
AreMadeWithin d ms = All (IsMadeWithin (widths d)) ms

module _ (d : Flat) where
  first_within : (m : Made) (ms : List Made) → AreMadeWithin d (m ∷ ms) → IsMadeWithin (widths d) m
  first_within m ms inside = All-head (IsMadeWithin (widths d)) m ms inside

  others_within : (m : Made) (ms : List Made) → AreMadeWithin d (m ∷ ms) → AreMadeWithin d ms
  others_within m ms inside = All-tail (IsMadeWithin (widths d)) m ms inside

  pub have_after : (v : Values) (ms : List Made) → HaveWidths d v → AreMadeWithin d ms → HaveWidths d (after_made v ms)
  have_after v [] have inside = have
  have_after v (Now w ∷ ms) have inside =
      have_after (written v w) ms (have_written d v w have (first_within (Now w) ms inside)) (others_within (Now w) ms inside)
  have_after v (Later us ∷ ms) have inside =
      have_after v ms have (others_within (Later us) ms inside)

  module _ (i k : ℕ) where
    pub kept_after :
        (v : Values) (ms : List Made) → HaveWidths d v → AreMadeWithin d ms → list_any (makes_now i k) ms ≡ false →
        Same (after_made v ms) v i k
    kept_after v [] have inside none = refl
    kept_after v (Now w ∷ ms) have inside none =
        let here = first_within (Now w) ms inside in
        let parts = or_parts (covers i k w) (list_any (makes_now i k) ms) none in
        kept_after (written v w) ms (have_written d v w have here) (others_within (Now w) ms inside) parts.1
        ∙ written_out d v w have here i k parts.0
    kept_after v (Later us ∷ ms) have inside none =
        kept_after v ms have (others_within (Later us) ms inside) none

    -- one write over two values
    write_alike :
        (v u : Values) (w : Write) → HaveWidths d v → HaveWidths d u → IsWithin (widths d) w → Same v u i k →
        Same (written v w) (written u w) i k
    write_alike v u w have have' inside same =
        elim (cases_Bool (covers i k w)) [
          | inl over ↦ written_in d v w have inside i k over ∙ sym (written_in d u w have' inside i k over)
          | inr not_over ↦ written_out d v w have inside i k not_over ∙ same ∙ sym (written_out d u w have' inside i k not_over)
        ]

    pub same_after :
        (v u : Values) (ms : List Made) → HaveWidths d v → HaveWidths d u → AreMadeWithin d ms → Same v u i k →
        Same (after_made v ms) (after_made u ms) i k
    same_after v u [] have have' inside same = same
    same_after v u (Now w ∷ ms) have have' inside same =
        let here = first_within (Now w) ms inside in
        same_after (written v w) (written u w) ms (have_written d v w have here) (have_written d u w have' here) (others_within (Now w) ms inside)
        (write_alike v u w have have' here same)
    same_after v u (Later us ∷ ms) have have' inside same =
        same_after v u ms have have' (others_within (Later us) ms inside) same

    -- what is written is the same, whatever was there before
    pub alike_after :
        (v u : Values) (ms : List Made) → HaveWidths d v → HaveWidths d u → AreMadeWithin d ms → list_any (makes_now i k) ms ≡ true →
        Same (after_made v ms) (after_made u ms) i k
    alike_after v u [] have have' inside made = absurd (false≢true made)
    alike_after v u (Now w ∷ ms) have have' inside made =
        let here = first_within (Now w) ms inside in
        let rest = others_within (Now w) ms inside in
        let new = have_written d v w have here in
        let new' = have_written d u w have' here in
        elim (or_cases (covers i k w) (list_any (makes_now i k) ms) made) [
          | inl over ↦
              same_after (written v w) (written u w) ms new new' rest (written_in d v w have here i k over ∙ sym (written_in d u w have' here i k over))
          | inr later ↦ alike_after (written v w) (written u w) ms new new' rest later
        ]
    alike_after v u (Later us ∷ ms) have have' inside made =
        alike_after v u ms have have' (others_within (Later us) ms inside) made
