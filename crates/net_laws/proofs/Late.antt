-- Writes that are made later.
use Rattle.std.proofs.Common.{◌≡◌, ◌∙◌, ◌⊎◌, ◌+◌, ◌-◌, ℕ, true, false, cond, ◌||◌, List, [], ◌∷◌, ◌++◌, get_or, All, Option, Some, refl, sym, ap, inl, inr, arith}
use Rattle.std.specs.Prelude.{unwrap_or}
use Rattle.std.specs.List.{list_any}
use Rattle.std.proofs.lemmas.Bool.{cases_Bool, cond-false, cond-true, false≢true, or_cases, or_parts}
use Rattle.std.proofs.lemmas.List.{append_assoc}
use Rattle.std.proofs.lemmas.List.Elements.{All-append, All-head, All-nil, All-tail}
use Rattle.std.proofs.lemmas.List.Folds.{list_any-append}
use Rattle.rtl_bits.specs.declared.Bit.{Bit}
use Rattle.rtl_bits.specs.declared.Bit.TheVariants.{X}
use Rattle.event_model.specs.Bodies.{Made, Now, Later, after_made}
use Rattle.rtl_flat.specs.Flats.{Flat, widths}
use Rattle.event_model.specs.Traces.{covers, makes_late}
use Rattle.event_model.specs.Writes.{Values, Write, all_written, written}
use Rattle.event_laws.specs.Steady.{HaveWidths, IsWithin}
use Rattle.event_laws.proofs.Lengths.{have_written}
use Rattle.event_laws.proofs.Made.{IsMadeWithin}
use Rattle.event_laws.proofs.Written.{AreMadeWithin, covered, written_in, written_out}
use Rattle.net_model.specs.Numbers.{bit}
use Rattle.net_laws.specs.Laws.{last_written, late_writes}
use Rattle.net_laws.proofs.Known.{KnownBit, known_at}
use Rattle.net_laws.proofs.Numbers.{IsKnownWrite, IsMadeKnown}

-- ---- lists

pub after_append : (v : Values) (ms ns : List Made) → after_made v (ms ++ ns) ≡ after_made (after_made v ms) ns
after_append v [] ns = refl
after_append v (Now w ∷ ms) ns = after_append (written v w) ms ns
after_append v (Later us ∷ ms) ns = after_append v ms ns

pub late_append : (ms ns : List Made) → late_writes (ms ++ ns) ≡ late_writes ms ++ late_writes ns
late_append [] ns = refl
late_append (Now w ∷ ms) ns = late_append ms ns
late_append (Later us ∷ ms) ns =
    ap (λ xs. us ++ xs) (late_append ms ns) ∙ sym (append_assoc us (late_writes ms) (late_writes ns))

-- a bit that is to be written, after one more write
abbrev next_last : ℕ → ℕ → Write → Option Bit → Option Bit
next_last i k w old = cond (covers i k w) (Some (get_or w.bits (k - w.at) X)) old

pub last_append : (i k : ℕ) (old : Option Bit) (us xs : List Write) → last_written i k old (us ++ xs) ≡ last_written i k (last_written i k old us) xs
last_append i k old [] xs = refl
last_append i k old (w ∷ us) xs = last_append i k (next_last i k w old) us xs

pub any_late : (i k : ℕ) (ms : List Made) → list_any (covers i k) (late_writes ms) ≡ list_any (makes_late i k) ms
any_late i k [] = refl
any_late i k (Now w ∷ ms) = any_late i k ms
any_late i k (Later us ∷ ms) =
    list_any-append (covers i k) us (late_writes ms) ∙ ap (λ b. list_any (covers i k) us || b) (any_late i k ms)

pub late_known : (ms : List Made) → All IsMadeKnown ms → All IsKnownWrite (late_writes ms)
late_known [] known = All-nil IsKnownWrite
late_known (Now w ∷ ms) known = late_known ms (All-tail IsMadeKnown (Now w) ms known)
late_known (Later us ∷ ms) known =
    All-append IsKnownWrite us (late_writes ms) (All-head IsMadeKnown (Later us) ms known) (late_known ms (All-tail IsMadeKnown (Later us) ms known))

pub late_within : (d : Flat) (ms : List Made) → AreMadeWithin d ms → All (IsWithin (widths d)) (late_writes ms)
late_within d [] inside = All-nil (IsWithin (widths d))
late_within d (Now w ∷ ms) inside =
    late_within d ms (All-tail (IsMadeWithin (widths d)) (Now w) ms inside)
late_within d (Later us ∷ ms) inside =
    All-append (IsWithin (widths d)) us (late_writes ms) (All-head (IsMadeWithin (widths d)) (Later us) ms inside)
    (late_within d ms (All-tail (IsMadeWithin (widths d)) (Later us) ms inside))

-- ---- one bit

pub none_last : (i k : ℕ) (old : Option Bit) (us : List Write) → list_any (covers i k) us ≡ false → last_written i k old us ≡ old
none_last i k old [] none = refl
none_last i k old (w ∷ us) none =
    let parts = or_parts (covers i k w) (list_any (covers i k) us) none in
    none_last i k (next_last i k w old) us parts.1 ∙ cond-false (covers i k w) (Some (get_or w.bits (k - w.at) X)) old parts.0

-- a write gives a known bit
pub some_last :
    (i k : ℕ) (old : Option Bit) (us : List Write) → All IsKnownWrite us → list_any (covers i k) us ≡ true →
    (b : Bit) × (last_written i k old us ≡ Some b) × KnownBit b
some_last i k old [] known some = absurd (false≢true some)
some_last i k old (w ∷ us) known some =
    let new = next_last i k w old in
    elim (cases_Bool (list_any (covers i k) us)) [
      | inl later ↦ some_last i k new us (All-tail IsKnownWrite w us known) later
      | inr none ↦
          let here = by_first none (or_cases (covers i k w) (list_any (covers i k) us) some) in
          let over = covered i k w here in
          let from = over.1 in
          let below = over.2 in (
            get_or w.bits (k - w.at) X,
            none_last i k new us none ∙ cond-true (covers i k w) (Some (get_or w.bits (k - w.at) X)) old here,
            known_at w.bits (k - w.at) (All-head IsKnownWrite w us known) (omega (arith, from, below)),
          )
    ]
  where
    by_first : list_any (covers i k) us ≡ false → (covers i k w ≡ true) ⊎ (list_any (covers i k) us ≡ true) → covers i k w ≡ true
    by_first none (inl here) = here
    by_first none (inr later) = absurd (false≢true (sym none ∙ later))

module _ (d : Flat) (i k : ℕ) where
  -- a bit after writes is what the last of them over it gives
  pub after_writes :
      (u : Values) (us : List Write) → HaveWidths d u → All (IsWithin (widths d)) us → (old : Option Bit) (b : Bit) → bit u i k ≡ unwrap_or old b →
      bit (all_written u us) i k ≡ unwrap_or (last_written i k old us) b
  after_writes u [] have inside old b is = is
  after_writes u (w ∷ us) have inside old b is =
      let here = All-head (IsWithin (widths d)) w us inside in
      after_writes (written u w) us (have_written d u w have here) (All-tail (IsWithin (widths d)) w us inside) (next_last i k w old) b
      (elim (cases_Bool (covers i k w)) [
        | inl over ↦
            written_in d u w have here i k over
            ∙ sym (ap (λ o. unwrap_or o b) (cond-true (covers i k w) (Some (get_or w.bits (k - w.at) X)) old over))
        | inr not_over ↦
            written_out d u w have here i k not_over ∙ is
            ∙ sym (ap (λ o. unwrap_or o b) (cond-false (covers i k w) (Some (get_or w.bits (k - w.at) X)) old not_over))
      ])
