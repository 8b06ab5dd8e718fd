-- Signals that get their numbers one after another.
use Rattle.std.proofs.Common.{◌≡◌, ◌∙◌, ◌<◌, ◌≤◌, ◌+◌, ℕ, zero, suc, List, [], ◌∷◌, length, get_or, refl, sym, ap, inl, inr, arith}
use Rattle.std.proofs.lemmas.Bool.{cases_eq, cases_lt}
use Rattle.rtl_bits.specs.declared.Bit.{Bit}
use Rattle.rtl_flat.specs.declared.signal.Signal.{Signal}
use Rattle.rtl_flat.specs.Signs.{width_in}
use Rattle.rtl_flat.specs.Value.{store}
use Rattle.rtl_flat.specs.Flats.{Flat}
use Rattle.event_model.specs.Writes.{Values, put}
use Rattle.net_settle.proofs.event_laws_proofs.Lengths.{put_at, put_other}
use Rattle.net_model.specs.Numbers.{AreNumbers}

-- one more is done
pub done_more : {A : Type 0} (old new goal : ℕ → A) (place : ℕ) (x : A) → new ≡ put old place x → x ≡ goal place → ((i : ℕ) → i < place → old i ≡ goal i) → (i : ℕ) → i < place + 1 → new i ≡ goal i
done_more old new goal place x is fact before i below =
    elim (cases_eq i place) as (λ _. new i ≡ goal i) [
      | inl here ↦ ap (λ g. g i) is ∙ (put_at old place i x here ∙ (fact ∙ ap goal (sym here)))
      | inr other ↦ ap (λ g. g i) is ∙ (put_other old place i x other ∙ before i (omega (arith, below, other)))
    ]

past_signals : (signals : List Signal) (i : ℕ) → length signals ≤ i → width_in signals i ≡ 0
past_signals [] i past = refl
past_signals (s ∷ signals) zero past = absurd (omega (arith, past))
past_signals (s ∷ signals) (suc i) past = past_signals signals i (omega (arith, past))

both_empty : (a b : List Bit) → length a ≡ 0 → length b ≡ 0 → a ≡ b
both_empty [] [] e e' = refl
both_empty [] (y ∷ b) e e' = absurd (omega (arith, e'))
both_empty (x ∷ a) b e e' = absurd (omega (arith, e))

-- where no signal is, numbers have no digits
pub past_same : (d : Flat) (n m : Values) → AreNumbers d n → AreNumbers d m → (i : ℕ) → length d.signals ≤ i → n i ≡ m i
past_same d n m are are' i past =
    both_empty (n i) (m i) (are.wide i ∙ past_signals d.signals i past) (are'.wide i ∙ past_signals d.signals i past)

-- so what is the same of each signal is the same
pub all_same : (d : Flat) (n m : Values) → AreNumbers d n → AreNumbers d m → ((i : ℕ) → i < length d.signals → n i ≡ m i) → (i : ℕ) → n i ≡ m i
all_same d n m are are' each i =
    elim (cases_lt i (length d.signals)) as (λ _. n i ≡ m i) [
      | inl below ↦ each i below
      | inr past ↦ past_same d n m are are' i past
    ]

-- a number that is read
pub read_is : (xs : List (List Bit)) (i : ℕ) (x : List Bit) → i < length xs → x ≡ get_or xs i x → x ≡ store xs i
read_is [] i x below is = absurd (omega (arith, below))
read_is (y ∷ xs) zero x below is = is
read_is (y ∷ xs) (suc i) x below is = read_is xs i x (omega (arith, below)) is
