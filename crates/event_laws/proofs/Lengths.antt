-- A write that ends inside its signal keeps the length of its value.
use Rattle.std.proofs.Common.{◌≡◌, ◌∙◌, ◌+◌, ◌<◌, ◌≤◌, ℕ, zero}
use Rattle.std.proofs.Common.{suc, List, [], ◌∷◌, ◌++◌, length, take, drop, Option, None, Some, refl, sym, ap, inl, inr, arith}
use Rattle.std.specs.Prelude.{◌≢◌, IsSome}
use Rattle.std.specs.List.{slice_get}
use Rattle.std.specs.Option.{is_some}
use Rattle.std.proofs.lemmas.Bool.{cases_eq, eq-eqb, ne_eqb}
use Rattle.std.proofs.lemmas.List.{length-append, length-drop, length-take}
use Rattle.rtl_bits.specs.declared.Bit.{Bit}
use Rattle.rtl_bits.specs.Bits.{replaced}
use Rattle.rtl_flat.specs.declared.signal.Signal.{Signal}
use Rattle.rtl_flat.specs.Signs.{width_in}
use Rattle.event_model.specs.Writes.{Values, Write, put, written}
use Rattle.rtl_flat.specs.Flats.{Flat, widths}
use Rattle.event_laws.specs.Steady.{HaveWidths, IsWithin, SignalsHaveWidths}

pub put_at : {A : Type 0} (f : ℕ → A) (k j : ℕ) (a : A) → j ≡ k → put f k a j ≡ a
put_at f k j a here = rw (eq-eqb j k here) refl

pub put_other : {A : Type 0} (f : ℕ → A) (k j : ℕ) (a : A) → j ≢ k → put f k a j ≡ f j
put_other f k j a other = rw (ne_eqb j k other) refl

replaced_length : (at : ℕ) (part a : List Bit) → at + length part ≤ length a → length (replaced at part a) ≡ length a
replaced_length at part a inside =
    let all = length-append (take at a ++ part) (drop (at + length part) a) in
    let front = length-append (take at a) part in
    let kept = length-take at a in
    let back = length-drop (at + length part) a in
    let same : length (take at a ++ part ++ drop (at + length part) a) ≡ length a = omega (arith, all, front, kept, back, inside) in
    same

-- no signal, no bits
pub no_width : (signals : List Signal) (i : ℕ) → slice_get signals i ≡ None → width_in signals i ≡ 0
no_width [] i e = refl
no_width (s ∷ signals) zero e = absurd (cc)
no_width (s ∷ signals) (suc i) e = no_width signals i e

pub is_there : (signals : List Signal) (i : ℕ) → i < length signals → IsSome (slice_get signals i)
is_there [] i h = absurd (omega (arith, h))
is_there (s ∷ signals) zero h = refl
is_there (s ∷ signals) (suc i) h = is_there signals i (omega (arith, h))

-- a write ends inside the value of its signal
pub fits : (d : Flat) (v : Values) (w : Write) → HaveWidths d v → IsWithin (widths d) w → w.at + length w.bits ≤ length (v w.signal)
fits d v w have inside = let size = have w.signal in omega (arith, inside, size)

pub signal_fits : (d : Flat) (v : Values) (w : Write) → SignalsHaveWidths d v → IsWithin (widths d) w → w.at + length w.bits ≤ length (v w.signal)
signal_fits d v w have inside = by_signal (slice_get d.signals w.signal) refl
  where
    by_signal : (o : Option Signal) → slice_get d.signals w.signal ≡ o → w.at + length w.bits ≤ length (v w.signal)
    by_signal None e = let none = no_width d.signals w.signal e in omega (arith, inside, none)
    by_signal (Some signal) e = let size = have w.signal (ap is_some e) in omega (arith, inside, size)

pub written_length : (v : Values) (w : Write) → w.at + length w.bits ≤ length (v w.signal) → (i : ℕ) → length (written v w i) ≡ length (v i)
written_length v w inside i =
    elim (cases_eq i w.signal) [
      | inl here ↦
          ap length (put_at v w.signal i (replaced w.at w.bits (v w.signal)) here)
          ∙ replaced_length w.at w.bits (v w.signal) inside ∙ ap (λ j. length (v j)) (sym here)
      | inr other ↦ ap length (put_other v w.signal i (replaced w.at w.bits (v w.signal)) other)
    ]

pub have_written : (d : Flat) (v : Values) (w : Write) → HaveWidths d v → IsWithin (widths d) w → HaveWidths d (written v w)
have_written d v w have inside i = written_length v w (fits d v w have inside) i ∙ have i

pub signals_written : (d : Flat) (v : Values) (w : Write) → SignalsHaveWidths d v → IsWithin (widths d) w → SignalsHaveWidths d (written v w)
signals_written d v w have inside i there = written_length v w (signal_fits d v w have inside) i ∙ have i there
