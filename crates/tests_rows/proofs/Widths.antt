-- Values of all signals of a design, and their widths.
use Rattle.std.specs.Prelude.{ℕ, zero, suc, ◌<◌, List, [], ◌∷◌, drop, length, map}
use Rattle.std.proofs.Common.{◌≡◌, ap, refl, arith}
use Rattle.rtl_bits.specs.declared.Bit.{Bit}
use Rattle.rtl_flat.specs.declared.signal.Signal.{Signal}
use Rattle.rtl_flat.specs.Signs.{width_in}
use Rattle.rtl_flat.specs.Value.{widths}
use Rattle.tests_netlists.specs.event_write.Stored.{AreStored}

abbrev pub width : Signal → ℕ
width signal = signal.width

pub next_width : (signals : List Signal) (n : ℕ) → n < length signals → map width (drop n signals) ≡ width_in signals n ∷ map width (drop (suc n) signals)
next_width [] n inside = absurd (omega (arith, inside))
next_width (first ∷ others) zero inside = refl
next_width (first ∷ others) (suc n) inside = next_width others n (omega (arith, inside))

as_many : (signals : List Signal) (values : List (List Bit)) → map length values ≡ map width signals → length signals ≡ length values
as_many [] [] same = refl
as_many [] (value ∷ values) same = cc
as_many (signal ∷ signals) [] same = cc
as_many (signal ∷ signals) (value ∷ values) same = ap suc (as_many signals values cc)

as_wide : (signals : List Signal) (values : List (List Bit)) → map length values ≡ map width signals → (i : ℕ) → width_in signals i ≡ widths values i
as_wide [] [] same i = refl
as_wide [] (value ∷ values) same i = cc
as_wide (signal ∷ signals) [] same i = cc
as_wide (signal ∷ signals) (value ∷ values) same zero = cc
as_wide (signal ∷ signals) (value ∷ values) same (suc i) = as_wide signals values (cc) i

pub are_stored : (signals : List Signal) (values : List (List Bit)) → map length values ≡ map width signals → AreStored signals values
are_stored signals values same = record {
  count = as_many signals values same;
  each = as_wide signals values same;
}
