-- It serves inner contracts and proofs; no answer of the program is stated by it.
-- Which signals expressions read a bit of, and what those are worth that read none.
use Rattle.std.specs.Prelude.{ℕ, ◌≡◌, ◌==◌, Bool, false, ◌&&◌, List, length, Option, Some, None}
use Rattle.rtl_bits.specs.declared.Bit.{Bit}
use Rattle.rtl_flat.specs.declared.expr.SigId.{SigId}
use Rattle.rtl_flat.specs.Flats.{Flat}
use Rattle.rtl_flat.specs.Paths.{BitSet}
use Rattle.rtl_flat.specs.Value.{store}
use Rattle.rtl_rule.specs.Parts.{has_some, some_below, unknowns}

-- whether a signal, if there is one, has a number
abbrev pub is_signal : Option SigId → ℕ → Bool
is_signal None s = false
is_signal (Some signal) s = signal.0 == s

-- whether a set has a bit of a signal below a limit that passes a test
abbrev pub meets : (ℕ → ℕ) → ℕ → (ℕ → Bool) → BitSet → Bool
meets ws n test bits = some_below n (λ s. test s && has_some ws bits s)

-- the values of all signals where every bit is x
pub record AreUnknowns (d : Flat) (values : List (List Bit)) : Type 0 where
  pub many : length values ≡ length d.signals
  pub each : (i : ℕ) → store values i ≡ unknowns d i
