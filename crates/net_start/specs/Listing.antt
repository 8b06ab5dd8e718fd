-- It serves inner contracts and proofs; no answer of the program is stated by it.
-- Lists and numbers that are made one after another.
use Rattle.std.specs.Prelude.{◌≡◌, ◌<◌, ◌↔◌, ℕ, Bool, true, false, cond, Option, None, Some, List, length, replicate, map, slice_index}
use Rattle.std.specs.BTreeMap.{BTreeMap}
use Rattle.rtl_bits.specs.declared.Bit.{Bit}
use Rattle.rtl_bits.specs.Bits.{has_unknown}
use Rattle.rtl_flat.specs.declared.signal.Kind.{Kind}
use Rattle.rtl_flat.specs.declared.signal.Kind.TheVariants.{TopInput, Net, Var}
use Rattle.rtl_flat.specs.declared.signal.Signal.{Signal}
use Rattle.rtl_flat.specs.Value.{store}
use Rattle.event_model.specs.Writes.{Values}
use Rattle.net_model.specs.declared.fill.Fill.{Fill}
use Rattle.net_model.specs.Numbers.{bit, fill_bit}
use Rattle.check_found.specs.rtl_scan.Arrows.{Among, AreRising}
use Rattle.check_found.specs.rtl_scan.Sets.{has}

-- whether there is a variable
abbrev pub is_var_kind : Kind → Bool
is_var_kind Var = true
is_var_kind Net = false
is_var_kind TopInput = false

abbrev pub is_var : Option Signal → Bool
is_var None = false
is_var (Some signal) = is_var_kind signal.kind

-- the numbers below a limit of which something holds, in order
pub record AreBelow (P : ℕ → Type 0) (n : ℕ) (found : List ℕ) : Type 0 where
  pub rising : AreRising found
  pub each : (s : ℕ) → Among found s ↔ ((s < n) × P s)

-- values of registers and latches in the bits that are kept, with the fill in all others; the first n of them
pub record AreMasked (masks : BTreeMap ℕ ℕ) (f : Fill) (signals : List ℕ) (values : List (List Bit)) (n : ℕ) (made : List (List Bit)) : Type 0 where
  pub many : length made ≡ n
  pub wide : (j : ℕ) → j < n → length (store made j) ≡ length (store values j)
  pub known : (j : ℕ) → j < n → has_unknown (store made j) ≡ false
  pub bits :
      (j : ℕ) → j < n → (k : ℕ) → k < length (store values j) →
      bit (store made) j k ≡ cond (has masks (slice_index signals j) k) (bit (store values) j k) (fill_bit f)

-- the fill in each bit of some signals
abbrev pub fills_of : Fill → List Signal → List (List Bit)
fills_of f signals = map (λ (signal : Signal). replicate signal.width (fill_bit f)) signals

-- numbers in which the first n of some signals have their values, and all that aren't among the signals are as they were
pub record AreGiven (signals : List ℕ) (values : List (List Bit)) (n : ℕ) (old new : Values) : Type 0 where
  pub given : (j : ℕ) → j < n → new (slice_index signals j) ≡ store values j
  pub left : (i : ℕ) → (Among signals i → ⊥) → new i ≡ old i
