-- What is read of a signal, and what is assigned of it.
use Rattle.std.proofs.Common.{◌≡◌, ◌+◌, ◌<◌, ◌≤◌, ℕ, zero, suc, List, [], ◌∷◌, length, subst, arith}
use Rattle.rtl_bits.specs.declared.Bit.{Bit}
use Rattle.rtl_flat.specs.declared.expr.Index.TheVariants as index
use Rattle.rtl_flat.specs.declared.expr.Select.{Select}
use Rattle.rtl_flat.specs.declared.expr.Select.TheVariants as select
use Rattle.rtl_flat.specs.declared.signal.Signal.{Signal}
use Rattle.rtl_flat.specs.Expression.{Sized, form, read}
use Rattle.rtl_flat.specs.Process.{selection}
use Rattle.rtl_flat.specs.Signs.{Has, width_in}
use Rattle.rtl_flat.specs.Sizes.{IsSized}
use Rattle.rtl_flat.specs.Value.{widths}
use Rattle.rtl_flat.specs.WellFormed.{IsSelection}
use Rattle.rtl_flat.proofs.Stored.{sized_for_values}

-- the signal is one of those that there are
pub read_below : (n : ℕ) (ws : ℕ → ℕ) (i : ℕ) (part : Select) → IsSized n ws (read i part) → i < n
read_below n ws i select.Whole sized = sized
read_below n ws i (select.Bit low (index.Fixed k)) sized = sized
read_below n ws i (select.Bit low (index.Computed' p w s a at)) sized = sized.0
read_below n ws i (select.Part low width) sized = sized.0

-- a signal with a property is there
has_below : (P : Signal → Type 0) (signals : List Signal) (i : ℕ) → Has P signals i → i < length signals
has_below P [] zero h = absurd h
has_below P [] (suc i) h = absurd h
has_below P (s ∷ signals) zero h = omega arith
has_below P (s ∷ signals) (suc i) h =
    let below : i < length signals = has_below P signals i h in omega arith

-- a property of its width
has_width : (P : ℕ → Type 0) (signals : List Signal) (i : ℕ) → Has (λ s. P s.width) signals i → P (width_in signals i)
has_width P [] zero h = absurd h
has_width P [] (suc i) h = absurd h
has_width P (s ∷ signals) zero h = h
has_width P (s ∷ signals) (suc i) h = has_width P signals i h

-- For callers: what a design may assign of a signal is sized over numbers of its widths.
pub selection_sized : (signals : List Signal) (numbers : List (List Bit)) (i : ℕ) (part : Select) → length signals ≡ length numbers → ((k : ℕ) → width_in signals k ≡ widths numbers k) → IsSelection signals i (selection part) → IsSized (length numbers) (widths numbers) (read i part)
selection_sized signals numbers i select.Whole count each is = subst (λ n. i < n) count is
selection_sized signals numbers i (select.Bit low (index.Fixed k)) count each is =
    subst (λ n. i < n) count (has_below (λ s. s.low ≡ low) signals i is)
selection_sized signals numbers i (select.Bit low (index.Computed' p w s a at)) count each is = (
  subst (λ n. i < n) count (has_below (λ s. s.low ≡ low) signals i is.0),
  sized_for_values signals numbers (Sized w s at (form a)) count each is.1,
)
selection_sized signals numbers i (select.Part low width) count each is = (
  subst (λ n. i < n) count (has_below (λ s. low + width ≤ s.width) signals i is.1),
  subst (λ n. low + width ≤ n) (each i) (has_width (λ n. low + width ≤ n) signals i is.1),
)
