-- It serves inner contracts and proofs; no answer of the program is stated by it.
-- The two maps as they are kept: the digits of each signal, and a mark of what was written of it.
use Rattle.std.specs.Prelude.{ℕ, zero, suc, ◌≡◌, ◌+◌, Bool, false, cond, ◌&&◌, nat_le, nat_lt, List, [], ◌∷◌, length, slice_index_or, Option, Some, None}
use Rattle.rtl_bits.specs.declared.Bit.{Bit}
use Rattle.rtl_bits.specs.declared.Bit.TheVariants.{X}
use Rattle.rtl_bits.specs.Bits.{is_one_at}
use Rattle.rtl_flat.specs.declared.signal.Signal.{Signal}
use Rattle.rtl_flat.specs.Signs.{width_in}
use Rattle.rtl_flat.specs.Value.{store, widths}
use Rattle.net_model.specs.Block.{Maps}
use Rattle.net_body.specs.declared.mark.Mark.{Mark}

-- whether a place is one of so many from a place on
abbrev pub is_over : ℕ → ℕ → ℕ → Bool
is_over at count k = nat_le at k && nat_lt k (at + count)

-- the digit that a mark has for a bit at the end
abbrev pub next_bit : Mark → ℕ → Option Bit
next_bit mark k = cond (is_one_at mark.has_next k) (Some (slice_index_or mark.next k X)) None

-- what is seen of one of a list, where `none` is seen past its end
abbrev pub view_at : {A B : Type 0} → (B → A) → A → List B → ℕ → A
view_at f none [] i = none
view_at f none (x ∷ xs) zero = f x
view_at f none (x ∷ xs) (suc i) = view_at f none xs i

abbrev pub maps : List (List Bit) → List Mark → Maps
maps numbers marks =
    record {
      now = store numbers;
      next = view_at next_bit (λ k. None) marks;
      wrote = view_at (λ mark. is_one_at mark.wrote) (λ k. false) marks;
      late = view_at (λ mark. is_one_at mark.late) (λ k. false) marks;
    }

-- digits of its width for each signal
pub record AreStored (signals : List Signal) (numbers : List (List Bit)) : Type 0 where
  pub stored : length signals ≡ length numbers
  pub each : (i : ℕ) → width_in signals i ≡ widths numbers i

-- and a mark of its width
pub record AreKept (signals : List Signal) (numbers : List (List Bit)) (marks : List Mark) : Type 0 where
  pub stored : length signals ≡ length numbers
  pub marked : length signals ≡ length marks
  pub each : (i : ℕ) → width_in signals i ≡ widths numbers i
  pub next : (i : ℕ) → width_in signals i ≡ view_at (λ mark. length mark.next) 0 marks i

-- marks of the width of digits
abbrev pub HaveMarks : List (List Bit) → List Mark → Type 0
HaveMarks numbers marks = (i : ℕ) → widths numbers i ≡ view_at (λ mark. length mark.next) 0 marks i
