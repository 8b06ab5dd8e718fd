-- It serves inner contracts and proofs; no answer of the program is stated by it.
-- What a case keeps while its items run side by side.
use Rattle.std.specs.Prelude.{ℕ, ◌≡◌, ◌≤◌, true, false, List, [], length, None}
use Rattle.rtl_bits.specs.declared.Bit.{Bit}
use Rattle.rtl_bits.specs.declared.Bit.TheVariants.{X}
use Rattle.rtl_bits.specs.Bit.{or_bit}
use Rattle.rtl_bits.specs.Bits.{is_one_at, tabulate}
use Rattle.rtl_flat.specs.Value.{widths}
use Rattle.net_model.specs.Block.{Maps, arm_bits, arms_late, arms_write}
use Rattle.net_body.specs.declared.arms.Aside.{Aside}
use Rattle.net_body.specs.Marks.{next_bit, view_at}

-- the maps before the case, and what the items that ran make together
pub record AreAside (m : Maps) (arms : List Maps) (asides : List Aside) : Type 0 where
  pub now : (i : ℕ) → view_at (λ aside. aside.number) [] asides i ≡ m.now i
  pub next : (i k : ℕ) → view_at (λ aside. next_bit aside.mark) (λ j. None) asides i k ≡ m.next i k
  pub wrote : (i k : ℕ) → view_at (λ aside. is_one_at aside.mark.wrote) (λ j. false) asides i k ≡ m.wrote i k
  pub late : (i k : ℕ) → view_at (λ aside. is_one_at aside.mark.late) (λ j. false) asides i k ≡ m.late i k
  pub sum : (i : ℕ) → view_at (λ aside. aside.sum) [] asides i ≡ tabulate (length (m.now i)) (arm_bits arms i)
  pub arms_wrote : (i k : ℕ) → view_at (λ aside. is_one_at aside.wrote) (λ j. false) asides i k ≡ arms_write arms i k
  pub arms_late : (i k : ℕ) → view_at (λ aside. is_one_at aside.late) (λ j. false) asides i k ≡ arms_late arms i k

-- all of the width of digits
pub record HaveSums (numbers : List (List Bit)) (asides : List Aside) : Type 0 where
  pub number : (i : ℕ) → widths numbers i ≡ view_at (λ aside. length aside.number) 0 asides i
  pub next : (i : ℕ) → widths numbers i ≡ view_at (λ aside. length aside.mark.next) 0 asides i
  pub sum : (i : ℕ) → widths numbers i ≡ view_at (λ aside. length aside.sum) 0 asides i

-- past the width of a signal no item gives anything but x
pub record IsBounded (m : Maps) (arms : List Maps) : Type 0 where
  pub nothing : (i k : ℕ) → length (m.now i) ≤ k → or_bit X (arm_bits arms i k) ≡ X
  pub late : (i k : ℕ) → length (m.now i) ≤ k → arms_late arms i k ≡ true → arm_bits arms i k ≡ X
