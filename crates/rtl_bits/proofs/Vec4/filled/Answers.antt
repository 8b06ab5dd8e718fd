use Rattle.std.proofs.Common.{◌≡◌, ℕ, ◌<◌, ◌≤◌, ◌-◌, ◌^◌, Bool, true, false, replicate, sym, ◌∙◌, arith}
use Rattle.rtl_bits.specs.Bits.{is_one_at}
use Rattle.rtl_bits.specs.Planes.{bit_of, bits_of_planes}
use Rattle.rtl_bits.specs.Digits.{one_at-zero, one_at_ones}
use Rattle.rtl_bits.proofs.Lists.{tabulate-congr, replicate-tabulate}
use Rattle.rtl_bits.proofs.Vec4.filled.Goals as goal

-- equal digits make equal bits
same_digits : (w v u : ℕ) (p q : Bool) → ((i : ℕ) → i < w → is_one_at v i ≡ p) → ((i : ℕ) → i < w → is_one_at u i ≡ q) → bits_of_planes w v u ≡ replicate w (bit_of p q)
same_digits w v u p q e1 e2 =
    tabulate-congr w _ _ (λ i h. let a : is_one_at v i ≡ p = e1 i h in let b : is_one_at u i ≡ q = e2 i h in rw (a, b))
    ∙ sym (replicate-tabulate w (bit_of p q))

none : (w i : ℕ) → i < w → is_one_at 0 i ≡ false
none w i _ = one_at-zero i

all : (w : ℕ) → w ≤ 128 → (i : ℕ) → i < w → is_one_at (2 ^ 128 - 1) i ≡ true
all w h i below = one_at_ones 128 i (omega arith)

pub returns-in-Zero-clause-bits : goal.returns-in-Zero-clause-bits
returns-in-Zero-clause-bits c =
    rw c.in-Zero.is (c.of_digits.ensures.bits ∙ same_digits _ _ _ _ _ (none _) (none _))

pub returns-in-One-clause-bits : goal.returns-in-One-clause-bits
returns-in-One-clause-bits c =
    rw c.in-One.is (c.of_digits-in-One.ensures.bits ∙ same_digits _ _ _ _ _ (all _ c.requires.at_most) (none _))

pub returns-in-X-clause-bits : goal.returns-in-X-clause-bits
returns-in-X-clause-bits c =
    rw c.in-X.is (c.of_digits-in-X.ensures.bits ∙ same_digits _ _ _ _ _ (none _) (all _ c.requires.at_most))

pub returns-in-Z-clause-bits : goal.returns-in-Z-clause-bits
returns-in-Z-clause-bits c =
    rw c.in-Z.is (c.of_digits-in-Z.ensures.bits ∙ same_digits _ _ _ _ _ (all _ c.requires.at_most) (all _ c.requires.at_most))
