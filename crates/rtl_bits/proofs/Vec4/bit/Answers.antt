use Rattle.std.proofs.Common.{◌≡◌, ℕ, ◌<◌, ◌/◌, ◌^◌, Bool, List, length, get_or}
use Rattle.std.specs.Prelude.{bit_and, nat_eq}
use Rattle.rtl_bits.specs.declared.Bit.{Bit}
use Rattle.rtl_bits.specs.declared.Bit.TheVariants.{X}
use Rattle.rtl_bits.specs.Planes.{bit_of, bits_of_planes}
use Rattle.rtl_bits.proofs.Numbers.{digit_test, bit_there}
use Rattle.rtl_bits.proofs.Vec4.bit.Goals as goal

read : (w v u : ℕ) (xs : List Bit) → bits_of_planes w v u ≡ xs → (at : ℕ) → at < length xs → (a b : Bool) → nat_eq (bit_and (v / 2 ^ at) 1) 1 ≡ a → nat_eq (bit_and (u / 2 ^ at) 1) 1 ≡ b → bit_of a b ≡ get_or xs at X
read w v u xs e at h a b p q =
    rw (← p, ← q, digit_test v at, digit_test u at) (bit_there w v u xs e at h)

pub returns-in-true-true : goal.returns-in-true-true
returns-in-true-true c = read _ _ _ _ c.self.view_is _ c.requires _ _ c.in-true-true.is-0 c.in-true-true.is-1

pub returns-in-true-false : goal.returns-in-true-false
returns-in-true-false c = read _ _ _ _ c.self.view_is _ c.requires _ _ c.in-true-false.is-0 c.in-true-false.is-1

pub returns-in-false-true : goal.returns-in-false-true
returns-in-false-true c = read _ _ _ _ c.self.view_is _ c.requires _ _ c.in-false-true.is-0 c.in-false-true.is-1

pub returns-in-false-false : goal.returns-in-false-false
returns-in-false-false c = read _ _ _ _ c.self.view_is _ c.requires _ _ c.in-false-false.is-0 c.in-false-false.is-1
