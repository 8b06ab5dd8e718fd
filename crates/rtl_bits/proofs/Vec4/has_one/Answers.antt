use Rattle.std.proofs.Common.{◌||◌, refl}
use Rattle.rtl_bits.specs.Bit.{is_one}
use Rattle.rtl_bits.specs.Planes.{bit_of, IsVector}
use Rattle.rtl_bits.specs.Digits.{differ}
use Rattle.rtl_bits.proofs.Tables.{tests2}
use Rattle.rtl_bits.proofs.PlaneLemmas.{fits, digits}
use Rattle.rtl_bits.proofs.Numbers.{by_any}
use Rattle.rtl_bits.proofs.Vec4.has_one.Goals as goal

-- v and u are the digits of `self`
pub returns : goal.returns
returns c =
    let self : IsVector c.self.inside.width c.self.inside.val c.self.inside.unk = c.self.invariant in
    by_any is_one _ _ _ _ _ c.self.view_is (search fits depth 9)
    (λ i _. simp digits (tests2 (λ v u. differ (v || u) u) (λ v u. is_one (bit_of v u)) refl _ _))
