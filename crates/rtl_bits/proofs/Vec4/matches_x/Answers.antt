use Rattle.std.proofs.Common.{not, ◌||◌, refl}
use Rattle.rtl_bits.specs.Bits.{may_equal}
use Rattle.rtl_bits.specs.Planes.{bit_of, IsVector}
use Rattle.rtl_bits.specs.Digits.{differ}
use Rattle.rtl_bits.proofs.Tables.{tests4}
use Rattle.rtl_bits.proofs.PlaneLemmas.{fits, digits, fits_too}
use Rattle.rtl_bits.proofs.Numbers.{by_all}
use Rattle.rtl_bits.proofs.Vec4.matches_x.Goals as goal

-- v and u are the digits of `self`, p and q those of `label`
pub returns : goal.returns
returns c =
    let self : IsVector c.self.inside.width c.self.inside.val c.self.inside.unk = c.self.invariant in
    let label : IsVector c.self.inside.width c.label.inside.val c.label.inside.unk
    = fits_too _ _ _ _ _ _ _ _ c.self.view_is c.label.view_is c.requires c.label.invariant in
    by_all may_equal _ _ _ _ _ _ _ _ _ c.self.view_is c.label.view_is c.requires (search fits depth 9)
    (λ i _. simp digits
    (tests4 (λ v u p q. let unknown = u || q in differ (differ v p || unknown) unknown) (λ v u p q. not (may_equal (bit_of v u) (bit_of p q))) refl _ _ _ _))
