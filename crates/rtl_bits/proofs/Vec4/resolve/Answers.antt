use Rattle.std.proofs.Common.{◌&&◌, ◌||◌, refl}
use Rattle.rtl_bits.specs.Bit.{resolve_bit}
use Rattle.rtl_bits.specs.Planes.{bit_of, IsVector}
use Rattle.rtl_bits.specs.Digits.{differ}
use Rattle.rtl_bits.proofs.Tables.{table4}
use Rattle.rtl_bits.proofs.PlaneLemmas.{fits, digits, fits_too, by_bits}
use Rattle.rtl_bits.proofs.Vec4.resolve.Goals as goal

pub invariant_of-result : goal.invariant_of-result
invariant_of-result c =
    let self : IsVector c.self.inside.width c.self.inside.val c.self.inside.unk = c.self.invariant in
    let o : IsVector c.self.inside.width c.o.inside.val c.o.inside.unk
    = fits_too _ _ _ _ _ _ _ _ c.self.view_is c.o.view_is c.requires c.o.invariant in
    record {
      not_empty = self.not_empty;
      width_max = self.width_max;
      val_fits = search fits depth 9;
      unk_fits = search fits depth 9;
    }

-- v and u are the digits of `self`, p and q those of `o`
pub returns-clause-bits : goal.returns-clause-bits
returns-clause-bits c =
    by_bits resolve_bit _ _ _ _ _ _ _ _ _ _ c.self.view_is c.o.view_is c.requires
    (λ i _. simp digits
    (table4 (λ v u p q. let z = v && u || p && q in bit_of (v && p) (u && q || differ ((u || q || differ v p) || z) z)) (λ v u p q. resolve_bit (bit_of v u) (bit_of p q)) refl _ _ _ _))
