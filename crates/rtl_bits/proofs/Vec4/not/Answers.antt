use Rattle.std.proofs.Common.{◌||◌, true, refl}
use Rattle.std.proofs.Math.Pow.{ones_lt}
use Rattle.rtl_bits.specs.Bit.{not_bit}
use Rattle.rtl_bits.specs.Planes.{bit_of, IsVector}
use Rattle.rtl_bits.specs.Digits.{differ, one_at_ones}
use Rattle.rtl_bits.proofs.Tables.{table2}
use Rattle.rtl_bits.proofs.PlaneLemmas.{fits, digits, by_bit}
use Rattle.rtl_bits.proofs.Vec4.not.Goals as goal

pub invariant_of-result : goal.invariant_of-result
invariant_of-result c =
    let self : IsVector c.self.inside.width c.self.inside.val c.self.inside.unk = c.self.invariant in
    record {
      not_empty = self.not_empty;
      width_max = self.width_max;
      val_fits = rw c.mask.ensures (search (fits, ones_lt) depth 9);
      unk_fits = self.unk_fits;
    }

-- v and u are the digits of `self`
pub returns-clause-bits : goal.returns-clause-bits
returns-clause-bits c =
    by_bit not_bit _ _ _ _ _ _ c.self.view_is
    (λ i below. rw c.mask.ensures (simp (digits, one_at_ones _ i below)
    (table2 (λ v u. bit_of (differ (differ v true || u) u) u) (λ v u. not_bit (bit_of v u)) refl _ _)))
