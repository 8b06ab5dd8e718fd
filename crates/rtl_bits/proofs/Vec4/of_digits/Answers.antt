use Rattle.std.proofs.Common.{true, ◌&&◌, refl}
use Rattle.rtl_bits.specs.Planes.{bit_of}
use Rattle.rtl_bits.specs.Digits.{one_at_and, one_at_ones}
use Rattle.rtl_bits.proofs.Tables.{table2}
use Rattle.rtl_bits.proofs.Lists.{tabulate-congr}
use Rattle.rtl_bits.proofs.Vec4.of_digits.Goals as goal

pub returns-clause-bits : goal.returns-clause-bits
returns-clause-bits c =
    rw c.mask-mask.ensures (tabulate-congr _ _ _ (λ i below. simp (one_at_and, one_at_ones _ i below)
    (table2 (λ v u. bit_of (v && true) (u && true)) bit_of refl _ _)))
