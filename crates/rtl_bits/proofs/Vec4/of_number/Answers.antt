use Rattle.std.proofs.Common.{◌∙◌, refl, false, ◌≡◌, ap}
use Rattle.rtl_bits.specs.Bit.{known_bit}
use Rattle.rtl_bits.specs.Planes.{bit_of}
use Rattle.rtl_bits.specs.Digits.{one_at-zero}
use Rattle.rtl_bits.proofs.Tables.{table1}
use Rattle.rtl_bits.proofs.Lists.{tabulate-congr}
use Rattle.rtl_bits.proofs.Vec4.of_number.Goals as goal
use Rattle.rtl_bits.specs.Bits.{bits_of, has_unknown, number}
use Rattle.rtl_bits.proofs.Known.{has_unknown-bits_of, number-bits_of}

same : (c : goal.After-of_digits) → c.of_digits.result ≡ bits_of c.args.width c.args.n
same c =
    c.of_digits.ensures.bits
    ∙ tabulate-congr _ _ _ (λ i _. simp one_at-zero (table1 (λ v. bit_of v false) known_bit refl _))

pub returns-clause-bits : goal.returns-clause-bits
returns-clause-bits c = same c

pub returns-clause-known : goal.returns-clause-known
returns-clause-known c = ap has_unknown (same c) ∙ has_unknown-bits_of c.args.width c.args.n

pub returns-clause-number : goal.returns-clause-number
returns-clause-number c = ap number (same c) ∙ number-bits_of c.args.width c.args.n
