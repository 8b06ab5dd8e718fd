use Rattle.std.proofs.Common.{◌≡◌, false, ◌∙◌, rules}
use Rattle.std.specs.Prelude.{◌==◌}
use Rattle.std.proofs.lemmas.Bool.{ne_eqb}
use Rattle.rtl_bits.specs.Bits.{has_unknown, number}
use Rattle.rtl_bits.proofs.Signs.{quotient_from, sign_of_bits}
use Rattle.rtl_bits.proofs.Vec4.div_signed.Goals as goal

pub returns-clause-bits : goal.returns-clause-bits
returns-clause-bits c =
    let left : has_unknown c.args.self ≡ false = search rules in
    let right : has_unknown c.args.o ≡ false = search rules in
    let divides : (number c.args.o == 0) ≡ false = rw (← c.number.ensures.exact) (ne_eqb _ _ c.if-number-eq0.false) in
    rw (left, right, divides)
    ((rw c.width-width.ensures.exact at c.of_magnitude.ensures.bits)
    ∙ quotient_from _ _ _ _ _ _ _ (c.is_negative.ensures ∙ sign_of_bits _) (c.is_negative-2.ensures ∙ sign_of_bits _) c.magnitude.ensures.exact c.magnitude-2.ensures.exact)
