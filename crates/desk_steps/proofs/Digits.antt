-- How many bits digits stand for.
use Rattle.std.specs.Prelude.{ℕ, ◌+◌, ◌*◌, ◌≤◌, List, [], ◌∷◌, length}
use Rattle.std.proofs.Common.{◌≡◌, refl, arith}
use Rattle.desk_steps.specs.declared.value.Base.{Base}
use Rattle.desk_steps.specs.declared.value.Base.TheVariants.{Binary, Hexadecimal}
use Rattle.desk_steps.specs.Values.{digit_width, digits_for, digits_width}

width_is : (base : Base) (digits : List ℕ) → digits_width base digits ≡ digit_width base * length digits
width_is Binary [] = refl
width_is Hexadecimal [] = refl
width_is Binary (byte ∷ digits) =
    let rest : digits_width Binary digits ≡ 1 * length digits = width_is Binary digits in
    omega (arith, rest)
width_is Hexadecimal (byte ∷ digits) =
    let rest : digits_width Hexadecimal digits ≡ 4 * length digits = width_is Hexadecimal digits in
    omega (arith, rest)

-- the digits that a width needs fit into a vector
pub fits : (base : Base) (width : ℕ) (digits : List ℕ) → width ≤ 128 → length digits + 1 ≡ digits_for base width → digit_width base + digits_width base digits ≤ 128
fits Binary width digits small is = grind (arith, width_is Binary digits)
fits Hexadecimal width digits small is = grind (arith, width_is Hexadecimal digits)

-- and have all of its bits
pub enough : (base : Base) (width : ℕ) (digits : List ℕ) → length digits + 1 ≡ digits_for base width → width ≤ digit_width base + digits_width base digits
enough Binary width digits is = grind (arith, width_is Binary digits)
enough Hexadecimal width digits is = grind (arith, width_is Hexadecimal digits)

pub some : (base : Base) (width : ℕ) (digits : List ℕ) → length digits + 1 ≡ digits_for base width → 1 ≤ width
some Binary width digits is = omega (arith, is)
some Hexadecimal width digits is = grind (arith, is)
