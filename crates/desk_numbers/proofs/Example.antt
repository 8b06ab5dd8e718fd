-- Numbers, on small cases.
use Rattle.std.proofs.Common.{◌≡◌, codes, refl, true, false}
use Rattle.desk_numbers.specs.Numbers.{is_number, is_plain, is_positive, number_of, significant}

a_number : number_of (codes "0042") ≡ 42
a_number = refl

what_counts : significant (codes "0042") ≡ codes "42"
what_counts = refl

nothing_is_none : is_number (codes "") ≡ false
nothing_is_none = refl

a_sign_is_no_digit : is_number (codes "+1") ≡ false
a_sign_is_no_digit = refl

zero_is_plain : is_plain (codes "0") ≡ true
zero_is_plain = refl

no_leading_zero : is_plain (codes "07") ≡ false
no_leading_zero = refl

zero_is_not_positive : is_positive (codes "0") ≡ false
zero_is_not_positive = refl
