-- A value has the width that it is read with.
use Rattle.std.specs.Prelude.{ℕ, ◌+◌, ◌≤◌, ◌==◌, nat_lt, Bool, true, false, cond, ◌&&◌, if◌then◌else◌, List, [], ◌∷◌, ◌++◌, length, replicate, take, Option, None, Some}
use Rattle.std.specs.Fmt.{decimal}
use Rattle.std.specs.Str.{bytes_eq}
use Rattle.std.proofs.Common.{◌≡◌, ◌∙◌, ap, sym, refl, arith}
use Rattle.std.proofs.lemmas.Bool.Decides.{nat_tests}
use Rattle.std.proofs.lemmas.List.{length-append, length-replicate, length-take-le}
use Rattle.rtl_bits.specs.declared.Bit.{Bit}
use Rattle.rtl_bits.specs.declared.Bit.TheVariants.{X, Z}
use Rattle.rtl_bits.specs.Bits.{bits_of}
use Rattle.rtl_bits.specs.Inside.{length-tabulate}
use Rattle.desk_steps.specs.declared.value.Base.{Base}
use Rattle.desk_steps.specs.declared.value.Base.TheVariants.{Binary, Hexadecimal}
use Rattle.desk_steps.specs.Lines.{Cut, cut_at}
use Rattle.desk_steps.specs.Values.{and_then, based_bits, below, cut_bits, cut_to, digit_bits, digit_number, digit_width, digits_bits, digits_for, digits_width, known_digit, sized_bits, unsigned, value_bits, without_zeros}
use Rattle.desk_steps.proofs.Digits.{enough}

known_length : (width : ℕ) (n : Option ℕ) (bits : List Bit) → known_digit width n ≡ Some bits → length bits ≡ width
known_length width None bits is = absurd (cc)
known_length width (Some n) bits is = by (nat_lt n (cond (width == 1) 2 16)) is
  where
    by : (small : Bool) → (if small then Some (bits_of width n) else None) ≡ Some bits → length bits ≡ width
    by true is =
        let same : bits_of width n ≡ bits = cc in
        ap length (sym same) ∙ length-tabulate width _
    by false is = absurd (cc)

digit_length : (base : Base) (byte : ℕ) (bits : List Bit) → digit_bits base byte ≡ Some bits → length bits ≡ digit_width base
digit_length base byte bits is = by (byte == 120) (byte == 122) (byte == 63) is
  where
    filled : (bit : Bit) → Some (replicate (digit_width base) bit) ≡ Some bits → length bits ≡ digit_width base
    filled bit is =
        let same : replicate (digit_width base) bit ≡ bits = cc in
        ap length (sym same) ∙ length-replicate (digit_width base) bit

    by : (x z mark : Bool) → cond x (Some (replicate (digit_width base) X)) (cond z (Some (replicate (digit_width base) Z)) (cond mark (Some (replicate (digit_width base) Z)) (known_digit (digit_width base) (digit_number byte)))) ≡ Some bits → length bits ≡ digit_width base
    by true z mark is = filled X is
    by false true mark is = filled Z is
    by false false true is = filled Z is
    by false false false is = known_length (digit_width base) (digit_number byte) bits is

digits_length : (base : Base) (high : List Bit) (digits : List ℕ) (bits : List Bit) → digits_bits base high digits ≡ Some bits → length bits ≡ length high + digits_width base digits
digits_length base high [] bits is =
    let same : high ≡ bits = cc in
    ap length (sym same) ∙ omega arith
digits_length base high (byte ∷ digits) bits is =
    by (digit_bits base byte) refl is (λ above. digits_length base above digits bits)
  where
    by : (digit : Option (List Bit)) → digit_bits base byte ≡ digit → and_then (below high digit) (λ above. digits_bits base above digits) ≡ Some bits → ((above : List Bit) → digits_bits base above digits ≡ Some bits → length bits ≡ length above + digits_width base digits) → length bits ≡ length high + digits_width base (byte ∷ digits)
    by None same is later = absurd (cc)
    by (Some low) same is later =
        let rest : length bits ≡ length (low ++ high) + digits_width base digits = later (low ++ high) is in
        let both : length (low ++ high) ≡ length low + length high = length-append low high in
        let one : length low ≡ digit_width base = digit_length base byte low same in
        omega (arith, rest, both, one)

all_length : (base : Base) (byte : ℕ) (digits : List ℕ) (all : List Bit) → and_then (digit_bits base byte) (λ high. digits_bits base high digits) ≡ Some all → length all ≡ digit_width base + digits_width base digits
all_length base byte digits all is = by (digit_bits base byte) refl is
  where
    by : (digit : Option (List Bit)) → digit_bits base byte ≡ digit → and_then digit (λ high. digits_bits base high digits) ≡ Some all → length all ≡ digit_width base + digits_width base digits
    by None same is = absurd (cc)
    by (Some high) same is =
        digits_length base high digits all is ∙ ap (λ n. n + digits_width base digits) (digit_length base byte high same)

sized_length : (base : Base) (width : ℕ) (text : List ℕ) (bits : List Bit) → sized_bits base width text ≡ Some bits → length bits ≡ width
sized_length base width [] bits is = absurd (cc)
sized_length base width (byte ∷ digits) bits is = by (length digits + 1 == digits_for base width) refl is
  where
    cut : (all : Option (List Bit)) → ((some : List Bit) → all ≡ Some some → width ≤ length some) → cut_to width all ≡ Some bits → length bits ≡ width
    cut None least is = absurd (cc)
    cut (Some all) least is =
        let same : take width all ≡ bits = cc in
        ap length (sym same) ∙ length-take-le width all (least all refl)

    wide : length digits + 1 ≡ digits_for base width → (all : List Bit) → and_then (digit_bits base byte) (λ high. digits_bits base high digits) ≡ Some all → width ≤ length all
    wide count all is =
        let long : length all ≡ digit_width base + digits_width base digits = all_length base byte digits all is in
        let least : width ≤ digit_width base + digits_width base digits = enough base width digits count in
        omega (arith, long, least)

    by : (exact : Bool) → (length digits + 1 == digits_for base width) ≡ exact → (if exact then cut_to width (and_then (digit_bits base byte) (λ high. digits_bits base high digits)) else None) ≡ Some bits → length bits ≡ width
    by true exact is =
        let count : length digits + 1 ≡ digits_for base width = grind (arith, nat_tests, exact) in
        cut (and_then (digit_bits base byte) (λ high. digits_bits base high digits)) (wide count) is
    by false exact is = absurd (cc)

based_length : (width : ℕ) (text : List ℕ) (bits : List Bit) → based_bits width text ≡ Some bits → length bits ≡ width
based_length width [] bits is = absurd (cc)
based_length width (letter ∷ digits) bits is = by (letter == 98) (letter == 104) is
  where
    by : (binary hexadecimal : Bool) → cond binary (sized_bits Binary width digits) (cond hexadecimal (sized_bits Hexadecimal width digits) None) ≡ Some bits → length bits ≡ width
    by true hexadecimal is = sized_length Binary width digits bits is
    by false true is = sized_length Hexadecimal width digits bits is
    by false false is = absurd (cc)

pub value_length : (width : ℕ) (text : List ℕ) (bits : List Bit) → value_bits width text ≡ Some bits → length bits ≡ width
value_length width text bits is = by (cut_at 39 text) is
  where
    known : (cut : Cut) (sized : Bool) → (if sized then based_bits width (unsigned cut.behind) else None) ≡ Some bits → length bits ≡ width
    known cut true is = based_length width (unsigned cut.behind) bits is
    known cut false is = absurd (cc)

    by : (cut : Option Cut) → cut_bits width cut ≡ Some bits → length bits ≡ width
    by None is = absurd (cc)
    by (Some cut) is = known cut (nat_lt width 129 && bytes_eq (without_zeros cut.before) (decimal width)) is
