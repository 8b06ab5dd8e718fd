-- Powers and logarithms at work.
use Rattle.std.specs.Prelude.{ℕ, pos, negsuc, true, false, Ok, Err}
use Rattle.std.proofs.Common.{◌≡◌, refl}
use Rattle.rtl_tree.specs.declared.tree.operators.BinaryOperator.TheVariants.{Power}
use Rattle.rtl_tree.specs.declared.tree.operators.SystemFunction.TheVariants.{Signed, Clog2}
use Rattle.rtl_tree.specs.declared.tree.operators.UnaryOperator.TheVariants.{Minus}
use Rattle.rtl_tree.specs.TreeExpr.{Formula, Number, Apply, Unary, Binary}
use Rattle.rtl_const.specs.Constant.{clog2, constant}
use Rattle.rtl_const.specs.Numbers.{no_numbers}
use Rattle.rtl_const.specs.declared.fault.ConstFault.TheVariants.{NotConstant, Overflow}

abbrev whole : ℕ → ℕ → Formula
whole n at = Number (record { width = 32; val = n; unk = 0; signed = true; sized = false; radix = 10 }) at

-- 2 ** 10
thousand : constant no_numbers (Binary Power 2 (whole 2 0) (whole 10 5)) ≡ Ok (pos 1024)
thousand = refl

-- 0 ** 0
nothing : constant no_numbers (Binary Power 2 (whole 0 0) (whole 0 5)) ≡ Ok (pos 1)
nothing = refl

-- -2 ** 3
negative : constant no_numbers (Binary Power 3 (Unary Minus 0 (whole 2 1)) (whole 3 6)) ≡ Ok (negsuc 7)
negative = refl

-- 2 ** -1
fraction : constant no_numbers (Binary Power 2 (whole 2 0) (Unary Minus 5 (whole 1 6))) ≡ Err (Overflow 2)
fraction = refl

-- 2 ** 31 and 2 ** 32
widest : constant no_numbers (Binary Power 2 (whole 2 0) (whole 31 5)) ≡ Ok (pos 2147483648)
widest = refl

too_wide : constant no_numbers (Binary Power 2 (whole 2 0) (whole 32 5)) ≡ Err (Overflow 2)
too_wide = refl

-- $clog2(0), $clog2(1), $clog2(1000), $clog2(1024)
of_none : constant no_numbers (Apply Clog2 0 (whole 0 7)) ≡ Ok (pos 0)
unfolding clog2
of_none = refl

of_one : constant no_numbers (Apply Clog2 0 (whole 1 7)) ≡ Ok (pos 0)
unfolding clog2
of_one = refl

of_thousand : constant no_numbers (Apply Clog2 0 (whole 1000 7)) ≡ Ok (pos 10)
unfolding clog2
of_thousand = refl

of_power : constant no_numbers (Apply Clog2 0 (whole 1024 7)) ≡ Ok (pos 10)
unfolding clog2
of_power = refl

-- $clog2(-1)
of_negative : constant no_numbers (Apply Clog2 0 (Unary Minus 7 (whole 1 8))) ≡ Err (Overflow 0)
of_negative = refl

-- $signed(1)
conversion : constant no_numbers (Apply Signed 0 (whole 1 8)) ≡ Err (NotConstant 0)
conversion = refl
