-- The numbers of constant expressions lie from -2147483648 to 4294967295.
use Rattle.std.specs.Prelude.{ℕ, zero, suc, ◌^◌, ◌≤◌, ◌==◌, ℤ, pos, negsuc, neg_ℤ, ◌+ℤ◌, ◌-ℤ◌, ◌*ℤ◌, ◌≤ℤ◌, int_lt, int_le, int_div, int_rem, Bool, true, false, not, ◌&&◌, ◌||◌, nat_le, if◌then◌else◌, Option, None, Some, Ok, Err, IfOk}
use Rattle.std.specs.Int.{int_div_euclid, int_pow}
use Rattle.std.specs.List.{range_with_len}
use Rattle.std.specs.Ordering.{int_eq}
use Rattle.std.proofs.Common.{arith, inl, inr}
use Rattle.std.proofs.lemmas.Bool.{cases_Bool}
use Rattle.std.proofs.lemmas.Int.{ints}
use Rattle.std.proofs.lemmas.List.Sums.{prefix_len-le-length}
use Rattle.std.proofs.lemmas.List.FromFn.{length-range_with_len}
use Rattle.rtl_tree.specs.declared.literal.Literal.{Literal}
use Rattle.rtl_tree.specs.declared.tree.operators.UnaryOperator.{UnaryOperator}
use Rattle.rtl_tree.specs.declared.tree.operators.UnaryOperator.TheVariants as prefix
use Rattle.rtl_tree.specs.declared.tree.operators.BinaryOperator.{BinaryOperator}
use Rattle.rtl_tree.specs.declared.tree.operators.BinaryOperator.TheVariants as binary
use Rattle.rtl_tree.specs.declared.tree.operators.SystemFunction.TheVariants.{Signed, Unsigned, Clog2}
use Rattle.rtl_tree.specs.TreeExpr.{Formula, Number, Read, ReadBit, ReadPart, Parens, Apply, Concat, Repeat, Unary, Binary, Choose}
use Rattle.rtl_const.specs.Constant.{Outcome, applied, clog2, combined, constant, divided, is_constant_operator, is_constant_prefix, is_true, literal, literal_number, logarithm, named, raised, ranged, shifted_left, shifted_right, then_with, truth}
use Rattle.rtl_const.specs.declared.fault.ConstFault.{ConstFault}
use Rattle.rtl_const.specs.declared.fault.ConstFault.TheVariants.{NotConstant}
use Rattle.rtl_const.specs.Numbers.{Numbers}

-- a number is one of those, where there is one
abbrev pub IsRanged : Outcome → Type 0
IsRanged o = IfOk o (λ n. (negsuc 2147483647 ≤ℤ n) × (n ≤ℤ pos 4294967295))

pub ranged_is : (at : ℕ) (n : ℤ) → IsRanged (ranged at n)
ranged_is at n =
    elim (cases_Bool (int_le (negsuc 2147483647) n && int_le n (pos 4294967295))) [
      | inl yes' ↦ rw yes' (grind (arith, ints), grind (arith, ints))
      | inr no' ↦ rw no' tt
    ]

then_is : (o : Outcome) (next : ℤ → Outcome) → IsRanged o → ((n : ℤ) → IsRanged (Ok n) → IsRanged (next n)) → IsRanged (then_with o next)
then_is (Ok n) next h f = f n h
then_is (Err fault) next h f = tt

truth_is : (b : Bool) → IsRanged (Ok (truth b))
truth_is true = (omega (arith, ints), omega (arith, ints))
truth_is false = (omega (arith, ints), omega (arith, ints))

divided_is : (at : ℕ) (divide : ℤ → ℤ → ℤ) (a b : ℤ) → IsRanged (divided at divide a b)
divided_is at divide a (pos zero) = tt
divided_is at divide a (pos (suc n)) = ranged_is at (divide a (pos (suc n)))
divided_is at divide a (negsuc n) = ranged_is at (divide a (negsuc n))

left_is : (at : ℕ) (a b : ℤ) → IsRanged (shifted_left at a b)
left_is at a (pos n) = ranged_is at (a *ℤ pos (2 ^ n))
left_is at a (negsuc n) = tt

right_is : (at : ℕ) (a b : ℤ) → IsRanged (shifted_right at a b)
right_is at a (pos n) = ranged_is at (int_div_euclid a (pos (2 ^ n)))
right_is at a (negsuc n) = tt

raised_is : (at : ℕ) (a b : ℤ) → IsRanged (raised at a b)
raised_is at a (pos n) = ranged_is at (int_pow a n)
raised_is at a (negsuc n) = tt

few : (n : ℕ) → clog2 n ≤ 129
unfolding clog2
few n = omega (arith, prefix_len-le-length (λ k. not (nat_le n (2 ^ k))) (range_with_len 0 129), length-range_with_len 0 129)

logarithm_is : (at : ℕ) (a : ℤ) → IsRanged (logarithm at a)
logarithm_is at (pos n) = let most = few n in (omega (arith, ints), omega (arith, ints, most))
logarithm_is at (negsuc n) = tt

applied_is : (operator : UnaryOperator) (at : ℕ) (a : ℤ) → IsRanged (Ok a) → IsRanged (applied operator at a)
applied_is prefix.Plus at a h = h
applied_is prefix.Minus at a h = ranged_is at (neg_ℤ a)
applied_is prefix.LogicalNot at a h = truth_is (not (is_true a))
applied_is prefix.BitwiseNot at a h = tt
applied_is prefix.ReduceAnd at a h = tt
applied_is prefix.ReduceNand at a h = tt
applied_is prefix.ReduceOr at a h = tt
applied_is prefix.ReduceNor at a h = tt
applied_is prefix.ReduceXor at a h = tt
applied_is prefix.ReduceXnor at a h = tt

combined_is : (operator : BinaryOperator) (at : ℕ) (a b : ℤ) → IsRanged (combined operator at a b)
combined_is binary.Power at a b = raised_is at a b
combined_is binary.Multiply at a b = ranged_is at (a *ℤ b)
combined_is binary.Divide at a b = divided_is at int_div a b
combined_is binary.Modulus at a b = divided_is at int_rem a b
combined_is binary.Add at a b = ranged_is at (a +ℤ b)
combined_is binary.Subtract at a b = ranged_is at (a -ℤ b)
combined_is binary.ShiftLeft at a b = left_is at a b
combined_is binary.ArithmeticShiftLeft at a b = left_is at a b
combined_is binary.ShiftRight at a b = right_is at a b
combined_is binary.ArithmeticShiftRight at a b = right_is at a b
combined_is binary.Less at a b = truth_is (int_lt a b)
combined_is binary.LessOrEqual at a b = truth_is (int_le a b)
combined_is binary.Greater at a b = truth_is (int_lt b a)
combined_is binary.GreaterOrEqual at a b = truth_is (int_le b a)
combined_is binary.Equal at a b = truth_is (int_eq a b)
combined_is binary.NotEqual at a b = truth_is (not (int_eq a b))
combined_is binary.CaseEqual at a b = tt
combined_is binary.CaseNotEqual at a b = tt
combined_is binary.BitwiseAnd at a b = tt
combined_is binary.BitwiseXor at a b = tt
combined_is binary.BitwiseXnor at a b = tt
combined_is binary.BitwiseOr at a b = tt
combined_is binary.LogicalAnd at a b = truth_is (is_true a && is_true b)
combined_is binary.LogicalOr at a b = truth_is (is_true a || is_true b)

where_is : (b : Bool) (o : Outcome) (fault : ConstFault) → IsRanged o → IsRanged (if b then o else Err fault)
where_is true o fault h = h
where_is false o fault h = tt

either_is : (b : Bool) (o p : Outcome) → IsRanged o → IsRanged p → IsRanged (if b then o else p)
either_is true o p h k = h
either_is false o p h k = k

literal_is : (at : ℕ) (l : Literal) → IsRanged (literal at l)
literal_is at l = where_is (l.unk == 0) (ranged at (literal_number l)) (NotConstant at) (ranged_is at (literal_number l))

named_is : (at : ℕ) (n : Option ℤ) → IsRanged (named at n)
named_is at None = tt
named_is at (Some n) = ranged_is at n

-- each constant expression has a number of those, or none
pub constant_is : (numbers : Numbers) (e : Formula) → IsRanged (constant numbers e)
constant_is numbers (Number value at) = literal_is at value
constant_is numbers (Read name) = named_is name.at (numbers name.text)
constant_is numbers (ReadBit name index) = tt
constant_is numbers (ReadPart name kind first second) = tt
constant_is numbers (Parens at inner) = constant_is numbers inner
constant_is numbers (Apply Signed at inner) = tt
constant_is numbers (Apply Unsigned at inner) = tt
constant_is numbers (Apply Clog2 at inner) =
    then_is (constant numbers inner) (logarithm at) (constant_is numbers inner) (λ n h. logarithm_is at n)
constant_is numbers (Concat at parts) = tt
constant_is numbers (Repeat at times parts) = tt
constant_is numbers (Unary operator at operand) =
    where_is (is_constant_prefix operator) _ _ (then_is (constant numbers operand) (applied operator at) (constant_is numbers operand) (applied_is operator at))
constant_is numbers (Binary operator at left right) =
    where_is (is_constant_operator operator) _ _ (then_is (constant numbers left) _ (constant_is numbers left) (λ a h. then_is (constant numbers right) (combined operator at a) (constant_is numbers right) (λ b k. combined_is operator at a b)))
constant_is numbers (Choose at condition taken otherwise) =
    then_is (constant numbers condition) _ (constant_is numbers condition) (λ n h. either_is (is_true n) _ _ (constant_is numbers taken) (constant_is numbers otherwise))
