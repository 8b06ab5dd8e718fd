-- What a constant expression is worth: a whole number without a width (IEEE 1364-2001 section 4.1), or why it has none.
-- Worked examples: proofs/Example.antt, crates/elab_items/proofs/Examples.antt, crates/tests_layers/stdin.
use Rattle.std.specs.Prelude.{ℕ, zero, ◌-◌, ◌^◌, nat_le, ◌==◌, ℤ, pos, negsuc, neg_ℤ, ◌+ℤ◌, ◌-ℤ◌, ◌*ℤ◌, int_lt, int_le, int_div, int_rem, Bool, true, false, not, ◌&&◌, ◌||◌, if◌then◌else◌, Option, None, Some, Result, Ok, Err}
use Rattle.std.specs.Int.{int_div_euclid, int_pow}
use Rattle.std.specs.List.{position_or_len, range_with_len}
use Rattle.std.specs.Ordering.{int_eq}
use Rattle.rtl_tree.specs.declared.literal.Literal.{Literal}
use Rattle.rtl_tree.specs.declared.tree.operators.UnaryOperator.{UnaryOperator}
use Rattle.rtl_tree.specs.declared.tree.operators.UnaryOperator.TheVariants.{Plus, Minus, LogicalNot}
use Rattle.rtl_tree.specs.declared.tree.operators.BinaryOperator.{BinaryOperator}
use Rattle.rtl_tree.specs.declared.tree.operators.BinaryOperator.TheVariants.{Power, Multiply, Divide, Modulus, Add, Subtract, ShiftLeft, ShiftRight, ArithmeticShiftLeft, ArithmeticShiftRight, Less, LessOrEqual, Greater, GreaterOrEqual, Equal, NotEqual, CaseEqual, CaseNotEqual, BitwiseAnd, BitwiseXor, BitwiseXnor, BitwiseOr, LogicalAnd, LogicalOr}
use Rattle.rtl_tree.specs.declared.tree.operators.SystemFunction.TheVariants.{Clog2}
use Rattle.rtl_tree.specs.TreeExpr.{Formula, Number, Read, Parens, Apply, Unary, Binary, Choose, formula_place}
use Rattle.rtl_const.specs.Numbers.{Numbers}
use Rattle.rtl_const.specs.declared.fault.ConstFault.{ConstFault}
use Rattle.rtl_const.specs.declared.fault.ConstFault.TheVariants.{NotConstant, Overflow, DivideByZero}

-- a number, or the first fault
abbrev pub Outcome : Type 0
Outcome = Result ℤ ConstFault

-- the number that arises at a place, which is to lie from -2147483648 to 4294967295
abbrev pub ranged : ℕ → ℤ → Outcome
ranged at n =
    if int_le (negsuc 2147483647) n && int_le n (pos 4294967295) then Ok n else Err (Overflow at)

-- what follows where there is a number
abbrev pub then_with : Outcome → (ℤ → Outcome) → Outcome
then_with (Ok n) next = next n
then_with (Err fault) next = Err fault

-- the number of a name
abbrev pub named : ℕ → Option ℤ → Outcome
named at None = Err (NotConstant at)
named at (Some n) = ranged at n

-- the number of a literal's bits, of which the highest counts negatively where the literal is signed
abbrev pub literal_number : Literal → ℤ
literal_number l =
    let weight = 2 ^ (l.width - 1) in
    if l.signed && nat_le weight l.val then pos (l.val - weight) -ℤ pos weight else pos l.val

-- a literal without x and z bits has a number
abbrev pub literal : ℕ → Literal → Outcome
literal at l = if l.unk == 0 then ranged at (literal_number l) else Err (NotConstant at)

-- 1 for true and 0 for false
abbrev pub truth : Bool → ℤ
truth true = pos 1
truth false = pos 0

-- every number but 0 is true
abbrev pub is_true : ℤ → Bool
is_true (pos zero) = false
is_true _ = true

-- a quotient or a remainder, which 0 has not
abbrev pub divided : ℕ → (ℤ → ℤ → ℤ) → ℤ → ℤ → Outcome
divided at divide a (pos zero) = Err (DivideByZero at)
divided at divide a b = ranged at (divide a b)

-- a times 2 to the n, where n isn't negative
abbrev pub shifted_left : ℕ → ℤ → ℤ → Outcome
shifted_left at a (pos n) = ranged at (a *ℤ pos (2 ^ n))
shifted_left at a (negsuc n) = Err (Overflow at)

-- a divided by 2 to the n, rounded down, where n isn't negative
abbrev pub shifted_right : ℕ → ℤ → ℤ → Outcome
shifted_right at a (pos n) = ranged at (int_div_euclid a (pos (2 ^ n)))
shifted_right at a (negsuc n) = Err (Overflow at)

-- a to the n, where n isn't negative; 0 to the 0 is 1
abbrev pub raised : ℕ → ℤ → ℤ → Outcome
raised at a (pos n) = ranged at (int_pow a n)
raised at a (negsuc n) = Err (Overflow at)

-- the least k for which 2 to the k is n or more, where n has no more than 128 bits
unfoldable pub clog2 : ℕ → ℕ
clog2 n = position_or_len (λ k. nat_le n (2 ^ k)) (range_with_len 0 129)

-- the logarithm of n to the base 2, rounded up, where n isn't negative; 0 of 0
abbrev pub logarithm : ℕ → ℤ → Outcome
logarithm at (pos n) = Ok (pos (clog2 n))
logarithm at (negsuc n) = Err (Overflow at)

-- the operators of constant expressions between two operands
abbrev pub is_constant_operator : BinaryOperator → Bool
is_constant_operator CaseEqual = false
is_constant_operator CaseNotEqual = false
is_constant_operator BitwiseAnd = false
is_constant_operator BitwiseXor = false
is_constant_operator BitwiseXnor = false
is_constant_operator BitwiseOr = false
is_constant_operator _ = true

-- what an operator gives of its operand's number
abbrev pub applied : UnaryOperator → ℕ → ℤ → Outcome
applied Plus at a = Ok a
applied Minus at a = ranged at (neg_ℤ a)
applied LogicalNot at a = Ok (truth (not (is_true a)))
applied _ at a = Err (NotConstant at)

-- what an operator gives of its operands' numbers: `/` goes towards zero, and `%` has the sign of its left operand
abbrev pub combined : BinaryOperator → ℕ → ℤ → ℤ → Outcome
combined Power at a b = raised at a b
combined Multiply at a b = ranged at (a *ℤ b)
combined Divide at a b = divided at int_div a b
combined Modulus at a b = divided at int_rem a b
combined Add at a b = ranged at (a +ℤ b)
combined Subtract at a b = ranged at (a -ℤ b)
combined ShiftLeft at a b = shifted_left at a b
combined ArithmeticShiftLeft at a b = shifted_left at a b
combined ShiftRight at a b = shifted_right at a b
combined ArithmeticShiftRight at a b = shifted_right at a b
combined Less at a b = Ok (truth (int_lt a b))
combined LessOrEqual at a b = Ok (truth (int_le a b))
combined Greater at a b = Ok (truth (int_lt b a))
combined GreaterOrEqual at a b = Ok (truth (int_le b a))
combined Equal at a b = Ok (truth (int_eq a b))
combined NotEqual at a b = Ok (truth (not (int_eq a b)))
combined LogicalAnd at a b = Ok (truth (is_true a && is_true b))
combined LogicalOr at a b = Ok (truth (is_true a || is_true b))
combined _ at a b = Err (NotConstant at)

-- the operators of constant expressions before one operand
abbrev pub is_constant_prefix : UnaryOperator → Bool
is_constant_prefix Plus = true
is_constant_prefix Minus = true
is_constant_prefix LogicalNot = true
is_constant_prefix _ = false

-- the number of an expression: operands from left to right and then their operator; of a choice the condition and
-- the arm that it takes; nothing of a form that isn't constant
abbrev pub constant : Numbers → Formula → Outcome
constant numbers (Number value at) = literal at value
constant numbers (Read name) = named name.at (numbers name.text)
constant numbers (Parens at inner) = constant numbers inner
constant numbers (Apply Clog2 at inner) = then_with (constant numbers inner) (logarithm at)
constant numbers (Unary operator at operand) =
    if is_constant_prefix operator
    then then_with (constant numbers operand) (applied operator at)
    else Err (NotConstant at)
constant numbers (Binary operator at left right) =
    if is_constant_operator operator
    then then_with (constant numbers left) (λ a. then_with (constant numbers right) (combined operator at a))
    else Err (NotConstant at)
constant numbers (Choose at condition taken otherwise) =
    then_with (constant numbers condition)
    (λ n. if is_true n then constant numbers taken else constant numbers otherwise)
constant numbers e = Err (NotConstant (formula_place e))
