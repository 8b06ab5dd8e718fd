-- Which operator of sized expressions an operator of the text is (IEEE 1364-2001 section 4.1).
-- Worked examples: crates/tests_layers/stdin.
use Rattle.rtl_tree.specs.declared.tree.operators.UnaryOperator.{UnaryOperator}
use Rattle.rtl_tree.specs.declared.tree.operators.UnaryOperator.TheVariants.{Plus, Minus, LogicalNot, BitwiseNot, ReduceAnd, ReduceNand, ReduceOr, ReduceNor, ReduceXor, ReduceXnor}
use Rattle.rtl_tree.specs.declared.tree.operators.BinaryOperator.{BinaryOperator}
use Rattle.rtl_tree.specs.declared.tree.operators.BinaryOperator.TheVariants.{Power, Multiply, Divide, Modulus, Add, Subtract, ShiftLeft, ShiftRight, ArithmeticShiftLeft, ArithmeticShiftRight, Less, LessOrEqual, Greater, GreaterOrEqual, Equal, NotEqual, CaseEqual, CaseNotEqual, BitwiseAnd, BitwiseXor, BitwiseXnor, BitwiseOr, LogicalAnd, LogicalOr}
use Rattle.rtl_flat.specs.declared.expr.Turn.TheVariants as turn
use Rattle.rtl_flat.specs.declared.expr.Join.TheVariants as join
use Rattle.rtl_flat.specs.declared.expr.Compare.TheVariants as compare
use Rattle.rtl_flat.specs.declared.expr.Link.TheVariants as link
use Rattle.rtl_flat.specs.declared.expr.Fold.TheVariants as fold
use Rattle.rtl_flat.specs.declared.expr.Shift.TheVariants as shift
use Rattle.elab_scope.specs.declared.operators.Prefix.{Prefix}
use Rattle.elab_scope.specs.declared.operators.Prefix.TheVariants.{Turn, Fold}
use Rattle.elab_scope.specs.declared.operators.Operation.{Operation}
use Rattle.elab_scope.specs.declared.operators.Operation.TheVariants as operation'
use Rattle.elab_scope.specs.declared.operators.Operation.TheVariants.{Join, Compare, Link, Shift}

abbrev pub prefix : UnaryOperator → Prefix
prefix Plus = Turn turn.Plus
prefix Minus = Turn turn.Minus
prefix BitwiseNot = Turn turn.Complement
prefix LogicalNot = Fold fold.Negation
prefix ReduceAnd = Fold fold.And
prefix ReduceNand = Fold fold.Nand
prefix ReduceOr = Fold fold.Or
prefix ReduceNor = Fold fold.Nor
prefix ReduceXor = Fold fold.Xor
prefix ReduceXnor = Fold fold.Xnor

-- `<<<` is `<<`
abbrev pub operation : BinaryOperator → Operation
operation Power = operation'.Power
operation Multiply = Join join.Multiply
operation Divide = Join join.Divide
operation Modulus = Join join.Remainder
operation Add = Join join.Add
operation Subtract = Join join.Subtract
operation ShiftLeft = Shift shift.Left
operation ArithmeticShiftLeft = Shift shift.Left
operation ShiftRight = Shift shift.Right
operation ArithmeticShiftRight = Shift shift.ArithmeticRight
operation Less = Compare compare.Less
operation LessOrEqual = Compare compare.LessOrEqual
operation Greater = Compare compare.Greater
operation GreaterOrEqual = Compare compare.GreaterOrEqual
operation Equal = Compare compare.Equal
operation NotEqual = Compare compare.NotEqual
operation CaseEqual = Compare compare.CaseEqual
operation CaseNotEqual = Compare compare.CaseNotEqual
operation BitwiseAnd = Join join.And
operation BitwiseXor = Join join.Xor
operation BitwiseXnor = Join join.Xnor
operation BitwiseOr = Join join.Or
operation LogicalAnd = Link link.And
operation LogicalOr = Link link.Or
