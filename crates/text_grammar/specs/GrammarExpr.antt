-- Which tokens spell which expression (IEEE 1364-2001 annexes A.8.3 and A.8.4, precedence by 4.1.2): one case for each alternative.
-- Worked examples: crates/tests_layers/stdin.
use Rattle.std.specs.Prelude.{ℕ, ◌-◌, ◌≤◌}
use Rattle.rtl_tree.specs.declared.tree.operators.UnaryOperator.{UnaryOperator}
use Rattle.rtl_tree.specs.declared.tree.operators.UnaryOperator.TheVariants as unary
use Rattle.rtl_tree.specs.declared.tree.operators.BinaryOperator.{BinaryOperator}
use Rattle.rtl_tree.specs.declared.tree.operators.BinaryOperator.TheVariants as binary
use Rattle.rtl_tree.specs.declared.tree.operators.SystemFunction.{SystemFunction}
use Rattle.rtl_tree.specs.declared.tree.operators.SystemFunction.TheVariants as function
use Rattle.rtl_tree.specs.declared.tree.operators.PartKind.{PartKind}
use Rattle.rtl_tree.specs.declared.tree.operators.PartKind.TheVariants as part
use Rattle.rtl_tree.specs.declared.symbol.Symbol.{Symbol}
use Rattle.rtl_tree.specs.declared.symbol.Symbol.TheVariants.{ToSigned, ToUnsigned, Clog2, OpenParen, CloseParen, OpenBracket, CloseBracket, OpenBrace, CloseBrace, Colon, Comma, Question, Plus, Minus, PlusColon, MinusColon, StarStar, Star, Slash, Percent, Bang, Tilde, Ampersand, TildeAmpersand, Bar, TildeBar, Caret, TildeCaret, ShiftLeft, ShiftRight, ArithmeticShiftLeft, ArithmeticShiftRight, Less, LessEquals, Greater, GreaterEquals, EqualEquals, BangEquals, CaseEquals, CaseBangEquals, AndAnd, OrOr}
use Rattle.rtl_tree.specs.TreeExpr.{Formula, Number, Read, ReadBit, ReadPart, Parens, Apply, Concat, Repeat, Unary, Binary, Choose, Formulas, no_formulas, more_formulas, Bounds}
use Rattle.text_grammar.specs.Grammar.{Spelling, ◌⨾◌, Nothing, Never, IsA, IsAt, IsName, IsNumberAt}

-- the mark of an operator before its operand
abbrev pub unary_symbol : UnaryOperator → Symbol
unary_symbol unary.Plus = Plus
unary_symbol unary.Minus = Minus
unary_symbol unary.LogicalNot = Bang
unary_symbol unary.BitwiseNot = Tilde
unary_symbol unary.ReduceAnd = Ampersand
unary_symbol unary.ReduceNand = TildeAmpersand
unary_symbol unary.ReduceOr = Bar
unary_symbol unary.ReduceNor = TildeBar
unary_symbol unary.ReduceXor = Caret
unary_symbol unary.ReduceXnor = TildeCaret

-- the mark of an operator between its operands
abbrev pub binary_symbol : BinaryOperator → Symbol
binary_symbol binary.Power = StarStar
binary_symbol binary.Multiply = Star
binary_symbol binary.Divide = Slash
binary_symbol binary.Modulus = Percent
binary_symbol binary.Add = Plus
binary_symbol binary.Subtract = Minus
binary_symbol binary.ShiftLeft = ShiftLeft
binary_symbol binary.ShiftRight = ShiftRight
binary_symbol binary.ArithmeticShiftLeft = ArithmeticShiftLeft
binary_symbol binary.ArithmeticShiftRight = ArithmeticShiftRight
binary_symbol binary.Less = Less
binary_symbol binary.LessOrEqual = LessEquals
binary_symbol binary.Greater = Greater
binary_symbol binary.GreaterOrEqual = GreaterEquals
binary_symbol binary.Equal = EqualEquals
binary_symbol binary.NotEqual = BangEquals
binary_symbol binary.CaseEqual = CaseEquals
binary_symbol binary.CaseNotEqual = CaseBangEquals
binary_symbol binary.BitwiseAnd = Ampersand
binary_symbol binary.BitwiseXor = Caret
binary_symbol binary.BitwiseXnor = TildeCaret
binary_symbol binary.BitwiseOr = Bar
binary_symbol binary.LogicalAnd = AndAnd
binary_symbol binary.LogicalOr = OrOr

-- how loosely an operator binds: operands and operators before one operand have level 0
abbrev pub level : BinaryOperator → ℕ
level binary.Power = 1
level binary.Multiply = 2
level binary.Divide = 2
level binary.Modulus = 2
level binary.Add = 3
level binary.Subtract = 3
level binary.ShiftLeft = 4
level binary.ShiftRight = 4
level binary.ArithmeticShiftLeft = 4
level binary.ArithmeticShiftRight = 4
level binary.Less = 5
level binary.LessOrEqual = 5
level binary.Greater = 5
level binary.GreaterOrEqual = 5
level binary.Equal = 6
level binary.NotEqual = 6
level binary.CaseEqual = 6
level binary.CaseNotEqual = 6
level binary.BitwiseAnd = 7
level binary.BitwiseXor = 8
level binary.BitwiseXnor = 8
level binary.BitwiseOr = 9
level binary.LogicalAnd = 10
level binary.LogicalOr = 11

-- the level of `?:`, and so of any expression
abbrev pub loosest : ℕ
loosest = 12

abbrev pub function_symbol : SystemFunction → Symbol
function_symbol function.Signed = ToSigned
function_symbol function.Unsigned = ToUnsigned
function_symbol function.Clog2 = Clog2

-- what stands between the two expressions of a select
abbrev pub part_symbol : PartKind → Symbol
part_symbol part.Between = Colon
part_symbol part.Up = PlusColon
part_symbol part.Down = MinusColon

abbrev mutual
  -- an expression whose operators outside parentheses have at most this level; binary ones group to the left, `?:` to the right
  pub IsFormula : ℕ → Formula → Spelling
  IsFormula k (Number value at) = IsNumberAt value at
  IsFormula k (Read name) = IsName name
  IsFormula k (ReadBit name index) = IsName name ⨾ IsA OpenBracket ⨾ IsFormula 12 index ⨾ IsA CloseBracket
  IsFormula k (ReadPart name kind first second) =
      IsName name ⨾ IsA OpenBracket ⨾ IsFormula 12 first ⨾ IsA (part_symbol kind) ⨾ IsFormula 12 second ⨾ IsA CloseBracket
  IsFormula k (Parens at inner) = IsAt OpenParen at ⨾ IsFormula 12 inner ⨾ IsA CloseParen
  IsFormula k (Apply function at inner) =
      IsAt (function_symbol function) at ⨾ IsA OpenParen ⨾ IsFormula 12 inner ⨾ IsA CloseParen
  IsFormula k (Concat at parts) = IsAt OpenBrace at ⨾ AreFormulas parts ⨾ IsA CloseBrace
  IsFormula k (Repeat at times parts) =
      IsAt OpenBrace at ⨾ IsFormula 12 times ⨾ IsA OpenBrace ⨾ AreFormulas parts ⨾ IsA CloseBrace ⨾ IsA CloseBrace
  IsFormula k (Unary operator at operand) = IsAt (unary_symbol operator) at ⨾ IsFormula 0 operand
  IsFormula k (Binary operator at left right) =
      λ tokens rest. (level operator ≤ k) × (IsFormula (level operator) left ⨾ IsAt (binary_symbol operator) at ⨾ IsFormula (level operator - 1) right) tokens rest
  IsFormula k (Choose at condition taken otherwise) =
      λ tokens rest. (12 ≤ k) × (IsFormula 11 condition ⨾ IsAt Question at ⨾ IsFormula 12 taken ⨾ IsA Colon ⨾ IsFormula 12 otherwise) tokens rest

  -- one or more expressions, with commas between them
  pub AreFormulas : Formulas → Spelling
  AreFormulas no_formulas = Never
  AreFormulas (more_formulas first others) = IsFormula 12 first ⨾ AreMoreFormulas others

  -- further expressions, each after a comma
  pub AreMoreFormulas : Formulas → Spelling
  AreMoreFormulas no_formulas = Nothing
  AreMoreFormulas (more_formulas first others) = IsA Comma ⨾ IsFormula 12 first ⨾ AreMoreFormulas others

-- any expression
abbrev pub IsExpression : Formula → Spelling
IsExpression = IsFormula loosest

-- the range of a declaration
abbrev pub IsBounds : Bounds → Spelling
IsBounds bounds =
    IsAt OpenBracket bounds.at ⨾ IsExpression bounds.msb ⨾ IsA Colon ⨾ IsExpression bounds.lsb ⨾ IsA CloseBracket
