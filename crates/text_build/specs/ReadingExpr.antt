-- It serves inner contracts and proofs; no answer of the program is stated by it.
-- The builder as functions on tokens: expressions, names with a selection, and ranges.
use Rattle.std.specs.Prelude.{ℕ, zero, suc, ◌-◌, Bool, false, if◌then◌else◌, nat_le, List, [], ◌∷◌, Option, Some, None}
use Rattle.rtl_tree.specs.declared.symbol.Symbol.{Symbol}
use Rattle.rtl_tree.specs.declared.symbol.Symbol.TheVariants as symbol
use Rattle.rtl_tree.specs.declared.tree.operators.UnaryOperator.{UnaryOperator}
use Rattle.rtl_tree.specs.declared.tree.operators.UnaryOperator.TheVariants as unary
use Rattle.rtl_tree.specs.declared.tree.operators.BinaryOperator.{BinaryOperator}
use Rattle.rtl_tree.specs.declared.tree.operators.BinaryOperator.TheVariants as binary
use Rattle.rtl_tree.specs.declared.tree.operators.SystemFunction.{SystemFunction}
use Rattle.rtl_tree.specs.declared.tree.operators.SystemFunction.TheVariants as function
use Rattle.rtl_tree.specs.declared.tree.operators.PartKind.{PartKind}
use Rattle.rtl_tree.specs.declared.tree.operators.PartKind.TheVariants as selects
use Rattle.rtl_tree.specs.Symbols.{Terminal}
use Rattle.rtl_tree.specs.TreeExpr.{Identifier, Formula, Number, Read, ReadBit, ReadPart, Parens, Apply, Concat, Repeat, Unary, Binary, Choose, formula_row, Bounds}
use Rattle.text_grammar.specs.GrammarExpr.{level, part_symbol}
use Rattle.text_build.specs.Reading.{Parser, ◌>>=◌, ◌>>◌, pure, refuse, symbol_at, starts, place, advance, mark, name, literal, either, turns, commas, add, listed}

-- the operator between operands that is written so
unfoldable pub binary_of : Symbol → Option BinaryOperator
binary_of symbol.StarStar = Some binary.Power
binary_of symbol.Star = Some binary.Multiply
binary_of symbol.Slash = Some binary.Divide
binary_of symbol.Percent = Some binary.Modulus
binary_of symbol.Plus = Some binary.Add
binary_of symbol.Minus = Some binary.Subtract
binary_of symbol.ShiftLeft = Some binary.ShiftLeft
binary_of symbol.ShiftRight = Some binary.ShiftRight
binary_of symbol.ArithmeticShiftLeft = Some binary.ArithmeticShiftLeft
binary_of symbol.ArithmeticShiftRight = Some binary.ArithmeticShiftRight
binary_of symbol.Less = Some binary.Less
binary_of symbol.LessEquals = Some binary.LessOrEqual
binary_of symbol.Greater = Some binary.Greater
binary_of symbol.GreaterEquals = Some binary.GreaterOrEqual
binary_of symbol.EqualEquals = Some binary.Equal
binary_of symbol.BangEquals = Some binary.NotEqual
binary_of symbol.CaseEquals = Some binary.CaseEqual
binary_of symbol.CaseBangEquals = Some binary.CaseNotEqual
binary_of symbol.Ampersand = Some binary.BitwiseAnd
binary_of symbol.Caret = Some binary.BitwiseXor
binary_of symbol.TildeCaret = Some binary.BitwiseXnor
binary_of symbol.Bar = Some binary.BitwiseOr
binary_of symbol.AndAnd = Some binary.LogicalAnd
binary_of symbol.OrOr = Some binary.LogicalOr
binary_of s = None

-- the operator before an operand that is written so
unfoldable pub unary_of : Symbol → Option UnaryOperator
unary_of symbol.Plus = Some unary.Plus
unary_of symbol.Minus = Some unary.Minus
unary_of symbol.Bang = Some unary.LogicalNot
unary_of symbol.Tilde = Some unary.BitwiseNot
unary_of symbol.Ampersand = Some unary.ReduceAnd
unary_of symbol.TildeAmpersand = Some unary.ReduceNand
unary_of symbol.Bar = Some unary.ReduceOr
unary_of symbol.TildeBar = Some unary.ReduceNor
unary_of symbol.Caret = Some unary.ReduceXor
unary_of symbol.TildeCaret = Some unary.ReduceXnor
unary_of s = None

abbrev pub level_or : ℕ → Option BinaryOperator → ℕ
level_or n None = n
level_or n (Some op) = level op

-- how loosely what goes on with an expression binds: `?` as level 12, and above it what doesn't go on
unfoldable pub looseness : Symbol → ℕ
looseness symbol.Question = 12
looseness s = level_or 13 (binary_of s)

abbrev pub goes_by : ℕ → Option Symbol → Bool
goes_by k None = false
goes_by k (Some s) = nat_le (looseness s) k

-- an expression goes on with an operator of at most this level
unfoldable pub goes : ℕ → List Terminal → Bool
goes k ts = goes_by k (symbol_at ts)

-- ---- names with a selection

-- a name, one bit of it, or a part of it
pub data Reference : Type 0 where
  whole : (n : Identifier) → Reference
  bit : (n : Identifier) (index : Formula) → Reference
  part : (n : Identifier) (kind : PartKind) (first second : Formula) → Reference

unfoldable pub rest_of_bit : Identifier → Formula → Parser Reference
rest_of_bit n index = mark symbol.CloseBracket >> pure (bit n index)

unfoldable pub rest_of_part : PartKind → Parser Formula → Identifier → Formula → Parser Reference
rest_of_part k e n first = mark (part_symbol k) >> e >>= (λ second. mark symbol.CloseBracket >> pure (part n k first second))

-- the kind of part that is written so
unfoldable pub part_of : Symbol → Option PartKind
part_of symbol.Colon = Some selects.Between
part_of symbol.PlusColon = Some selects.Up
part_of symbol.MinusColon = Some selects.Down
part_of s = None

abbrev pub part_by : Option Symbol → Option PartKind
part_by None = None
part_by (Some s) = part_of s

abbrev pub rest_by : Option PartKind → Parser Formula → Identifier → Formula → Parser Reference
rest_by None e n first = rest_of_bit n first
rest_by (Some k) e n first = rest_of_part k e n first

-- `[first` was read
unfoldable pub rest_of_selection : Parser Formula → Identifier → Formula → Parser Reference
rest_of_selection e n first = λ ts. rest_by (part_by (symbol_at ts)) e n first ts

unfoldable pub selection : Parser Formula → Identifier → Parser Reference
selection e n = mark symbol.OpenBracket >> e >>= rest_of_selection e n

unfoldable pub selected : Parser Formula → Identifier → Parser Reference
selected e n = either (starts symbol.OpenBracket) (selection e n) (pure (whole n))

-- a name, and what is selected of it
unfoldable pub reference : Parser Formula → Parser Reference
reference e = name >>= selected e

abbrev pub read_of : Reference → Formula
read_of (whole n) = Read n
read_of (bit n index) = ReadBit n index
read_of (part n kind first second) = ReadPart n kind first second

-- ---- operands: `e k` reads what has at most level k

unfoldable pub number : Parser Formula
number = place >>= (λ at. literal >>= (λ value. pure (Number value at)))

unfoldable pub read : Parser Formula → Parser Formula
read e = reference e >>= (λ r. pure (read_of r))

unfoldable pub parens : Parser Formula → Parser Formula
parens e = advance >>= (λ at. e >>= (λ inner. mark symbol.CloseParen >> pure (Parens at inner)))

unfoldable pub application : SystemFunction → Parser Formula → Parser Formula
application f e = advance >>= (λ at. mark symbol.OpenParen >> e >>= (λ inner. mark symbol.CloseParen >> pure (Apply f at inner)))

-- `{times` was read, and `{` comes next
unfoldable pub replication : Parser Formula → ℕ → Formula → Parser Formula
replication e at times =
    advance >> listed e >>= (λ parts. mark symbol.CloseBrace >> mark symbol.CloseBrace >> pure (Repeat at times (formula_row parts)))

-- expressions after the first
unfoldable pub more_listed : Parser Formula → Formula → Parser (List Formula)
more_listed e first = either (starts symbol.Comma) (advance >> commas (add e) (first ∷ [])) (pure (first ∷ []))

-- `{first` was read
unfoldable pub concatenation : Parser Formula → ℕ → Formula → Parser Formula
concatenation e at first =
    more_listed e first >>= (λ parts. mark symbol.CloseBrace >> pure (Concat at (formula_row parts)))

unfoldable pub braces : Parser Formula → Parser Formula
braces e =
    advance >>= (λ at. e >>= (λ first. either (starts symbol.OpenBrace) (replication e at first) (concatenation e at first)))

unfoldable pub operation : UnaryOperator → Parser Formula → Parser Formula
operation op e = advance >>= (λ at. e >>= (λ operand. pure (Unary op at operand)))

abbrev pub prefix_by : Option UnaryOperator → Parser Formula → Parser Formula
prefix_by None e = refuse
prefix_by (Some op) e = operation op e

abbrev pub operand_by : Option Symbol → (ℕ → Parser Formula) → Parser Formula
operand_by None e = refuse
operand_by (Some symbol.Number) e = number
operand_by (Some symbol.Name) e = read (e 12)
operand_by (Some symbol.OpenParen) e = parens (e 12)
operand_by (Some symbol.ToSigned) e = application function.Signed (e 12)
operand_by (Some symbol.ToUnsigned) e = application function.Unsigned (e 12)
operand_by (Some symbol.Clog2) e = application function.Clog2 (e 12)
operand_by (Some symbol.OpenBrace) e = braces (e 12)
operand_by (Some s) e = prefix_by (unary_of s) (e 0)

unfoldable pub operand : (ℕ → Parser Formula) → Parser Formula
operand e = λ ts. operand_by (symbol_at ts) e ts

-- ---- operators between operands

unfoldable pub choice : Parser Formula → Formula → Parser Formula
choice e condition =
    advance >>= (λ at. e >>= (λ taken. mark symbol.Colon >> e >>= (λ otherwise. pure (Choose at condition taken otherwise))))

unfoldable pub joint : BinaryOperator → Parser Formula → Formula → Parser Formula
joint op e left = advance >>= (λ at. e >>= (λ right. pure (Binary op at left right)))

abbrev pub link_of : Option BinaryOperator → (ℕ → Parser Formula) → Formula → Parser Formula
link_of None e left = choice (e 12) left
link_of (Some op) e left = joint op (e (level op - 1)) left

abbrev pub link_by : Option Symbol → (ℕ → Parser Formula) → Formula → Parser Formula
link_by None e left = refuse
link_by (Some s) e left = link_of (binary_of s) e left

-- what was read so far, and the operator that comes next with what follows it
unfoldable pub link : (ℕ → Parser Formula) → Formula → Parser Formula
link e left = λ ts. link_by (symbol_at ts) e left ts

-- no operator goes on
unfoldable pub ended : ℕ → Formula → Parser Formula
ended k f = λ ts. if goes k ts then None else Some (f, ts)

-- at most `d` operators, since each makes what was read one deeper
unfoldable pub chain : ℕ → ℕ → (ℕ → Parser Formula) → Formula → Parser Formula
chain d k e first = turns d (goes k) (link e) first >>= ended k

unfoldable pub sequence : ℕ → ℕ → (ℕ → Parser Formula) → Parser Formula
sequence d k e = operand e >>= chain d k e

-- an expression of at most this level, nested at most `d` deep
unfoldable pub climb : ℕ → ℕ → Parser Formula
climb zero k = refuse
climb (suc d) k = sequence d k (climb d)

abbrev pub expression : ℕ → Parser Formula
expression d = climb d 12

unfoldable pub bounds : Parser Formula → Parser Bounds
bounds e =
    advance >>= (λ at. e >>= (λ msb. mark symbol.Colon >> e >>= (λ lsb. mark symbol.CloseBracket >> pure (record { at = at; msb = msb; lsb = lsb }))))
