-- It serves inner contracts and proofs; no answer of the program is stated by it.
-- What becomes of a task, by the next token alone. Expressions.
use Rattle.std.specs.Prelude.{ℕ, Bool, false, if◌then◌else◌, nat_eq, List, [], ◌∷◌, Option, Some, None}
use denote.Enum.Bare.{sameb}
use Rattle.rtl_tree.specs.contracts.symbol.Symbol.{the_type}
use Rattle.rtl_tree.specs.declared.symbol.Symbol.{Symbol}
use Rattle.rtl_tree.specs.declared.symbol.Symbol.TheVariants as symbol
use Rattle.text_survey.specs.declared.task.Level.{Level}
use Rattle.text_survey.specs.declared.task.Level.TheVariants as level
use Rattle.text_survey.specs.declared.task.Task.{Task}
use Rattle.text_survey.specs.declared.task.Task.TheVariants as task
use Rattle.text_survey.specs.declared.task.Taking.{Taking}
use Rattle.text_survey.specs.declared.task.Taking.TheVariants as taking
use Rattle.text_survey.specs.declared.task.Move as code

-- what happens to the next token, and what is to be done in a task's stead
pub record Step : Type 0 where
  pub taking : Taking
  pub tasks : List Task

abbrev pub plain : code.Move → Step
plain m = record { taking = m.taking; tasks = m.tasks.now }

unfoldable pub same_symbol : Symbol → Symbol → Bool
same_symbol a b = sameb the_type a b

-- this token comes next
abbrev pub is_next : Symbol → Option Symbol → Bool
is_next mark None = false
is_next mark (Some first) = same_symbol first mark

abbrev pub go : Taking → List Task → Option Step
go taking tasks = Some (record { taking = taking; tasks = tasks })

-- a token with this symbol, and what follows it
abbrev pub required : Symbol → Option Symbol → List Task → Option Step
required mark next tasks = if is_next mark next then go taking.Token tasks else None

-- the same, where it may be left out
abbrev pub optional : Symbol → Option Symbol → List Task → Option Step
optional mark next tasks = if is_next mark next then go taking.Token tasks else go taking.Nothing []

-- things, unless this token comes first
abbrev pub unless : Symbol → Option Symbol → List Task → Option Step
unless mark next tasks = if is_next mark next then go taking.Nothing [] else go taking.Nothing tasks

-- how loosely the operators of a level bind
abbrev pub rank : Level → ℕ
rank level.Operand = 0
rank level.Power = 1
rank level.Product = 2
rank level.Sum = 3
rank level.Shift = 4
rank level.Comparison = 5
rank level.Equality = 6
rank level.And = 7
rank level.Xor = 8
rank level.Or = 9
rank level.LogicalAnd = 10
rank level.LogicalOr = 11

-- the level of the right operand
abbrev pub tighter : Level → Level
tighter level.Operand = level.Operand
tighter level.Power = level.Operand
tighter level.Product = level.Power
tighter level.Sum = level.Product
tighter level.Shift = level.Sum
tighter level.Comparison = level.Shift
tighter level.Equality = level.Comparison
tighter level.And = level.Equality
tighter level.Xor = level.And
tighter level.Or = level.Xor
tighter level.LogicalAnd = level.Or
tighter level.LogicalOr = level.LogicalAnd

-- the rank of the operator that comes next: 0 for a select, 12 for `?`, 13 where an expression ends
abbrev pub looseness : Option Symbol → ℕ
looseness (Some symbol.OpenBracket) = 0
looseness (Some symbol.StarStar) = 1
looseness (Some symbol.Star) = 2
looseness (Some symbol.Slash) = 2
looseness (Some symbol.Percent) = 2
looseness (Some symbol.Plus) = 3
looseness (Some symbol.Minus) = 3
looseness (Some symbol.ShiftLeft) = 4
looseness (Some symbol.ShiftRight) = 4
looseness (Some symbol.ArithmeticShiftLeft) = 4
looseness (Some symbol.ArithmeticShiftRight) = 4
looseness (Some symbol.Less) = 5
looseness (Some symbol.LessEquals) = 5
looseness (Some symbol.Greater) = 5
looseness (Some symbol.GreaterEquals) = 5
looseness (Some symbol.EqualEquals) = 6
looseness (Some symbol.BangEquals) = 6
looseness (Some symbol.CaseEquals) = 6
looseness (Some symbol.CaseBangEquals) = 6
looseness (Some symbol.Ampersand) = 7
looseness (Some symbol.Caret) = 8
looseness (Some symbol.TildeCaret) = 8
looseness (Some symbol.Bar) = 9
looseness (Some symbol.AndAnd) = 10
looseness (Some symbol.OrOr) = 11
looseness (Some symbol.Question) = 12
looseness next = 13

-- an operand after the operator before it
abbrev pub signed : Option Symbol → Option Step
signed (Some symbol.Plus) = go taking.Operator (task.Level level.Operand ∷ task.Wrap ∷ [])
signed (Some symbol.Minus) = go taking.Operator (task.Level level.Operand ∷ task.Wrap ∷ [])
signed (Some symbol.Bang) = go taking.Operator (task.Level level.Operand ∷ task.Wrap ∷ [])
signed (Some symbol.Tilde) = go taking.Operator (task.Level level.Operand ∷ task.Wrap ∷ [])
signed (Some symbol.Ampersand) = go taking.Operator (task.Level level.Operand ∷ task.Wrap ∷ [])
signed (Some symbol.TildeAmpersand) = go taking.Operator (task.Level level.Operand ∷ task.Wrap ∷ [])
signed (Some symbol.Bar) = go taking.Operator (task.Level level.Operand ∷ task.Wrap ∷ [])
signed (Some symbol.TildeBar) = go taking.Operator (task.Level level.Operand ∷ task.Wrap ∷ [])
signed (Some symbol.Caret) = go taking.Operator (task.Level level.Operand ∷ task.Wrap ∷ [])
signed (Some symbol.TildeCaret) = go taking.Operator (task.Level level.Operand ∷ task.Wrap ∷ [])
signed next = None

abbrev pub operand : Option Symbol → Option Step
operand (Some symbol.Number) = go taking.Node (task.Wrap ∷ [])
operand (Some symbol.Name) = go taking.Node (task.Select ∷ task.Wrap ∷ [])
operand (Some symbol.OpenParen) = go taking.Node (task.Expression ∷ task.Expect symbol.CloseParen ∷ task.Wrap ∷ [])
operand (Some symbol.ToSigned) = go taking.Node (task.Expect symbol.OpenParen ∷ task.Expression ∷ task.Expect symbol.CloseParen ∷ task.Wrap ∷ [])
operand (Some symbol.ToUnsigned) = go taking.Node (task.Expect symbol.OpenParen ∷ task.Expression ∷ task.Expect symbol.CloseParen ∷ task.Wrap ∷ [])
operand (Some symbol.Clog2) = go taking.Node (task.Expect symbol.OpenParen ∷ task.Expression ∷ task.Expect symbol.CloseParen ∷ task.Wrap ∷ [])
operand (Some symbol.OpenBrace) = go taking.Node (task.Expression ∷ task.Parts ∷ task.Wrap ∷ [])
operand next = signed next

abbrev pub choice : Option Symbol → Option Step
choice (Some symbol.Question) = go taking.Operator (task.Expression ∷ task.Expect symbol.Colon ∷ task.Expression ∷ task.Wrap ∷ [])
choice next = go taking.Nothing []

abbrev pub select_end : Option Symbol → Option Step
select_end (Some symbol.CloseBracket) = go taking.Token []
select_end (Some symbol.Colon) = go taking.Token (task.Expression ∷ task.Expect symbol.CloseBracket ∷ [])
select_end (Some symbol.PlusColon) = go taking.Token (task.Expression ∷ task.Expect symbol.CloseBracket ∷ [])
select_end (Some symbol.MinusColon) = go taking.Token (task.Expression ∷ task.Expect symbol.CloseBracket ∷ [])
select_end next = None

abbrev pub parts : Option Symbol → Option Step
parts (Some symbol.OpenBrace) = go taking.Token (task.Expression ∷ task.Expressions ∷ task.Expect symbol.CloseBrace ∷ task.Expect symbol.CloseBrace ∷ [])
parts next = go taking.Nothing (task.Expressions ∷ task.Expect symbol.CloseBrace ∷ [])

abbrev pub leveled : Level → Option Symbol → Option Step
leveled level.Operand next = operand next
leveled k next = go taking.Nothing (task.Level (tighter k) ∷ task.Chain k ∷ [])

-- an operator of this level with its right operand, and further ones
abbrev pub link : Level → Option Step
link k = go taking.Operator (task.Level (tighter k) ∷ task.Join ∷ task.Wrap ∷ task.Chain k ∷ [])

abbrev pub chain : Level → Option Symbol → Option Step
chain k next = if nat_eq (looseness next) (rank k) then link k else go taking.Nothing []
