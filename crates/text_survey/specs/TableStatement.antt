-- It serves inner contracts and proofs; no answer of the program is stated by it.
-- What becomes of the tasks of statements.
use Rattle.std.specs.Prelude.{[], ◌∷◌, Option, Some, None}
use Rattle.rtl_tree.specs.declared.symbol.Symbol.{Symbol}
use Rattle.rtl_tree.specs.declared.symbol.Symbol.TheVariants as symbol
use Rattle.text_survey.specs.declared.task.Task.TheVariants as task
use Rattle.text_survey.specs.declared.task.Taking.TheVariants as taking
use Rattle.text_survey.specs.Table.{Step, go}

abbrev pub attribute_constant : Option Symbol → Option Step
attribute_constant (Some symbol.Quoted) = go taking.Token []
attribute_constant next = go taking.Ahead (task.Expression ∷ task.Forget ∷ [])

abbrev pub target : Option Symbol → Option Step
target (Some symbol.Name) = go taking.Node (task.Select ∷ task.Wrap ∷ task.Join ∷ [])
target (Some symbol.OpenBrace) = go taking.Node (task.Target ∷ task.Targets ∷ task.Expect symbol.CloseBrace ∷ task.Wrap ∷ task.Join ∷ [])
target next = None

abbrev pub ticks : Option Symbol → Option Step
ticks (Some symbol.Number) = go taking.Token []
ticks (Some symbol.Name) = go taking.Token []
ticks (Some symbol.OpenParen) = go taking.Token (task.Expression ∷ task.Expect symbol.CloseParen ∷ [])
ticks next = None

abbrev pub assigner : Option Symbol → Option Step
assigner (Some symbol.Equals) = go taking.Token []
assigner (Some symbol.LessEquals) = go taking.Token []
assigner next = None

abbrev pub looped : Option Symbol → Option Step
looped (Some symbol.For) = go taking.Node (task.Expect symbol.OpenParen ∷ task.Name ∷ task.Expect symbol.Equals ∷ task.Expression ∷ task.Expect symbol.Semicolon ∷ task.Expression ∷ task.Expect symbol.Semicolon ∷ task.Name ∷ task.Expect symbol.Equals ∷ task.Expression ∷ task.Expect symbol.CloseParen ∷ task.Statement ∷ task.Wrap ∷ task.Join ∷ [])
looped next = None

-- the statements that begin with a word
abbrev pub worded : Option Symbol → Option Step
worded (Some symbol.If) = go taking.Node (task.Expect symbol.OpenParen ∷ task.Expression ∷ task.Expect symbol.CloseParen ∷ task.Statement ∷ task.Else ∷ [])
worded (Some symbol.Case) = go taking.Node (task.Expect symbol.OpenParen ∷ task.Expression ∷ task.Expect symbol.CloseParen ∷ task.FirstBranch ∷ task.Expect symbol.Endcase ∷ task.Wrap ∷ task.Join ∷ [])
worded (Some symbol.Casez) = go taking.Node (task.Expect symbol.OpenParen ∷ task.Expression ∷ task.Expect symbol.CloseParen ∷ task.FirstBranch ∷ task.Expect symbol.Endcase ∷ task.Wrap ∷ task.Join ∷ [])
worded (Some symbol.Casex) = go taking.Node (task.Expect symbol.OpenParen ∷ task.Expression ∷ task.Expect symbol.CloseParen ∷ task.FirstBranch ∷ task.Expect symbol.Endcase ∷ task.Wrap ∷ task.Join ∷ [])
worded (Some symbol.Begin) = go taking.Node (task.Label ∷ task.Statements ∷ task.Expect symbol.End ∷ task.Wrap ∷ task.Join ∷ [])
worded next = looped next

-- a statement; attributes may stand before it
abbrev pub one_statement : Option Symbol → Option Step
one_statement (Some symbol.OpenAttribute) = go taking.Token (task.Attribute ∷ task.Attributes ∷ task.Expect symbol.CloseAttribute ∷ task.Statement ∷ [])
one_statement (Some symbol.Semicolon) = go taking.Node (task.Wrap ∷ task.Join ∷ [])
one_statement (Some symbol.Hash) = go taking.Node (task.Ticks ∷ task.Statement ∷ task.Wrap ∷ task.Join ∷ [])
one_statement (Some symbol.Name) = go taking.Ahead (task.Target ∷ task.Assigner ∷ task.Delay ∷ task.Expression ∷ task.Expect symbol.Semicolon ∷ task.Wrap ∷ task.Join ∷ [])
one_statement (Some symbol.OpenBrace) = go taking.Ahead (task.Target ∷ task.Assigner ∷ task.Delay ∷ task.Expression ∷ task.Expect symbol.Semicolon ∷ task.Wrap ∷ task.Join ∷ [])
one_statement next = worded next

-- the rest of an `if` after its first statement: an `else` belongs to the nearest one
abbrev pub otherwise : Option Symbol → Option Step
otherwise (Some symbol.Else) = go taking.Token (task.Statement ∷ task.Wrap ∷ task.Join ∷ [])
otherwise next = go taking.Nothing (task.Wrap ∷ task.Join ∷ [])

abbrev pub first_branch : Option Symbol → Option Step
first_branch (Some symbol.Default) = go taking.Token (task.DefaultColon ∷ task.Statement ∷ task.Labelled ∷ [])
first_branch next = go taking.Nothing (task.Expression ∷ task.Expressions ∷ task.Expect symbol.Colon ∷ task.Statement ∷ task.Branches ∷ [])

abbrev pub branches : Option Symbol → Option Step
branches (Some symbol.Endcase) = go taking.Nothing []
branches next = first_branch next
