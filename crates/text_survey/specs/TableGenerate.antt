-- It serves inner contracts and proofs; no answer of the program is stated by it.
-- What becomes of the tasks of generate constructs.
use Rattle.std.specs.Prelude.{[], ◌∷◌, Option, Some}
use Rattle.rtl_tree.specs.declared.symbol.Symbol.{Symbol}
use Rattle.rtl_tree.specs.declared.symbol.Symbol.TheVariants as symbol
use Rattle.text_survey.specs.declared.task.Task.TheVariants as task
use Rattle.text_survey.specs.declared.task.Taking.TheVariants as taking
use Rattle.text_survey.specs.Table.{Step, go}
use Rattle.text_survey.specs.TableGate.{gates}

-- the items of generate constructs that attributes may stand before
abbrev pub region : Option Symbol → Option Step
region (Some symbol.Genvar) = go taking.Token (task.Name ∷ task.Names ∷ task.Expect symbol.Semicolon ∷ [])
region (Some symbol.Generate) = go taking.Node (task.RegionItems ∷ task.Expect symbol.Endgenerate ∷ task.Wrap ∷ task.Join ∷ [])
region next = gates next

abbrev pub looped : Option Symbol → Option Step
looped (Some symbol.For) = go taking.Node (task.Expect symbol.OpenParen ∷ task.Name ∷ task.Expect symbol.Equals ∷ task.Expression ∷ task.Expect symbol.Semicolon ∷ task.Expression ∷ task.Expect symbol.Semicolon ∷ task.Name ∷ task.Expect symbol.Equals ∷ task.Expression ∷ task.Expect symbol.CloseParen ∷ task.Made ∷ task.Wrap ∷ task.Join ∷ [])
looped next = go taking.Nothing (task.MarkedItem ∷ [])

-- an item; attributes stand before no `if`, `case` or `for`
abbrev pub one_item : Option Symbol → Option Step
one_item (Some symbol.If) = go taking.Node (task.Expect symbol.OpenParen ∷ task.Expression ∷ task.Expect symbol.CloseParen ∷ task.Made ∷ task.MadeElse ∷ [])
one_item (Some symbol.Case) = go taking.Node (task.Expect symbol.OpenParen ∷ task.Expression ∷ task.Expect symbol.CloseParen ∷ task.FirstChoice ∷ task.Expect symbol.Endcase ∷ task.Wrap ∷ task.Join ∷ [])
one_item next = looped next

-- what a construct makes
abbrev pub made : Option Symbol → Option Step
made (Some symbol.Semicolon) = go taking.Node (task.Wrap ∷ task.Join ∷ [])
made (Some symbol.Begin) = go taking.Node (task.Label ∷ task.BlockItems ∷ task.Expect symbol.End ∷ task.Wrap ∷ task.Join ∷ [])
made next = go taking.Nothing (task.Item ∷ [])

-- the rest of an `if` after its first block: an `else` belongs to the nearest one
abbrev pub made_else : Option Symbol → Option Step
made_else (Some symbol.Else) = go taking.Token (task.Made ∷ task.Wrap ∷ task.Join ∷ [])
made_else next = go taking.Nothing (task.Wrap ∷ task.Join ∷ [])

abbrev pub first_choice : Option Symbol → Option Step
first_choice (Some symbol.Default) = go taking.Token (task.DefaultColon ∷ task.Made ∷ task.LabelledChoices ∷ [])
first_choice next = go taking.Nothing (task.Expression ∷ task.Expressions ∷ task.Expect symbol.Colon ∷ task.Made ∷ task.Choices ∷ [])

abbrev pub choices : Option Symbol → Option Step
choices (Some symbol.Endcase) = go taking.Nothing []
choices next = first_choice next
