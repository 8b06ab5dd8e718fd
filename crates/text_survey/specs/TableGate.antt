-- It serves inner contracts and proofs; no answer of the program is stated by it.
-- What becomes of the tasks of gates.
use Rattle.std.specs.Prelude.{[], ◌∷◌, Option, Some, None}
use Rattle.rtl_tree.specs.declared.symbol.Symbol.{Symbol}
use Rattle.rtl_tree.specs.declared.symbol.Symbol.TheVariants as symbol
use Rattle.text_survey.specs.declared.task.Level.TheVariants as level
use Rattle.text_survey.specs.declared.task.Task.TheVariants as task
use Rattle.text_survey.specs.declared.task.Taking.TheVariants as taking
use Rattle.text_survey.specs.Table.{Step, go}

-- an item of gates
abbrev pub gates : Option Symbol → Option Step
gates (Some symbol.And) = go taking.Token (task.GateDelay ∷ task.Gate ∷ task.Gates ∷ task.Expect symbol.Semicolon ∷ [])
gates (Some symbol.Nand) = go taking.Token (task.GateDelay ∷ task.Gate ∷ task.Gates ∷ task.Expect symbol.Semicolon ∷ [])
gates (Some symbol.Or) = go taking.Token (task.GateDelay ∷ task.Gate ∷ task.Gates ∷ task.Expect symbol.Semicolon ∷ [])
gates (Some symbol.Nor) = go taking.Token (task.GateDelay ∷ task.Gate ∷ task.Gates ∷ task.Expect symbol.Semicolon ∷ [])
gates (Some symbol.Xor) = go taking.Token (task.GateDelay ∷ task.Gate ∷ task.Gates ∷ task.Expect symbol.Semicolon ∷ [])
gates (Some symbol.Xnor) = go taking.Token (task.GateDelay ∷ task.Gate ∷ task.Gates ∷ task.Expect symbol.Semicolon ∷ [])
gates (Some symbol.Buf) = go taking.Token (task.GateDelay ∷ task.Buffer ∷ task.Buffers ∷ task.Expect symbol.Semicolon ∷ [])
gates (Some symbol.Not) = go taking.Token (task.GateDelay ∷ task.Buffer ∷ task.Buffers ∷ task.Expect symbol.Semicolon ∷ [])
gates next = None

abbrev pub gate_ticks : Option Symbol → Option Step
gate_ticks (Some symbol.Number) = go taking.Token []
gate_ticks (Some symbol.Name) = go taking.Token []
gate_ticks (Some symbol.OpenParen) = go taking.Token (task.Expression ∷ task.Fall ∷ task.Expect symbol.CloseParen ∷ [])
gate_ticks next = None

-- where a name comes, it may be an output, and then a comma may follow it
abbrev pub output_or_input : Option Symbol → Option Step
output_or_input (Some symbol.Name) = go taking.Node (task.Select ∷ task.Wrap ∷ task.AfterName ∷ [])
output_or_input next = go taking.Nothing (task.Expression ∷ [])

-- after a comma further terminals; else the rest of an expression that begins with the name
abbrev pub after_name : Option Symbol → Option Step
after_name (Some symbol.Comma) = go taking.Token (task.Join ∷ task.OutputOrInput ∷ [])
after_name next =
    go taking.Nothing
    (task.Chain level.Power ∷ task.Chain level.Product ∷ task.Chain level.Sum ∷ task.Chain level.Shift ∷ task.Chain level.Comparison ∷ task.Chain level.Equality ∷
    task.Chain level.And ∷ task.Chain level.Xor ∷ task.Chain level.Or ∷ task.Chain level.LogicalAnd ∷ task.Chain level.LogicalOr ∷ task.Choice ∷ task.Join ∷ [])
