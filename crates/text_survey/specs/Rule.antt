-- It serves inner contracts and proofs; no answer of the program is stated by it.
-- What becomes of a task, by the next token alone: one line for each alternative of the grammar.
use Rattle.std.specs.Prelude.{[], ◌∷◌, Option, None}
use Rattle.rtl_tree.specs.declared.symbol.Symbol.{Symbol}
use Rattle.rtl_tree.specs.declared.symbol.Symbol.TheVariants as symbol
use Rattle.text_survey.specs.declared.task.Task.{Task}
use Rattle.text_survey.specs.declared.task.Task.TheVariants as task
use Rattle.text_survey.specs.declared.task.Taking.TheVariants as taking
use Rattle.text_survey.specs.declared.task.Level.TheVariants as level
use Rattle.text_survey.specs.Table.{Step, go, required, optional, unless, leveled, chain, choice, select_end, parts}
use Rattle.text_survey.specs.TableStatement.{attribute_constant, target, ticks, assigner, one_statement, otherwise, first_branch, branches}
use Rattle.text_survey.specs.TableGate.{gate_ticks, output_or_input, after_name}
use Rattle.text_survey.specs.TableGenerate.{one_item, made, made_else, first_choice, choices}
use Rattle.text_survey.specs.TableItem.{marked_item, port_kind, initial, sensitivity, event_list, event, event_select_end, events, arguments, argument, source, one_module, head_parameter, port_list, port}

abbrev pub modules : Task → Option Symbol → Option Step
modules task.Source next = source next
modules task.Module next = one_module next
modules task.Parameters next = optional symbol.Hash next (task.Expect symbol.OpenParen ∷ task.FirstParameter ∷ task.HeadParameters ∷ task.Expect symbol.CloseParen ∷ [])
modules task.FirstParameter next = required symbol.Parameter next (task.Range ∷ task.Setting ∷ [])
modules task.HeadParameter next = head_parameter next
modules task.HeadParameters next = optional symbol.Comma next (task.HeadParameter ∷ task.HeadParameters ∷ [])
modules task.Ports next = optional symbol.OpenParen next (task.PortList ∷ [])
modules task.PortList next = port_list next
modules task.Port next = port next
modules task.HeadPorts next = optional symbol.Comma next (task.Port ∷ task.HeadPorts ∷ [])
modules task next = None

abbrev pub instance : Task → Option Symbol → Option Step
instance task.Overrides next = optional symbol.Hash next (task.Expect symbol.OpenParen ∷ task.Arguments ∷ task.Expect symbol.CloseParen ∷ [])
instance task.Instance next = required symbol.Name next (task.Expect symbol.OpenParen ∷ task.Connections ∷ task.Expect symbol.CloseParen ∷ [])
instance task.Instances next = optional symbol.Comma next (task.Instance ∷ task.Instances ∷ [])
instance task.Connections next = unless symbol.CloseParen next (task.Arguments ∷ [])
instance task.Arguments next = arguments next
instance task.Argument next = argument next
instance task.Positional next = optional symbol.Comma next (task.Argument ∷ task.Positional ∷ [])
instance task.NamedArgument next = required symbol.Dot next (task.Name ∷ task.Expect symbol.OpenParen ∷ task.Argument ∷ task.Expect symbol.CloseParen ∷ [])
instance task.Associated next = optional symbol.Comma next (task.NamedArgument ∷ task.Associated ∷ [])
instance task next = modules task next

-- what stands in items of gates
abbrev pub gate : Task → Option Symbol → Option Step
gate task.GateDelay next = optional symbol.Hash next (task.GateTicks ∷ [])
gate task.GateTicks next = gate_ticks next
gate task.Fall next = optional symbol.Comma next (task.Expression ∷ [])
gate task.GateName next = optional symbol.Name next []
gate task.Gate next =
    go taking.Nothing (task.GateName ∷ task.Expect symbol.OpenParen ∷ task.Target ∷ task.Expect symbol.Comma ∷ task.Expression ∷ task.Expressions ∷ task.Expect symbol.CloseParen ∷ [])
gate task.Gates next = optional symbol.Comma next (task.Gate ∷ task.Gates ∷ [])
gate task.Buffer next =
    go taking.Nothing (task.GateName ∷ task.Expect symbol.OpenParen ∷ task.Target ∷ task.Expect symbol.Comma ∷ task.OutputOrInput ∷ task.Expect symbol.CloseParen ∷ [])
gate task.Buffers next = optional symbol.Comma next (task.Buffer ∷ task.Buffers ∷ [])
gate task.OutputOrInput next = output_or_input next
gate task.AfterName next = after_name next
gate task next = instance task next

-- what an `always` waits for
abbrev pub waiting : Task → Option Symbol → Option Step
waiting task.Sensitivity next = sensitivity next
waiting task.EventList next = event_list next
waiting task.Event next = event next
waiting task.Events next = events next
waiting task.EventSelect next = optional symbol.OpenBracket next (task.Expression ∷ task.EventSelectEnd ∷ [])
waiting task.EventSelectEnd next = event_select_end next
waiting task next = gate task next

-- what stands in declarations
abbrev pub declared : Task → Option Symbol → Option Step
declared task.PortKind next = port_kind next
declared task.Sign next = optional symbol.Signed next []
declared task.Range next = optional symbol.OpenBracket next (task.Expression ∷ task.Expect symbol.Colon ∷ task.Expression ∷ task.Expect symbol.CloseBracket ∷ [])
declared task.Value next = optional symbol.Equals next (task.Expression ∷ [])
declared task.Initial next = initial next
declared task.Net next = required symbol.Name next (task.Value ∷ [])
declared task.Nets next = optional symbol.Comma next (task.Net ∷ task.Nets ∷ [])
declared task.Variable next = required symbol.Name next (task.Initial ∷ [])
declared task.Variables next = optional symbol.Comma next (task.Variable ∷ task.Variables ∷ [])
declared task next = waiting task next

-- what stands in generate constructs
abbrev pub generate : Task → Option Symbol → Option Step
generate task.Item next = one_item next
generate task.RegionItems next = unless symbol.Endgenerate next (task.Item ∷ task.RegionItems ∷ [])
generate task.BlockItems next = unless symbol.End next (task.Item ∷ task.BlockItems ∷ [])
generate task.Made next = made next
generate task.MadeElse next = made_else next
generate task.FirstChoice next = first_choice next
generate task.Choices next = choices next
generate task.LabelledChoices next = unless symbol.Endcase next (task.Expression ∷ task.Expressions ∷ task.Expect symbol.Colon ∷ task.Made ∷ task.LabelledChoices ∷ [])
generate task next = declared task next

abbrev pub item : Task → Option Symbol → Option Step
item task.MarkedItem next = marked_item next
item task.Items next = unless symbol.Endmodule next (task.Item ∷ task.Items ∷ [])
item task.Name next = required symbol.Name next []
item task.Names next = optional symbol.Comma next (task.Name ∷ task.Names ∷ [])
item task.Setting next = required symbol.Name next (task.Expect symbol.Equals ∷ task.Expression ∷ [])
item task.Settings next = optional symbol.Comma next (task.Setting ∷ task.Settings ∷ [])
item task.Drive next = go taking.Nothing (task.Target ∷ task.Expect symbol.Equals ∷ task.Expression ∷ [])
item task.Drives next = optional symbol.Comma next (task.Drive ∷ task.Drives ∷ [])
item task next = generate task next

-- the items of a case: the first, further ones before the default, and those after it
abbrev pub branch : Task → Option Symbol → Option Step
branch task.FirstBranch next = first_branch next
branch task.Branches next = branches next
branch task.Labelled next = unless symbol.Endcase next (task.Expression ∷ task.Expressions ∷ task.Expect symbol.Colon ∷ task.Statement ∷ task.Labelled ∷ [])
branch task.DefaultColon next = optional symbol.Colon next []
branch task next = item task next

abbrev pub statement : Task → Option Symbol → Option Step
statement task.Attribute next = required symbol.Name next (task.AttributeValue ∷ [])
statement task.Attributes next = optional symbol.Comma next (task.Attribute ∷ task.Attributes ∷ [])
statement task.AttributeValue next = optional symbol.Equals next (task.AttributeConstant ∷ [])
statement task.AttributeConstant next = attribute_constant next
statement task.Target next = target next
statement task.Targets next = optional symbol.Comma next (task.Target ∷ task.Targets ∷ [])
statement task.Delay next = optional symbol.Hash next (task.Ticks ∷ [])
statement task.Ticks next = ticks next
statement task.Assigner next = assigner next
statement task.Statement next = one_statement next
statement task.Else next = otherwise next
statement task.Label next = optional symbol.Colon next (task.Name ∷ [])
statement task.Statements next = unless symbol.End next (task.Statement ∷ task.Statements ∷ [])
statement task next = branch task next

abbrev pub expression : Task → Option Symbol → Option Step
expression task.Expression next = go taking.Nothing (task.Level level.LogicalOr ∷ task.Choice ∷ task.Join ∷ [])
expression (task.Level k) next = leveled k next
expression (task.Chain k) next = chain k next
expression task.Choice next = choice next
expression task.Select next = optional symbol.OpenBracket next (task.Expression ∷ task.SelectEnd ∷ [])
expression task.SelectEnd next = select_end next
expression task.Parts next = parts next
expression task.Expressions next = optional symbol.Comma next (task.Expression ∷ task.Expressions ∷ [])
expression task next = statement task next

-- none where the token can't stand there
abbrev pub rule : Task → Option Symbol → Option Step
rule (task.Expect mark) next = required mark next []
rule task.Wrap next = go taking.Nothing []
rule task.Join next = go taking.Nothing []
rule task.Forget next = go taking.Nothing []
rule task next = expression task next
