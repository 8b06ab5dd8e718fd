-- The survey comes to an end.
use Rattle.std.proofs.Common.{◌≡◌, ℕ, ◌+◌, ◌*◌, ◌<◌, ◌≤◌, cond, Bool, true, false, ◌&&◌, nat_lt, nat_eq, List, [], ◌∷◌, ◌++◌, length, Option, Some, None, refl, subst, ltb-true, arith}
use Rattle.rtl_tree.specs.declared.symbol.Symbol.{Symbol}
use Rattle.rtl_tree.specs.declared.symbol.Symbol.TheVariants as symbol
use Rattle.rtl_tree.specs.Symbols.{Terminal}
use Rattle.text_survey.specs.declared.task.Level.{Level}
use Rattle.text_survey.specs.declared.task.Level.TheVariants as level
use Rattle.text_survey.specs.declared.task.Task.{Task}
use Rattle.text_survey.specs.declared.task.Task.TheVariants as task
use Rattle.text_survey.specs.declared.task.Taking.{Taking}
use Rattle.text_survey.specs.declared.task.Taking.TheVariants as taking
use Rattle.text_survey.specs.Table.{Step, go, is_next, same_symbol, required, optional, unless, rank, tighter, looseness, link}
use Rattle.text_survey.specs.Rule.{rule}
use Rattle.text_survey.specs.Machine.{State, at, symbol_at, left, moved}
use Rattle.text_survey.proofs.Laws.Steps.{some_is}

-- no such task is done without a token that is taken
certain : Task → Bool
certain (task.Expect s) = true
certain (task.Level k) = true
certain task.Expression = true
certain task.Statement = true
certain task.Target = true
certain task.Drive = true
certain task.Item = true
certain task.MarkedItem = true
certain task.Made = true
certain task.Module = true
certain task.OutputOrInput = true
certain other = false

weight : Task → ℕ
weight (task.Level k) = 2 * rank k + 1
weight task.Expression = 26
weight task.Statement = 33
weight task.Drive = 29
weight task.Gate = 33
weight task.Buffer = 33
weight task.OutputOrInput = 27
weight task.AfterName = 14
weight task.Parts = 3
weight task.Else = 3
weight task.Item = 2
weight task.Made = 3
weight task.MadeElse = 3
weight task.Connections = 5
weight task.Arguments = 3
weight task.HeadParameter = 2
weight task.Port = 2
weight task.PortList = 5
weight task.EventList = 4
weight other = 1

-- what a task weighs more that may be done without a token
slack : Task → ℕ
slack t = cond (certain t) 0 128

sum : List Task → ℕ
sum [] = 0
sum (t ∷ tasks) = weight t + sum tasks

slacks : List Task → ℕ
slacks [] = 128
slacks (t ∷ tasks) = slack t

-- what is left to do without a token
pub load : List Task → ℕ
load tasks = sum tasks + slacks tasks

-- what a token weighs
token_weight : Taking → ℕ
token_weight taking.Nothing = 0
token_weight taking.Ahead = 0
token_weight taking.Token = 512
token_weight taking.Node = 512
token_weight taking.Operator = 512

falls : Task → Step → Bool
falls t step = nat_lt (load step.tasks) (weight t + slack t + token_weight step.taking)

is_some : Option Symbol → Taking → Bool
is_some (Some s) t = true
is_some None taking.Nothing = true
is_some None taking.Ahead = true
is_some None taking.Token = false
is_some None taking.Node = false
is_some None taking.Operator = false

light_by : Task → Option Symbol → Option Step → Bool
light_by t o None = true
light_by t o (Some step) = falls t step && is_some o step.taking

Light : Task → Option Symbol → Option Step → Type 0
Light t o step = light_by t o step ≡ true

and_true : (a b : Bool) → a ≡ true → b ≡ true → (a && b) ≡ true
and_true true b e f = f
and_true false b e f = cc

some_nothing : (o : Option Symbol) → is_some o taking.Nothing ≡ true
unfolding is_some
some_nothing None = refl
some_nothing (Some s) = refl

light_nothing : (t : Task) (o : Option Symbol) (tasks : List Task) → falls t (record { taking = taking.Nothing; tasks = tasks }) ≡ true → Light t o (go taking.Nothing tasks)
unfolding Light light_by
light_nothing t o tasks e = and_true (falls t (record { taking = taking.Nothing; tasks = tasks })) (is_some o taking.Nothing) e (some_nothing o)

light_token : (t : Task) (s : Symbol) (tasks : List Task) → falls t (record { taking = taking.Token; tasks = tasks }) ≡ true → Light t (Some s) (go taking.Token tasks)
unfolding Light light_by is_some
light_token t s tasks e = and_true (falls t (record { taking = taking.Token; tasks = tasks })) true e refl

light_required : (t : Task) (mark : Symbol) (o : Option Symbol) (tasks : List Task) → falls t (record { taking = taking.Token; tasks = tasks }) ≡ true → Light t o (required mark o tasks)
unfolding Light light_by
light_required t mark None tasks e = refl
light_required t mark (Some s) tasks e =
    elim (same_symbol s mark) as (λ b. Light t (Some s) (cond b (go taking.Token tasks) None)) [ true ↦ light_token t s tasks e | false ↦ refl ]

light_optional : (t : Task) (mark : Symbol) (o : Option Symbol) (tasks : List Task) → falls t (record { taking = taking.Token; tasks = tasks }) ≡ true
    → falls t (record { taking = taking.Nothing; tasks = [] }) ≡ true → Light t o (optional mark o tasks)
light_optional t mark None tasks e f = light_nothing t None [] f
light_optional t mark (Some s) tasks e f =
    elim (same_symbol s mark) as (λ b. Light t (Some s) (cond b (go taking.Token tasks) (go taking.Nothing []))) [ true ↦ light_token t s tasks e | false ↦ light_nothing t (Some s) [] f ]

light_unless : (t : Task) (mark : Symbol) (o : Option Symbol) (tasks : List Task) → falls t (record { taking = taking.Nothing; tasks = tasks }) ≡ true
    → falls t (record { taking = taking.Nothing; tasks = [] }) ≡ true → Light t o (unless mark o tasks)
light_unless t mark o tasks e f =
    elim (is_next mark o) as (λ b. Light t o (cond b (go taking.Nothing []) (go taking.Nothing tasks))) [ true ↦ light_nothing t o [] f | false ↦ light_nothing t o tasks e ]

-- ---- each task

light_operand : (o : Option Symbol) → Light (task.Level level.Operand) o (rule (task.Level level.Operand) o)
unfolding Light light_by falls is_some certain weight slack sum slacks load token_weight
light_operand None = refl
light_operand (Some symbol.Number) = refl
light_operand (Some other) = refl

light_choice : (o : Option Symbol) → Light task.Choice o (rule task.Choice o)
unfolding Light light_by falls is_some certain weight slack sum slacks load token_weight
light_choice None = refl
light_choice (Some symbol.Question) = refl
light_choice (Some other) = refl

light_select_end : (o : Option Symbol) → Light task.SelectEnd o (rule task.SelectEnd o)
unfolding Light light_by falls is_some certain weight slack sum slacks load token_weight
light_select_end None = refl
light_select_end (Some symbol.Colon) = refl
light_select_end (Some other) = refl

light_parts : (o : Option Symbol) → Light task.Parts o (rule task.Parts o)
unfolding Light light_by falls is_some certain weight slack sum slacks load token_weight
light_parts None = refl
light_parts (Some symbol.OpenBrace) = refl
light_parts (Some other) = refl

light_constant : (o : Option Symbol) → Light task.AttributeConstant o (rule task.AttributeConstant o)
unfolding Light light_by falls is_some certain weight slack sum slacks load token_weight
light_constant None = refl
light_constant (Some symbol.Quoted) = refl
light_constant (Some other) = refl

light_target : (o : Option Symbol) → Light task.Target o (rule task.Target o)
unfolding Light light_by falls is_some certain weight slack sum slacks load token_weight
light_target None = refl
light_target (Some symbol.Name) = refl
light_target (Some other) = refl

light_ticks : (o : Option Symbol) → Light task.Ticks o (rule task.Ticks o)
unfolding Light light_by falls is_some certain weight slack sum slacks load token_weight
light_ticks None = refl
light_ticks (Some symbol.Name) = refl
light_ticks (Some other) = refl

light_assigner : (o : Option Symbol) → Light task.Assigner o (rule task.Assigner o)
unfolding Light light_by falls is_some certain weight slack sum slacks load token_weight
light_assigner None = refl
light_assigner (Some symbol.Equals) = refl
light_assigner (Some other) = refl

light_statement : (o : Option Symbol) → Light task.Statement o (rule task.Statement o)
unfolding Light light_by falls is_some certain weight slack sum slacks load token_weight
light_statement None = refl
light_statement (Some symbol.Name) = refl
light_statement (Some other) = refl

light_otherwise : (o : Option Symbol) → Light task.Else o (rule task.Else o)
unfolding Light light_by falls is_some certain weight slack sum slacks load token_weight
light_otherwise None = refl
light_otherwise (Some symbol.Else) = refl
light_otherwise (Some other) = refl

light_first_branch : (o : Option Symbol) → Light task.FirstBranch o (rule task.FirstBranch o)
unfolding Light light_by falls is_some certain weight slack sum slacks load token_weight
light_first_branch None = refl
light_first_branch (Some symbol.Default) = refl
light_first_branch (Some other) = refl

light_branches : (o : Option Symbol) → Light task.Branches o (rule task.Branches o)
unfolding Light light_by falls is_some certain weight slack sum slacks load token_weight
light_branches None = refl
light_branches (Some symbol.Default) = refl
light_branches (Some other) = refl

light_item : (o : Option Symbol) → Light task.Item o (rule task.Item o)
unfolding Light light_by falls is_some certain weight slack sum slacks load token_weight
light_item None = refl
light_item (Some symbol.If) = refl
light_item (Some other) = refl

light_marked_item : (o : Option Symbol) → Light task.MarkedItem o (rule task.MarkedItem o)
unfolding Light light_by falls is_some certain weight slack sum slacks load token_weight
light_marked_item None = refl
light_marked_item (Some symbol.Name) = refl
light_marked_item (Some other) = refl

light_made : (o : Option Symbol) → Light task.Made o (rule task.Made o)
unfolding Light light_by falls is_some certain weight slack sum slacks load token_weight
light_made None = refl
light_made (Some symbol.Begin) = refl
light_made (Some other) = refl

light_made_else : (o : Option Symbol) → Light task.MadeElse o (rule task.MadeElse o)
unfolding Light light_by falls is_some certain weight slack sum slacks load token_weight
light_made_else None = refl
light_made_else (Some symbol.Else) = refl
light_made_else (Some other) = refl

light_first_choice : (o : Option Symbol) → Light task.FirstChoice o (rule task.FirstChoice o)
unfolding Light light_by falls is_some certain weight slack sum slacks load token_weight
light_first_choice None = refl
light_first_choice (Some symbol.Default) = refl
light_first_choice (Some other) = refl

light_choices : (o : Option Symbol) → Light task.Choices o (rule task.Choices o)
unfolding Light light_by falls is_some certain weight slack sum slacks load token_weight
light_choices None = refl
light_choices (Some symbol.Default) = refl
light_choices (Some other) = refl

light_port_kind : (o : Option Symbol) → Light task.PortKind o (rule task.PortKind o)
unfolding Light light_by falls is_some certain weight slack sum slacks load token_weight
light_port_kind None = refl
light_port_kind (Some symbol.Wire) = refl
light_port_kind (Some other) = refl

light_initial : (o : Option Symbol) → Light task.Initial o (rule task.Initial o)
unfolding Light light_by falls is_some certain weight slack sum slacks load token_weight
light_initial None = refl
light_initial (Some symbol.Equals) = refl
light_initial (Some other) = refl

light_sensitivity : (o : Option Symbol) → Light task.Sensitivity o (rule task.Sensitivity o)
unfolding Light light_by falls is_some certain weight slack sum slacks load token_weight
light_sensitivity None = refl
light_sensitivity (Some symbol.Star) = refl
light_sensitivity (Some other) = refl

light_event_list : (o : Option Symbol) → Light task.EventList o (rule task.EventList o)
unfolding Light light_by falls is_some certain weight slack sum slacks load token_weight
light_event_list None = refl
light_event_list (Some symbol.Star) = refl
light_event_list (Some other) = refl

light_event : (o : Option Symbol) → Light task.Event o (rule task.Event o)
unfolding Light light_by falls is_some certain weight slack sum slacks load token_weight
light_event None = refl
light_event (Some symbol.Name) = refl
light_event (Some other) = refl

light_events : (o : Option Symbol) → Light task.Events o (rule task.Events o)
unfolding Light light_by falls is_some certain weight slack sum slacks load token_weight
light_events None = refl
light_events (Some symbol.Or) = refl
light_events (Some other) = refl

light_event_select_end : (o : Option Symbol) → Light task.EventSelectEnd o (rule task.EventSelectEnd o)
unfolding Light light_by falls is_some certain weight slack sum slacks load token_weight
light_event_select_end None = refl
light_event_select_end (Some symbol.Colon) = refl
light_event_select_end (Some other) = refl

light_gate_ticks : (o : Option Symbol) → Light task.GateTicks o (rule task.GateTicks o)
unfolding Light light_by falls is_some certain weight slack sum slacks load token_weight
light_gate_ticks None = refl
light_gate_ticks (Some symbol.Name) = refl
light_gate_ticks (Some other) = refl

light_output : (o : Option Symbol) → Light task.OutputOrInput o (rule task.OutputOrInput o)
unfolding Light light_by falls is_some certain weight slack sum slacks load token_weight
light_output None = refl
light_output (Some symbol.Name) = refl
light_output (Some other) = refl

light_after_name : (o : Option Symbol) → Light task.AfterName o (rule task.AfterName o)
unfolding Light light_by falls is_some certain weight slack sum slacks load token_weight
light_after_name None = refl
light_after_name (Some symbol.Comma) = refl
light_after_name (Some other) = refl

light_arguments : (o : Option Symbol) → Light task.Arguments o (rule task.Arguments o)
unfolding Light light_by falls is_some certain weight slack sum slacks load token_weight
light_arguments None = refl
light_arguments (Some symbol.Dot) = refl
light_arguments (Some other) = refl

light_argument : (o : Option Symbol) → Light task.Argument o (rule task.Argument o)
unfolding Light light_by falls is_some certain weight slack sum slacks load token_weight
light_argument None = refl
light_argument (Some symbol.Comma) = refl
light_argument (Some other) = refl

light_source : (o : Option Symbol) → Light task.Source o (rule task.Source o)
unfolding Light light_by falls is_some certain weight slack sum slacks load token_weight
light_source None = refl
light_source (Some symbol.Name) = refl
light_source (Some other) = refl

light_module : (o : Option Symbol) → Light task.Module o (rule task.Module o)
unfolding Light light_by falls is_some certain weight slack sum slacks load token_weight
light_module None = refl
light_module (Some symbol.Module) = refl
light_module (Some other) = refl

light_head_parameter : (o : Option Symbol) → Light task.HeadParameter o (rule task.HeadParameter o)
unfolding Light light_by falls is_some certain weight slack sum slacks load token_weight
light_head_parameter None = refl
light_head_parameter (Some symbol.Parameter) = refl
light_head_parameter (Some other) = refl

light_port_list : (o : Option Symbol) → Light task.PortList o (rule task.PortList o)
unfolding Light light_by falls is_some certain weight slack sum slacks load token_weight
light_port_list None = refl
light_port_list (Some symbol.Input) = refl
light_port_list (Some other) = refl

light_port : (o : Option Symbol) → Light task.Port o (rule task.Port o)
unfolding Light light_by falls is_some certain weight slack sum slacks load token_weight
light_port None = refl
light_port (Some symbol.Input) = refl
light_port (Some other) = refl

light_level : (k : Level) (o : Option Symbol) → Light (task.Level k) o (rule (task.Level k) o)
unfolding Light light_by falls is_some certain weight slack sum slacks load token_weight
light_level level.Operand o = light_operand o
light_level other o = light_nothing (task.Level other) o (task.Level (tighter other) ∷ task.Chain other ∷ []) refl

link_light : (k : Level) (s : Symbol) → Light (task.Chain k) (Some s) (link k)
unfolding Light light_by falls is_some certain weight slack sum slacks load token_weight
link_light level.Operand s = refl
link_light other s = refl

light_chain : (k : Level) (o : Option Symbol) → Light (task.Chain k) o (rule (task.Chain k) o)
unfolding Light light_by falls is_some certain weight slack sum slacks load token_weight
light_chain level.Operand None = refl
light_chain other None = refl
light_chain k (Some s) =
    elim (nat_eq (looseness (Some s)) (rank k)) as (λ b. Light (task.Chain k) (Some s) (cond b (link k) (go taking.Nothing []))) [ true ↦ link_light k s | false ↦ refl ]

light : (t : Task) (o : Option Symbol) → Light t o (rule t o)
unfolding Light light_by falls is_some certain weight slack sum slacks load token_weight
light (task.Expect s) o = light_required (task.Expect s) s o [] refl
light task.Wrap o = light_nothing task.Wrap o [] refl
light task.Join o = light_nothing task.Join o [] refl
light task.Forget o = light_nothing task.Forget o [] refl
light (task.Level k) o = light_level k o
light (task.Chain k) o = light_chain k o
light task.Source o = light_source o
light task.Module o = light_module o
light task.Parameters o = light_optional task.Parameters symbol.Hash o (task.Expect symbol.OpenParen ∷ task.FirstParameter ∷ task.HeadParameters ∷ task.Expect symbol.CloseParen ∷ []) refl refl
light task.FirstParameter o = light_required task.FirstParameter symbol.Parameter o (task.Range ∷ task.Setting ∷ []) refl
light task.HeadParameter o = light_head_parameter o
light task.HeadParameters o = light_optional task.HeadParameters symbol.Comma o (task.HeadParameter ∷ task.HeadParameters ∷ []) refl refl
light task.Ports o = light_optional task.Ports symbol.OpenParen o (task.PortList ∷ []) refl refl
light task.PortList o = light_port_list o
light task.Port o = light_port o
light task.HeadPorts o = light_optional task.HeadPorts symbol.Comma o (task.Port ∷ task.HeadPorts ∷ []) refl refl
light task.Overrides o = light_optional task.Overrides symbol.Hash o (task.Expect symbol.OpenParen ∷ task.Arguments ∷ task.Expect symbol.CloseParen ∷ []) refl refl
light task.Instance o = light_required task.Instance symbol.Name o (task.Expect symbol.OpenParen ∷ task.Connections ∷ task.Expect symbol.CloseParen ∷ []) refl
light task.Instances o = light_optional task.Instances symbol.Comma o (task.Instance ∷ task.Instances ∷ []) refl refl
light task.Connections o = light_unless task.Connections symbol.CloseParen o (task.Arguments ∷ []) refl refl
light task.Arguments o = light_arguments o
light task.Argument o = light_argument o
light task.Positional o = light_optional task.Positional symbol.Comma o (task.Argument ∷ task.Positional ∷ []) refl refl
light task.NamedArgument o = light_required task.NamedArgument symbol.Dot o (task.Name ∷ task.Expect symbol.OpenParen ∷ task.Argument ∷ task.Expect symbol.CloseParen ∷ []) refl
light task.Associated o = light_optional task.Associated symbol.Comma o (task.NamedArgument ∷ task.Associated ∷ []) refl refl
light task.Sensitivity o = light_sensitivity o
light task.EventList o = light_event_list o
light task.Event o = light_event o
light task.Events o = light_events o
light task.EventSelect o = light_optional task.EventSelect symbol.OpenBracket o (task.Expression ∷ task.EventSelectEnd ∷ []) refl refl
light task.EventSelectEnd o = light_event_select_end o
light task.GateDelay o = light_optional task.GateDelay symbol.Hash o (task.GateTicks ∷ []) refl refl
light task.GateTicks o = light_gate_ticks o
light task.Fall o = light_optional task.Fall symbol.Comma o (task.Expression ∷ []) refl refl
light task.GateName o = light_optional task.GateName symbol.Name o [] refl refl
light task.Gate o =
    light_nothing task.Gate o (task.GateName ∷ task.Expect symbol.OpenParen ∷ task.Target ∷ task.Expect symbol.Comma ∷ task.Expression ∷ task.Expressions ∷ task.Expect symbol.CloseParen ∷ []) refl
light task.Gates o = light_optional task.Gates symbol.Comma o (task.Gate ∷ task.Gates ∷ []) refl refl
light task.Buffer o = light_nothing task.Buffer o (task.GateName ∷ task.Expect symbol.OpenParen ∷ task.Target ∷ task.Expect symbol.Comma ∷ task.OutputOrInput ∷ task.Expect symbol.CloseParen ∷ []) refl
light task.Buffers o = light_optional task.Buffers symbol.Comma o (task.Buffer ∷ task.Buffers ∷ []) refl refl
light task.OutputOrInput o = light_output o
light task.AfterName o = light_after_name o
light task.PortKind o = light_port_kind o
light task.Sign o = light_optional task.Sign symbol.Signed o [] refl refl
light task.Range o = light_optional task.Range symbol.OpenBracket o (task.Expression ∷ task.Expect symbol.Colon ∷ task.Expression ∷ task.Expect symbol.CloseBracket ∷ []) refl refl
light task.Value o = light_optional task.Value symbol.Equals o (task.Expression ∷ []) refl refl
light task.Initial o = light_initial o
light task.Net o = light_required task.Net symbol.Name o (task.Value ∷ []) refl
light task.Nets o = light_optional task.Nets symbol.Comma o (task.Net ∷ task.Nets ∷ []) refl refl
light task.Variable o = light_required task.Variable symbol.Name o (task.Initial ∷ []) refl
light task.Variables o = light_optional task.Variables symbol.Comma o (task.Variable ∷ task.Variables ∷ []) refl refl
light task.Item o = light_item o
light task.MarkedItem o = light_marked_item o
light task.RegionItems o = light_unless task.RegionItems symbol.Endgenerate o (task.Item ∷ task.RegionItems ∷ []) refl refl
light task.BlockItems o = light_unless task.BlockItems symbol.End o (task.Item ∷ task.BlockItems ∷ []) refl refl
light task.Made o = light_made o
light task.MadeElse o = light_made_else o
light task.FirstChoice o = light_first_choice o
light task.Choices o = light_choices o
light task.LabelledChoices o = light_unless task.LabelledChoices symbol.Endcase o (task.Expression ∷ task.Expressions ∷ task.Expect symbol.Colon ∷ task.Made ∷ task.LabelledChoices ∷ []) refl refl
light task.Items o = light_unless task.Items symbol.Endmodule o (task.Item ∷ task.Items ∷ []) refl refl
light task.Name o = light_required task.Name symbol.Name o [] refl
light task.Names o = light_optional task.Names symbol.Comma o (task.Name ∷ task.Names ∷ []) refl refl
light task.Setting o = light_required task.Setting symbol.Name o (task.Expect symbol.Equals ∷ task.Expression ∷ []) refl
light task.Settings o = light_optional task.Settings symbol.Comma o (task.Setting ∷ task.Settings ∷ []) refl refl
light task.Drive o = light_nothing task.Drive o (task.Target ∷ task.Expect symbol.Equals ∷ task.Expression ∷ []) refl
light task.Drives o = light_optional task.Drives symbol.Comma o (task.Drive ∷ task.Drives ∷ []) refl refl
light task.FirstBranch o = light_first_branch o
light task.Branches o = light_branches o
light task.Labelled o = light_unless task.Labelled symbol.Endcase o (task.Expression ∷ task.Expressions ∷ task.Expect symbol.Colon ∷ task.Statement ∷ task.Labelled ∷ []) refl refl
light task.DefaultColon o = light_optional task.DefaultColon symbol.Colon o [] refl refl
light task.Attribute o = light_required task.Attribute symbol.Name o (task.AttributeValue ∷ []) refl
light task.Attributes o = light_optional task.Attributes symbol.Comma o (task.Attribute ∷ task.Attributes ∷ []) refl refl
light task.AttributeValue o = light_optional task.AttributeValue symbol.Equals o (task.AttributeConstant ∷ []) refl refl
light task.AttributeConstant o = light_constant o
light task.Target o = light_target o
light task.Targets o = light_optional task.Targets symbol.Comma o (task.Target ∷ task.Targets ∷ []) refl refl
light task.Delay o = light_optional task.Delay symbol.Hash o (task.Ticks ∷ []) refl refl
light task.Ticks o = light_ticks o
light task.Assigner o = light_assigner o
light task.Statement o = light_statement o
light task.Else o = light_otherwise o
light task.Label o = light_optional task.Label symbol.Colon o (task.Name ∷ []) refl refl
light task.Statements o = light_unless task.Statements symbol.End o (task.Statement ∷ task.Statements ∷ []) refl refl
light task.Expression o = light_nothing task.Expression o (task.Level level.LogicalOr ∷ task.Choice ∷ task.Join ∷ []) refl
light task.Choice o = light_choice o
light task.Select o = light_optional task.Select symbol.OpenBracket o (task.Expression ∷ task.SelectEnd ∷ []) refl refl
light task.SelectEnd o = light_select_end o
light task.Parts o = light_parts o
light task.Expressions o = light_optional task.Expressions symbol.Comma o (task.Expression ∷ task.Expressions ∷ []) refl refl

-- ---- the measure

slack_most : (t : Task) → slack t ≤ 128
unfolding slack
slack_most t = elim (certain t) as (λ b. cond b 0 128 ≤ 128) [ true ↦ omega arith | false ↦ omega arith ]

slacks_most : (tasks : List Task) → slacks tasks ≤ 128
unfolding slacks
slacks_most [] = omega arith
slacks_most (t ∷ tasks) = slack_most t

sum_append : (xs ys : List Task) → sum (xs ++ ys) ≡ sum xs + sum ys
unfolding sum
sum_append [] ys = omega arith
sum_append (t ∷ xs) ys = omega (arith, sum_append xs ys)

load_append : (xs ys : List Task) → load (xs ++ ys) ≤ load xs + sum ys
unfolding load sum slacks
load_append [] ys = omega (arith, slacks_most ys)
load_append (t ∷ xs) ys = omega (arith, sum_append xs ys)

left_weighs : (t : Taking) (ts : List Terminal) → is_some (symbol_at ts) t ≡ true → 512 * length (left t ts) + token_weight t ≡ 512 * length ts
unfolding token_weight is_some
left_weighs taking.Nothing ts h = omega arith
left_weighs taking.Ahead ts h = omega arith
left_weighs taking.Token [] h = cc
left_weighs taking.Node [] h = cc
left_weighs taking.Operator [] h = cc
left_weighs taking.Token (x ∷ ts) h = omega arith
left_weighs taking.Node (x ∷ ts) h = omega arith
left_weighs taking.Operator (x ∷ ts) h = omega arith

and_left : (a b : Bool) → (a && b) ≡ true → a ≡ true
and_left true b h = refl
and_left false b h = cc

and_right : (a b : Bool) → (a && b) ≡ true → b ≡ true
and_right true b h = h
and_right false b h = cc

smaller_by : (t : Task) (tasks : List Task) (ts : List Terminal) (a : State) (o : Option Step) → Light t (symbol_at ts) o → moved o tasks ts ≡ Some a
    → 512 * length a.rest + load a.tasks < 512 * length ts + load (t ∷ tasks)
unfolding Light light_by falls load sum slacks
smaller_by t tasks ts a None l e = cc
smaller_by t tasks ts a (Some step) l e =
    let b = some_is (at (step.tasks ++ tasks) (left step.taking ts)) a e in
    let less : load step.tasks < weight t + slack t + token_weight step.taking = ltb-true (load step.tasks) (weight t + slack t + token_weight step.taking) (and_left (falls t step) (is_some (symbol_at ts) step.taking) l) in
    let fewer = left_weighs step.taking ts (and_right (falls t step) (is_some (symbol_at ts) step.taking) l) in
    subst (λ (z : State). 512 * length z.rest + load z.tasks < 512 * length ts + load (t ∷ tasks)) b
    (omega (arith, less, fewer, load_append step.tasks tasks))

pub smaller : (t : Task) (tasks : List Task) (ts : List Terminal) (a : State) → moved (rule t (symbol_at ts)) tasks ts ≡ Some a → 512 * length a.rest + load a.tasks < 512 * length ts + load (t ∷ tasks)
smaller t tasks ts a e = smaller_by t tasks ts a (rule t (symbol_at ts)) (light t (symbol_at ts)) e
