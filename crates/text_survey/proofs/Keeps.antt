-- Every step of a task leaves tasks that fit where the task did.
use Rattle.std.proofs.Common.{◌≡◌, cond, Bool, true, false, ◌&&◌, nat_eq, List, [], ◌∷◌, Option, Some, None, refl, ap, ◌∙◌}
use Rattle.rtl_tree.specs.declared.symbol.Symbol.{Symbol}
use Rattle.rtl_tree.specs.declared.symbol.Symbol.TheVariants as symbol
use Rattle.text_survey.specs.declared.task.Level.{Level}
use Rattle.text_survey.specs.declared.task.Level.TheVariants as level
use Rattle.text_survey.specs.declared.task.Task.{Task}
use Rattle.text_survey.specs.declared.task.Task.TheVariants as task
use Rattle.text_survey.specs.declared.task.Taking.TheVariants as taking
use Rattle.text_survey.specs.Table.{Step, go, is_next, same_symbol, required, optional, unless, rank, looseness, link}
use Rattle.text_survey.specs.Rule.{rule}
use Rattle.text_survey.proofs.Laws.Means.{same_is}
use Rattle.text_survey.proofs.Laws.Tails.{tail}
use Rattle.text_survey.proofs.Rows.{ends, ends_name, ends_part, ends_statement, is_end, fits, fit, and_true}

-- ---- what follows

pub next_is : (mark : Symbol) (o : Option Symbol) → is_next mark o ≡ true → o ≡ Some mark
next_is mark None h = cc
next_is mark (Some s) h = ap (λ x. Some x) (same_is s mark h)

-- what holds of a symbol holds where it comes next
pub of_next : (P : Option Symbol → Bool) (mark : Symbol) (o : Option Symbol) → P (Some mark) ≡ true → is_next mark o ≡ true → P o ≡ true
of_next P mark o e h = ap P (next_is mark o h) ∙ e

pub name_ends : (o : Option Symbol) → ends o ≡ true → ends_name o ≡ true
name_ends None h = cc
name_ends (Some symbol.Equals) h = refl
name_ends (Some other) h = h

pub part_ends : (o : Option Symbol) → ends_name o ≡ true → ends_part o ≡ true
part_ends None h = cc
part_ends (Some symbol.Comma) h = refl
part_ends (Some other) h = h

-- ---- what a step leaves

abbrev keeps_by : Option Step → Option Symbol → Bool
keeps_by None next = true
keeps_by (Some step) next = fit step.tasks next

abbrev pub Keeps : Option Step → Option Symbol → Type 0
Keeps o next = keeps_by o next ≡ true

by_optional : (mark : Symbol) (o next : Option Symbol) (tasks : List Task) → fit tasks next ≡ true → Keeps (optional mark o tasks) next
by_optional mark o next tasks e =
    elim (is_next mark o) as (λ b. Keeps (cond b (go taking.Token tasks) (go taking.Nothing [])) next) [ true ↦ e | false ↦ refl ]

by_required : (mark : Symbol) (o next : Option Symbol) (tasks : List Task) → fit tasks next ≡ true → Keeps (required mark o tasks) next
by_required mark o next tasks e = elim (is_next mark o) as (λ b. Keeps (cond b (go taking.Token tasks) None) next) [ true ↦ e | false ↦ refl ]

by_unless : (mark : Symbol) (o next : Option Symbol) (tasks : List Task) → fit tasks next ≡ true → Keeps (unless mark o tasks) next
by_unless mark o next tasks e =
    elim (is_next mark o) as (λ b. Keeps (cond b (go taking.Nothing []) (go taking.Nothing tasks)) next) [ true ↦ refl | false ↦ e ]

one : (a : Bool) → a ≡ true → (a && true) ≡ true
one a e = and_true a true e refl

two : (a b : Bool) → a ≡ true → b ≡ true → (a && (b && true)) ≡ true
two a b e f = and_true a (b && true) e (one b f)

-- ---- expressions

keeps_operand : (o next : Option Symbol) → ends next ≡ true → Keeps (rule (task.Level level.Operand) o) next
keeps_operand None next h = refl
keeps_operand (Some symbol.Name) next h = one (ends_part next) (part_ends next (name_ends next h))
keeps_operand (Some symbol.Plus) next h = one (ends next) h
keeps_operand (Some symbol.Minus) next h = one (ends next) h
keeps_operand (Some symbol.Bang) next h = one (ends next) h
keeps_operand (Some symbol.Tilde) next h = one (ends next) h
keeps_operand (Some symbol.Ampersand) next h = one (ends next) h
keeps_operand (Some symbol.TildeAmpersand) next h = one (ends next) h
keeps_operand (Some symbol.Bar) next h = one (ends next) h
keeps_operand (Some symbol.TildeBar) next h = one (ends next) h
keeps_operand (Some symbol.Caret) next h = one (ends next) h
keeps_operand (Some symbol.TildeCaret) next h = one (ends next) h
keeps_operand (Some other) next h = refl

keeps_level : (k : Level) (o next : Option Symbol) → ends next ≡ true → Keeps (rule (task.Level k) o) next
keeps_level level.Operand o next h = keeps_operand o next h
keeps_level other o next h = two (ends next) (ends next) h h

keeps_chain : (k : Level) (o next : Option Symbol) → ends next ≡ true → Keeps (rule (task.Chain k) o) next
keeps_chain k o next h =
    elim (nat_eq (looseness o) (rank k)) as (λ b. Keeps (cond b (link k) (go taking.Nothing [])) next) [ true ↦ two (ends next) (ends next) h h | false ↦ refl ]

keeps_choice : (o next : Option Symbol) → ends next ≡ true → Keeps (rule task.Choice o) next
keeps_choice None next h = refl
keeps_choice (Some symbol.Question) next h = one (ends next) h
keeps_choice (Some other) next h = refl

keeps_select_end : (o next : Option Symbol) → Keeps (rule task.SelectEnd o) next
keeps_select_end None next = refl
keeps_select_end (Some symbol.Colon) next = refl
keeps_select_end (Some other) next = refl

keeps_parts : (o next : Option Symbol) → Keeps (rule task.Parts o) next
keeps_parts None next = refl
keeps_parts (Some symbol.OpenBrace) next = refl
keeps_parts (Some other) next = refl

-- ---- statements

keeps_constant : (o next : Option Symbol) → ends next ≡ true → Keeps (rule task.AttributeConstant o) next
keeps_constant None next h = one (ends next) h
keeps_constant (Some symbol.Quoted) next h = refl
keeps_constant (Some other) next h = one (ends next) h

keeps_target : (o next : Option Symbol) → ends_part next ≡ true → Keeps (rule task.Target o) next
keeps_target None next h = refl
keeps_target (Some symbol.Name) next h = one (ends_part next) h
keeps_target (Some other) next h = refl

keeps_ticks : (o next : Option Symbol) → Keeps (rule task.Ticks o) next
keeps_ticks None next = refl
keeps_ticks (Some symbol.OpenParen) next = refl
keeps_ticks (Some other) next = refl

keeps_assigner : (o next : Option Symbol) → Keeps (rule task.Assigner o) next
keeps_assigner None next = refl
keeps_assigner (Some symbol.Equals) next = refl
keeps_assigner (Some other) next = refl

keeps_statement : (o next : Option Symbol) → ends_statement next ≡ true → Keeps (rule task.Statement o) next
unfolding same_symbol
keeps_statement None next h = refl
keeps_statement (Some symbol.OpenAttribute) next h = one (ends_statement next) h
keeps_statement (Some symbol.Hash) next h = one (ends_statement next) h
keeps_statement (Some symbol.If) next h = two (ends_statement next) (ends_statement next) h h
keeps_statement (Some symbol.For) next h = one (ends_statement next) h
keeps_statement (Some other) next h = refl

keeps_otherwise : (o next : Option Symbol) → ends_statement next ≡ true → Keeps (rule task.Else o) next
keeps_otherwise None next h = refl
keeps_otherwise (Some symbol.Else) next h = one (ends_statement next) h
keeps_otherwise (Some other) next h = refl

keeps_first_branch : (o next : Option Symbol) → is_next symbol.Endcase next ≡ true → Keeps (rule task.FirstBranch o) next
unfolding same_symbol
keeps_first_branch None next h = two (ends_statement next) (is_next symbol.Endcase next) (of_next ends_statement symbol.Endcase next refl h) h
keeps_first_branch (Some symbol.Default) next h = two (ends_statement next) (is_next symbol.Endcase next) (of_next ends_statement symbol.Endcase next refl h) h
keeps_first_branch (Some other) next h = two (ends_statement next) (is_next symbol.Endcase next) (of_next ends_statement symbol.Endcase next refl h) h

keeps_branches : (o next : Option Symbol) → is_next symbol.Endcase next ≡ true → Keeps (rule task.Branches o) next
keeps_branches None next h = keeps_first_branch None next h
keeps_branches (Some symbol.Endcase) next h = refl
keeps_branches (Some other) next h = keeps_first_branch (Some other) next h

-- ---- items and modules

keeps_marked_item : (o next : Option Symbol) → ends_statement next ≡ true → Keeps (rule task.MarkedItem o) next
unfolding same_symbol
keeps_marked_item None next h = refl
keeps_marked_item (Some symbol.OpenAttribute) next h = one (ends_statement next) h
keeps_marked_item (Some symbol.Always) next h = one (ends_statement next) h
keeps_marked_item (Some other) next h = refl

keeps_item : (o next : Option Symbol) → ends_statement next ≡ true → Keeps (rule task.Item o) next
unfolding same_symbol
keeps_item None next h = one (ends_statement next) h
keeps_item (Some symbol.If) next h = two (ends_statement next) (ends_statement next) h h
keeps_item (Some symbol.Case) next h = refl
keeps_item (Some symbol.For) next h = one (ends_statement next) h
keeps_item (Some other) next h = one (ends_statement next) h

keeps_made : (o next : Option Symbol) → ends_statement next ≡ true → Keeps (rule task.Made o) next
unfolding same_symbol
keeps_made None next h = one (ends_statement next) h
keeps_made (Some symbol.Semicolon) next h = refl
keeps_made (Some symbol.Begin) next h = refl
keeps_made (Some other) next h = one (ends_statement next) h

keeps_made_else : (o next : Option Symbol) → ends_statement next ≡ true → Keeps (rule task.MadeElse o) next
keeps_made_else None next h = refl
keeps_made_else (Some symbol.Else) next h = one (ends_statement next) h
keeps_made_else (Some other) next h = refl

keeps_first_choice : (o next : Option Symbol) → is_next symbol.Endcase next ≡ true → Keeps (rule task.FirstChoice o) next
unfolding same_symbol
keeps_first_choice None next h = two (ends_statement next) (is_next symbol.Endcase next) (of_next ends_statement symbol.Endcase next refl h) h
keeps_first_choice (Some symbol.Default) next h = two (ends_statement next) (is_next symbol.Endcase next) (of_next ends_statement symbol.Endcase next refl h) h
keeps_first_choice (Some other) next h = two (ends_statement next) (is_next symbol.Endcase next) (of_next ends_statement symbol.Endcase next refl h) h

keeps_choices : (o next : Option Symbol) → is_next symbol.Endcase next ≡ true → Keeps (rule task.Choices o) next
keeps_choices None next h = keeps_first_choice None next h
keeps_choices (Some symbol.Endcase) next h = refl
keeps_choices (Some other) next h = keeps_first_choice (Some other) next h

keeps_port_kind : (o next : Option Symbol) → Keeps (rule task.PortKind o) next
keeps_port_kind None next = refl
keeps_port_kind (Some symbol.Wire) next = refl
keeps_port_kind (Some other) next = refl

keeps_initial : (o next : Option Symbol) → ends next ≡ true → Keeps (rule task.Initial o) next
keeps_initial None next h = refl
keeps_initial (Some symbol.Equals) next h = one (ends next) h
keeps_initial (Some other) next h = refl

keeps_sensitivity : (o next : Option Symbol) → Keeps (rule task.Sensitivity o) next
keeps_sensitivity None next = refl
keeps_sensitivity (Some symbol.OpenParen) next = refl
keeps_sensitivity (Some other) next = refl

keeps_event_list : (o next : Option Symbol) → Keeps (rule task.EventList o) next
keeps_event_list None next = refl
keeps_event_list (Some symbol.Star) next = refl
keeps_event_list (Some other) next = refl

keeps_event : (o next : Option Symbol) → ends_name next ≡ true → Keeps (rule task.Event o) next
keeps_event None next h = refl
keeps_event (Some symbol.Name) next h = one (ends_name next) h
keeps_event (Some other) next h = refl

keeps_events : (o next : Option Symbol) → ends_name next ≡ true → Keeps (rule task.Events o) next
keeps_events None next h = refl
keeps_events (Some symbol.Or) next h = two (ends_name next) (ends_name next) h h
keeps_events (Some symbol.Comma) next h = two (ends_name next) (ends_name next) h h
keeps_events (Some other) next h = refl

closed : (next : Option Symbol) → is_next symbol.CloseParen next ≡ true → ends next ≡ true
closed next h = of_next ends symbol.CloseParen next refl h

keeps_event_select_end : (o next : Option Symbol) → Keeps (rule task.EventSelectEnd o) next
keeps_event_select_end None next = refl
keeps_event_select_end (Some symbol.Colon) next = refl
keeps_event_select_end (Some other) next = refl

keeps_gate_ticks : (o next : Option Symbol) → Keeps (rule task.GateTicks o) next
unfolding same_symbol
keeps_gate_ticks None next = refl
keeps_gate_ticks (Some symbol.OpenParen) next = refl
keeps_gate_ticks (Some other) next = refl

keeps_output : (o next : Option Symbol) → ends next ≡ true → Keeps (rule task.OutputOrInput o) next
keeps_output None next h = one (ends next) h
keeps_output (Some symbol.Name) next h = two (ends_part next) (ends next) (part_ends next (name_ends next h)) h
keeps_output (Some other) next h = one (ends next) h

keeps_tail : (next : Option Symbol) → ends next ≡ true → fit tail next ≡ true
keeps_tail next h = ap (λ b. b && (b && (b && (b && (b && (b && (b && (b && (b && (b && (b && (b && (true && true))))))))))))) h

keeps_after_name : (o next : Option Symbol) → ends next ≡ true → Keeps (rule task.AfterName o) next
keeps_after_name None next h = keeps_tail next h
keeps_after_name (Some symbol.Comma) next h = one (ends next) h
keeps_after_name (Some other) next h = keeps_tail next h

keeps_arguments : (o next : Option Symbol) → is_next symbol.CloseParen next ≡ true → Keeps (rule task.Arguments o) next
keeps_arguments None next h = two (ends next) (is_next symbol.CloseParen next) (closed next h) h
keeps_arguments (Some symbol.Dot) next h = one (is_next symbol.CloseParen next) h
keeps_arguments (Some symbol.Comma) next h = one (is_next symbol.CloseParen next) h
keeps_arguments (Some other) next h = two (ends next) (is_next symbol.CloseParen next) (closed next h) h

keeps_argument : (o next : Option Symbol) → is_next symbol.CloseParen next ≡ true → Keeps (rule task.Argument o) next
keeps_argument None next h = one (ends next) (closed next h)
keeps_argument (Some symbol.Comma) next h = refl
keeps_argument (Some symbol.CloseParen) next h = refl
keeps_argument (Some other) next h = one (ends next) (closed next h)

keeps_source : (o next : Option Symbol) → is_end next ≡ true → Keeps (rule task.Source o) next
keeps_source None next h = refl
keeps_source (Some s) next h = two (is_end next) (is_end next) h h

keeps_module : (o next : Option Symbol) → is_end next ≡ true → Keeps (rule task.Module o) next
unfolding same_symbol
keeps_module None next h = refl
keeps_module (Some symbol.OpenAttribute) next h = one (is_end next) h
keeps_module (Some other) next h = refl

keeps_head_parameter : (o next : Option Symbol) → ends next ≡ true → Keeps (rule task.HeadParameter o) next
unfolding same_symbol
keeps_head_parameter None next h = one (ends next) h
keeps_head_parameter (Some symbol.Parameter) next h = one (ends next) h
keeps_head_parameter (Some other) next h = one (ends next) h

keeps_port_list : (o next : Option Symbol) → Keeps (rule task.PortList o) next
keeps_port_list None next = refl
keeps_port_list (Some symbol.Input) next = refl
keeps_port_list (Some other) next = refl

keeps_port : (o next : Option Symbol) → Keeps (rule task.Port o) next
unfolding same_symbol
keeps_port None next = refl
keeps_port (Some symbol.Input) next = refl
keeps_port (Some other) next = refl

-- ---- each task

pub keeps : (t : Task) (o next : Option Symbol) → fits t next ≡ true → Keeps (rule t o) next
unfolding same_symbol
keeps (task.Expect s) o next h = by_required s o next [] refl
keeps task.Wrap o next h = refl
keeps task.Join o next h = refl
keeps task.Forget o next h = refl
keeps (task.Level k) o next h = keeps_level k o next h
keeps (task.Chain k) o next h = keeps_chain k o next h
keeps task.Expression o next h = two (ends next) (ends next) h h
keeps task.Choice o next h = keeps_choice o next h
keeps task.Select o next h = by_optional symbol.OpenBracket o next (task.Expression ∷ task.SelectEnd ∷ []) refl
keeps task.SelectEnd o next h = keeps_select_end o next
keeps task.Parts o next h = keeps_parts o next
keeps task.Expressions o next h = by_optional symbol.Comma o next (task.Expression ∷ task.Expressions ∷ []) (two (ends next) (ends next) h h)
keeps task.Attribute o next h = by_required symbol.Name o next (task.AttributeValue ∷ []) (one (ends next) h)
keeps task.Attributes o next h = by_optional symbol.Comma o next (task.Attribute ∷ task.Attributes ∷ []) (two (ends next) (ends next) h h)
keeps task.AttributeValue o next h = by_optional symbol.Equals o next (task.AttributeConstant ∷ []) (one (ends next) h)
keeps task.AttributeConstant o next h = keeps_constant o next h
keeps task.Target o next h = keeps_target o next h
keeps task.Targets o next h = by_optional symbol.Comma o next (task.Target ∷ task.Targets ∷ []) (two (ends_part next) (ends_name next) (part_ends next h) h)
keeps task.Delay o next h = by_optional symbol.Hash o next (task.Ticks ∷ []) refl
keeps task.Ticks o next h = keeps_ticks o next
keeps task.Assigner o next h = keeps_assigner o next
keeps task.Statement o next h = keeps_statement o next h
keeps task.Else o next h = keeps_otherwise o next h
keeps task.Label o next h = by_optional symbol.Colon o next (task.Name ∷ []) refl
keeps task.Statements o next h =
    by_unless symbol.End o next (task.Statement ∷ task.Statements ∷ []) (two (ends_statement next) (is_next symbol.End next) (of_next ends_statement symbol.End next refl h) h)
keeps task.FirstBranch o next h = keeps_first_branch o next h
keeps task.Branches o next h = keeps_branches o next h
keeps task.Labelled o next h =
    by_unless symbol.Endcase o next (task.Expression ∷ task.Expressions ∷ task.Expect symbol.Colon ∷ task.Statement ∷ task.Labelled ∷ [])
    (two (ends_statement next) (is_next symbol.Endcase next) (of_next ends_statement symbol.Endcase next refl h) h)
keeps task.DefaultColon o next h = by_optional symbol.Colon o next [] refl
keeps task.Item o next h = keeps_item o next h
keeps task.MarkedItem o next h = keeps_marked_item o next h
keeps task.Items o next h = by_unless symbol.Endmodule o next (task.Item ∷ task.Items ∷ []) (two (ends_statement next) (is_next symbol.Endmodule next) (of_next ends_statement symbol.Endmodule next refl h) h)
keeps task.RegionItems o next h = by_unless symbol.Endgenerate o next (task.Item ∷ task.RegionItems ∷ []) (two (ends_statement next) (is_next symbol.Endgenerate next) (of_next ends_statement symbol.Endgenerate next refl h) h)
keeps task.BlockItems o next h = by_unless symbol.End o next (task.Item ∷ task.BlockItems ∷ []) (two (ends_statement next) (is_next symbol.End next) (of_next ends_statement symbol.End next refl h) h)
keeps task.Made o next h = keeps_made o next h
keeps task.MadeElse o next h = keeps_made_else o next h
keeps task.FirstChoice o next h = keeps_first_choice o next h
keeps task.Choices o next h = keeps_choices o next h
keeps task.LabelledChoices o next h =
    by_unless symbol.Endcase o next (task.Expression ∷ task.Expressions ∷ task.Expect symbol.Colon ∷ task.Made ∷ task.LabelledChoices ∷ [])
    (two (ends_statement next) (is_next symbol.Endcase next) (of_next ends_statement symbol.Endcase next refl h) h)
keeps task.Name o next h = by_required symbol.Name o next [] refl
keeps task.Names o next h = by_optional symbol.Comma o next (task.Name ∷ task.Names ∷ []) (one (ends next) h)
keeps task.PortKind o next h = keeps_port_kind o next
keeps task.Sign o next h = by_optional symbol.Signed o next [] refl
keeps task.Range o next h = by_optional symbol.OpenBracket o next (task.Expression ∷ task.Expect symbol.Colon ∷ task.Expression ∷ task.Expect symbol.CloseBracket ∷ []) refl
keeps task.Value o next h = by_optional symbol.Equals o next (task.Expression ∷ []) (one (ends next) h)
keeps task.Initial o next h = keeps_initial o next h
keeps task.Net o next h = by_required symbol.Name o next (task.Value ∷ []) (one (ends next) h)
keeps task.Nets o next h = by_optional symbol.Comma o next (task.Net ∷ task.Nets ∷ []) (two (ends next) (ends next) h h)
keeps task.Variable o next h = by_required symbol.Name o next (task.Initial ∷ []) (one (ends next) h)
keeps task.Variables o next h = by_optional symbol.Comma o next (task.Variable ∷ task.Variables ∷ []) (two (ends next) (ends next) h h)
keeps task.Setting o next h = by_required symbol.Name o next (task.Expect symbol.Equals ∷ task.Expression ∷ []) (one (ends next) h)
keeps task.Settings o next h = by_optional symbol.Comma o next (task.Setting ∷ task.Settings ∷ []) (two (ends next) (ends next) h h)
keeps task.Drive o next h = one (ends next) h
keeps task.Drives o next h = by_optional symbol.Comma o next (task.Drive ∷ task.Drives ∷ []) (two (ends next) (ends next) h h)
keeps task.Sensitivity o next h = keeps_sensitivity o next
keeps task.EventList o next h = keeps_event_list o next
keeps task.Event o next h = keeps_event o next h
keeps task.Events o next h = keeps_events o next h
keeps task.EventSelect o next h = by_optional symbol.OpenBracket o next (task.Expression ∷ task.EventSelectEnd ∷ []) refl
keeps task.EventSelectEnd o next h = keeps_event_select_end o next
keeps task.GateDelay o next h = by_optional symbol.Hash o next (task.GateTicks ∷ []) refl
keeps task.GateTicks o next h = keeps_gate_ticks o next
keeps task.Fall o next h = by_optional symbol.Comma o next (task.Expression ∷ []) (one (ends next) (closed next h))
keeps task.GateName o next h = by_optional symbol.Name o next [] refl
keeps task.Gate o next h = refl
keeps task.Gates o next h = by_optional symbol.Comma o next (task.Gate ∷ task.Gates ∷ []) (one (ends next) h)
keeps task.Buffer o next h = refl
keeps task.Buffers o next h = by_optional symbol.Comma o next (task.Buffer ∷ task.Buffers ∷ []) (one (ends next) h)
keeps task.OutputOrInput o next h = keeps_output o next h
keeps task.AfterName o next h = keeps_after_name o next h
keeps task.Overrides o next h = by_optional symbol.Hash o next (task.Expect symbol.OpenParen ∷ task.Arguments ∷ task.Expect symbol.CloseParen ∷ []) refl
keeps task.Instance o next h = by_required symbol.Name o next (task.Expect symbol.OpenParen ∷ task.Connections ∷ task.Expect symbol.CloseParen ∷ []) refl
keeps task.Instances o next h = by_optional symbol.Comma o next (task.Instance ∷ task.Instances ∷ []) (one (ends next) h)
keeps task.Connections o next h = by_unless symbol.CloseParen o next (task.Arguments ∷ []) (one (is_next symbol.CloseParen next) h)
keeps task.Arguments o next h = keeps_arguments o next h
keeps task.Argument o next h = keeps_argument o next h
keeps task.Positional o next h =
    by_optional symbol.Comma o next (task.Argument ∷ task.Positional ∷ []) (two (is_next symbol.CloseParen next) (is_next symbol.CloseParen next) h h)
keeps task.NamedArgument o next h = by_required symbol.Dot o next (task.Name ∷ task.Expect symbol.OpenParen ∷ task.Argument ∷ task.Expect symbol.CloseParen ∷ []) refl
keeps task.Associated o next h = by_optional symbol.Comma o next (task.NamedArgument ∷ task.Associated ∷ []) (one (is_next symbol.CloseParen next) h)
keeps task.Source o next h = keeps_source o next h
keeps task.Module o next h = keeps_module o next h
keeps task.Parameters o next h =
    by_optional symbol.Hash o next (task.Expect symbol.OpenParen ∷ task.FirstParameter ∷ task.HeadParameters ∷ task.Expect symbol.CloseParen ∷ []) refl
keeps task.FirstParameter o next h = by_required symbol.Parameter o next (task.Range ∷ task.Setting ∷ []) (one (ends next) h)
keeps task.HeadParameter o next h = keeps_head_parameter o next h
keeps task.HeadParameters o next h = by_optional symbol.Comma o next (task.HeadParameter ∷ task.HeadParameters ∷ []) (two (ends next) (ends next) h h)
keeps task.Ports o next h = by_optional symbol.OpenParen o next (task.PortList ∷ []) refl
keeps task.PortList o next h = keeps_port_list o next
keeps task.Port o next h = keeps_port o next
keeps task.HeadPorts o next h = by_optional symbol.Comma o next (task.Port ∷ task.HeadPorts ∷ []) (one (ends next) h)
