-- Inside a module no other begins, and nothing but its own end takes an `endmodule`.
use Rattle.std.proofs.Common.{◌≡◌, cond, Bool, true, false, ◌&&◌, nat_eq, List, [], ◌∷◌, ◌++◌, Option, Some, None, refl, sym, ap, subst, ◌∙◌}
use Rattle.rtl_tree.specs.declared.symbol.Symbol.{Symbol}
use Rattle.rtl_tree.specs.declared.symbol.Symbol.TheVariants as symbol
use Rattle.text_survey.specs.declared.task.Level.{Level}
use Rattle.text_survey.specs.declared.task.Level.TheVariants as level
use Rattle.text_survey.specs.declared.task.Task.{Task}
use Rattle.text_survey.specs.declared.task.Task.TheVariants as task
use Rattle.text_survey.specs.declared.task.Taking.{Taking}
use Rattle.text_survey.specs.declared.task.Taking.TheVariants as taking
use Rattle.text_survey.specs.Table.{Step, go, is_next, same_symbol, required, optional, unless, rank, tighter, looseness, link, chain}
use Rattle.text_survey.specs.Rule.{rule}
use Rattle.text_survey.proofs.Laws.Means.{same_is}

-- a task that stands inside a module
pub inner : Task → Bool
inner (task.Expect symbol.Endmodule) = false
inner task.Source = false
inner task.Module = false
inner other = true

all_inner : List Task → Bool
all_inner [] = true
all_inner (t ∷ tasks) = inner t && all_inner tasks

-- no `endmodule` is taken
spares : Option Symbol → Taking → Bool
spares (Some symbol.Endmodule) taking.Token = false
spares (Some symbol.Endmodule) taking.Node = false
spares (Some symbol.Endmodule) taking.Operator = false
spares o t = true

stays_by : Option Symbol → Option Step → Bool
stays_by o None = true
stays_by o (Some step) = all_inner step.tasks && spares o step.taking

Stays : Option Symbol → Option Step → Type 0
Stays o step = stays_by o step ≡ true

and_true : (a b : Bool) → a ≡ true → b ≡ true → (a && b) ≡ true
and_true true b e f = f
and_true false b e f = cc

spares_nothing : (o : Option Symbol) → spares o taking.Nothing ≡ true
unfolding spares
spares_nothing None = refl
spares_nothing (Some symbol.Endmodule) = refl
spares_nothing (Some other) = refl

by_nothing : (o : Option Symbol) (tasks : List Task) → all_inner tasks ≡ true → Stays o (go taking.Nothing tasks)
unfolding Stays stays_by
by_nothing o tasks e = and_true (all_inner tasks) (spares o taking.Nothing) e (spares_nothing o)

by_mark : (mark s : Symbol) (tasks : List Task) → spares (Some mark) taking.Token ≡ true → all_inner tasks ≡ true → same_symbol s mark ≡ true → Stays (Some s) (go taking.Token tasks)
unfolding Stays stays_by
by_mark mark s tasks m e f =
    and_true (all_inner tasks) (spares (Some s) taking.Token) e (subst (λ x. spares (Some x) taking.Token ≡ true) (sym (same_is s mark f)) m)

required_by : (mark s : Symbol) (tasks : List Task) (b : Bool) → spares (Some mark) taking.Token ≡ true → all_inner tasks ≡ true → same_symbol s mark ≡ b → Stays (Some s) (cond b (go taking.Token tasks) None)
unfolding Stays stays_by
required_by mark s tasks true m e f = by_mark mark s tasks m e f
required_by mark s tasks false m e f = refl

by_required : (mark : Symbol) (o : Option Symbol) (tasks : List Task) → spares (Some mark) taking.Token ≡ true → all_inner tasks ≡ true → Stays o (required mark o tasks)
unfolding Stays stays_by
by_required mark None tasks m e = refl
by_required mark (Some s) tasks m e = required_by mark s tasks (same_symbol s mark) m e refl

optional_by : (mark s : Symbol) (tasks : List Task) (b : Bool) → spares (Some mark) taking.Token ≡ true → all_inner tasks ≡ true → same_symbol s mark ≡ b
    → Stays (Some s) (cond b (go taking.Token tasks) (go taking.Nothing []))
unfolding all_inner
optional_by mark s tasks true m e f = by_mark mark s tasks m e f
optional_by mark s tasks false m e f = by_nothing (Some s) [] refl

by_optional : (mark : Symbol) (o : Option Symbol) (tasks : List Task) → spares (Some mark) taking.Token ≡ true → all_inner tasks ≡ true → Stays o (optional mark o tasks)
unfolding all_inner
by_optional mark None tasks m e = by_nothing None [] refl
by_optional mark (Some s) tasks m e = optional_by mark s tasks (same_symbol s mark) m e refl

by_unless : (mark : Symbol) (o : Option Symbol) (tasks : List Task) → all_inner tasks ≡ true → Stays o (unless mark o tasks)
unfolding all_inner
by_unless mark o tasks e =
    elim (is_next mark o) as (λ b. Stays o (cond b (go taking.Nothing []) (go taking.Nothing tasks))) [ true ↦ by_nothing o [] refl | false ↦ by_nothing o tasks e ]

-- ---- each task

stays_operand : (o : Option Symbol) → Stays o (rule (task.Level level.Operand) o)
unfolding Stays stays_by inner all_inner spares
stays_operand None = refl
stays_operand (Some symbol.Number) = refl
stays_operand (Some other) = refl

stays_choice : (o : Option Symbol) → Stays o (rule task.Choice o)
unfolding Stays stays_by inner all_inner spares
stays_choice None = refl
stays_choice (Some symbol.Question) = refl
stays_choice (Some other) = refl

stays_select_end : (o : Option Symbol) → Stays o (rule task.SelectEnd o)
unfolding Stays stays_by inner all_inner spares
stays_select_end None = refl
stays_select_end (Some symbol.Colon) = refl
stays_select_end (Some other) = refl

stays_parts : (o : Option Symbol) → Stays o (rule task.Parts o)
unfolding Stays stays_by inner all_inner spares
stays_parts None = refl
stays_parts (Some symbol.OpenBrace) = refl
stays_parts (Some other) = refl

stays_constant : (o : Option Symbol) → Stays o (rule task.AttributeConstant o)
unfolding Stays stays_by inner all_inner spares
stays_constant None = refl
stays_constant (Some symbol.Quoted) = refl
stays_constant (Some other) = refl

stays_target : (o : Option Symbol) → Stays o (rule task.Target o)
unfolding Stays stays_by inner all_inner spares
stays_target None = refl
stays_target (Some symbol.Name) = refl
stays_target (Some other) = refl

stays_ticks : (o : Option Symbol) → Stays o (rule task.Ticks o)
unfolding Stays stays_by inner all_inner spares
stays_ticks None = refl
stays_ticks (Some symbol.Name) = refl
stays_ticks (Some other) = refl

stays_assigner : (o : Option Symbol) → Stays o (rule task.Assigner o)
unfolding Stays stays_by inner all_inner spares
stays_assigner None = refl
stays_assigner (Some symbol.Equals) = refl
stays_assigner (Some other) = refl

stays_statement : (o : Option Symbol) → Stays o (rule task.Statement o)
unfolding Stays stays_by inner all_inner spares
stays_statement None = refl
stays_statement (Some symbol.Name) = refl
stays_statement (Some other) = refl

stays_otherwise : (o : Option Symbol) → Stays o (rule task.Else o)
unfolding Stays stays_by inner all_inner spares
stays_otherwise None = refl
stays_otherwise (Some symbol.Else) = refl
stays_otherwise (Some other) = refl

stays_first_branch : (o : Option Symbol) → Stays o (rule task.FirstBranch o)
unfolding Stays stays_by inner all_inner spares
stays_first_branch None = refl
stays_first_branch (Some symbol.Default) = refl
stays_first_branch (Some other) = refl

stays_branches : (o : Option Symbol) → Stays o (rule task.Branches o)
unfolding Stays stays_by inner all_inner spares
stays_branches None = refl
stays_branches (Some symbol.Default) = refl
stays_branches (Some other) = refl

stays_item : (o : Option Symbol) → Stays o (rule task.Item o)
unfolding Stays stays_by inner all_inner spares
stays_item None = refl
stays_item (Some symbol.If) = refl
stays_item (Some other) = refl

stays_marked_item : (o : Option Symbol) → Stays o (rule task.MarkedItem o)
unfolding Stays stays_by inner all_inner spares
stays_marked_item None = refl
stays_marked_item (Some symbol.Name) = refl
stays_marked_item (Some other) = refl

stays_made : (o : Option Symbol) → Stays o (rule task.Made o)
unfolding Stays stays_by inner all_inner spares
stays_made None = refl
stays_made (Some symbol.Begin) = refl
stays_made (Some other) = refl

stays_made_else : (o : Option Symbol) → Stays o (rule task.MadeElse o)
unfolding Stays stays_by inner all_inner spares
stays_made_else None = refl
stays_made_else (Some symbol.Else) = refl
stays_made_else (Some other) = refl

stays_first_choice : (o : Option Symbol) → Stays o (rule task.FirstChoice o)
unfolding Stays stays_by inner all_inner spares
stays_first_choice None = refl
stays_first_choice (Some symbol.Default) = refl
stays_first_choice (Some other) = refl

stays_choices : (o : Option Symbol) → Stays o (rule task.Choices o)
unfolding Stays stays_by inner all_inner spares
stays_choices None = refl
stays_choices (Some symbol.Default) = refl
stays_choices (Some other) = refl

stays_port_kind : (o : Option Symbol) → Stays o (rule task.PortKind o)
unfolding Stays stays_by inner all_inner spares
stays_port_kind None = refl
stays_port_kind (Some symbol.Wire) = refl
stays_port_kind (Some other) = refl

stays_initial : (o : Option Symbol) → Stays o (rule task.Initial o)
unfolding Stays stays_by inner all_inner spares
stays_initial None = refl
stays_initial (Some symbol.Equals) = refl
stays_initial (Some other) = refl

stays_sensitivity : (o : Option Symbol) → Stays o (rule task.Sensitivity o)
unfolding Stays stays_by inner all_inner spares
stays_sensitivity None = refl
stays_sensitivity (Some symbol.Star) = refl
stays_sensitivity (Some other) = refl

stays_event_list : (o : Option Symbol) → Stays o (rule task.EventList o)
unfolding Stays stays_by inner all_inner spares
stays_event_list None = refl
stays_event_list (Some symbol.Star) = refl
stays_event_list (Some other) = refl

stays_event : (o : Option Symbol) → Stays o (rule task.Event o)
unfolding Stays stays_by inner all_inner spares
stays_event None = refl
stays_event (Some symbol.Name) = refl
stays_event (Some other) = refl

stays_events : (o : Option Symbol) → Stays o (rule task.Events o)
unfolding Stays stays_by inner all_inner spares
stays_events None = refl
stays_events (Some symbol.Or) = refl
stays_events (Some other) = refl

stays_event_select_end : (o : Option Symbol) → Stays o (rule task.EventSelectEnd o)
unfolding Stays stays_by inner all_inner spares
stays_event_select_end None = refl
stays_event_select_end (Some symbol.Colon) = refl
stays_event_select_end (Some other) = refl

stays_gate_ticks : (o : Option Symbol) → Stays o (rule task.GateTicks o)
unfolding Stays stays_by inner all_inner spares
stays_gate_ticks None = refl
stays_gate_ticks (Some symbol.Name) = refl
stays_gate_ticks (Some other) = refl

stays_output : (o : Option Symbol) → Stays o (rule task.OutputOrInput o)
unfolding Stays stays_by inner all_inner spares
stays_output None = refl
stays_output (Some symbol.Name) = refl
stays_output (Some other) = refl

stays_after_name : (o : Option Symbol) → Stays o (rule task.AfterName o)
unfolding Stays stays_by inner all_inner spares
stays_after_name None = refl
stays_after_name (Some symbol.Comma) = refl
stays_after_name (Some other) = refl

stays_arguments : (o : Option Symbol) → Stays o (rule task.Arguments o)
unfolding Stays stays_by inner all_inner spares
stays_arguments None = refl
stays_arguments (Some symbol.Dot) = refl
stays_arguments (Some other) = refl

stays_argument : (o : Option Symbol) → Stays o (rule task.Argument o)
unfolding Stays stays_by inner all_inner spares
stays_argument None = refl
stays_argument (Some symbol.Comma) = refl
stays_argument (Some other) = refl

stays_head_parameter : (o : Option Symbol) → Stays o (rule task.HeadParameter o)
unfolding Stays stays_by inner all_inner spares
stays_head_parameter None = refl
stays_head_parameter (Some symbol.Parameter) = refl
stays_head_parameter (Some other) = refl

stays_port_list : (o : Option Symbol) → Stays o (rule task.PortList o)
unfolding Stays stays_by inner all_inner spares
stays_port_list None = refl
stays_port_list (Some symbol.Input) = refl
stays_port_list (Some other) = refl

stays_port : (o : Option Symbol) → Stays o (rule task.Port o)
unfolding Stays stays_by inner all_inner spares
stays_port None = refl
stays_port (Some symbol.Input) = refl
stays_port (Some other) = refl

stays_level : (k : Level) (o : Option Symbol) → Stays o (rule (task.Level k) o)
unfolding Stays stays_by inner all_inner spares
stays_level level.Operand o = stays_operand o
stays_level other o = by_nothing o (task.Level (tighter other) ∷ task.Chain other ∷ []) refl

link_stays : (k : Level) (s : Symbol) → spares (Some s) taking.Operator ≡ true → Stays (Some s) (link k)
unfolding Stays stays_by inner all_inner
link_stays level.Operand s h = h
link_stays other s h = h

end_stays : (k : Level) → Stays (Some symbol.Endmodule) (rule (task.Chain k) (Some symbol.Endmodule))
unfolding Stays stays_by inner all_inner spares
end_stays level.Operand = refl
end_stays other = refl

chain_stays : (k : Level) (s : Symbol) → spares (Some s) taking.Operator ≡ true → Stays (Some s) (chain k (Some s))
unfolding all_inner
chain_stays k s h =
    elim (nat_eq (looseness (Some s)) (rank k)) as (λ b. Stays (Some s) (cond b (link k) (go taking.Nothing []))) [ true ↦ link_stays k s h | false ↦ by_nothing (Some s) [] refl ]

stays_chain : (k : Level) (o : Option Symbol) → Stays o (rule (task.Chain k) o)
unfolding Stays stays_by inner all_inner spares
stays_chain level.Operand None = refl
stays_chain other None = refl
stays_chain k (Some symbol.Endmodule) = end_stays k
stays_chain k (Some other) = chain_stays k other refl

expect_spares : (s : Symbol) → inner (task.Expect s) ≡ true → spares (Some s) taking.Token ≡ true
unfolding inner spares
expect_spares symbol.Endmodule h = cc
expect_spares other h = refl

inside : (t : Task) (o : Option Symbol) → inner t ≡ true → Stays o (rule t o)
unfolding Stays stays_by inner all_inner spares
inside (task.Expect s) o h = by_required s o [] (expect_spares s h) refl
inside task.Wrap o h = by_nothing o [] refl
inside task.Join o h = by_nothing o [] refl
inside task.Forget o h = by_nothing o [] refl
inside (task.Level k) o h = stays_level k o
inside (task.Chain k) o h = stays_chain k o
inside task.Source o h = cc
inside task.Module o h = cc
inside task.Parameters o h = by_optional symbol.Hash o (task.Expect symbol.OpenParen ∷ task.FirstParameter ∷ task.HeadParameters ∷ task.Expect symbol.CloseParen ∷ []) refl refl
inside task.FirstParameter o h = by_required symbol.Parameter o (task.Range ∷ task.Setting ∷ []) refl refl
inside task.HeadParameter o h = stays_head_parameter o
inside task.HeadParameters o h = by_optional symbol.Comma o (task.HeadParameter ∷ task.HeadParameters ∷ []) refl refl
inside task.Ports o h = by_optional symbol.OpenParen o (task.PortList ∷ []) refl refl
inside task.PortList o h = stays_port_list o
inside task.Port o h = stays_port o
inside task.HeadPorts o h = by_optional symbol.Comma o (task.Port ∷ task.HeadPorts ∷ []) refl refl
inside task.Overrides o h = by_optional symbol.Hash o (task.Expect symbol.OpenParen ∷ task.Arguments ∷ task.Expect symbol.CloseParen ∷ []) refl refl
inside task.Instance o h = by_required symbol.Name o (task.Expect symbol.OpenParen ∷ task.Connections ∷ task.Expect symbol.CloseParen ∷ []) refl refl
inside task.Instances o h = by_optional symbol.Comma o (task.Instance ∷ task.Instances ∷ []) refl refl
inside task.Connections o h = by_unless symbol.CloseParen o (task.Arguments ∷ []) refl
inside task.Arguments o h = stays_arguments o
inside task.Argument o h = stays_argument o
inside task.Positional o h = by_optional symbol.Comma o (task.Argument ∷ task.Positional ∷ []) refl refl
inside task.NamedArgument o h = by_required symbol.Dot o (task.Name ∷ task.Expect symbol.OpenParen ∷ task.Argument ∷ task.Expect symbol.CloseParen ∷ []) refl refl
inside task.Associated o h = by_optional symbol.Comma o (task.NamedArgument ∷ task.Associated ∷ []) refl refl
inside task.Sensitivity o h = stays_sensitivity o
inside task.EventList o h = stays_event_list o
inside task.Event o h = stays_event o
inside task.Events o h = stays_events o
inside task.EventSelect o h = by_optional symbol.OpenBracket o (task.Expression ∷ task.EventSelectEnd ∷ []) refl refl
inside task.EventSelectEnd o h = stays_event_select_end o
inside task.GateDelay o h = by_optional symbol.Hash o (task.GateTicks ∷ []) refl refl
inside task.GateTicks o h = stays_gate_ticks o
inside task.Fall o h = by_optional symbol.Comma o (task.Expression ∷ []) refl refl
inside task.GateName o h = by_optional symbol.Name o [] refl refl
inside task.Gate o h = by_nothing o (task.GateName ∷ task.Expect symbol.OpenParen ∷ task.Target ∷ task.Expect symbol.Comma ∷ task.Expression ∷ task.Expressions ∷ task.Expect symbol.CloseParen ∷ []) refl
inside task.Gates o h = by_optional symbol.Comma o (task.Gate ∷ task.Gates ∷ []) refl refl
inside task.Buffer o h = by_nothing o (task.GateName ∷ task.Expect symbol.OpenParen ∷ task.Target ∷ task.Expect symbol.Comma ∷ task.OutputOrInput ∷ task.Expect symbol.CloseParen ∷ []) refl
inside task.Buffers o h = by_optional symbol.Comma o (task.Buffer ∷ task.Buffers ∷ []) refl refl
inside task.OutputOrInput o h = stays_output o
inside task.AfterName o h = stays_after_name o
inside task.PortKind o h = stays_port_kind o
inside task.Sign o h = by_optional symbol.Signed o [] refl refl
inside task.Range o h = by_optional symbol.OpenBracket o (task.Expression ∷ task.Expect symbol.Colon ∷ task.Expression ∷ task.Expect symbol.CloseBracket ∷ []) refl refl
inside task.Value o h = by_optional symbol.Equals o (task.Expression ∷ []) refl refl
inside task.Initial o h = stays_initial o
inside task.Net o h = by_required symbol.Name o (task.Value ∷ []) refl refl
inside task.Nets o h = by_optional symbol.Comma o (task.Net ∷ task.Nets ∷ []) refl refl
inside task.Variable o h = by_required symbol.Name o (task.Initial ∷ []) refl refl
inside task.Variables o h = by_optional symbol.Comma o (task.Variable ∷ task.Variables ∷ []) refl refl
inside task.Item o h = stays_item o
inside task.MarkedItem o h = stays_marked_item o
inside task.RegionItems o h = by_unless symbol.Endgenerate o (task.Item ∷ task.RegionItems ∷ []) refl
inside task.BlockItems o h = by_unless symbol.End o (task.Item ∷ task.BlockItems ∷ []) refl
inside task.Made o h = stays_made o
inside task.MadeElse o h = stays_made_else o
inside task.FirstChoice o h = stays_first_choice o
inside task.Choices o h = stays_choices o
inside task.LabelledChoices o h = by_unless symbol.Endcase o (task.Expression ∷ task.Expressions ∷ task.Expect symbol.Colon ∷ task.Made ∷ task.LabelledChoices ∷ []) refl
inside task.Items o h = by_unless symbol.Endmodule o (task.Item ∷ task.Items ∷ []) refl
inside task.Name o h = by_required symbol.Name o [] refl refl
inside task.Names o h = by_optional symbol.Comma o (task.Name ∷ task.Names ∷ []) refl refl
inside task.Setting o h = by_required symbol.Name o (task.Expect symbol.Equals ∷ task.Expression ∷ []) refl refl
inside task.Settings o h = by_optional symbol.Comma o (task.Setting ∷ task.Settings ∷ []) refl refl
inside task.Drive o h = by_nothing o (task.Target ∷ task.Expect symbol.Equals ∷ task.Expression ∷ []) refl
inside task.Drives o h = by_optional symbol.Comma o (task.Drive ∷ task.Drives ∷ []) refl refl
inside task.FirstBranch o h = stays_first_branch o
inside task.Branches o h = stays_branches o
inside task.Labelled o h = by_unless symbol.Endcase o (task.Expression ∷ task.Expressions ∷ task.Expect symbol.Colon ∷ task.Statement ∷ task.Labelled ∷ []) refl
inside task.DefaultColon o h = by_optional symbol.Colon o [] refl refl
inside task.Attribute o h = by_required symbol.Name o (task.AttributeValue ∷ []) refl refl
inside task.Attributes o h = by_optional symbol.Comma o (task.Attribute ∷ task.Attributes ∷ []) refl refl
inside task.AttributeValue o h = by_optional symbol.Equals o (task.AttributeConstant ∷ []) refl refl
inside task.AttributeConstant o h = stays_constant o
inside task.Target o h = stays_target o
inside task.Targets o h = by_optional symbol.Comma o (task.Target ∷ task.Targets ∷ []) refl refl
inside task.Delay o h = by_optional symbol.Hash o (task.Ticks ∷ []) refl refl
inside task.Ticks o h = stays_ticks o
inside task.Assigner o h = stays_assigner o
inside task.Statement o h = stays_statement o
inside task.Else o h = stays_otherwise o
inside task.Label o h = by_optional symbol.Colon o (task.Name ∷ []) refl refl
inside task.Statements o h = by_unless symbol.End o (task.Statement ∷ task.Statements ∷ []) refl
inside task.Expression o h = by_nothing o (task.Level level.LogicalOr ∷ task.Choice ∷ task.Join ∷ []) refl
inside task.Choice o h = stays_choice o
inside task.Select o h = by_optional symbol.OpenBracket o (task.Expression ∷ task.SelectEnd ∷ []) refl refl
inside task.SelectEnd o h = stays_select_end o
inside task.Parts o h = stays_parts o
inside task.Expressions o h = by_optional symbol.Comma o (task.Expression ∷ task.Expressions ∷ []) refl refl

and_left : (a b : Bool) → (a && b) ≡ true → a ≡ true
and_left true b h = refl
and_left false b h = cc

and_right : (a b : Bool) → (a && b) ≡ true → b ≡ true
and_right true b h = h
and_right false b h = cc

no_step : (step : Step) → None ≡ Some step → ⊥
no_step step e = cc

same_step : (a b : Step) → Some a ≡ Some b → a ≡ b
same_step a b e = cc

-- ---- what stands under the tasks of a module

is_source : List Task → Bool
is_source (task.Source ∷ []) = true
is_source tasks = false

is_last : Task → List Task → Bool
is_last task.Source [] = true
is_last task.Source (t ∷ tasks) = false
is_last other tasks = is_source tasks

-- the source stands last, and before it alone what begins or ends a module
pub shaped : List Task → Bool
shaped [] = true
shaped (t ∷ tasks) = cond (inner t) (shaped tasks) (is_last t tasks)

pub begins_shaped : shaped (task.Source ∷ []) ≡ true
unfolding shaped inner is_last
begins_shaped = refl

shaped_append : (tasks others : List Task) → all_inner tasks ≡ true → shaped others ≡ true → shaped (tasks ++ others) ≡ true
unfolding all_inner shaped
shaped_append [] others a h = h
shaped_append (t ∷ tasks) others a h =
    ap (λ b. cond b (shaped (tasks ++ others)) (is_last t (tasks ++ others))) (and_left (inner t) (all_inner tasks) a) ∙ shaped_append tasks others (and_right (inner t) (all_inner tasks) a) h

inner_shaped : (t : Task) (tasks : List Task) → inner t ≡ true → shaped (t ∷ tasks) ≡ true → shaped tasks ≡ true
unfolding shaped
inner_shaped t tasks i h = sym (ap (λ b. cond b (shaped tasks) (is_last t tasks)) i) ∙ h

outer_last : (t : Task) (tasks : List Task) → inner t ≡ false → shaped (t ∷ tasks) ≡ true → is_last t tasks ≡ true
unfolding shaped
outer_last t tasks i h = sym (ap (λ b. cond b (shaped tasks) (is_last t tasks)) i) ∙ h

source_alone : (tasks : List Task) → is_source tasks ≡ true → tasks ≡ task.Source ∷ []
unfolding is_source
source_alone [] h = cc
source_alone (task.Source ∷ []) h = refl
source_alone (task.Source ∷ t ∷ tasks) h = cc
source_alone (other ∷ tasks) h = cc

none_last : (tasks : List Task) → is_last task.Source tasks ≡ true → tasks ≡ []
unfolding is_last
none_last [] h = refl
none_last (t ∷ tasks) h = cc

-- the task that ends a module
pub end_last : (tasks : List Task) → shaped (task.Expect symbol.Endmodule ∷ tasks) ≡ true → tasks ≡ task.Source ∷ []
unfolding is_last inner
end_last tasks h = source_alone tasks (outer_last (task.Expect symbol.Endmodule) tasks refl h)

inner_step : (t : Task) (tasks : List Task) (o : Option Symbol) (step : Step) → inner t ≡ true → shaped (t ∷ tasks) ≡ true → rule t o ≡ Some step → shaped (step.tasks ++ tasks) ≡ true
unfolding Stays stays_by
inner_step t tasks o step i h e =
    let s : stays_by o (Some step) ≡ true = subst (λ r. stays_by o r ≡ true) e (inside t o i) in
    shaped_append step.tasks tasks (and_left (all_inner step.tasks) (spares o step.taking) s) (inner_shaped t tasks i h)

source_step : (o : Option Symbol) (step : Step) → rule task.Source o ≡ Some step → shaped (step.tasks ++ []) ≡ true
unfolding shaped inner is_last is_source
source_step None step e = subst (λ (x : Step). shaped (x.tasks ++ []) ≡ true) (same_step (record { taking = taking.Nothing; tasks = [] }) step e) refl
source_step (Some s) step e =
    subst (λ (x : Step). shaped (x.tasks ++ []) ≡ true) (same_step (record { taking = taking.Nothing; tasks = task.Module ∷ task.Source ∷ [] }) step e) refl

shaped_by : Option Step → Bool
shaped_by None = true
shaped_by (Some step) = shaped (step.tasks ++ task.Source ∷ [])

module_shaped : (o : Option Symbol) → shaped_by (rule task.Module o) ≡ true
unfolding shaped_by shaped inner is_last is_source
module_shaped None = refl
module_shaped (Some symbol.Module) = refl
module_shaped (Some other) = refl

module_step : (o : Option Symbol) (step : Step) → rule task.Module o ≡ Some step → shaped (step.tasks ++ task.Source ∷ []) ≡ true
unfolding shaped_by
module_step o step e = subst (λ r. shaped_by r ≡ true) e (module_shaped o)

end_shaped : (o : Option Symbol) → shaped_by (rule (task.Expect symbol.Endmodule) o) ≡ true
unfolding shaped_by shaped inner is_last is_source
end_shaped None = refl
end_shaped (Some s) =
    elim (same_symbol s symbol.Endmodule) as (λ b. shaped_by (cond b (go taking.Token []) None) ≡ true) [ true ↦ refl | false ↦ refl ]

end_step : (o : Option Symbol) (step : Step) → rule (task.Expect symbol.Endmodule) o ≡ Some step → shaped (step.tasks ++ task.Source ∷ []) ≡ true
unfolding shaped_by
end_step o step e = subst (λ r. shaped_by r ≡ true) e (end_shaped o)

expect_outer : (s : Symbol) → inner (task.Expect s) ≡ false → s ≡ symbol.Endmodule
unfolding inner
expect_outer symbol.Endmodule h = refl
expect_outer other h = cc

outer_step : (t : Task) (tasks : List Task) (o : Option Symbol) (step : Step) → inner t ≡ false → shaped (t ∷ tasks) ≡ true → rule t o ≡ Some step → shaped (step.tasks ++ tasks) ≡ true
unfolding inner is_last
outer_step task.Source tasks o step i h e =
    subst (λ xs. shaped (step.tasks ++ xs) ≡ true) (sym (none_last tasks (outer_last task.Source tasks refl h))) (source_step o step e)
outer_step task.Module tasks o step i h e =
    subst (λ xs. shaped (step.tasks ++ xs) ≡ true) (sym (source_alone tasks (outer_last task.Module tasks refl h))) (module_step o step e)
outer_step (task.Expect s) tasks o step i h e =
    let m = expect_outer s i in
    subst (λ xs. shaped (step.tasks ++ xs) ≡ true) (sym (end_last tasks (subst (λ x. shaped (task.Expect x ∷ tasks) ≡ true) m h)))
    (end_step o step (subst (λ x. rule (task.Expect x) o ≡ Some step) m e))
outer_step other tasks o step i h e = cc

-- every step keeps the shape
pub keeps_shape : (t : Task) (tasks : List Task) (o : Option Symbol) (step : Step) → shaped (t ∷ tasks) ≡ true → rule t o ≡ Some step → shaped (step.tasks ++ tasks) ≡ true
keeps_shape t tasks o step h e = by_inner (inner t) refl
  where
    by_inner : (b : Bool) → inner t ≡ b → shaped (step.tasks ++ tasks) ≡ true
    by_inner true i = inner_step t tasks o step i h e
    by_inner false i = outer_step t tasks o step i h e

-- ---- who takes an `endmodule`

unfoldable pub takes : Taking → Bool
takes taking.Nothing = false
takes taking.Ahead = false
takes taking.Token = true
takes taking.Node = true
takes taking.Operator = true

not_spared : (t : Taking) → takes t ≡ true → spares (Some symbol.Endmodule) t ≡ true → ⊥
unfolding takes spares
not_spared taking.Nothing h s = cc
not_spared taking.Ahead h s = cc
not_spared taking.Token h s = cc
not_spared taking.Node h s = cc
not_spared taking.Operator h s = cc

taker_outer : (t : Task) (step : Step) → inner t ≡ true → rule t (Some symbol.Endmodule) ≡ Some step → takes step.taking ≡ true → ⊥
unfolding Stays stays_by
taker_outer t step i e h =
    let s : stays_by (Some symbol.Endmodule) (Some step) ≡ true = subst (λ r. stays_by (Some symbol.Endmodule) r ≡ true) e (inside t (Some symbol.Endmodule) i) in
    not_spared step.taking h (and_right (all_inner step.tasks) (spares (Some symbol.Endmodule) step.taking) s)

outer_taker : (t : Task) (step : Step) → inner t ≡ false → rule t (Some symbol.Endmodule) ≡ Some step → takes step.taking ≡ true → t ≡ task.Expect symbol.Endmodule
unfolding inner takes
outer_taker task.Source step i e h =
    absurd (stays_there (ap (λ (x : Step). takes x.taking) (same_step (record { taking = taking.Nothing; tasks = task.Module ∷ task.Source ∷ [] }) step e) ∙ h))
  where
    stays_there : false ≡ true → ⊥
    stays_there x = cc
outer_taker task.Module step i e h = absurd (no_step step e)
outer_taker (task.Expect s) step i e h = ap task.Expect (expect_outer s i)
outer_taker other step i e h = cc

-- an `endmodule` is taken by the end of a module alone
pub taker : (t : Task) (step : Step) → rule t (Some symbol.Endmodule) ≡ Some step → takes step.taking ≡ true → t ≡ task.Expect symbol.Endmodule
taker t step e h = by_inner (inner t) refl
  where
    by_inner : (b : Bool) → inner t ≡ b → t ≡ task.Expect symbol.Endmodule
    by_inner true i = absurd (taker_outer t step i e h)
    by_inner false i = outer_taker t step i e h
