-- Where all work was done, modules are spelled.
use Rattle.std.proofs.Common.{◌≡◌, ℕ, zero, suc, List, [], ◌∷◌, ◌++◌, Option, Some, None, refl, sym, ap, subst, ◌∙◌}
use Rattle.rtl_tree.specs.Symbols.{Terminal}
use Rattle.text_grammar.specs.GrammarModule.{AreCircuits}
use Rattle.text_survey.specs.declared.task.Task.{Task}
use Rattle.text_survey.specs.declared.task.Task.TheVariants as task
use Rattle.text_survey.specs.declared.task.Taking.{Taking}
use Rattle.text_survey.specs.declared.task.Taking.TheVariants as taking
use Rattle.text_survey.specs.Table.{Step}
use Rattle.text_survey.specs.Rule.{rule}
use Rattle.text_survey.specs.Machine.{State, at, symbol_at, left, moved, next, after, Leads}
use Rattle.text_survey.specs.Surveys.{AreNumbered, SpellSome, start}
use Rattle.text_survey.proofs.Laws.Steps.{some_is, first}
use Rattle.text_survey.proofs.Laws.Means.{AllMean, Then, Numbered, to, was_required}
use Rattle.text_survey.proofs.Laws.SoundExpressions.{Sound, sound_level, sound_chain}
use Rattle.text_survey.proofs.Laws.SoundExpressions as expressions
use Rattle.text_survey.proofs.Laws.SoundStatements as statements
use Rattle.text_survey.proofs.Laws.SoundItems as declarations
use Rattle.text_survey.proofs.Laws.SoundGates as gates
use Rattle.text_survey.proofs.Laws.SoundModules as modules
use Rattle.text_survey.proofs.Laws.SoundGenerate as generate

sound : (t : Task) → Sound t
sound (task.Expect s) ts rest n w =
    let v = was_required s [] ts rest w in
    to s ts v.0 rest v.1 v.2
sound task.Wrap ts rest n w = w
sound task.Join ts rest n w = w
sound task.Forget ts rest n w = w
sound (task.Level k) ts rest n w = sound_level k ts rest n w
sound (task.Chain k) ts rest n w = sound_chain k ts rest n w
sound task.Expression ts rest n w = expressions.sound_expression ts rest n w
sound task.Choice ts rest n w = expressions.sound_choice ts rest n w
sound task.Select ts rest n w = expressions.sound_select ts rest n w
sound task.SelectEnd ts rest n w = expressions.sound_select_end ts rest n w
sound task.Parts ts rest n w = expressions.sound_parts ts rest n w
sound task.Expressions ts rest n w = expressions.sound_expressions ts rest n w
sound task.Attribute ts rest n w = statements.sound_attribute ts rest n w
sound task.Attributes ts rest n w = statements.sound_attributes ts rest n w
sound task.AttributeValue ts rest n w = statements.sound_value ts rest n w
sound task.AttributeConstant ts rest n w = statements.sound_constant ts rest n w
sound task.Target ts rest n w = statements.sound_target ts rest n w
sound task.Targets ts rest n w = statements.sound_targets ts rest n w
sound task.Delay ts rest n w = statements.sound_delay ts rest n w
sound task.Ticks ts rest n w = statements.sound_ticks ts rest n w
sound task.Assigner ts rest n w = statements.sound_assigner ts rest n w
sound task.Statement ts rest n w = statements.sound_statement ts rest n w
sound task.Else ts rest n w = statements.sound_else ts rest n w
sound task.Label ts rest n w = statements.sound_label ts rest n w
sound task.Statements ts rest n w = statements.sound_statements ts rest n w
sound task.FirstBranch ts rest n w = statements.sound_first ts rest n w
sound task.Branches ts rest n w = statements.sound_branches ts rest n w
sound task.Labelled ts rest n w = statements.sound_labelled ts rest n w
sound task.DefaultColon ts rest n w = statements.sound_colon ts rest n w
sound task.Item ts rest n w = generate.sound_item ts rest n w
sound task.MarkedItem ts rest n w = modules.sound_marked_item ts rest n w
sound task.Items ts rest n w = modules.sound_items ts rest n w
sound task.RegionItems ts rest n w = generate.sound_region_items ts rest n w
sound task.BlockItems ts rest n w = generate.sound_block_items ts rest n w
sound task.Made ts rest n w = generate.sound_made ts rest n w
sound task.MadeElse ts rest n w = generate.sound_else ts rest n w
sound task.FirstChoice ts rest n w = generate.sound_first ts rest n w
sound task.Choices ts rest n w = generate.sound_choices ts rest n w
sound task.LabelledChoices ts rest n w = generate.sound_labelled ts rest n w
sound task.Name ts rest n w = declarations.sound_name ts rest n w
sound task.Names ts rest n w = declarations.sound_names ts rest n w
sound task.PortKind ts rest n w = declarations.sound_kind ts rest n w
sound task.Sign ts rest n w = declarations.sound_sign ts rest n w
sound task.Range ts rest n w = declarations.sound_range ts rest n w
sound task.Value ts rest n w = declarations.sound_value ts rest n w
sound task.Initial ts rest n w = declarations.sound_initial ts rest n w
sound task.Net ts rest n w = declarations.sound_net ts rest n w
sound task.Nets ts rest n w = declarations.sound_nets ts rest n w
sound task.Variable ts rest n w = declarations.sound_variable ts rest n w
sound task.Variables ts rest n w = declarations.sound_variables ts rest n w
sound task.Setting ts rest n w = declarations.sound_setting ts rest n w
sound task.Settings ts rest n w = declarations.sound_settings ts rest n w
sound task.Drive ts rest n w = declarations.sound_drive ts rest n w
sound task.Drives ts rest n w = declarations.sound_drives ts rest n w
sound task.Sensitivity ts rest n w = declarations.sound_sensitivity ts rest n w
sound task.EventList ts rest n w = declarations.sound_event_list ts rest n w
sound task.Event ts rest n w = declarations.sound_event ts rest n w
sound task.Events ts rest n w = declarations.sound_events ts rest n w
sound task.EventSelect ts rest n w = declarations.sound_event_select ts rest n w
sound task.EventSelectEnd ts rest n w = declarations.sound_event_select_end ts rest n w
sound task.GateDelay ts rest n w = gates.sound_delay ts rest n w
sound task.GateTicks ts rest n w = gates.sound_ticks ts rest n w
sound task.Fall ts rest n w = gates.sound_fall ts rest n w
sound task.GateName ts rest n w = gates.sound_gate_name ts rest n w
sound task.Gate ts rest n w = gates.sound_gate ts rest n w
sound task.Gates ts rest n w = gates.sound_gates ts rest n w
sound task.Buffer ts rest n w = gates.sound_buffer ts rest n w
sound task.Buffers ts rest n w = gates.sound_buffers ts rest n w
sound task.OutputOrInput ts rest n w = gates.sound_output ts rest n w
sound task.AfterName ts rest n w = gates.sound_after ts rest n w
sound task.Overrides ts rest n w = modules.sound_overrides ts rest n w
sound task.Instance ts rest n w = modules.sound_instance ts rest n w
sound task.Instances ts rest n w = modules.sound_instances ts rest n w
sound task.Connections ts rest n w = modules.sound_connections ts rest n w
sound task.Arguments ts rest n w = modules.sound_arguments ts rest n w
sound task.Argument ts rest n w = modules.sound_argument ts rest n w
sound task.Positional ts rest n w = modules.sound_positional ts rest n w
sound task.NamedArgument ts rest n w = modules.sound_named ts rest n w
sound task.Associated ts rest n w = modules.sound_associated ts rest n w
sound task.Source ts rest n w = modules.sound_source ts rest n w
sound task.Module ts rest n w = modules.sound_module ts rest n w
sound task.Parameters ts rest n w = modules.sound_parameters ts rest n w
sound task.FirstParameter ts rest n w = modules.sound_first_parameter ts rest n w
sound task.HeadParameter ts rest n w = modules.sound_parameter ts rest n w
sound task.HeadParameters ts rest n w = modules.sound_head_parameters ts rest n w
sound task.Ports ts rest n w = modules.sound_ports ts rest n w
sound task.PortList ts rest n w = modules.sound_port_list ts rest n w
sound task.Port ts rest n w = modules.sound_port ts rest n w
sound task.HeadPorts ts rest n w = modules.sound_head_ports ts rest n w

split : (tasks others : List Task) (ts rest : List Terminal) → AllMean (tasks ++ others) ts rest → (mid : List Terminal) × AllMean tasks ts mid × AllMean others mid rest
split [] others ts rest w = (ts, refl, w)
split (t ∷ tasks) others ts rest w =
    let v = split tasks others w.0 rest w.2 in
    (v.0, (w.0, w.1, v.1), v.2)

first_numbered : (ts : List Terminal) → AreNumbered ts → Numbered ts
first_numbered [] n = tt
first_numbered (t ∷ ts) n = n.0

behind_numbered : (t : Taking) (ts : List Terminal) → AreNumbered ts → AreNumbered (left t ts)
behind_numbered taking.Nothing ts n = n
behind_numbered taking.Ahead ts n = n
behind_numbered taking.Token [] n = n
behind_numbered taking.Node [] n = n
behind_numbered taking.Operator [] n = n
behind_numbered taking.Token (t ∷ ts) n = n.1
behind_numbered taking.Node (t ∷ ts) n = n.1
behind_numbered taking.Operator (t ∷ ts) n = n.1

-- what holds of the work after a step
Rest : ℕ → List Terminal → Type 0
Rest n rest = (tasks : List Task) (ts : List Terminal) → AreNumbered ts → after n (at tasks ts) ≡ Some (at [] rest) → AllMean tasks ts rest

step_by : (n : ℕ) (rest : List Terminal) → Rest n rest → (t : Task) (tasks : List Task) (ts : List Terminal) (a : State) (o : Option Step) → AreNumbered ts → rule t (symbol_at ts) ≡ o → moved o tasks ts ≡ Some a
    → after n a ≡ Some (at [] rest) → AllMean (t ∷ tasks) ts rest
unfolding Rest
step_by n rest ih t tasks ts a None m e f g = cc
step_by n rest ih t tasks ts a (Some step) m e f g =
    let b = some_is (at (step.tasks ++ tasks) (left step.taking ts)) a f in
    let w = ih (step.tasks ++ tasks) (left step.taking ts) (behind_numbered step.taking ts m) (ap (λ z. after n z) b ∙ g) in
    let v = split step.tasks tasks (left step.taking ts) rest w in
    (v.0, sound t ts v.0 (first_numbered ts m) (subst (λ o. Then o ts v.0) (sym e) v.1), v.2)

rest_sound : (n : ℕ) (rest : List Terminal) → Rest n rest
unfolding Rest next
rest_sound zero rest tasks ts m e = subst (λ (z : State). AllMean z.tasks z.rest rest) (sym (some_is (at tasks ts) (at [] rest) e)) refl
rest_sound (suc n) rest [] ts m e = cc
rest_sound (suc n) rest (t ∷ tasks) ts m e =
    let v = first n (at (t ∷ tasks) ts) (at [] rest) (moved (rule t (symbol_at ts)) tasks ts) e in
    step_by n rest (rest_sound n rest) t tasks ts v.0 (rule t (symbol_at ts)) m refl v.1 v.2

pub spelled : (ts : List Terminal) → Leads (start ts) (at [] []) → SpellSome ts
unfolding Rest
spelled ts w m regions =
    let v = rest_sound w.0 [] (task.Source ∷ []) ts m w.1 in
    let c = v.1 regions in
    (c.0, record { spelled = subst (λ x. AreCircuits regions c.0 ts x) v.2 c.1 })
