-- What it means that a task was done.
use Rattle.std.proofs.Common.{◌≡◌, ℕ, ◌≤◌, ◌⊎◌, inl, inr, cond, Bool, true, false, List, [], ◌∷◌, Option, Some, None, refl, subst, ◌∙◌, rules}
use denote.Enum.Bare.{same_true}
use Rattle.rtl_tree.specs.contracts.symbol.Symbol.{the_type}
use Rattle.text_ground.specs.declared.dropped.Dropped.{Dropped}
use Rattle.rtl_tree.specs.declared.literal.Literal.{Literal}
use Rattle.rtl_tree.specs.declared.token.Tok.TheVariants as tok
use Rattle.rtl_tree.specs.declared.symbol.Symbol.{Symbol}
use Rattle.rtl_tree.specs.declared.symbol.Symbol.TheVariants as symbol
use Rattle.rtl_tree.specs.declared.tree.operators.PartKind.{PartKind}
use Rattle.rtl_tree.specs.Symbols.{Terminal}
use Rattle.rtl_tree.specs.TreeExpr.{Formula}
use Rattle.rtl_tree.specs.TreeModule.{Header, WrittenCircuit}
use Rattle.text_grammar.specs.Grammar.{Spelling, ◌⨾◌, Nothing, IsA, IsName, IsOptional, IsFlag, AreAll, AreMore, AreListed}
use Rattle.text_grammar.specs.GrammarExpr.{IsFormula, IsExpression, AreFormulas, AreMoreFormulas, IsBounds, part_symbol}
use Rattle.text_grammar.specs.GrammarStmt.{Marked, IsAttributeValue, IsAttribute, IsTarget, AreMoreTargets, IsSpan, IsPause, assignment_symbol, ends_open, defaults, IsLabel, IsDefaultEnd, IsStatement, AreStatements, AreBranches, AreMoreBranches}
use Rattle.text_grammar.specs.GrammarItem.{IsKind, IsValue, IsNet, IsInitial, IsVariable, IsValuation, IsDrive, IsHappening, AreMoreEvents, AreEvents, IsSensitivity, IsPositional, IsAssociated, AreArguments, AreConnections, IsInstantiation, AreOverrides}
use Rattle.text_grammar.specs.GrammarGate.{IsGateSpan, IsGatePause, is_named, AreTerminals}
use Rattle.text_grammar.specs.GrammarWritten.{block_ends_open, takes_attributes, IsUnmarked, AreWritten, IsMade, AreChoices, AreMoreChoices, IsWritten}
use Rattle.text_grammar.specs.GrammarWritten as generate
use Rattle.text_grammar.specs.GrammarModule.{IsThere, IsParameter, AreParameters, IsPort, IsHeader, IsMarkedCircuit, AreCircuits}
use Rattle.text_survey.specs.declared.task.Task.{Task}
use Rattle.text_survey.specs.declared.task.Task.TheVariants as task
use Rattle.text_survey.specs.declared.task.Taking.TheVariants as taking
use Rattle.text_survey.specs.Table.{Step, go, same_symbol, is_next, required, optional, unless, rank}
use Rattle.text_survey.specs.Machine.{symbol_at, left}
use Rattle.text_survey.proofs.Laws.Expressions.{Not}
use Rattle.text_survey.proofs.Laws.Gates.{IsGateOf}

-- something is spelled
abbrev pub Any : {A : Type 0} → (A → Spelling) → Spelling
Any {A} p = λ ts rest. (x : A) × p x ts rest

-- one spelling or another
infixr 11 ◌⊎⊎◌
abbrev pub ◌⊎⊎◌ : Spelling → Spelling → Spelling
p ⊎⊎ q = λ ts rest. p ts rest ⊎ q ts rest

-- what goes on after an expression of one level is one of another
abbrev pub Onward : ℕ → ℕ → Spelling
Onward j k = λ ts rest. (begun : List Terminal) (f : Formula) → IsFormula j f begun ts → (g : Formula) × IsFormula k g begun rest

-- further outputs before one input
abbrev pub AreOutputs : List Formula → Spelling
AreOutputs fs = λ ts rest. AreListed IsExpression fs ts rest × AreTerminals true fs

abbrev pub Means : Task → Spelling
Means (task.Expect s) = IsA s
Means task.Wrap = Nothing
Means task.Join = Nothing
Means task.Forget = Nothing
Means task.Expression = Any IsExpression
Means (task.Level k) = Any (IsFormula (rank k))
Means (task.Chain k) = λ ts rest. 1 ≤ rank k → Onward (rank k) (rank k) ts rest
Means task.Choice = Onward 11 12
Means task.Select =
    Nothing ⊎⊎ Any (λ f. IsA symbol.OpenBracket ⨾ IsExpression f ⨾ IsA symbol.CloseBracket)
    ⊎⊎ Any (λ (p : PartKind × Formula × Formula). IsA symbol.OpenBracket ⨾ IsExpression p.1 ⨾ IsA (part_symbol p.0) ⨾ IsExpression p.2 ⨾ IsA symbol.CloseBracket)
Means task.SelectEnd = IsA symbol.CloseBracket ⊎⊎ Any (λ (p : PartKind × Formula). IsA (part_symbol p.0) ⨾ IsExpression p.1 ⨾ IsA symbol.CloseBracket)
Means task.Parts =
    Any (λ fs. AreMoreFormulas fs ⨾ IsA symbol.CloseBrace)
    ⊎⊎ Any (λ fs. IsA symbol.OpenBrace ⨾ AreFormulas fs ⨾ IsA symbol.CloseBrace ⨾ IsA symbol.CloseBrace)
Means task.Expressions = Any (AreMore IsExpression)
Means task.Attribute = Any IsAttribute
Means task.Attributes = Any (AreMore IsAttribute)
Means task.AttributeValue = Nothing ⊎⊎ (IsA symbol.Equals ⨾ IsAttributeValue)
Means task.AttributeConstant = IsAttributeValue
Means task.Target = Any IsTarget
Means task.Targets = Any AreMoreTargets
Means task.Delay = Any (IsOptional IsPause)
Means task.Ticks = Any IsSpan
Means task.Assigner = Any (λ k. IsA (assignment_symbol k))
Means task.Statement = Any (λ a ts rest. IsStatement a ts rest × (ends_open a ≡ true → Not symbol.Else rest))
Means task.Else = (λ ts rest. Nothing ts rest × Not symbol.Else rest) ⊎⊎ Any (λ a. IsA symbol.Else ⨾ (λ ts rest. IsStatement a ts rest × (ends_open a ≡ true → Not symbol.Else rest)))
Means task.Label = Any (IsOptional IsLabel)
Means task.Statements = Any AreStatements
Means task.FirstBranch = Any (λ bs ts rest. AreBranches bs ts rest × (defaults bs ≤ 1))
Means task.Branches = Any (λ bs ts rest. AreMoreBranches bs ts rest × (defaults bs ≤ 1))
Means task.Labelled = Any (λ bs ts rest. AreMoreBranches bs ts rest × (defaults bs ≤ 0))
Means task.DefaultColon = IsDefaultEnd
Means task.Item = Any (λ i ts rest. IsWritten i ts rest × (generate.ends_open i ≡ true → Not symbol.Else rest))
Means task.MarkedItem = Any (λ i ts rest. (takes_attributes i ≡ true) × Marked (λ marks. IsUnmarked i) ts rest × (generate.ends_open i ≡ true → Not symbol.Else rest))
Means task.Items = Any (AreAll IsWritten)
Means task.RegionItems = Any AreWritten
Means task.BlockItems = Any AreWritten
Means task.Made = Any (λ b ts rest. IsMade b ts rest × (block_ends_open b ≡ true → Not symbol.Else rest))
Means task.MadeElse = (λ ts rest. Nothing ts rest × Not symbol.Else rest) ⊎⊎ Any (λ b. IsA symbol.Else ⨾ (λ ts rest. IsMade b ts rest × (block_ends_open b ≡ true → Not symbol.Else rest)))
Means task.FirstChoice = Any (λ cs ts rest. AreChoices cs ts rest × (generate.defaults cs ≤ 1))
Means task.Choices = Any (λ cs ts rest. AreMoreChoices cs ts rest × (generate.defaults cs ≤ 1))
Means task.LabelledChoices = Any (λ cs ts rest. AreMoreChoices cs ts rest × (generate.defaults cs ≤ 0))
Means task.Name = Any IsName
Means task.Names = Any (AreMore IsName)
Means task.PortKind = Any (IsOptional IsKind)
Means task.Sign = Any (IsFlag symbol.Signed)
Means task.Range = Any (IsOptional IsBounds)
Means task.Value = Any (IsOptional IsValue)
Means task.Initial = Any IsInitial
Means task.Net = Any IsNet
Means task.Nets = Any (AreMore IsNet)
Means task.Variable = Any IsVariable
Means task.Variables = Any (AreMore IsVariable)
Means task.Setting = Any IsValuation
Means task.Settings = Any (AreMore IsValuation)
Means task.Drive = Any IsDrive
Means task.Drives = Any (AreMore IsDrive)
Means task.Sensitivity = Any IsSensitivity
Means task.EventList = (IsA symbol.Star ⨾ IsA symbol.CloseParen) ⊎⊎ Any (λ es. AreEvents es ⨾ IsA symbol.CloseParen)
Means task.Event = Any IsHappening
Means task.Events = Any AreMoreEvents
Means task.EventSelect =
    Nothing ⊎⊎ Any (λ f. IsA symbol.OpenBracket ⨾ IsExpression f ⨾ IsA symbol.CloseBracket)
    ⊎⊎ Any (λ (p : Formula × Formula). IsA symbol.OpenBracket ⨾ IsExpression p.0 ⨾ IsA symbol.Colon ⨾ IsExpression p.1 ⨾ IsA symbol.CloseBracket)
Means task.EventSelectEnd = IsA symbol.CloseBracket ⊎⊎ Any (λ f. IsA symbol.Colon ⨾ IsExpression f ⨾ IsA symbol.CloseBracket)
Means task.GateDelay = Any (IsOptional IsGatePause)
Means task.GateTicks = Any IsGateSpan
Means task.Fall = Nothing ⊎⊎ Any (λ f. IsA symbol.Comma ⨾ IsExpression f)
Means task.GateName = Any (IsOptional IsName)
Means task.Gate = Any (IsGateOf false)
Means task.Gates = Any (AreMore (IsGateOf false))
Means task.Buffer = Any (IsGateOf true)
Means task.Buffers = Any (AreMore (IsGateOf true))
Means task.OutputOrInput = Any AreOutputs
Means task.AfterName = λ ts rest. (begun : List Terminal) (f : Formula) → is_named f ≡ true → IsFormula 0 f begun ts → Any AreOutputs begun rest
Means task.Overrides = Any AreOverrides
Means task.Instance = Any IsInstantiation
Means task.Instances = Any (AreMore IsInstantiation)
Means task.Connections = Any AreConnections
Means task.Arguments = Any AreArguments
Means task.Argument = Any IsPositional
Means task.Positional = Any (λ ps ts rest. AreMore IsPositional ps ts rest × Not symbol.Comma rest)
Means task.NamedArgument = Any IsAssociated
Means task.Associated = Any (AreMore IsAssociated)
Means task.Source = λ ts rest. (regions : List Dropped) → (cs : List WrittenCircuit) × AreCircuits regions cs ts rest
Means task.Module = λ ts rest. (regions : List Dropped) → (c : WrittenCircuit) × IsMarkedCircuit regions c ts rest
Means task.Parameters = Any AreParameters
Means task.FirstParameter = Any (λ p ts rest. IsParameter p ts rest × IsThere p.heading)
Means task.HeadParameter = Any IsParameter
Means task.HeadParameters = Any (AreMore IsParameter)
Means task.Ports = Any IsHeader
Means task.PortList = λ ts rest. (begun : List Terminal) → IsA symbol.OpenParen begun ts → (h : Header) × IsHeader h begun rest
Means task.Port = Any IsPort
Means task.HeadPorts = Any (AreMore IsPort)

-- some tasks were done, one after another
abbrev pub AllMean : List Task → Spelling
AllMean [] = Nothing
AllMean (t ∷ tasks) = Means t ⨾ AllMean tasks

-- what is left after a step was done
abbrev pub Then : Option Step → Spelling
Then None ts rest = ⊥
Then (Some step) ts rest = AllMean step.tasks (left step.taking ts) rest

-- a token that is a number has a value
abbrev pub IsNumbered : Terminal → Type 0
IsNumbered t = t.symbol ≡ symbol.Number → (value : Literal) × t.kind ≡ tok.Number value

-- the first token, where there is one, has its value
abbrev pub Numbered : List Terminal → Type 0
Numbered [] = Unit {0}
Numbered (t ∷ ts) = IsNumbered t

pub same_is : (a b : Symbol) → same_symbol a b ≡ true → a ≡ b
unfolding same_symbol
same_is a b h = same_true the_type (search rules) a b h

pub to : (s : Symbol) (ts mid rest : List Terminal) → IsA s ts mid → mid ≡ rest → IsA s ts rest
to s ts mid rest w e = subst (λ x. IsA s ts x) e w

pub wrapped : (ts rest : List Terminal) → AllMean (task.Wrap ∷ []) ts rest → ts ≡ rest
wrapped ts rest w = w.1 ∙ w.2

pub finished : (ts rest : List Terminal) → AllMean (task.Wrap ∷ task.Join ∷ []) ts rest → ts ≡ rest
finished ts rest w =
    let v = w.2 in
    w.1 ∙ v.1 ∙ v.2

required_by : (mark : Symbol) (tasks : List Task) (t : Terminal) (ts rest : List Terminal) (b : Bool) → same_symbol t.symbol mark ≡ b → Then (cond b (go taking.Token tasks) None) (t ∷ ts) rest
    → (mid : List Terminal) × IsA mark (t ∷ ts) mid × AllMean tasks mid rest
required_by mark tasks t ts rest true e w = (ts, (t, refl, same_is t.symbol mark e), w)
required_by mark tasks t ts rest false e w = absurd w

pub was_required : (mark : Symbol) (tasks : List Task) (ts rest : List Terminal) → Then (required mark (symbol_at ts) tasks) ts rest → (mid : List Terminal) × IsA mark ts mid × AllMean tasks mid rest
was_required mark tasks [] rest w = absurd w
was_required mark tasks (t ∷ ts) rest w = required_by mark tasks t ts rest (same_symbol t.symbol mark) refl w

optional_by : (mark : Symbol) (tasks : List Task) (t : Terminal) (ts rest : List Terminal) (b : Bool) → same_symbol t.symbol mark ≡ b → Then (cond b (go taking.Token tasks) (go taking.Nothing [])) (t ∷ ts) rest
    → ((mid : List Terminal) × IsA mark (t ∷ ts) mid × AllMean tasks mid rest) ⊎ ((t ∷ ts ≡ rest) × Not mark (t ∷ ts))
optional_by mark tasks t ts rest true e w = inl (ts, (t, refl, same_is t.symbol mark e), w)
optional_by mark tasks t ts rest false e w = inr (w, e)

pub was_optional : (mark : Symbol) (tasks : List Task) (ts rest : List Terminal) → Then (optional mark (symbol_at ts) tasks) ts rest
    → ((mid : List Terminal) × IsA mark ts mid × AllMean tasks mid rest) ⊎ ((ts ≡ rest) × Not mark ts)
was_optional mark tasks [] rest w = inr (w, refl)
was_optional mark tasks (t ∷ ts) rest w = optional_by mark tasks t ts rest (same_symbol t.symbol mark) refl w

pub was_unless : (mark : Symbol) (tasks : List Task) (ts rest : List Terminal) → Then (unless mark (symbol_at ts) tasks) ts rest → (ts ≡ rest) ⊎ AllMean tasks ts rest
was_unless mark tasks ts rest w = unless_by (is_next mark (symbol_at ts)) w
  where
    unless_by : (b : Bool) → Then (cond b (go taking.Nothing []) (go taking.Nothing tasks)) ts rest → (ts ≡ rest) ⊎ AllMean tasks ts rest
    unless_by true v = inl v
    unless_by false v = inr v

-- lists: one thing, and further ones after commas
pub was_more : {A : Type 0} (p : A → Spelling) (one many : Task) → ((ts rest : List Terminal) → Means one ts rest → Any p ts rest) → ((ts rest : List Terminal) → Means many ts rest → Any (AreMore p) ts rest)
    → (ts rest : List Terminal) → Then (optional symbol.Comma (symbol_at ts) (one ∷ many ∷ [])) ts rest → Any (AreMore p) ts rest
was_more p one many f g ts rest w = more_by (was_optional symbol.Comma (one ∷ many ∷ []) ts rest w)
  where
    more_by : ((mid : List Terminal) × IsA symbol.Comma ts mid × AllMean (one ∷ many ∷ []) mid rest) ⊎ ((ts ≡ rest) × Not symbol.Comma ts) → Any (AreMore p) ts rest
    more_by (inr v) = ([], v.0)
    more_by (inl v) =
        let u = v.2 in
        let z = u.2 in
        let x = f v.0 u.0 u.1 in
        let xs = g u.0 z.0 z.1 in
        (x.0 ∷ xs.0, (v.0, v.1, (u.0, x.1, subst (λ r. AreMore p xs.0 u.0 r) z.2 xs.1)))
