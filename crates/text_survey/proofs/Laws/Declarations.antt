-- What is spelled is gone through: what stands in declarations, event lists and instances.
use Rattle.std.proofs.Common.{◌≡◌, ℕ, ◌<◌, ◌⊎◌, inl, inr, Bool, true, false, if◌then◌else◌, List, [], ◌∷◌, Option, Some, None, refl, sym, ap, subst, ◌∙◌, arith}
use Rattle.rtl_tree.specs.declared.symbol.Symbol.{Symbol}
use Rattle.rtl_tree.specs.declared.symbol.Symbol.TheVariants as symbol
use Rattle.rtl_tree.specs.declared.tree.item.PortKind.{PortKind}
use Rattle.rtl_tree.specs.declared.tree.item.PortKind.TheVariants as kind
use Rattle.rtl_tree.specs.declared.tree.item.EventEdge.{EventEdge}
use Rattle.rtl_tree.specs.declared.tree.item.EventEdge.TheVariants as edge
use Rattle.rtl_tree.specs.Symbols.{Terminal}
use Rattle.rtl_tree.specs.TreeExpr.{Formula, Identifier, Bounds}
use Rattle.rtl_tree.specs.TreeItem.{Happening, Edge, Change, ChangeBit, ChangePart, Sensitivity, Star, StarInParens, Listed, Positional, Association, ByPosition, ByName}
use Rattle.text_grammar.specs.Grammar.{◌⨾◌, IsA, IsName, IsOptional, IsFlag, AreMore}
use Rattle.text_grammar.specs.GrammarExpr.{IsExpression, IsBounds}
use Rattle.text_grammar.specs.GrammarItem.{kind_symbol, IsKind, IsValue, IsNet, IsInitial, IsVariable, IsValuation, IsDrive, edge_symbol, IsHappening, AreMoreEvents, IsSensitivity, IsPositional, IsAssociated, IsMoreThanEmpty, AreArguments, AreConnections, IsInstantiation, AreOverrides}
use Rattle.text_survey.specs.declared.task.Task.TheVariants as task
use Rattle.text_survey.specs.declared.task.Taking.TheVariants as taking
use Rattle.text_survey.specs.Table.{go, is_next, same_symbol, looseness}
use Rattle.text_survey.specs.Rule.{rule}
use Rattle.text_survey.specs.Machine.{symbol_at}
use Rattle.text_survey.proofs.Laws.Counts.{Runs, Does, ◌▸◌, same, grow, nothing, stay, token, node}
use Rattle.text_survey.proofs.Laws.Nests.{beside, skip, all_beside, valued, bounded, net, valuation, drive, happening, awaited, positional, associated, arguments, placed}
use Rattle.text_survey.proofs.Laws.Operands.{no_event_select}
use Rattle.text_survey.proofs.Laws.Expressions.{head, expect, ends, Not, apart, left_out, expression_runs}
use Rattle.text_survey.proofs.Laws.Starts.{Closes, opens, closes_by, closes_ends, closes_equals, closes_initial, formula_opens}
use Rattle.text_survey.proofs.Laws.Lists.{Each, listed_run, target_run, forget}

pub name_each : Each IsName task.Name skip
unfolding same_symbol
name_each n ts rest w c = token symbol.Name refl (w.0, w.1, w.2.0) (nothing rest)

pub name_run : (n : Identifier) (ts rest : List Terminal) → IsName n ts rest → Does task.Name ts rest same
unfolding same_symbol
name_run n ts rest w = token symbol.Name refl (w.0, w.1, w.2.0) (nothing rest)

-- ---- before names

-- a range or a name begins here
abbrev pub ranged : Option Symbol → Bool
ranged (Some symbol.OpenBracket) = true
ranged (Some symbol.Name) = true
ranged other = false

-- what follows the kind of a port begins here
abbrev pub declares : Option Symbol → Bool
declares (Some symbol.Signed) = true
declares (Some symbol.OpenBracket) = true
declares (Some symbol.Name) = true
declares other = false

ranged_sign : (o : Option Symbol) → ranged o ≡ true → is_next symbol.Signed o ≡ false
unfolding same_symbol
ranged_sign (Some symbol.Signed) h = cc
ranged_sign None h = refl
ranged_sign (Some other) h = refl

ranged_declares : (o : Option Symbol) → ranged o ≡ true → declares o ≡ true
ranged_declares (Some symbol.OpenBracket) h = refl
ranged_declares (Some symbol.Name) h = refl
ranged_declares None h = cc
ranged_declares (Some other) h = cc

declares_kind : (o : Option Symbol) → declares o ≡ true → rule task.PortKind o ≡ go taking.Nothing []
declares_kind (Some symbol.Wire) h = cc
declares_kind (Some symbol.Reg) h = cc
declares_kind None h = refl
declares_kind (Some other) h = refl

pub range_run : (b : Option Bounds) (ts mid rest : List Terminal) → IsOptional IsBounds b ts mid → IsA symbol.Name mid rest → Does task.Range ts mid (grow (bounded b))
unfolding same_symbol
range_run None ts mid rest w n =
    subst (λ x. Does task.Range x mid same) (sym w)
    (left_out task.Range symbol.OpenBracket (task.Expression ∷ task.Expect symbol.Colon ∷ task.Expression ∷ task.Expect symbol.CloseBracket ∷ []) mid (λ o. refl) (λ d. refl) (apart symbol.Name symbol.OpenBracket mid rest refl n))
range_run (Some b) ts mid rest w n =
    let v = w.2 in
    let u = v.2 in
    let z = u.2 in
    token symbol.OpenBracket refl (w.1.0, w.1.1, w.1.2.0) (
    expression_runs b.msb w.0 v.0 v.1 (ends symbol.Colon v.0 u.0 refl u.1) ▸ expect symbol.Colon v.0 u.0 u.1
    ▸ expression_runs b.lsb u.0 z.0 z.1 (ends symbol.CloseBracket z.0 mid refl z.2) ▸ expect symbol.CloseBracket z.0 mid z.2 ▸ nothing mid)

pub range_begins : (b : Option Bounds) (ts mid rest : List Terminal) → IsOptional IsBounds b ts mid → IsA symbol.Name mid rest → ranged (symbol_at ts) ≡ true
range_begins None ts mid rest w n = ap (λ x. ranged (symbol_at x)) w ∙ ap ranged (head symbol.Name mid rest n)
range_begins (Some b) ts mid rest w n = ap ranged (head symbol.OpenBracket ts w.0 (w.1.0, w.1.1, w.1.2.0))

pub sign_run : (b : Bool) (ts mid : List Terminal) → IsFlag symbol.Signed b ts mid → ranged (symbol_at mid) ≡ true → Does task.Sign ts mid same
unfolding same_symbol
sign_run false ts mid w r = subst (λ x. Does task.Sign x mid same) (sym w) (left_out task.Sign symbol.Signed [] mid (λ o. refl) (λ d. refl) (ranged_sign (symbol_at mid) r))
sign_run true ts mid w r = token symbol.Signed refl w (nothing mid)

pub sign_begins : (b : Bool) (ts mid : List Terminal) → IsFlag symbol.Signed b ts mid → ranged (symbol_at mid) ≡ true → declares (symbol_at ts) ≡ true
sign_begins false ts mid w r = ap (λ x. declares (symbol_at x)) w ∙ ranged_declares (symbol_at mid) r
sign_begins true ts mid w r = ap declares (head symbol.Signed ts mid w)

kind_rule : (k : PortKind) → rule task.PortKind (Some (kind_symbol k)) ≡ go taking.Token []
kind_rule kind.Wire = refl
kind_rule kind.Reg = refl

pub kind_run : (k : Option PortKind) (ts mid : List Terminal) → IsOptional IsKind k ts mid → declares (symbol_at mid) ≡ true → Does task.PortKind ts mid same
kind_run None ts mid w d = subst (λ x. Does task.PortKind x mid same) (sym w) (stay (declares_kind (symbol_at mid) d) (nothing mid))
kind_run (Some k) ts mid w d = token (kind_symbol k) (kind_rule k) w (nothing mid)

-- ---- names with values

value_runs : (v : Option Formula) (ts rest : List Terminal) → IsOptional IsValue v ts rest → Closes rest → Does task.Value ts rest (grow (valued v))
unfolding same_symbol
value_runs None ts rest w c =
    subst (λ x. Does task.Value x rest same) (sym w) (left_out task.Value symbol.Equals (task.Expression ∷ []) rest (λ o. refl) (λ d. refl) (closes_equals (symbol_at rest) c))
value_runs (Some f) ts rest w c = token symbol.Equals refl w.1 (expression_runs f w.0 rest w.2 (closes_ends (symbol_at rest) c) ▸ nothing rest)

pub net_each : Each IsNet task.Net net
unfolding same_symbol
net_each n ts rest w c = token symbol.Name refl (w.1.0, w.1.1, w.1.2.0) (value_runs n.value w.0 rest w.2 c ▸ nothing rest)

initial_runs : (i : Bool) (ts rest : List Terminal) → IsInitial i ts rest → Closes rest → Does task.Initial ts rest same
initial_runs false ts rest w c = subst (λ x. Does task.Initial x rest same) (sym w) (stay (closes_initial (symbol_at rest) c) (nothing rest))
initial_runs true ts rest w c =
    let v = w.1 in
    node symbol.Equals v.1.0.at refl (v.1.0, v.1.1, (v.1.2, refl)) (expression_runs w.0 v.0 rest v.2 (closes_ends (symbol_at rest) c) ▸ forget rest ▸ nothing rest)

pub variable_each : Each IsVariable task.Variable skip
unfolding same_symbol
variable_each n ts rest w c = token symbol.Name refl (w.1.0, w.1.1, w.1.2.0) (initial_runs n.initial w.0 rest w.2 c ▸ nothing rest)

pub setting_run : (n : Identifier) (f : Formula) (ts rest : List Terminal) → (IsName n ⨾ IsValue f) ts rest → Closes rest → Does task.Setting ts rest (grow (beside f))
unfolding same_symbol
setting_run n f ts rest w c =
    let v = w.2 in
    token symbol.Name refl (w.1.0, w.1.1, w.1.2.0) (
    expect symbol.Equals w.0 v.0 v.1 ▸ expression_runs f v.0 rest v.2 (closes_ends (symbol_at rest) c) ▸ nothing rest)

pub setting_each : Each IsValuation task.Setting valuation
setting_each s ts rest w c = setting_run s.name s.value ts rest w c

pub drive_each : Each IsDrive task.Drive drive
drive_each d ts rest w c =
    let v = w.2 in
    stay refl (
    target_run d.target ts w.0 w.1 (omega (arith, ends symbol.Equals w.0 v.0 refl v.1)) ▸ expect symbol.Equals w.0 v.0 v.1
    ▸ expression_runs d.value v.0 rest v.2 (closes_ends (symbol_at rest) c) ▸ nothing rest)

-- ---- event lists

edge_rule : (e : EventEdge) → rule task.Event (Some (edge_symbol e)) ≡ go taking.Token (task.Name ∷ [])
edge_rule edge.Posedge = refl
edge_rule edge.Negedge = refl

event_bit : (ts rest : List Terminal) (index : Formula) → (IsA symbol.OpenBracket ⨾ IsExpression index ⨾ IsA symbol.CloseBracket) ts rest → Does task.EventSelect ts rest (grow (beside index))
unfolding same_symbol
event_bit ts rest index w =
    token symbol.OpenBracket refl w.1 (
    expression_runs index w.0 w.2.0 w.2.1 (ends symbol.CloseBracket w.2.0 rest refl w.2.2)
    ▸ token symbol.CloseBracket refl w.2.2 (nothing rest)
    ▸ nothing rest)

event_part : (ts rest : List Terminal) (msb lsb : Formula) → (IsA symbol.OpenBracket ⨾ IsExpression msb ⨾ IsA symbol.Colon ⨾ IsExpression lsb ⨾ IsA symbol.CloseBracket) ts rest
    → Does task.EventSelect ts rest (grow (λ before. beside lsb (beside msb before)))
unfolding same_symbol
event_part ts rest msb lsb w =
    let v = w.2.2 in
    token symbol.OpenBracket refl w.1 (
    expression_runs msb w.0 w.2.0 w.2.1 (ends symbol.Colon w.2.0 v.0 refl v.1)
    ▸ token symbol.Colon refl v.1 (expression_runs lsb v.0 v.2.0 v.2.1 (ends symbol.CloseBracket v.2.0 rest refl v.2.2) ▸ expect symbol.CloseBracket v.2.0 rest v.2.2 ▸ nothing rest)
    ▸ nothing rest)

event_run : (h : Happening) (ts rest : List Terminal) → IsHappening h ts rest → 0 < looseness (symbol_at rest) → Does task.Event ts rest (grow (happening h))
event_run (Edge e at name) ts rest w l = token (edge_symbol e) (edge_rule e) (w.1.0, w.1.1, w.1.2.0) (name_run name w.0 rest w.2 ▸ nothing rest)
event_run (Change name) ts rest w l = token symbol.Name refl (w.0, w.1, w.2.0) (stay (no_event_select (symbol_at rest) l) (nothing rest) ▸ nothing rest)
event_run (ChangeBit name index) ts rest w l = token symbol.Name refl (w.1.0, w.1.1, w.1.2.0) (event_bit w.0 rest index w.2 ▸ nothing rest)
event_run (ChangePart name msb lsb) ts rest w l =
    token symbol.Name refl (w.1.0, w.1.1, w.1.2.0) (event_part w.0 rest msb lsb w.2 ▸ nothing rest)

events_loose : (es : List Happening) (ts mid rest : List Terminal) → AreMoreEvents es ts mid → IsA symbol.CloseParen mid rest → 0 < looseness (symbol_at ts)
events_loose [] ts mid rest w c = subst (λ x. 0 < looseness (symbol_at x)) (sym w) (omega (arith, ends symbol.CloseParen mid rest refl c))
events_loose (e ∷ es) ts mid rest w c = between w.1
  where
    between : IsA symbol.Or ts w.0 ⊎ IsA symbol.Comma ts w.0 → 0 < looseness (symbol_at ts)
    between (inl v) = omega (arith, ends symbol.Or ts w.0 refl v)
    between (inr v) = omega (arith, ends symbol.Comma ts w.0 refl v)

events_run : (es : List Happening) (ts mid rest : List Terminal) → AreMoreEvents es ts mid → IsA symbol.CloseParen mid rest → Does task.Events ts mid (grow (all_beside happening es))
events_run [] ts mid rest w c = subst (λ x. Does task.Events x mid same) (sym w) (stay (ap (λ o. rule task.Events o) (head symbol.CloseParen mid rest c)) (nothing mid))
events_run (e ∷ es) ts mid rest w c =
    let v = w.2 in
    let more : Runs (task.Event ∷ task.Events ∷ []) w.0 mid (grow (all_beside happening (e ∷ es))) =
    event_run e w.0 v.0 v.1 (events_loose es v.0 mid rest v.2 c) ▸ events_run es v.0 mid rest v.2 c ▸ nothing mid in
    elim w.1 [ inl a ↦ token symbol.Or refl a more | inr a ↦ token symbol.Comma refl a more ]

event_list_rule : (h : Happening) (ts rest : List Terminal) → IsHappening h ts rest → rule task.EventList (symbol_at ts) ≡ go taking.Nothing (task.Event ∷ task.Events ∷ task.Expect symbol.CloseParen ∷ [])
event_list_rule (Edge edge.Posedge at name) ts rest w = ap (λ o. rule task.EventList o) (head symbol.Posedge ts w.0 (w.1.0, w.1.1, w.1.2.0))
event_list_rule (Edge edge.Negedge at name) ts rest w = ap (λ o. rule task.EventList o) (head symbol.Negedge ts w.0 (w.1.0, w.1.1, w.1.2.0))
event_list_rule (Change name) ts rest w = ap (λ o. rule task.EventList o) (head symbol.Name ts rest (w.0, w.1, w.2.0))
event_list_rule (ChangeBit name index) ts rest w = ap (λ o. rule task.EventList o) (head symbol.Name ts w.0 (w.1.0, w.1.1, w.1.2.0))
event_list_rule (ChangePart name msb lsb) ts rest w = ap (λ o. rule task.EventList o) (head symbol.Name ts w.0 (w.1.0, w.1.1, w.1.2.0))

pub sensitivity_run : (s : Sensitivity) (ts rest : List Terminal) → IsSensitivity s ts rest → Does task.Sensitivity ts rest (grow (awaited s))
sensitivity_run Star ts rest w = token symbol.Star refl w (nothing rest)
sensitivity_run StarInParens ts rest w =
    let v = w.2 in
    token symbol.OpenParen refl w.1 (token symbol.Star refl v.1 (expect symbol.CloseParen v.0 rest v.2 ▸ nothing rest) ▸ nothing rest)
sensitivity_run (Listed []) ts rest w = absurd w.2.1
sensitivity_run (Listed (e ∷ es)) ts rest w =
    let v = w.2 in
    let u = v.1 in
    token symbol.OpenParen refl w.1 (
    stay (event_list_rule e w.0 u.0 u.1) (
    event_run e w.0 u.0 u.1 (events_loose es u.0 v.0 rest u.2 v.2) ▸ events_run es u.0 v.0 rest u.2 v.2 ▸ expect symbol.CloseParen v.0 rest v.2 ▸ nothing rest)
    ▸ nothing rest)

-- ---- arguments

-- an argument ends here
abbrev pub argued : Option Symbol → Bool
argued (Some symbol.Comma) = true
argued (Some symbol.CloseParen) = true
argued other = false

argued_none : (o : Option Symbol) → argued o ≡ true → rule task.Argument o ≡ go taking.Nothing []
argued_none (Some symbol.Comma) h = refl
argued_none (Some symbol.CloseParen) h = refl
argued_none None h = cc
argued_none (Some other) h = cc

argued_ends : (o : Option Symbol) → argued o ≡ true → 12 < looseness o
argued_ends (Some symbol.Comma) h = omega arith
argued_ends (Some symbol.CloseParen) h = omega arith
argued_ends None h = omega arith
argued_ends (Some other) h = cc

opens_argument : (o : Option Symbol) → opens o ≡ true → rule task.Argument o ≡ go taking.Nothing (task.Expression ∷ [])
opens_argument (Some symbol.Comma) h = cc
opens_argument (Some symbol.CloseParen) h = cc
opens_argument None h = refl
opens_argument (Some other) h = refl

opens_arguments : (o : Option Symbol) → opens o ≡ true → rule task.Arguments o ≡ go taking.Nothing (task.Expression ∷ task.Positional ∷ [])
opens_arguments (Some symbol.Comma) h = cc
opens_arguments (Some symbol.Dot) h = cc
opens_arguments None h = refl
opens_arguments (Some other) h = refl

opens_close : (o : Option Symbol) → opens o ≡ true → is_next symbol.CloseParen o ≡ false
unfolding same_symbol
opens_close (Some symbol.CloseParen) h = cc
opens_close None h = refl
opens_close (Some other) h = refl

argument_run : (v : Option Formula) (ts rest : List Terminal) → IsOptional IsExpression v ts rest → argued (symbol_at rest) ≡ true → Does task.Argument ts rest (grow (valued v))
argument_run None ts rest w a = subst (λ x. Does task.Argument x rest same) (sym w) (stay (argued_none (symbol_at rest) a) (nothing rest))
argument_run (Some f) ts rest w a =
    stay (opens_argument (symbol_at ts) (formula_opens f 12 ts rest w)) (expression_runs f ts rest w (argued_ends (symbol_at rest) a) ▸ nothing rest)

positional_argued : (xs : List Positional) (ts mid rest : List Terminal) → AreMore IsPositional xs ts mid → IsA symbol.CloseParen mid rest → argued (symbol_at ts) ≡ true
positional_argued [] ts mid rest w c = ap (λ x. argued (symbol_at x)) w ∙ ap argued (head symbol.CloseParen mid rest c)
positional_argued (x ∷ xs) ts mid rest w c = ap argued (head symbol.Comma ts w.0 w.1)

positional_run : (xs : List Positional) (ts mid rest : List Terminal) → AreMore IsPositional xs ts mid → IsA symbol.CloseParen mid rest → Does task.Positional ts mid (grow (all_beside positional xs))
unfolding same_symbol
positional_run [] ts mid rest w c =
    subst (λ x. Does task.Positional x mid same) (sym w)
    (left_out task.Positional symbol.Comma (task.Argument ∷ task.Positional ∷ []) mid (λ o. refl) (λ d. refl) (apart symbol.CloseParen symbol.Comma mid rest refl c))
positional_run (x ∷ xs) ts mid rest w c =
    let v = w.2 in
    token symbol.Comma refl w.1 (
    argument_run x.value w.0 v.0 v.1.1 (positional_argued xs v.0 mid rest v.2 c) ▸ positional_run xs v.0 mid rest v.2 c ▸ nothing mid)

named_each : Each IsAssociated task.NamedArgument associated
unfolding same_symbol
named_each a ts rest w c =
    let v = w.2 in
    let u = v.2 in
    let z = u.2 in
    token symbol.Dot refl (w.1.0, w.1.1, w.1.2.0) (
    name_run a.name w.0 v.0 v.1 ▸ expect symbol.OpenParen v.0 u.0 u.1
    ▸ argument_run a.value u.0 z.0 z.1 (ap argued (head symbol.CloseParen z.0 rest z.2)) ▸ expect symbol.CloseParen z.0 rest z.2 ▸ nothing rest)

first_positional : (at : ℕ) (v : Option Formula) (xs : List Positional) (ts mid rest : List Terminal) → IsMoreThanEmpty (record { at = at; value = v } ∷ xs) → IsOptional IsExpression v ts mid
    → (end : List Terminal) → AreMore IsPositional xs mid end → IsA symbol.CloseParen end rest → Does task.Arguments ts end (grow (λ before. all_beside positional xs (valued v before)))
first_positional at (Some f) xs ts mid rest m w end v c =
    stay (opens_arguments (symbol_at ts) (formula_opens f 12 ts mid w)) (
    expression_runs f ts mid w (argued_ends (symbol_at mid) (positional_argued xs mid end rest v c)) ▸ positional_run xs mid end rest v c ▸ nothing end)
first_positional at None [] ts mid rest m w end v c = absurd m
first_positional at None (x ∷ xs) ts mid rest m w end v c =
    subst (λ y. Does task.Arguments y end (grow (all_beside positional (x ∷ xs)))) (sym w)
    (stay (ap (λ o. rule task.Arguments o) (head symbol.Comma mid v.0 v.1)) (positional_run (x ∷ xs) mid end rest v c ▸ nothing end))

arguments_run : (a : Association) (ts mid rest : List Terminal) → AreArguments a ts mid → IsA symbol.CloseParen mid rest → Does task.Arguments ts mid (grow (arguments a))
unfolding same_symbol
arguments_run (ByPosition []) ts mid rest w c = absurd w.0
arguments_run (ByPosition (x ∷ xs)) ts mid rest w c =
    let v = w.1 in
    first_positional x.at x.value xs ts v.0 rest w.0 v.1.1 mid v.2 c
arguments_run (ByName []) ts mid rest w c = absurd w
arguments_run (ByName (x ∷ xs)) ts mid rest w c =
    let dot = w.1.1 in
    stay (ap (λ o. rule task.Arguments o) (head symbol.Dot ts w.1.0 (dot.0, dot.1, dot.2.0))) (
    listed_run IsAssociated task.NamedArgument task.Associated associated ((λ o. refl), (λ d. refl)) named_each (x ∷ xs) ts mid w
    (closes_by symbol.CloseParen mid rest refl c) (apart symbol.CloseParen symbol.Comma mid rest refl c))

first_close : (at : ℕ) (v : Option Formula) (xs : List Positional) (ts mid end : List Terminal) → IsMoreThanEmpty (record { at = at; value = v } ∷ xs) → IsOptional IsExpression v ts mid → AreMore IsPositional xs mid end
    → Not symbol.CloseParen ts
unfolding same_symbol
first_close at (Some f) xs ts mid end m w v = opens_close (symbol_at ts) (formula_opens f 12 ts mid w)
first_close at None [] ts mid end m w v = absurd m
first_close at None (x ∷ xs) ts mid end m w v = subst (λ y. Not symbol.CloseParen y) (sym w) (apart symbol.Comma symbol.CloseParen mid v.0 refl v.1)

arguments_close : (a : Association) (ts mid : List Terminal) → AreArguments a ts mid → Not symbol.CloseParen ts
unfolding same_symbol
arguments_close (ByPosition []) ts mid w = absurd w.0
arguments_close (ByPosition (x ∷ xs)) ts mid w =
    let v = w.1 in
    first_close x.at x.value xs ts v.0 mid w.0 v.1.1 v.2
arguments_close (ByName []) ts mid w = absurd w
arguments_close (ByName (x ∷ xs)) ts mid w =
    let dot = w.1.1 in
    apart symbol.Dot symbol.CloseParen ts w.1.0 refl (dot.0, dot.1, dot.2.0)

connected : (a : Association) (ts mid rest : List Terminal) → AreArguments a ts mid → IsA symbol.CloseParen mid rest → Does task.Connections ts mid (grow (arguments a))
connected a ts mid rest w c =
    stay (ap (λ b. if b then go taking.Nothing [] else go taking.Nothing (task.Arguments ∷ [])) (arguments_close a ts mid w)) (arguments_run a ts mid rest w c ▸ nothing mid)

connections_run : (a : Association) (ts mid rest : List Terminal) → AreConnections a ts mid → IsA symbol.CloseParen mid rest → Does task.Connections ts mid (grow (arguments a))
unfolding same_symbol
connections_run (ByPosition []) ts mid rest w c =
    subst (λ x. Does task.Connections x mid same) (sym w) (stay (ap (λ o. rule task.Connections o) (head symbol.CloseParen mid rest c)) (nothing mid))
connections_run (ByPosition (x ∷ xs)) ts mid rest w c = connected (ByPosition (x ∷ xs)) ts mid rest w c
connections_run (ByName xs) ts mid rest w c = connected (ByName xs) ts mid rest w c

pub instantiation_each : Each IsInstantiation task.Instance placed
unfolding same_symbol
instantiation_each p ts rest w c =
    let v = w.2 in
    let u = v.2 in
    token symbol.Name refl (w.1.0, w.1.1, w.1.2.0) (
    expect symbol.OpenParen w.0 v.0 v.1 ▸ connections_run p.connections v.0 u.0 rest u.1 u.2 ▸ expect symbol.CloseParen u.0 rest u.2 ▸ nothing rest)

set_run : (a : Association) (ts rest : List Terminal) → (IsA symbol.Hash ⨾ IsA symbol.OpenParen ⨾ AreArguments a ⨾ IsA symbol.CloseParen) ts rest → Does task.Overrides ts rest (grow (arguments a))
unfolding same_symbol
set_run a ts rest w =
    let v = w.2 in
    let u = v.2 in
    token symbol.Hash refl w.1 (
    expect symbol.OpenParen w.0 v.0 v.1 ▸ arguments_run a v.0 u.0 rest u.1 u.2 ▸ expect symbol.CloseParen u.0 rest u.2 ▸ nothing rest)

pub overrides_run : (a : Association) (ts mid rest : List Terminal) → AreOverrides a ts mid → IsA symbol.Name mid rest → Does task.Overrides ts mid (grow (arguments a))
unfolding same_symbol
overrides_run (ByPosition []) ts mid rest w n =
    subst (λ x. Does task.Overrides x mid same) (sym w)
    (left_out task.Overrides symbol.Hash (task.Expect symbol.OpenParen ∷ task.Arguments ∷ task.Expect symbol.CloseParen ∷ []) mid (λ o. refl) (λ d. refl) (apart symbol.Name symbol.Hash mid rest refl n))
overrides_run (ByPosition (x ∷ xs)) ts mid rest w n = set_run (ByPosition (x ∷ xs)) ts mid w
overrides_run (ByName xs) ts mid rest w n = set_run (ByName xs) ts mid w
