-- What is spelled is gone through: items but generate constructs and gates.
use Rattle.std.proofs.Common.{◌≡◌, Bool, true, false, List, [], ◌∷◌, Option, Some, refl, ap, ◌∙◌}
use Rattle.rtl_tree.specs.declared.symbol.Symbol.{Symbol}
use Rattle.rtl_tree.specs.declared.symbol.Symbol.TheVariants as symbol
use Rattle.rtl_tree.specs.declared.tree.item.Direction.{Direction}
use Rattle.rtl_tree.specs.declared.tree.item.Direction.TheVariants as direction
use Rattle.rtl_tree.specs.declared.tree.item.ParameterKind.{ParameterKind}
use Rattle.rtl_tree.specs.declared.tree.item.ParameterKind.TheVariants as parameter
use Rattle.rtl_tree.specs.declared.tree.gate.GateKind.{GateKind}
use Rattle.rtl_tree.specs.declared.tree.gate.GateKind.TheVariants as kind
use Rattle.rtl_tree.specs.Symbols.{Terminal}
use Rattle.rtl_tree.specs.TreeExpr.{Identifier}
use Rattle.rtl_tree.specs.TreeStmt.{Target, Whole, Bit, Part, Joined}
use Rattle.rtl_tree.specs.TreeItem.{Head, Drive, ModuleItem, Ports, Nets, Variables, Integers, Parameters, Drives, Gates, Always, Instances}
use Rattle.text_grammar.specs.Grammar.{Spelling, IsA, IsName, AreListed}
use Rattle.text_grammar.specs.GrammarStmt.{AreAttributes, IsTarget}
use Rattle.text_grammar.specs.GrammarItem.{direction_symbol, IsHead, IsNet, IsVariable, IsValuation, IsDrive, IsInstantiation, parameter_symbol, IsItem}
use Rattle.text_grammar.specs.GrammarGate.{gate_symbol}
use Rattle.text_grammar.specs.GrammarWritten.{item_ends_open}
use Rattle.text_survey.specs.declared.task.Task.{Task}
use Rattle.text_survey.specs.declared.task.Task.TheVariants as task
use Rattle.text_survey.specs.declared.task.Taking.TheVariants as taking
use Rattle.text_survey.specs.Table.{go, same_symbol}
use Rattle.text_survey.specs.Rule.{rule}
use Rattle.text_survey.specs.Machine.{symbol_at}
use Rattle.text_survey.specs.Depths.{Depths, counted}
use Rattle.text_survey.proofs.Laws.Counts.{Runs, Does, ◌▸◌, grow, told, nothing, token}
use Rattle.text_survey.proofs.Laws.Nests.{skip, all_beside, bounded, net, valuation, drive, placed, in_item}
use Rattle.text_survey.proofs.Laws.Expressions.{head, expect, Not, apart}
use Rattle.text_survey.proofs.Laws.Lists.{ended, delay_run}
use Rattle.text_survey.proofs.Laws.Statements.{statement_runs}
use Rattle.text_survey.proofs.Laws.Declarations.{name_each, range_run, range_begins, sign_run, sign_begins, kind_run, net_each, variable_each, setting_each, drive_each, sensitivity_run, instantiation_each, overrides_run}

-- ---- what stands before names

direction_rule : (d : Direction) → rule task.MarkedItem (Some (direction_symbol d)) ≡ go taking.Token (task.PortKind ∷ task.Sign ∷ task.Range ∷ task.Name ∷ task.Names ∷ task.Expect symbol.Semicolon ∷ [])
direction_rule direction.Input = refl
direction_rule direction.Output = refl

pub port_rule : (d : Direction) → rule task.Port (Some (direction_symbol d)) ≡ go taking.Token (task.PortKind ∷ task.Sign ∷ task.Range ∷ task.Name ∷ [])
port_rule direction.Input = refl
port_rule direction.Output = refl

pub port_list_rule : (d : Direction) → rule task.PortList (Some (direction_symbol d)) ≡ go taking.Nothing (task.Port ∷ task.HeadPorts ∷ task.Expect symbol.CloseParen ∷ [])
port_list_rule direction.Input = refl
port_list_rule direction.Output = refl

-- what follows a direction
pub head_run : (t : Task) (tasks : List Task) (h : Head) (ts mid rest end : List Terminal) (f : Depths → Depths) → ((d : Depths) → counted t d ≡ d) → ((d : Direction) → rule t (Some (direction_symbol d)) ≡ go taking.Token (task.PortKind ∷ task.Sign ∷ task.Range ∷ tasks))
    → IsHead h ts mid → IsA symbol.Name mid rest → Runs tasks mid end f → Does t ts end (λ d. f (grow (bounded h.bounds) d))
head_run t tasks h ts mid rest end f k r w n v =
    let w2 = w.2 in
    let w3 = w2.2 in
    let b = range_begins h.bounds w3.0 mid rest w3.2 n in
    told (λ d. f (grow (bounded h.bounds) (counted t d))) (λ d. f (grow (bounded h.bounds) d)) (λ d. ap (λ z. f (grow (bounded h.bounds) z)) (k d))
    (token (direction_symbol h.direction) (r h.direction) (w.1.0, w.1.1, w.1.2.0) (
    kind_run h.kind w.0 w2.0 w2.1 (sign_begins h.signed w2.0 w3.0 w3.1 b) ▸ sign_run h.signed w2.0 w3.0 w3.1 b ▸ range_run h.bounds w3.0 mid rest w3.2 n ▸ v))

-- ---- items

-- the first name of a list
pub first_name : {A : Type 0} (p : A → Spelling) (xs : List A) (ts rest : List Terminal) → ((x : A) (ts rest : List Terminal) → p x ts rest → (mid : List Terminal) × IsA symbol.Name ts mid) → AreListed p xs ts rest
    → (mid : List Terminal) × IsA symbol.Name ts mid
first_name p [] ts rest f w = absurd w
first_name p (x ∷ xs) ts rest f w = f x ts w.0 w.1

parameter_rule : (k : ParameterKind) → rule task.MarkedItem (Some (parameter_symbol k)) ≡ go taking.Token (task.Range ∷ task.Setting ∷ task.Settings ∷ task.Expect symbol.Semicolon ∷ [])
parameter_rule parameter.Parameter = refl
parameter_rule parameter.Local = refl

target_delay : (t : Target) (ts rest : List Terminal) → IsTarget t ts rest → Not symbol.Hash ts
unfolding same_symbol
target_delay (Whole name) ts rest w = apart symbol.Name symbol.Hash ts rest refl (w.0, w.1, w.2.0)
target_delay (Bit name index) ts rest w = apart symbol.Name symbol.Hash ts w.0 refl (w.1.0, w.1.1, w.1.2.0)
target_delay (Part name kind msb lsb) ts rest w = apart symbol.Name symbol.Hash ts w.0 refl (w.1.0, w.1.1, w.1.2.0)
target_delay (Joined at parts) ts rest w = apart symbol.OpenBrace symbol.Hash ts w.0 refl (w.1.0, w.1.1, w.1.2.0)

drives_delay : (ds : List Drive) (ts rest : List Terminal) → AreListed IsDrive ds ts rest → Not symbol.Hash ts
drives_delay [] ts rest w = absurd w
drives_delay (d ∷ ds) ts rest w =
    let v = w.1 in
    target_delay d.target ts v.0 v.1

-- an item; no `else` comes where one would belong to it
pub item_run : (i : ModuleItem) (ts rest : List Terminal) → IsItem i ts rest → (item_ends_open i ≡ true → Not symbol.Else rest) → Does task.MarkedItem ts rest (grow (in_item i))
unfolding same_symbol
item_run (Ports h names) ts rest w e =
    let v = w.2 in
    let n = first_name IsName names w.0 v.0 (λ x ts' rest' y. (rest', (y.0, y.1, y.2.0))) v.1 in
    head_run task.MarkedItem (task.Name ∷ task.Names ∷ task.Expect symbol.Semicolon ∷ []) h ts w.0 n.0 rest (grow (all_beside skip names)) (λ d. refl) direction_rule w.1 n.1 (ended IsName task.Name task.Names skip ((λ o. refl), (λ d. refl)) name_each names w.0 rest w.2)
item_run (Nets at signed bounds nets) ts rest w e =
    let w2 = w.2 in
    let w3 = w2.2 in
    let v = w3.2 in
    let n = first_name IsNet nets w3.0 v.0 (λ x ts' rest' y. (y.0, (y.1.0, y.1.1, y.1.2.0))) v.1 in
    token symbol.Wire refl (w.1.0, w.1.1, w.1.2.0) (
    sign_run signed w.0 w2.0 w2.1 (range_begins bounds w2.0 w3.0 n.0 w3.1 n.1) ▸ range_run bounds w2.0 w3.0 n.0 w3.1 n.1
    ▸ ended IsNet task.Net task.Nets net ((λ o. refl), (λ d. refl)) net_each nets w3.0 rest w3.2)
item_run (Variables at signed bounds variables) ts rest w e =
    let w2 = w.2 in
    let w3 = w2.2 in
    let v = w3.2 in
    let n = first_name IsVariable variables w3.0 v.0 (λ x ts' rest' y. (y.0, (y.1.0, y.1.1, y.1.2.0))) v.1 in
    token symbol.Reg refl (w.1.0, w.1.1, w.1.2.0) (
    sign_run signed w.0 w2.0 w2.1 (range_begins bounds w2.0 w3.0 n.0 w3.1 n.1) ▸ range_run bounds w2.0 w3.0 n.0 w3.1 n.1
    ▸ ended IsVariable task.Variable task.Variables skip ((λ o. refl), (λ d. refl)) variable_each variables w3.0 rest w3.2)
item_run (Integers at names) ts rest w e =
    token symbol.Integer refl (w.1.0, w.1.1, w.1.2.0) (ended IsName task.Name task.Names skip ((λ o. refl), (λ d. refl)) name_each names w.0 rest w.2)
item_run (Parameters at k bounds values) ts rest w e =
    let w2 = w.2 in
    let v = w2.2 in
    let n = first_name IsValuation values w2.0 v.0 (λ x ts' rest' y. (y.0, (y.1.0, y.1.1, y.1.2.0))) v.1 in
    token (parameter_symbol k) (parameter_rule k) (w.1.0, w.1.1, w.1.2.0) (
    range_run bounds w.0 w2.0 n.0 w2.1 n.1 ▸ ended IsValuation task.Setting task.Settings valuation ((λ o. refl), (λ d. refl)) setting_each values w2.0 rest w2.2)
item_run (Drives at pause drives) ts rest w e =
    let w2 = w.2 in
    let v = w2.2 in
    token symbol.Assign refl (w.1.0, w.1.1, w.1.2.0) (
    delay_run pause w.0 w2.0 w2.1 (drives_delay drives w2.0 v.0 v.1) ▸ ended IsDrive task.Drive task.Drives drive ((λ o. refl), (λ d. refl)) drive_each drives w2.0 rest w2.2)
item_run (Gates at names pause drives) ts rest w e = absurd w
item_run (Always at sensitivity body) ts rest w e =
    let w2 = w.2 in
    let w3 = w2.2 in
    token symbol.Always refl (w.1.0, w.1.1, w.1.2.0) (
    expect symbol.At w.0 w2.0 w2.1 ▸ sensitivity_run sensitivity w2.0 w3.0 w3.1 ▸ statement_runs body w3.0 rest w3.2 e ▸ nothing rest)
item_run (Instances child parameters instantiations) ts rest w e =
    let w2 = w.2 in
    let v = w2.2 in
    let n = first_name IsInstantiation instantiations w2.0 v.0 (λ x ts' rest' y. (y.0, (y.1.0, y.1.1, y.1.2.0))) v.1 in
    token symbol.Name refl (w.1.0, w.1.1, w.1.2.0) (
    overrides_run parameters w.0 w2.0 n.0 w2.1 n.1 ▸ ended IsInstantiation task.Instance task.Instances placed ((λ o. refl), (λ d. refl)) instantiation_each instantiations w2.0 rest w2.2)

-- ---- how items begin

-- an item that attributes may stand before begins here
abbrev pub begins_marked : Option Symbol → Bool
begins_marked (Some symbol.OpenAttribute) = true
begins_marked (Some symbol.Input) = true
begins_marked (Some symbol.Output) = true
begins_marked (Some symbol.Wire) = true
begins_marked (Some symbol.Reg) = true
begins_marked (Some symbol.Integer) = true
begins_marked (Some symbol.Parameter) = true
begins_marked (Some symbol.Localparam) = true
begins_marked (Some symbol.Assign) = true
begins_marked (Some symbol.Genvar) = true
begins_marked (Some symbol.Generate) = true
begins_marked (Some symbol.Always) = true
begins_marked (Some symbol.Name) = true
begins_marked (Some symbol.And) = true
begins_marked (Some symbol.Nand) = true
begins_marked (Some symbol.Or) = true
begins_marked (Some symbol.Nor) = true
begins_marked (Some symbol.Xor) = true
begins_marked (Some symbol.Xnor) = true
begins_marked (Some symbol.Buf) = true
begins_marked (Some symbol.Not) = true
begins_marked other = false

begin_direction : (d : Direction) → begins_marked (Some (direction_symbol d)) ≡ true
begin_direction direction.Input = refl
begin_direction direction.Output = refl

begin_parameter : (k : ParameterKind) → begins_marked (Some (parameter_symbol k)) ≡ true
begin_parameter parameter.Parameter = refl
begin_parameter parameter.Local = refl

pub begin_gate : (k : GateKind) → begins_marked (Some (gate_symbol k)) ≡ true
begin_gate kind.And = refl
begin_gate other = refl

pub begins_by : (s : Symbol) (ts rest : List Terminal) → begins_marked (Some s) ≡ true → IsA s ts rest → begins_marked (symbol_at ts) ≡ true
begins_by s ts rest e w = ap begins_marked (head s ts rest w) ∙ e

pub item_begins : (i : ModuleItem) (ts rest : List Terminal) → IsItem i ts rest → begins_marked (symbol_at ts) ≡ true
item_begins (Ports h names) ts rest w =
    let v = w.1.1 in
    begins_by (direction_symbol h.direction) ts w.1.0 (begin_direction h.direction) (v.0, v.1, v.2.0)
item_begins (Nets at signed bounds nets) ts rest w = begins_by symbol.Wire ts w.0 refl (w.1.0, w.1.1, w.1.2.0)
item_begins (Variables at signed bounds variables) ts rest w = begins_by symbol.Reg ts w.0 refl (w.1.0, w.1.1, w.1.2.0)
item_begins (Integers at names) ts rest w = begins_by symbol.Integer ts w.0 refl (w.1.0, w.1.1, w.1.2.0)
item_begins (Parameters at k bounds values) ts rest w = begins_by (parameter_symbol k) ts w.0 (begin_parameter k) (w.1.0, w.1.1, w.1.2.0)
item_begins (Drives at pause drives) ts rest w = begins_by symbol.Assign ts w.0 refl (w.1.0, w.1.1, w.1.2.0)
item_begins (Gates at names pause drives) ts rest w = absurd w
item_begins (Always at sensitivity body) ts rest w = begins_by symbol.Always ts w.0 refl (w.1.0, w.1.1, w.1.2.0)
item_begins (Instances child parameters instantiations) ts rest w = begins_by symbol.Name ts w.0 refl (w.1.0, w.1.1, w.1.2.0)

pub marks_begin : (marks : List (List Identifier)) (ts mid : List Terminal) → AreAttributes marks ts mid → begins_marked (symbol_at mid) ≡ true → begins_marked (symbol_at ts) ≡ true
marks_begin [] ts mid w b = ap (λ x. begins_marked (symbol_at x)) w ∙ b
marks_begin (names ∷ others) ts mid w b = begins_by symbol.OpenAttribute ts w.1.0 refl w.1.1
