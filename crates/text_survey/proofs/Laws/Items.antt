-- What is spelled is gone through: modules.
use Rattle.std.proofs.Common.{◌≡◌, true, List, [], ◌∷◌, Option, Some, None, refl, sym, ap, subst, ◌∙◌}
use Rattle.text_ground.specs.declared.dropped.Dropped.{Dropped}
use Rattle.rtl_tree.specs.declared.symbol.Symbol.{Symbol}
use Rattle.rtl_tree.specs.declared.symbol.Symbol.TheVariants as symbol
use Rattle.rtl_tree.specs.Symbols.{Terminal}
use Rattle.rtl_tree.specs.TreeExpr.{Formula, Identifier}
use Rattle.rtl_tree.specs.TreeItem.{Head}
use Rattle.rtl_tree.specs.TreeWritten.{WrittenItem}
use Rattle.rtl_tree.specs.TreeModule.{Heading, HeaderParameter, Header, Absent, Empty, Declared, Named, WrittenCircuit}
use Rattle.text_grammar.specs.Grammar.{◌⨾◌, IsA, IsName, IsOptional, AreAll, AreMore}
use Rattle.text_grammar.specs.GrammarStmt.{AreAttributes}
use Rattle.text_grammar.specs.GrammarItem.{direction_symbol, IsHead, IsValue}
use Rattle.text_grammar.specs.GrammarWritten.{IsWritten}
use Rattle.text_grammar.specs.GrammarModule.{IsThere, IsHeading, IsParameter, AreParameters, IsPort, IsHeader, IsCircuit, IsMarkedCircuit, AreCircuits}
use Rattle.text_survey.specs.declared.task.Task.TheVariants as task
use Rattle.text_survey.specs.declared.task.Taking.TheVariants as taking
use Rattle.text_survey.specs.Table.{go, same_symbol}
use Rattle.text_survey.specs.Rule.{rule}
use Rattle.text_survey.specs.Machine.{symbol_at}
use Rattle.text_survey.proofs.Laws.Counts.{Does, ◌▸◌, ◌▹◌, same, grow, nothing, stay, token}
use Rattle.text_survey.proofs.Laws.Nests.{beside, skip, all_beside, in_written, headed, heading, head_parameter, head_port, in_header, in_circuit}
use Rattle.text_survey.proofs.Laws.Expressions.{head, expect, Not, apart, left_out}
use Rattle.text_survey.proofs.Laws.Starts.{Closes, closes_by}
use Rattle.text_survey.proofs.Laws.Lists.{Each, listed_run, more_run, marked_run}
use Rattle.text_survey.proofs.Laws.Declarations.{name_each, name_run, range_run, setting_run}
use Rattle.text_survey.proofs.Laws.PlainItems.{port_rule, port_list_rule, head_run, first_name}
use Rattle.text_survey.proofs.Laws.Generate.{begins_item, begin_else, written_begins, written_run}

-- ---- items

begin_items : (o : Option Symbol) → begins_item o ≡ true → rule task.Items o ≡ go taking.Nothing (task.Item ∷ task.Items ∷ [])
unfolding same_symbol
begin_items (Some symbol.Endmodule) h = cc
begin_items None h = cc
begin_items (Some other) h = refl

items_else : (is : List WrittenItem) (ts mid rest : List Terminal) → AreAll IsWritten is ts mid → IsA symbol.Endmodule mid rest → Not symbol.Else ts
unfolding same_symbol
items_else [] ts mid rest w e = subst (λ x. Not symbol.Else x) (sym w) (apart symbol.Endmodule symbol.Else mid rest refl e)
items_else (i ∷ is) ts mid rest w e = begin_else (symbol_at ts) (written_begins i ts w.0 w.1)

items_run : (is : List WrittenItem) (ts mid rest : List Terminal) → AreAll IsWritten is ts mid → IsA symbol.Endmodule mid rest → Does task.Items ts mid (grow (all_beside in_written is))
unfolding same_symbol
items_run [] ts mid rest w e = subst (λ x. Does task.Items x mid same) (sym w) (stay (ap (λ o. rule task.Items o) (head symbol.Endmodule mid rest e)) (nothing mid))
items_run (i ∷ is) ts mid rest w e =
    stay (begin_items (symbol_at ts) (written_begins i ts w.0 w.1)) (
    written_run i ts w.0 w.1 (items_else is w.0 mid rest w.2 e) ▸ items_run is w.0 mid rest w.2 e ▸ nothing mid)

-- ---- heads of modules

parameter_each : (h : Option Heading) (n : Identifier) (f : Formula) (ts rest : List Terminal) → (IsOptional IsHeading h ⨾ IsName n ⨾ IsValue f) ts rest → Closes rest → Does task.HeadParameter ts rest (grow (λ before. beside f (heading h before)))
parameter_each None n f ts rest w c =
    let v = w.2 in
    subst (λ x. Does task.HeadParameter x rest (grow (beside f))) (sym w.1) (stay (ap (λ o. rule task.HeadParameter o) (head symbol.Name w.0 v.0 (v.1.0, v.1.1, v.1.2.0))) (setting_run n f w.0 rest w.2 c ▸ nothing rest))
parameter_each (Some h) n f ts rest w c =
    let u = w.1 in
    let v = w.2 in
    token symbol.Parameter refl (u.1.0, u.1.1, u.1.2.0) (range_run h.bounds u.0 w.0 v.0 u.2 (v.1.0, v.1.1, v.1.2.0) ▸ setting_run n f w.0 rest w.2 c ▸ nothing rest)

first_parameter : (h : Option Heading) (n : Identifier) (f : Formula) (ts rest : List Terminal) → IsThere h → (IsOptional IsHeading h ⨾ IsName n ⨾ IsValue f) ts rest → Closes rest
    → Does task.FirstParameter ts rest (grow (λ before. beside f (heading h before)))
unfolding same_symbol
first_parameter None n f ts rest t w c = absurd t
first_parameter (Some h) n f ts rest t w c =
    let u = w.1 in
    let v = w.2 in
    token symbol.Parameter refl (u.1.0, u.1.1, u.1.2.0) (range_run h.bounds u.0 w.0 v.0 u.2 (v.1.0, v.1.1, v.1.2.0) ▸ setting_run n f w.0 rest w.2 c ▸ nothing rest)

more_parameters_close : (ps : List HeaderParameter) (ts rest : List Terminal) → AreMore IsParameter ps ts rest → Closes rest → Closes ts
more_parameters_close [] ts rest w c = subst (λ x. Closes x) (sym w) c
more_parameters_close (p ∷ ps) ts rest w c = closes_by symbol.Comma ts w.0 refl w.1

parameters_run : (ps : List HeaderParameter) (ts mid : List Terminal) → AreParameters ps ts mid → Not symbol.Hash mid → Does task.Parameters ts mid (grow (all_beside head_parameter ps))
unfolding same_symbol
parameters_run [] ts mid w n =
    subst (λ x. Does task.Parameters x mid same) (sym w)
    (left_out task.Parameters symbol.Hash (task.Expect symbol.OpenParen ∷ task.FirstParameter ∷ task.HeadParameters ∷ task.Expect symbol.CloseParen ∷ []) mid (λ o. refl) (λ d. refl) n)
parameters_run (p ∷ ps) ts mid x n =
    let w = x.1 in
    let v = w.2 in
    let u = v.2 in
    let z = u.2 in
    let c = closes_by symbol.CloseParen z.0 mid refl z.2 in
    token symbol.Hash refl w.1 (
    expect symbol.OpenParen w.0 v.0 v.1 ▸ first_parameter p.heading p.name p.value v.0 u.0 x.0 u.1 (more_parameters_close ps u.0 z.0 z.1 c)
    ▸ more_run IsParameter task.HeadParameter task.HeadParameters head_parameter ((λ o. refl), (λ d. refl)) (λ q ts' rest' y d. parameter_each q.heading q.name q.value ts' rest' y d) ps u.0 z.0 z.1 c (apart symbol.CloseParen symbol.Comma z.0 mid refl z.2)
    ▸ expect symbol.CloseParen z.0 mid z.2 ▸ nothing mid)

port_run : (h : Option Head) (n : Identifier) (ts rest : List Terminal) → (IsOptional IsHead h ⨾ IsName n) ts rest → Does task.Port ts rest (grow (headed h))
port_run None n ts rest w =
    subst (λ x. Does task.Port x rest same) (sym w.1) (stay (ap (λ o. rule task.Port o) (head symbol.Name w.0 rest (w.2.0, w.2.1, w.2.2.0))) (name_run n w.0 rest w.2 ▸ nothing rest))
port_run (Some h) n ts rest w =
    head_run task.Port (task.Name ∷ []) h ts w.0 rest rest same (λ d. refl) port_rule w.1 (w.2.0, w.2.1, w.2.2.0) (name_run n w.0 rest w.2 ▸ nothing rest)

port_each : Each IsPort task.Port head_port
port_each p ts rest w c = port_run p.head p.name ts rest w

first_port : (h : Option Head) (n : Identifier) (ts rest : List Terminal) → IsThere h → (IsOptional IsHead h ⨾ IsName n) ts rest
    → rule task.PortList (symbol_at ts) ≡ go taking.Nothing (task.Port ∷ task.HeadPorts ∷ task.Expect symbol.CloseParen ∷ [])
first_port None n ts rest t w = absurd t
first_port (Some h) n ts rest t w =
    let v = w.1.1 in
    ap (λ o. rule task.PortList o) (head (direction_symbol h.direction) ts w.1.0 (v.0, v.1, v.2.0)) ∙ port_list_rule h.direction

header_run : (h : Header) (ts mid rest : List Terminal) → IsHeader h ts mid → IsA symbol.Semicolon mid rest → Does task.Ports ts mid (grow (in_header h))
unfolding same_symbol
header_run Absent ts mid rest w e =
    subst (λ x. Does task.Ports x mid same) (sym w) (left_out task.Ports symbol.OpenParen (task.PortList ∷ []) mid (λ o. refl) (λ d. refl) (apart symbol.Semicolon symbol.OpenParen mid rest refl e))
header_run Empty ts mid rest w e = token symbol.OpenParen refl w.1 (token symbol.CloseParen refl w.2 (nothing mid) ▸ nothing mid)
header_run (Declared []) ts mid rest w e = absurd w
header_run (Declared (p ∷ ps)) ts mid rest x e =
    let w = x.1 in
    let v = w.2 in
    let u = v.2 in
    token symbol.OpenParen refl w.1 (
    stay (first_port p.head p.name w.0 v.0 x.0 v.1) (
    port_run p.head p.name w.0 v.0 v.1
    ▸ more_run IsPort task.Port task.HeadPorts head_port ((λ o. refl), (λ d. refl)) port_each ps v.0 u.0 u.1 (closes_by symbol.CloseParen u.0 mid refl u.2) (apart symbol.CloseParen symbol.Comma u.0 mid refl u.2)
    ▸ expect symbol.CloseParen u.0 mid u.2 ▸ nothing mid)
    ▸ nothing mid)
header_run (Named names) ts mid rest w e =
    let v = w.2 in
    let n = first_name IsName names w.0 v.0 (λ x ts' rest' y. (rest', (y.0, y.1, y.2.0))) v.1 in
    token symbol.OpenParen refl w.1 (
    stay (ap (λ o. rule task.PortList o) (head symbol.Name w.0 n.0 n.1)) (
    listed_run IsName task.Name task.Names skip ((λ o. refl), (λ d. refl)) name_each names w.0 v.0 v.1 (closes_by symbol.CloseParen v.0 mid refl v.2) (apart symbol.CloseParen symbol.Comma v.0 mid refl v.2)
    ▹ expect symbol.CloseParen v.0 mid v.2 ▸ nothing mid)
    ▸ nothing mid)

header_hash : (h : Header) (ts mid rest : List Terminal) → IsHeader h ts mid → IsA symbol.Semicolon mid rest → Not symbol.Hash ts
unfolding same_symbol
header_hash Absent ts mid rest w e = subst (λ x. Not symbol.Hash x) (sym w) (apart symbol.Semicolon symbol.Hash mid rest refl e)
header_hash Empty ts mid rest w e = apart symbol.OpenParen symbol.Hash ts w.0 refl w.1
header_hash (Declared []) ts mid rest w e = absurd w
header_hash (Declared (p ∷ ps)) ts mid rest w e = apart symbol.OpenParen symbol.Hash ts w.1.0 refl w.1.1
header_hash (Named names) ts mid rest w e = apart symbol.OpenParen symbol.Hash ts w.0 refl w.1

-- ---- modules

circuit_run : (regions : List Dropped) (c : WrittenCircuit) (ts rest : List Terminal) → IsCircuit regions c ts rest → Does task.Module ts rest (grow (in_circuit c))
circuit_run regions c ts rest x =
    let w = x.2 in
    let w2 = w.2 in
    let w3 = w2.2 in
    let w4 = w3.2 in
    let w5 = w4.2 in
    let w6 = w5.2 in
    let finish : IsA symbol.Endmodule w6.0 rest = (w6.2.0, w6.2.1, w6.2.2.0) in
    token symbol.Module refl (w.1.0, w.1.1, w.1.2.0) (
    name_run c.name w.0 w2.0 w2.1 ▸ parameters_run c.parameters w2.0 w3.0 w3.1 (header_hash c.header w3.0 w4.0 w5.0 w4.1 w5.1) ▸ header_run c.header w3.0 w4.0 w5.0 w4.1 w5.1
    ▸ expect symbol.Semicolon w4.0 w5.0 w5.1 ▸ items_run c.items w5.0 w6.0 rest w6.1 finish ▸ expect symbol.Endmodule w6.0 rest finish ▸ nothing rest)

marked_circuit_run : (regions : List Dropped) (c : WrittenCircuit) (ts rest : List Terminal) → IsMarkedCircuit regions c ts rest → Does task.Module ts rest (grow (in_circuit c))
marked_circuit_run regions c ts rest w =
    let v = w.1 in
    marked_run task.Module refl w.0 ts v.0 rest v.1 (grow (in_circuit c)) (λ d. refl) (circuit_run regions c v.0 rest v.2)

-- a module begins with a token
begun : (marks : List (List Identifier)) (regions : List Dropped) (c : WrittenCircuit) (ts mid rest : List Terminal) → AreAttributes marks ts mid → IsCircuit regions c mid rest
    → rule task.Source (symbol_at ts) ≡ go taking.Nothing (task.Module ∷ task.Source ∷ [])
begun [] regions c ts mid rest w x =
    let v = x.2.1 in
    ap (λ y. rule task.Source (symbol_at y)) w ∙ ap (λ o. rule task.Source o) (head symbol.Module mid x.2.0 (v.0, v.1, v.2.0))
begun (names ∷ others) regions c ts mid rest w x = ap (λ o. rule task.Source o) (head symbol.OpenAttribute ts w.1.0 w.1.1)

-- what modules spell is gone through whole
pub circuits_run : (regions : List Dropped) (cs : List WrittenCircuit) (ts : List Terminal) → AreCircuits regions cs ts [] → Does task.Source ts [] (grow (all_beside in_circuit cs))
circuits_run regions [] ts w = subst (λ x. Does task.Source x [] same) (sym w) (stay refl (nothing []))
circuits_run regions (c ∷ cs) ts w =
    let v = w.1.1 in
    stay (begun w.1.0 regions c ts v.0 w.0 v.1 v.2) (marked_circuit_run regions c ts w.0 w.1 ▸ circuits_run regions cs w.0 w.2 ▸ nothing [])
