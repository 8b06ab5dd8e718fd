-- What is spelled is read: modules, and so no tokens spell two lists of modules.
use Rattle.std.proofs.Common.{◌≡◌, ℕ, zero, suc, ◌≤◌, ◌<◌, true, false, ◌||◌, List, [], ◌∷◌, ◌++◌, length, Option, Some, None, refl, sym, ap, subst, ◌∙◌, max, append_assoc, append-nil, All, Result, Ok, Err, Vec, Global, map, arith}
use Rattle.std.specs.List.{filter}
use Rattle.text_ground.specs.declared.dropped.Dropped.{Dropped}
use Rattle.rtl_tree.specs.declared.symbol.Symbol.{Symbol}
use Rattle.rtl_tree.specs.declared.symbol.Symbol.TheVariants as symbol
use Rattle.rtl_tree.specs.declared.tree.item.Direction.{Direction}
use Rattle.rtl_tree.specs.declared.tree.item.Direction.TheVariants as direction
use Rattle.rtl_tree.specs.Symbols.{Terminal}
use Rattle.rtl_tree.specs.TreeExpr.{Identifier}
use Rattle.rtl_tree.specs.TreeItem.{Head}
use Rattle.rtl_tree.specs.TreeWritten.{WrittenItem}
use Rattle.rtl_tree.specs.declared.tree.modules.WrittenModule.{WrittenModule}
use Rattle.rtl_tree.specs.TreeModule.{Heading, HeaderParameter, HeaderPort, Header, Absent, Empty, Declared, Named, WrittenCircuit}
use Rattle.rtl_tree.specs.TreeModule.{written_circuit as view}
use Rattle.text_grammar.specs.Depth.{greatest, if_any, bounds_depth, head_depth, written_depth, header_parameter_depth, header_port_depth, header_depth, depth}
use Rattle.text_grammar.specs.Grammar.{IsA, IsAt, IsName, IsOptional, AreAll, AreMore, AreListed}
use Rattle.text_grammar.specs.GrammarExpr.{IsBounds}
use Rattle.text_grammar.specs.GrammarItem.{direction_symbol, IsHead}
use Rattle.text_grammar.specs.GrammarWritten.{IsWritten}
use Rattle.text_grammar.specs.GrammarModule.{IsHeading, IsParameter, AreParameters, IsPort, IsHeader, IsThere, is_between, IsCircuit, IsMarkedCircuit, AreCircuits, AreSpelled}
use Rattle.text_build.specs.declared.fault.BuildFault.{BuildFault}
use Rattle.text_build.specs.declared.fault.BuildFault.TheVariants as fault
use Rattle.text_build.specs.Built.{IsBuilt, SpelledOnce}
use Rattle.text_build.specs.Reading.{Parser, Outcome, Reads, and_then, ◌>>=◌, ◌>>◌, pure, same_symbol, starts, name, advance, mark, either, optional, add, turns, repeat, until, listed}
use Rattle.text_build.specs.ReadingStmt.{attributes}
use Rattle.text_build.specs.ReadingItem.{range, value, port_head}
use Rattle.text_build.specs.ReadingModule.{item, heading, parameter, parameters_of, parameters, starts_head, own_head, port, declared, named, empty, port_list, header, circuit_after, circuit, is_more, circuits}
use Rattle.text_build.proofs.Steps.{turns_go, turns_stop, add_some}
use Rattle.text_build.proofs.Laws.Tokens.{at_is, mark_at, mark_then, advance_at, advance_then, starts_is, starts_not, name_again, bind, either_first, either_second, optional_there, optional_absent}
use Rattle.text_build.proofs.Laws.Repeats.{Again, Shrinks, Consumes, Rows, more_furthers, listed_from, until_again}
use Rattle.text_build.proofs.Laws.Follows.{Stops, stop_stops}
use Rattle.text_build.proofs.Laws.Exprs.{stop_ends}
use Rattle.text_build.proofs.Laws.Attributes.{marks_of, attributes_again, attributes_shorter}
use Rattle.text_build.proofs.Laws.Statements.{NoElse, no_else_is}
use Rattle.text_build.proofs.Laws.Heads.{name_opens, range_again, head_again, value_again}
use Rattle.text_build.proofs.Laws.Lists.{ends_by, names_again, more_shrinks, listed_shrinks, optional_shrinks, name_shrinks, bounds_shrinks, value_shrinks}
use Rattle.text_build.proofs.Laws.Items.{head_shrinks}
use Rattle.text_build.proofs.Laws.Written.{written_shorter}
use Rattle.text_build.proofs.Laws.Generate.{item_again, item_begins}

comma_stops : (ts mid : List Terminal) → IsA symbol.Comma ts mid → Stops 12 ts
comma_stops ts mid w = stop_stops symbol.Comma ts mid refl w

not_name : (s : Symbol) (n : Identifier) (ts rest : List Terminal) → IsName n ts rest → same_symbol symbol.Name s ≡ false → starts s ts ≡ false
not_name s n ts rest w h = starts_not s symbol.Name ts rest w.0 w.1 w.2.0 h

-- ---- parameters in a head

abbrev heading_depth : Heading → ℕ
heading_depth h = if_any bounds_depth h.bounds

heading_again : (d : ℕ) (h : Heading) (n : Identifier) (ts mid rest : List Terminal) → IsHeading h ts mid → heading_depth h ≤ d → IsName n mid rest → heading d ts ≡ Some (h, mid)
unfolding heading
heading_again d h n ts mid rest w k m =
    bind (advance ts) (λ at. range d >>= (λ b. pure (record { at = at; bounds = b }))) h.at w.0 (advance_at symbol.Parameter h.at ts w.0 w.1)
    ∙ bind (range d w.0) (λ b. pure (record { at = h.at; bounds = b })) h.bounds mid (range_again d h.bounds w.0 mid w.2 k (name_opens n mid rest m))

optional_heading : (d : ℕ) (h : Option Heading) (n : Identifier) (ts mid rest : List Terminal) → IsOptional IsHeading h ts mid → if_any heading_depth h ≤ d → IsName n mid rest
    → optional symbol.Parameter (heading d) ts ≡ Some (h, mid)
unfolding same_symbol
optional_heading d None n ts mid rest w k m =
    optional_absent symbol.Parameter (heading d) ts (ap (starts symbol.Parameter) w ∙ not_name symbol.Parameter n mid rest m refl) ∙ ap (λ x. Some (None, x)) w
optional_heading d (Some h) n ts mid rest w k m =
    optional_there symbol.Parameter (heading d) h ts mid (starts_is symbol.Parameter ts w.0 w.1.0 w.1.1 w.1.2.0) (heading_again d h n ts mid rest w k m)

parameter_again : (d : ℕ) → Again header_parameter_depth d (parameter d) IsParameter (Stops 12)
unfolding parameter
parameter_again d p ts rest w k s =
    let a = w.2 in
    bind (optional symbol.Parameter (heading d) ts) (λ h. name >>= (λ n. value d >>= (λ v. pure (record { heading = h; name = n; value = v })))) p.heading w.0
    (optional_heading d p.heading p.name ts w.0 a.0 w.1 (omega (arith, k)) a.1)
    ∙ bind (name w.0) (λ n. value d >>= (λ v. pure (record { heading = p.heading; name = n; value = v }))) p.name a.0 (name_again p.name w.0 a.0 a.1)
    ∙ bind (value d a.0) (λ v. pure (record { heading = p.heading; name = p.name; value = v })) p.value rest (value_again d p.value a.0 rest a.2 (omega (arith, k)) s)

heading_shrinks : (h : Heading) → Shrinks (IsHeading h)
heading_shrinks h ts rest w = omega (arith, ap length w.1.1, optional_shrinks IsBounds bounds_shrinks h.bounds w.0 rest w.2)

parameter_shrinks : (p : HeaderParameter) → Shrinks (IsParameter p)
parameter_shrinks p ts rest w =
    let a = w.2 in omega (arith, optional_shrinks IsHeading heading_shrinks p.heading ts w.0 w.1, ap length a.1.1, value_shrinks p.value a.0 rest a.2)

parameters_again : (d : ℕ) (ps : List HeaderParameter) (ts rest : List Terminal) → AreParameters ps ts rest → greatest header_parameter_depth ps ≤ d → starts symbol.Hash rest ≡ false
    → parameters d ts ≡ Some (ps, rest)
unfolding parameters parameters_of same_symbol
parameters_again d [] ts rest w k s = either_second (starts symbol.Hash) (parameters_of d) (pure []) ts (ap (starts symbol.Hash) w ∙ s) ∙ ap (λ x. Some ([], x)) w
parameters_again d (p ∷ ps) ts rest v k s =
    let w = v.1 in
    let a = w.2 in
    let b = a.2 in
    let c = b.2 in
    either_first (starts symbol.Hash) (parameters_of d) (pure []) ts (starts_is symbol.Hash ts w.0 w.1.0 w.1.1 w.1.2)
    ∙ ap (λ o. and_then (and_then o (λ _. listed (parameter d))) (λ all. mark symbol.CloseParen >> pure all)) (advance_then symbol.Hash (mark symbol.OpenParen) ts w.0 w.1)
    ∙ ap (λ o. and_then o (λ all. mark symbol.CloseParen >> pure all)) (mark_then symbol.OpenParen (listed (parameter d)) w.0 a.0 a.1
    ∙ listed_from IsParameter (AreMore IsParameter) (Stops 12) header_parameter_depth d (parameter d) (parameter_again d) parameter_shrinks comma_stops (more_furthers IsParameter) p ps a.0 b.0 c.0 b.1 c.1 k
    (stop_ends symbol.CloseParen c.0 rest refl refl c.2))
    ∙ mark_then symbol.CloseParen (pure (p ∷ ps)) c.0 rest c.2

parameters_shrink : (ps : List HeaderParameter) → Shrinks (AreParameters ps)
parameters_shrink [] ts rest w = omega (arith, ap length w)
parameters_shrink (p ∷ ps) ts rest v =
    let w = v.1 in let a = w.2 in let b = a.2 in let c = b.2 in
    omega (arith, ap length w.1.1, ap length a.1.1, parameter_shrinks p a.0 b.0 b.1, more_shrinks IsParameter parameter_shrinks ps b.0 c.0 c.1, ap length c.2.1)

-- ---- ports in a head

head_by : (o : Direction) (at : ℕ) (ts rest : List Terminal) → IsAt (direction_symbol o) at ts rest → starts_head ts ≡ true
unfolding same_symbol
head_by direction.Input at ts rest w = ap (λ o. o || starts symbol.Output ts) (starts_is symbol.Input ts rest w.0 w.1 w.2.0)
head_by direction.Output at ts rest w =
    ap (λ o. o || starts symbol.Output ts) (starts_not symbol.Input symbol.Output ts rest w.0 w.1 w.2.0 refl) ∙ starts_is symbol.Output ts rest w.0 w.1 w.2.0

head_there : (h : Head) (ts rest : List Terminal) → IsHead h ts rest → starts_head ts ≡ true
head_there h ts rest w = head_by h.direction h.at ts w.0 w.1

no_head : (n : Identifier) (ts rest : List Terminal) → IsName n ts rest → starts_head ts ≡ false
unfolding same_symbol
no_head n ts rest w = ap (λ o. o || starts symbol.Output ts) (not_name symbol.Input n ts rest w refl) ∙ not_name symbol.Output n ts rest w refl

own_again : (d : ℕ) (h : Option Head) (n : Identifier) (ts mid rest : List Terminal) → IsOptional IsHead h ts mid → if_any head_depth h ≤ d → IsName n mid rest → own_head d ts ≡ Some (h, mid)
unfolding own_head
own_again d None n ts mid rest w k m =
    either_second starts_head (port_head d >>= (λ h. pure (Some h))) (pure None) ts (ap starts_head w ∙ no_head n mid rest m) ∙ ap (λ x. Some (None, x)) w
own_again d (Some h) n ts mid rest w k m =
    either_first starts_head (port_head d >>= (λ h. pure (Some h))) (pure None) ts (head_there h ts mid w)
    ∙ bind (port_head d ts) (λ h. pure (Some h)) h mid (head_again d h ts mid w k (name_opens n mid rest m))

abbrev Anything : List Terminal → Type 0
Anything ts = Unit {0}

port_again : (d : ℕ) → Again header_port_depth d (port d) IsPort Anything
unfolding port
port_again d p ts rest w k s =
    bind (own_head d ts) (λ h. name >>= (λ n. pure (record { head = h; name = n }))) p.head w.0 (own_again d p.head p.name ts w.0 rest w.1 k w.2)
    ∙ bind (name w.0) (λ n. pure (record { head = p.head; name = n })) p.name rest (name_again p.name w.0 rest w.2)

port_shrinks : (p : HeaderPort) → Shrinks (IsPort p)
port_shrinks p ts rest w = omega (arith, optional_shrinks IsHead head_shrinks p.head ts w.0 w.1, ap length w.2.1)

first_head : (h : Option Head) (ts rest : List Terminal) → IsThere h → IsOptional IsHead h ts rest → starts_head ts ≡ true
first_head None ts rest t w = absurd t
first_head (Some h) ts rest t w = head_there h ts rest w

-- what begins with a head doesn't end the list
head_open_by : (o : Direction) (at : ℕ) (ts rest : List Terminal) → IsAt (direction_symbol o) at ts rest → starts symbol.CloseParen ts ≡ false
unfolding same_symbol
head_open_by direction.Input at ts rest w = starts_not symbol.CloseParen symbol.Input ts rest w.0 w.1 w.2.0 refl
head_open_by direction.Output at ts rest w = starts_not symbol.CloseParen symbol.Output ts rest w.0 w.1 w.2.0 refl

head_open : (h : Option Head) (ts rest : List Terminal) → IsThere h → IsOptional IsHead h ts rest → starts symbol.CloseParen ts ≡ false
head_open None ts rest t w = absurd t
head_open (Some h) ts rest t w = head_open_by h.direction h.at ts w.0 w.1

names_first : (ns : List Identifier) (ts rest : List Terminal) → AreListed IsName ns ts rest → (starts_head ts ≡ false) × (starts symbol.CloseParen ts ≡ false)
unfolding same_symbol
names_first [] ts rest w = absurd w
names_first (n ∷ ns) ts rest w = (no_head n ts w.0 w.1, not_name symbol.CloseParen n ts w.0 w.1 refl)

abbrev inside : ℕ → Parser Header
inside d = either (starts symbol.CloseParen) empty (either starts_head (declared d) named)

header_again : (d : ℕ) (h : Header) (ts mid rest : List Terminal) → IsHeader h ts mid → header_depth h ≤ d → IsA symbol.Semicolon mid rest → header d ts ≡ Some (h, mid)
unfolding header port_list declared named empty same_symbol
header_again d Absent ts mid rest w k m =
    either_second (starts symbol.OpenParen) (port_list d) (pure Absent) ts (ap (starts symbol.OpenParen) w ∙ starts_not symbol.OpenParen symbol.Semicolon mid rest m.0 m.1 m.2 refl) ∙ ap (λ x. Some (Absent, x)) w
header_again d Empty ts mid rest w k m =
    either_first (starts symbol.OpenParen) (port_list d) (pure Absent) ts (starts_is symbol.OpenParen ts w.0 w.1.0 w.1.1 w.1.2)
    ∙ advance_then symbol.OpenParen (inside d) ts w.0 w.1
    ∙ either_first (starts symbol.CloseParen) empty (either starts_head (declared d) named) w.0 (starts_is symbol.CloseParen w.0 mid w.2.0 w.2.1 w.2.2)
    ∙ advance_then symbol.CloseParen (pure Empty) w.0 mid w.2
header_again d (Declared []) ts mid rest w k m = absurd w
header_again d (Declared (p ∷ ps)) ts mid rest v k m =
    let w = v.1 in
    let a = w.2 in
    let b = a.2 in
    let f = a.1 in
    either_first (starts symbol.OpenParen) (port_list d) (pure Absent) ts (starts_is symbol.OpenParen ts w.0 w.1.0 w.1.1 w.1.2)
    ∙ advance_then symbol.OpenParen (inside d) ts w.0 w.1
    ∙ either_second (starts symbol.CloseParen) empty (either starts_head (declared d) named) w.0 (head_open p.head w.0 f.0 v.0 f.1)
    ∙ either_first starts_head (declared d) named w.0 (first_head p.head w.0 f.0 v.0 f.1)
    ∙ bind (listed (port d) w.0) (λ all. mark symbol.CloseParen >> pure (Declared all)) (p ∷ ps) b.0
    (listed_from IsPort (AreMore IsPort) Anything header_port_depth d (port d) (port_again d) port_shrinks (λ us vs q. tt) (more_furthers IsPort) p ps w.0 a.0 b.0 a.1 b.1 k
    (ends_by Anything symbol.CloseParen b.0 mid tt refl b.2))
    ∙ mark_then symbol.CloseParen (pure (Declared (p ∷ ps))) b.0 mid b.2
header_again d (Named ns) ts mid rest w k m =
    let a = w.2 in
    let f = names_first ns w.0 a.0 a.1 in
    either_first (starts symbol.OpenParen) (port_list d) (pure Absent) ts (starts_is symbol.OpenParen ts w.0 w.1.0 w.1.1 w.1.2)
    ∙ advance_then symbol.OpenParen (inside d) ts w.0 w.1
    ∙ either_second (starts symbol.CloseParen) empty (either starts_head (declared d) named) w.0 f.1
    ∙ either_second starts_head (declared d) named w.0 f.0
    ∙ bind (listed name w.0) (λ all. mark symbol.CloseParen >> pure (Named all)) ns a.0 (names_again symbol.CloseParen ns w.0 a.0 mid a.1 a.2 refl)
    ∙ mark_then symbol.CloseParen (pure (Named ns)) a.0 mid a.2

header_hash : (h : Header) (ts mid rest : List Terminal) → IsHeader h ts mid → IsA symbol.Semicolon mid rest → starts symbol.Hash ts ≡ false
unfolding same_symbol
header_hash Absent ts mid rest w m = ap (starts symbol.Hash) w ∙ starts_not symbol.Hash symbol.Semicolon mid rest m.0 m.1 m.2 refl
header_hash Empty ts mid rest w m = starts_not symbol.Hash symbol.OpenParen ts w.0 w.1.0 w.1.1 w.1.2 refl
header_hash (Declared []) ts mid rest w m = absurd w
header_hash (Declared (p ∷ ps)) ts mid rest v m = let w = v.1 in starts_not symbol.Hash symbol.OpenParen ts w.0 w.1.0 w.1.1 w.1.2 refl
header_hash (Named ns) ts mid rest w m = starts_not symbol.Hash symbol.OpenParen ts w.0 w.1.0 w.1.1 w.1.2 refl

header_shrinks : (h : Header) → Shrinks (IsHeader h)
header_shrinks Absent ts rest w = omega (arith, ap length w)
header_shrinks Empty ts rest w = omega (arith, ap length w.1.1, ap length w.2.1)
header_shrinks (Declared []) ts rest w = absurd w
header_shrinks (Declared (p ∷ ps)) ts rest v =
    let w = v.1 in let a = w.2 in let b = a.2 in
    omega (arith, ap length w.1.1, port_shrinks p w.0 a.0 a.1, more_shrinks IsPort port_shrinks ps a.0 b.0 b.1, ap length b.2.1)
header_shrinks (Named ns) ts rest w = let a = w.2 in omega (arith, ap length w.1.1, listed_shrinks IsName name_shrinks ns w.0 a.0 a.1, ap length a.2.1)

-- ---- modules

rows_of : Rows IsWritten (AreAll IsWritten)
rows_of = record { at_end = λ ts rest w. w; goes_on = λ x xs ts rest w. w }

items_again : (d : ℕ) (is : List WrittenItem) (at : ℕ) (ts mid rest : List Terminal) → AreAll IsWritten is ts mid → greatest written_depth is ≤ d → IsAt symbol.Endmodule at mid rest
    → until symbol.Endmodule (item d) ts ≡ Some (is, mid)
unfolding same_symbol
items_again d is at ts mid rest w k m =
    until_again IsWritten (AreAll IsWritten) symbol.Endmodule NoElse written_depth d (item d) (item_again d) (item_begins symbol.Endmodule refl) rows_of is ts mid w k
    (no_else_is symbol.Endmodule mid rest (at_is symbol.Endmodule at mid rest m) refl) (starts_is symbol.Endmodule mid rest m.0 m.1 m.2.0)

items_shrink : (is : List WrittenItem) → Shrinks (AreAll IsWritten is)
items_shrink [] ts rest w = omega (arith, ap length w)
items_shrink (i ∷ is) ts rest w = omega (arith, written_shorter i ts w.0 w.1, items_shrink is w.0 rest w.2)

abbrev of_parts : List Dropped → ℕ → Identifier → List HeaderParameter → Header → List WrittenItem → ℕ → WrittenCircuit
of_parts regions at n ps h is last = record { at = at; name = n; parameters = ps; header = h; items = is; dropped = filter (is_between at last) regions }

after_again : (d : ℕ) (regions : List Dropped) (c : WrittenCircuit) (ts rest : List Terminal) → IsCircuit regions c ts rest → depth c ≤ d → circuit_after d regions ts ≡ Some (c, rest)
unfolding circuit_after
after_again d regions c ts rest v k =
    let w = v.2 in
    let a = w.2 in
    let b = a.2 in
    let e = b.2 in
    let f = e.2 in
    let g = f.2 in
    bind (mark symbol.Module ts) (λ at. name >>= (λ n. parameters d >>= (λ ps. header d >>= (λ h. mark symbol.Semicolon >> until symbol.Endmodule (item d) >>= (λ is. mark symbol.Endmodule >>= (λ last. pure (of_parts regions at n ps h is last)))))))
    c.at w.0 (mark_at symbol.Module c.at ts w.0 w.1)
    ∙ bind (name w.0) (λ n. parameters d >>= (λ ps. header d >>= (λ h. mark symbol.Semicolon >> until symbol.Endmodule (item d) >>= (λ is. mark symbol.Endmodule >>= (λ last. pure (of_parts regions c.at n ps h is last)))))) c.name a.0 (name_again c.name w.0 a.0 a.1)
    ∙ bind (parameters d a.0) (λ ps. header d >>= (λ h. mark symbol.Semicolon >> until symbol.Endmodule (item d) >>= (λ is. mark symbol.Endmodule >>= (λ last. pure (of_parts regions c.at c.name ps h is last))))) c.parameters b.0
    (parameters_again d c.parameters a.0 b.0 b.1 (omega (arith, k)) (header_hash c.header b.0 e.0 f.0 e.1 f.1))
    ∙ bind (header d b.0) (λ h. mark symbol.Semicolon >> until symbol.Endmodule (item d) >>= (λ is. mark symbol.Endmodule >>= (λ last. pure (of_parts regions c.at c.name c.parameters h is last)))) c.header e.0 (header_again d c.header b.0 e.0 f.0 e.1 (omega (arith, k)) f.1)
    ∙ ap (λ o. and_then o (λ is. mark symbol.Endmodule >>= (λ last. pure (of_parts regions c.at c.name c.parameters c.header is last)))) (mark_then symbol.Semicolon (until symbol.Endmodule (item d)) e.0 f.0 f.1
    ∙ items_again d c.items v.0 f.0 g.0 rest g.1 (omega (arith, k)) g.2)
    ∙ bind (mark symbol.Endmodule g.0) (λ last. pure (of_parts regions c.at c.name c.parameters c.header c.items last)) v.0 rest (mark_at symbol.Endmodule v.0 g.0 rest g.2)
    ∙ ap (λ x. Some (record { at = c.at; name = c.name; parameters = c.parameters; header = c.header; items = c.items; dropped = x }, rest)) (sym v.1)

circuit_shorter : (regions : List Dropped) (c : WrittenCircuit) → Consumes (IsCircuit regions c)
circuit_shorter regions c ts rest v =
    let w = v.2 in let a = w.2 in let b = a.2 in let e = b.2 in let f = e.2 in let g = f.2 in
    omega (arith, ap length w.1.1, ap length a.1.1, parameters_shrink c.parameters a.0 b.0 b.1, header_shrinks c.header b.0 e.0 e.1, ap length f.1.1, items_shrink c.items f.0 g.0 g.1, ap length g.2.1)

circuit_again : (d : ℕ) (regions : List Dropped) (c : WrittenCircuit) (ts rest : List Terminal) → IsMarkedCircuit regions c ts rest → depth c ≤ d → circuit d regions ts ≡ Some (c, rest)
unfolding circuit same_symbol
circuit_again d regions c ts rest w k =
    let v = w.1 in
    let m = v.2.2 in
    bind (attributes ts) (λ _. circuit_after d regions) (marks_of w.0) v.0
    (attributes_again w.0 ts v.0 v.1 (starts_not symbol.OpenAttribute symbol.Module v.0 m.0 m.1.0 m.1.1 m.1.2.0 refl))
    ∙ after_again d regions c v.0 rest v.2 k

marked_shorter : (regions : List Dropped) (c : WrittenCircuit) → Consumes (IsMarkedCircuit regions c)
marked_shorter regions c ts rest w = let v = w.1 in omega (arith, attributes_shorter w.0 ts v.0 v.1, circuit_shorter regions c v.0 rest v.2)

more_is : (ts rest : List Terminal) → length rest < length ts → is_more ts ≡ true
more_is [] rest h = absurd (omega arith)
more_is (t ∷ ts) rest h = refl

turns_again : (n d : ℕ) (regions : List Dropped) (found cs : List WrittenCircuit) (ts : List Terminal) → length ts ≤ n → AreCircuits regions cs ts [] → greatest depth cs ≤ d
    → turns n is_more (add (circuit d regions)) found ts ≡ Some (found ++ cs, [])
turns_again n d regions found [] ts l w k =
    turns_stop n is_more (add (circuit d regions)) found ts (ap is_more w) ∙ ap (λ x. Some (found, x)) w ∙ ap (λ x. Some (x, [])) (sym (append-nil found))
turns_again zero d regions found (c ∷ cs) ts l w k = absurd (omega (arith, l, marked_shorter regions c ts w.0 w.1))
turns_again (suc n) d regions found (c ∷ cs) ts l w k =
    let s = marked_shorter regions c ts w.0 w.1 in
    turns_go (suc n) n is_more (add (circuit d regions)) found ts (Some (found ++ c ∷ [], w.0)) refl (more_is ts w.0 s)
    (add_some (circuit d regions) found ts w.0 c (circuit_again d regions c ts w.0 w.1 (omega (arith, k))))
    ∙ turns_again n d regions (found ++ c ∷ []) cs w.0 (omega (arith, l, s)) w.2 (omega (arith, k))
    ∙ ap (λ x. Some (x, [])) (append_assoc found (c ∷ []) cs)

-- what is spelled is read as just that
pub circuits_again : (d : ℕ) (regions : List Dropped) (ts : List Terminal) (cs : List WrittenCircuit) → AreSpelled regions ts cs → greatest depth cs ≤ d → circuits d regions ts ≡ Some (cs, [])
unfolding circuits repeat
circuits_again d regions ts cs w k = turns_again (length ts) d regions [] cs ts (omega arith) w.spelled k

pub all_below : (d : ℕ) (cs : List WrittenCircuit) → All (λ c. depth c ≤ d) cs → greatest depth cs ≤ d
all_below d [] h = omega arith
all_below d (c ∷ cs) h =
    let first : depth c ≤ d = h 0 c (omega arith) in
    omega (arith, first, all_below d cs (λ k e l. h (suc k) e (omega (arith, l))))

-- ---- no tokens spell two lists of modules

some_is : {A : Type 0} (x y : A) → Some x ≡ Some y → x ≡ y
some_is x y h = cc

same_first : (a b : List WrittenCircuit) → ◌≡◌ {A = Outcome (List WrittenCircuit)} (Some (a, [])) (Some (b, [])) → a ≡ b
same_first a b h = ap (λ (p : List WrittenCircuit × List Terminal). p.0) (some_is (a, []) (b, []) h)

pub spelled_once : SpelledOnce
spelled_once regions ts a b u v =
    let d = max (greatest depth a) (greatest depth b) in
    same_first a b (sym (circuits_again d regions ts a u (omega arith)) ∙ circuits_again d regions ts b v (omega arith))

-- ---- what the code answers

-- what is read of a spelled text is what it spells
pub built : (cs : List WrittenCircuit) (o : Outcome (List WrittenCircuit)) (r : Result (Vec WrittenModule Global) BuildFault) (rest : List Terminal) → o ≡ Some (cs, []) → Reads (λ (v : Vec WrittenModule Global). map view v.items) o r rest → IsBuilt cs r
built cs o (Ok v) rest e h =
    let q : ◌≡◌ {A = Outcome (List WrittenCircuit)} (Some (map view v.items, rest)) (Some (cs, [])) = sym h ∙ e in
    ap (λ (p : List WrittenCircuit × List Terminal). p.0) (some_is (map view v.items, rest) (cs, []) q)
built cs o (Err fault.NotSpelled) rest e h = let q : ◌≡◌ {A = Outcome (List WrittenCircuit)} None (Some (cs, [])) = sym h ∙ e in absurd (cc)
built cs o (Err fault.Memory) rest e h = tt

-- where all is read that is spelled, nothing is left
pub none_left : (cs : List WrittenCircuit) (o : Outcome (List WrittenCircuit)) (r : Result (Vec WrittenModule Global) BuildFault) (v : Vec WrittenModule Global) (rest : List Terminal) → o ≡ Some (cs, []) → Reads (λ (v : Vec WrittenModule Global). map view v.items) o r rest → r ≡ Ok v → is_more rest ≡ true → ⊥
none_left cs o r v rest e h k more =
    let read : ◌≡◌ {A = Outcome (List WrittenCircuit)} o (Some (map view v.items, rest)) = subst (λ r. Reads (λ (v : Vec WrittenModule Global). map view v.items) o r rest) k h in
    let q : ◌≡◌ {A = Outcome (List WrittenCircuit)} (Some (map view v.items, rest)) (Some (cs, [])) = sym read ∙ e in
    let z : true ≡ false = sym more ∙ ap (λ (p : List WrittenCircuit × List Terminal). is_more p.1) (some_is (map view v.items, rest) (cs, []) q) in
    absurd (cc)
