-- The connections of an instance without faults are lawful processes.
use Rattle.std.specs.Prelude.{ℕ, ◌+◌, ◌<◌, ◌≤◌, true, List, [], ◌∷◌, ◌++◌, length, Option, None, Some}
use Rattle.std.specs.List.{slice_get}
use Rattle.std.proofs.Common.{◌≡◌, ◌∙◌, ap, refl, sym, subst, arith, inl, inr, length-append}
use Rattle.std.proofs.lemmas.Bool.{cases_Bool}
use Rattle.rtl_tree.specs.declared.tree.item.Direction.{Direction}
use Rattle.rtl_tree.specs.declared.tree.item.Direction.TheVariants.{Input, Output}
use Rattle.rtl_tree.specs.TreeExpr.{Formula, Identifier}
use Rattle.rtl_tree.specs.TreeItem.{Association, ByPosition, ByName, Associated, Positional}
use Rattle.rtl_flat.specs.declared.signal.Kind.TheVariants.{Net}
use Rattle.rtl_flat.specs.declared.signal.Signal.{Signal}
use Rattle.rtl_flat.specs.Expression.{Tree, Sized}
use Rattle.rtl_flat.specs.Expression as tree
use Rattle.rtl_flat.specs.Process.{Assign}
use Rattle.rtl_flat.specs.Signs.{Has, width_in}
use Rattle.rtl_flat.specs.Sizing.{signed_in}
use Rattle.rtl_flat.specs.WellFormed.{IsProcess}
use Rattle.elab_laws.specs.elab_scope.declared.known.Known.{Known}
use Rattle.elab_laws.specs.elab_scope.declared.known.Known.TheVariants as known
use Rattle.elab_laws.specs.elab_scope.declared.known.Role.TheVariants as role
use Rattle.elab_laws.specs.elab_scope.declared.widths.Breadth.{Breadth}
use Rattle.elab_laws.specs.elab_scope.declared.widths.Breadth.TheVariants.{Bits}
use Rattle.elab_laws.specs.elab_scope.Expressions.{faults}
use Rattle.elab_laws.specs.elab_scope.Faults.{Port, Refusal}
use Rattle.elab_laws.specs.elab_scope.Names.{Meanings}
use Rattle.elab_laws.specs.elab_scope.Own.{breadth, name_breadth, name_sign}
use Rattle.elab_laws.specs.elab_scope.Rules.{fault}
use Rattle.elab_laws.specs.elab_scope.Targets.{pieces_of, target_breadth}
use Rattle.elab_laws.specs.elab_scope.Trees.{signal_of, spot_in}
use Rattle.elab_laws.specs.elab_scope.Widths.{bits, wider}
use Rattle.elab_laws.proofs.elab_scope_proofs.Fitting.{fitted_is, no_cons}
use Rattle.elab_laws.proofs.elab_scope_proofs.Sound.{nil_left, nil_right}
use Rattle.elab_laws.specs.Scopes.{IsScopeOf}
use Rattle.elab_laws.proofs.Assignments.{input_connection, output_connection}
use Rattle.elab_flat.specs.elab_links.Connections.{argument_faults, connection_faults, driven_faults, named_link_faults, ordered_link_faults, placed_faults, instantiation_faults}
use Rattle.elab_flat.specs.elab_links.Drivable.{drivable, link_pieces}
use Rattle.elab_flat.specs.elab_links.Marks.{Marks, no_marks, with_mark}
use Rattle.elab_flat.specs.elab_links.Parameters.{name_faults, surplus_faults}
use Rattle.elab_flat.specs.elab_links.Ports.{Sockets}
use Rattle.elab_flat.proofs.elab_links_proofs.Pieces.{as_argument, pieces_agree}
use Rattle.elab_flat.specs.Links.{Sides, link_tasks, named_port_tasks, named_tasks, ordered_tasks, output_context, placed_tasks, port_tasks, port_tree}
use Rattle.elab_flat.specs.elab_walk.Rooms.{argument_places, connection_places, named_places, ordered_places}
use Rattle.elab_lawful.proofs.Driven.{IsDriven, breadth_is, driven}
use Rattle.elab_lawful.proofs.Scopes.{AreLinks, IsInputNet, IsLink}
use Rattle.elab_lawful.proofs.Tasks.{AreTasks, more_tasks, no_tasks, one_task, tasks_weaker}

-- the signal that a port stands for
record IsSignal (base : ℕ) (signals : List Signal) (k : Option Known) : Type 0 where
  pub there : signal_of base k < length signals
  pub most : width_in signals (signal_of base k) ≤ 128
  pub own : name_breadth k ≡ Bits (width_in signals (signal_of base k))
  pub sign : name_sign k ≡ true → signed_in signals (signal_of base k) ≡ true

port_signal : (base : ℕ) (signals : List Signal) (d : Direction) (k : Option Known) → IsLink base signals (Some d) k → IsSignal base signals k
port_signal base signals d None h = absurd h.port
port_signal base signals d (Some (known.Parameter number width signed)) h = absurd h.port
port_signal base signals d (Some (known.Integer number)) h = absurd h.port
port_signal base signals d (Some (known.Signal number r None)) h = absurd h.described
port_signal base signals d (Some (known.Signal number r (Some shape))) h =
    let all = h.described in
    let width : width_in signals (base + number) ≡ shape.width = all.1 in
    let some : 1 ≤ shape.width = all.4 in
    let most : shape.width ≤ 128 = all.5 in
    record {
      there = all.0;
      most = omega arith;
      own = fitted_is shape.width some most ∙ ap Bits (sym width);
      sign = λ yes'. all.2 ∙ yes';
    }

input_kind : (base : ℕ) (signals : List Signal) (k : Option Known) → IsLink base signals (Some Input) k → Has (λ s. s.kind ≡ Net) signals (signal_of base k)
input_kind base signals None h = absurd h.port
input_kind base signals (Some (known.Parameter number width signed)) h = absurd h.port
input_kind base signals (Some (known.Integer number)) h = absurd h.port
input_kind base signals (Some (known.Signal number r shape)) h =
    let is : r ≡ role.Input = h.port refl in
    subst (λ r. IsInputNet base signals (Some (known.Signal number r shape))) is h.input

-- an output drives its argument
output_lawful : (sides : Sides) (at : ℕ) (signals : List Signal) (port : Option Known) (e : Formula) → IsScopeOf sides.base signals sides.scope → IsSignal sides.inner_base signals port → drivable sides.scope e ≡ true → faults sides.scope e ≡ [] → IsProcess signals (Assign (link_pieces sides.file sides.base sides.scope e) (port_tree sides at port (output_context sides.scope port e)))
output_lawful sides at signals port e scope one may none =
    let target : IsDriven sides.scope e = driven sides.scope e may none in
    let i : ℕ = signal_of sides.inner_base port in
    let value : Breadth → Tree =
    λ b. Sized (bits (wider b (name_breadth port))) (name_sign port) (spot_in sides.file at) (tree.Whole (signal_of sides.inner_base port)) in
    let process : IsProcess signals (Assign (pieces_of sides.file sides.base sides.scope target.target) (value (target_breadth sides.scope target.target))) =
    output_connection sides.file sides.base sides.scope signals scope target.target i (name_sign port) (spot_in sides.file at) (name_breadth port) one.there one.most one.own one.sign target.faultless in
    let pieces : link_pieces sides.file sides.base sides.scope (as_argument target.target) ≡ pieces_of sides.file sides.base sides.scope target.target =
    pieces_agree sides.file sides.base sides.scope target.target in
    let width : breadth sides.scope (as_argument target.target) ≡ target_breadth sides.scope target.target =
    breadth_is sides.scope target.target in
    subst (λ e. IsProcess signals (Assign (link_pieces sides.file sides.base sides.scope e) (value (breadth sides.scope e)))) (sym target.is) (subst (λ ps. IsProcess signals (Assign ps (value (breadth sides.scope (as_argument target.target))))) (sym pieces) (subst (λ b. IsProcess signals (Assign (pieces_of sides.file sides.base sides.scope target.target) (value b))) (sym width) process))

may_drive : (scope : Meanings) (at : ℕ) (name : List ℕ) (e : Formula) → driven_faults scope at name e ≡ [] → drivable scope e ≡ true
may_drive scope at name e h =
    elim (cases_Bool (drivable scope e)) [
      | inl yes' ↦ yes'
      | inr no' ↦ absurd (no_cons (fault at (Port name)) [] (rw no' at h))
    ]

port_lawful : (sides : Sides) (at : ℕ) (signals : List Signal) (count : ℕ) (direction : Option Direction) (port : Option Known) (e : Formula) (place : ℕ) (name : List ℕ) → IsScopeOf sides.base signals sides.scope → sides.instance < count → IsLink sides.inner_base signals direction port → argument_faults sides.scope direction place name e ≡ [] → AreTasks signals count 1 0 (port_tasks sides at direction port e)
port_lawful sides at signals count None port e place name scope inside link h = no_tasks signals count 1 0
port_lawful sides at signals count (Some Input) port e place name scope inside link h =
    let one : IsSignal sides.inner_base signals port = port_signal sides.inner_base signals Input port link in
    one_task signals count 0 _ (input_connection sides.file sides.base sides.scope signals scope (signal_of sides.inner_base port) (spot_in sides.file at) (name_breadth port) e one.there one.most one.own (input_kind sides.inner_base signals port link) h) inside (omega arith)
port_lawful sides at signals count (Some Output) port e place name scope inside link h =
    let one : IsSignal sides.inner_base signals port = port_signal sides.inner_base signals Output port link in
    let none : faults sides.scope e ≡ [] = nil_left (faults sides.scope e) (driven_faults sides.scope place name e) h in
    let may : drivable sides.scope e ≡ true =
    may_drive sides.scope place name e (nil_right (faults sides.scope e) (driven_faults sides.scope place name e) h) in
    one_task signals count 0 _ (output_lawful sides at signals port e scope one may none) inside (omega arith)

-- what the connections of one instance rest on
pub record AreSides (sides : Sides) (ports : Sockets) (signals : List Signal) (count : ℕ) : Type 0 where
  pub scope : IsScopeOf sides.base signals sides.scope
  pub inside : sides.instance < count
  pub links : AreLinks sides.inner_base signals ports sides.inner

value_lawful : (sides : Sides) (ports : Sockets) (at : ℕ) (signals : List Signal) (count : ℕ) (name : List ℕ) (value : Option Formula) (place : ℕ) → AreSides sides ports signals count → connection_faults sides.scope (ports.direction name) place name value ≡ [] → AreTasks signals count (length (argument_places at value)) 0 (named_port_tasks ports sides at name value)
value_lawful sides ports at signals count name None place all h = no_tasks signals count 0 0
value_lawful sides ports at signals count name (Some e) place all h =
    port_lawful sides at signals count (ports.direction name) (sides.inner name) e place name all.scope all.inside (all.links name) h

placed_lawful : (sides : Sides) (ports : Sockets) (at : ℕ) (signals : List Signal) (count : ℕ) (port : Option Identifier) (value : Option Formula) → AreSides sides ports signals count → placed_faults ports sides.scope at port value ≡ [] → AreTasks signals count (length (argument_places at value)) 0 (placed_tasks ports sides at port value)
placed_lawful sides ports at signals count None value all h =
    no_tasks signals count (length (argument_places at value)) 0
placed_lawful sides ports at signals count (Some port) value all h =
    value_lawful sides ports at signals count port.text value at all h

ordered_lawful : (child : List ℕ) (sides : Sides) (ports : Sockets) (signals : List Signal) (count place : ℕ) (arguments : List Positional) → AreSides sides ports signals count → ordered_link_faults child ports sides.scope place arguments ≡ [] → AreTasks signals count (length (ordered_places arguments)) 0 (ordered_tasks ports sides place arguments)
ordered_lawful child sides ports signals count place [] all h = no_tasks signals count 0 0
ordered_lawful child sides ports signals count place (first ∷ others) all h =
    let surplus : List Refusal = surplus_faults (length ports.order) place first.at (Port child) in
    let own : List Refusal = placed_faults ports sides.scope first.at (slice_get ports.order place) first.value in
    let more : List Refusal = ordered_link_faults child ports sides.scope (place + 1) others in
    let one : own ≡ [] = nil_right surplus own (nil_left (surplus ++ own) more h) in
    let rest : more ≡ [] = nil_right (surplus ++ own) more h in
    let p : ℕ = length (argument_places first.at first.value) in
    let q : ℕ = length (ordered_places others) in
    tasks_weaker signals count (p + q) 0 (length (ordered_places (first ∷ others))) 0 (ordered_tasks ports sides place (first ∷ others)) (omega (arith, length-append (argument_places first.at first.value) (ordered_places others))) (omega arith) (more_tasks signals count p 0 q 0 (placed_tasks ports sides first.at (slice_get ports.order place) first.value) (ordered_tasks ports sides (place + 1) others) (placed_lawful sides ports first.at signals count (slice_get ports.order place) first.value all one) (ordered_lawful child sides ports signals count (place + 1) others all rest))

named_lawful : (sides : Sides) (ports : Sockets) (signals : List Signal) (count : ℕ) (taken : Marks) (arguments : List Associated) → AreSides sides ports signals count → named_link_faults ports sides.scope taken arguments ≡ [] → AreTasks signals count (length (named_places arguments)) 0 (named_tasks ports sides arguments)
named_lawful sides ports signals count taken [] all h = no_tasks signals count 0 0
named_lawful sides ports signals count taken (first ∷ others) all h =
    let name : List ℕ = first.name.text in
    let names : List Refusal = name_faults (ports.listed name) (taken name) first.name.at (Port name) in
    let own : List Refusal = connection_faults sides.scope (ports.direction name) first.name.at name first.value in
    let more : List Refusal = named_link_faults ports sides.scope (with_mark taken name) others in
    let one : own ≡ [] = nil_right names own (nil_left (names ++ own) more h) in
    let rest : more ≡ [] = nil_right (names ++ own) more h in
    let p : ℕ = length (argument_places first.at first.value) in
    let q : ℕ = length (named_places others) in
    tasks_weaker signals count (p + q) 0 (length (named_places (first ∷ others))) 0 (named_tasks ports sides (first ∷ others)) (omega (arith, length-append (argument_places first.at first.value) (named_places others))) (omega arith) (more_tasks signals count p 0 q 0 (named_port_tasks ports sides first.at name first.value) (named_tasks ports sides others) (value_lawful sides ports first.at signals count name first.value first.name.at all one) (named_lawful sides ports signals count (with_mark taken name) others all rest))

-- the connections of one instance are lawful, and no more than have an argument
pub links_lawful : (child : List ℕ) (sides : Sides) (ports : Sockets) (signals : List Signal) (count : ℕ) (connections : Association) → AreSides sides ports signals count → instantiation_faults child ports sides.scope connections ≡ [] → AreTasks signals count (length (connection_places connections)) 0 (link_tasks ports sides connections)
links_lawful child sides ports signals count (ByPosition arguments) all h =
    ordered_lawful child sides ports signals count 0 arguments all h
links_lawful child sides ports signals count (ByName arguments) all h =
    named_lawful sides ports signals count no_marks arguments all h
