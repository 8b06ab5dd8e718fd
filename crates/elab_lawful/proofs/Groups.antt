-- The connections of the instances that an item places are lawful processes.
use Rattle.std.specs.Prelude.{ℕ, zero, suc, ◌+◌, ◌<◌, nat_lt, List, [], ◌∷◌, ◌++◌, length, map, drop, Option, None, Some}
use Rattle.std.specs.List.{drop-map}
use Rattle.std.proofs.Common.{◌≡◌, ◌∙◌, ap, refl, sym, subst, arith, inl, inr, length-append}
use Rattle.std.proofs.Math.Seq.{drop-append_seam}
use Rattle.std.proofs.lemmas.Bool.{cases_Bool}
use Rattle.std.proofs.lemmas.Bool.Decides.{nat_tests}
use Rattle.rtl_tree.specs.TreeExpr.{Identifier}
use Rattle.rtl_tree.specs.TreeItem.{Association, ModuleItem, Ports, Nets, Variables, Integers, Parameters, Drives, Gates, Always, Instances, Instantiation}
use Rattle.rtl_tree.specs.TreeModule.{Circuit}
use Rattle.rtl_flat.specs.declared.signal.Signal.{Signal}
use Rattle.elab_laws.specs.elab_scope.Faults.{Refusal, TooLarge}
use Rattle.elab_laws.specs.elab_scope.Names.{Meanings}
use Rattle.elab_laws.specs.elab_scope.Rules.{fault}
use Rattle.elab_laws.proofs.elab_scope_proofs.Fitting.{no_cons}
use Rattle.elab_laws.proofs.elab_scope_proofs.Sound.{nil_left, nil_right}
use Rattle.elab_laws.specs.elab_body.Steps.{Step, faulty}
use Rattle.elab_flat.specs.elab_items.Declarations.{declarations}
use Rattle.elab_flat.specs.elab_items.Scopes.{scope_of}
use Rattle.elab_laws.specs.elab_body.Faultless.{AreFaultless, statement_count}
use Rattle.elab_laws.specs.Scopes.{IsScopeOf}
use Rattle.elab_laws.proofs.Steps.{count_append, faultless_left, faultless_right, no_faults}
use Rattle.elab_flat.specs.elab_links.declared.module_set.Lookup.{Lookup}
use Rattle.elab_flat.specs.elab_links.declared.module_set.Lookup.TheVariants.{Missing, Found, Twice}
use Rattle.elab_flat.specs.elab_links.declared.module_set.Place.{Place}
use Rattle.elab_flat.specs.elab_links.Connections.{instantiation_faults, instantiations_faults}
use Rattle.elab_flat.specs.elab_links.Groups.{Group, found_group, group_at}
use Rattle.elab_flat.specs.elab_links.Instances.{depth_faults, found_faults, known_child_faults, link_faults, loop_faults}
use Rattle.elab_flat.specs.elab_links.Modules.{circuit_at}
use Rattle.elab_flat.specs.elab_links.Parameters.{parameter_faults, settable}
use Rattle.elab_flat.specs.elab_links.Ports.{Sockets, sockets_of}
use Rattle.elab_flat.specs.elab_parts.Items.{item_places, item_steps}
use Rattle.elab_flat.specs.elab_parts.Tasks.{item_tasks}
use Rattle.elab_flat.specs.Links.{link_tasks}
use Rattle.elab_flat.specs.elab_walk.Links.{link_steps}
use Rattle.elab_flat.specs.elab_walk.Rooms.{connection_places, link_places, part_steps, instantiation_places}
use Rattle.elab_flat.specs.elab_walk.Placements.{Placement}
use Rattle.elab_flat.specs.elab_walk.Visits.{Holder, Library, Visit, child_in, holder_of, item_children, placed_children, scope_in}
use Rattle.elab_flat.specs.Works.{group_in, group_tasks, part_tasks, placed, instantiations_tasks, sides_of}
use Rattle.elab_lawful.proofs.Links.{AreSides, links_lawful}
use Rattle.elab_lawful.proofs.Parts.{item_lawful}
use Rattle.elab_lawful.proofs.Scopes.{AreLinks}
use Rattle.elab_lawful.proofs.Tasks.{AreTasks, more_tasks, no_tasks, tasks_weaker}
use Rattle.elab_lawful.proofs.Trees.{group_with, visit_of}

abbrev pub base_of : Placement → ℕ
base_of placement = placement.base

abbrev pub IsLinked : List Signal → ℕ → Visit → Type 0
IsLinked signals base v = AreLinks base signals (sockets_of v.circuit) (scope_in v)

-- instances whose ports may be connected
abbrev pub AreLinked : List Signal → List Placement → Type 0
AreLinked signals [] = Unit {0}
AreLinked signals (kid ∷ kids) = IsLinked signals kid.base kid.visit × AreLinked signals kids

pub linked_drop : (signals : List Signal) (n : ℕ) (kids : List Placement) → AreLinked signals kids → AreLinked signals (drop n kids)
linked_drop signals zero kids h = h
linked_drop signals (suc n) [] h = tt
linked_drop signals (suc n) (kid ∷ kids) h = linked_drop signals n kids h.1

-- the first of some instances is the first child, and the others are the other children
record IsFirst (kid : Placement) (kids : List Placement) (child : Visit) (rest : List Visit) : Type 0 where
  pub first : kid.visit ≡ child
  pub others : map visit_of kids ≡ rest

is_first : (kid : Placement) (kids : List Placement) (child : Visit) (rest : List Visit) → map visit_of (kid ∷ kids) ≡ child ∷ rest → IsFirst kid kids child rest
is_first kid kids child rest h = record { first = cc; others = cc }

-- instances in a row of one group, the first of the children that are left
pub instantiations_lawful : (placement : Placement) (signals : List Signal) (count : ℕ) (group : Group) (child : List ℕ) (holder : Holder) (at : ℕ) (instantiations : List Instantiation) (kids : List Placement) (rest : List Visit) → IsScopeOf placement.base signals (scope_in placement.visit) → placement.number < count → AreLinked signals kids → map visit_of kids ≡ placed_children holder at (Some group) instantiations ++ rest → instantiations_faults child (sockets_of group.circuit) (scope_in placement.visit) instantiations ≡ [] → AreTasks signals count (length (instantiation_places instantiations)) 0 (instantiations_tasks placement (sockets_of group.circuit) (scope_of group.settings group.circuit) (map base_of kids) instantiations)
instantiations_lawful placement signals count group child holder at [] kids rest d inside linked are h =
    no_tasks signals count 0 0
instantiations_lawful placement signals count group child holder at (first ∷ others) [] rest d inside linked are h =
    absurd cc
instantiations_lawful placement signals count group child holder at (first ∷ others) (kid ∷ kids) rest d inside linked are h =
    let ports : Sockets = sockets_of group.circuit in
    let inner : Meanings = scope_of group.settings group.circuit in
    let heads = is_first kid kids (child_in holder at first.name.text group) (placed_children holder at (Some group) others ++ rest) are in
    let own : List Refusal = instantiation_faults child ports (scope_in placement.visit) first.connections in
    let more : List Refusal = instantiations_faults child ports (scope_in placement.visit) others in
    let links : IsLinked signals kid.base (child_in holder at first.name.text group) =
    subst (IsLinked signals kid.base) heads.first linked.0 in
    let all : AreSides (sides_of placement inner kid.base) ports signals count =
    record { scope = d; inside = inside; links = links } in
    let p : ℕ = length (connection_places first.connections) in
    let q : ℕ = length (instantiation_places others) in
    tasks_weaker signals count (p + q) 0 (length (instantiation_places (first ∷ others))) 0 (instantiations_tasks placement ports inner (map base_of (kid ∷ kids)) (first ∷ others)) (omega (arith, length-append (connection_places first.connections) (instantiation_places others))) (omega arith) (more_tasks signals count p 0 q 0 (link_tasks ports (sides_of placement inner kid.base) first.connections) (instantiations_tasks placement ports inner (map base_of kids) others) (links_lawful child (sides_of placement inner kid.base) ports signals count first.connections all (nil_left own more h)) (instantiations_lawful placement signals count group child holder at others kids rest d inside linked.1 heads.others (nil_right own more h)))

-- what the connections of an item rest on
pub record IsHolder (placement : Placement) (signals : List Signal) (count : ℕ) (kids : List Placement) : Type 0 where
  pub scope : IsScopeOf placement.base signals (scope_in placement.visit)
  pub inside : placement.number < count
  pub linked : AreLinked signals kids

less_deep : (way : List (List ℕ)) (child : Identifier) → depth_faults way child ≡ [] → length way < 32
less_deep way child h =
    elim (cases_Bool (nat_lt (length way) 32)) [
      | inl yes' ↦ grind (arith, nat_tests)
      | inr no' ↦ absurd (no_cons (fault child.at TooLarge) [] (rw no' at h))
    ]

at_lawful : (placement : Placement) (signals : List Signal) (count : ℕ) (kids : List Placement) (rest : List Visit) (holder : Holder) (child : Identifier) (place : Place) (c : Option Circuit) (parameters : Association) (instantiations : List Instantiation) → IsHolder placement signals count kids → (length placement.visit.way < 32 → map visit_of kids ≡ placed_children holder child.at (group_at (scope_in placement.visit) place c parameters instantiations) instantiations ++ rest) → known_child_faults placement.visit.way (scope_in placement.visit) child c parameters instantiations ≡ [] → AreTasks signals count (length (instantiation_places instantiations)) 0 (group_tasks placement (map base_of kids) (group_at (scope_in placement.visit) place c parameters instantiations))
at_lawful placement signals count kids rest holder child place None parameters instantiations all are h =
    no_tasks signals count (length (instantiation_places instantiations)) 0
at_lawful placement signals count kids rest holder child place (Some c) parameters instantiations all are h =
    let loop : List Refusal = loop_faults placement.visit.way child in
    let depth : List Refusal = depth_faults placement.visit.way child in
    let set : List Refusal = parameter_faults child.text (settable (declarations c)) (scope_in placement.visit) parameters in
    let own : List Refusal = instantiations_faults child.text (sockets_of c) (scope_in placement.visit) instantiations in
    let none : instantiations_faults child.text (sockets_of c) (scope_in placement.visit) instantiations ≡ [] =
    nil_right ((loop ++ depth) ++ set) own h in
    let front : loop ++ depth ≡ [] = nil_left (loop ++ depth) set (nil_left ((loop ++ depth) ++ set) own h) in
    let less : length placement.visit.way < 32 = less_deep placement.visit.way child (nil_right loop depth front) in
    instantiations_lawful placement signals count (group_with (scope_in placement.visit) place c parameters instantiations) child.text holder child.at instantiations kids rest all.scope all.inside all.linked (are less) none

found_lawful : (library : Library) (placement : Placement) (signals : List Signal) (count : ℕ) (kids : List Placement) (rest : List Visit) (holder : Holder) (child : Identifier) (lookup : Lookup) (parameters : Association) (instantiations : List Instantiation) → IsHolder placement signals count kids → (length placement.visit.way < 32 → map visit_of kids ≡ placed_children holder child.at (found_group library.files (scope_in placement.visit) lookup parameters instantiations) instantiations ++ rest) → found_faults library.files placement.visit.way (scope_in placement.visit) child lookup parameters instantiations ≡ [] → AreTasks signals count (length (instantiation_places instantiations)) 0 (group_tasks placement (map base_of kids) (found_group library.files (scope_in placement.visit) lookup parameters instantiations))
found_lawful library placement signals count kids rest holder child Missing parameters instantiations all are h =
    absurd (no_cons _ _ h)
found_lawful library placement signals count kids rest holder child Twice parameters instantiations all are h =
    absurd (no_cons _ _ h)
found_lawful library placement signals count kids rest holder child (Found place) parameters instantiations all are h =
    at_lawful placement signals count kids rest holder child place (circuit_at library.files place) parameters instantiations all are h

group_lawful : (library : Library) (placement : Placement) (signals : List Signal) (count : ℕ) (kids : List Placement) (rest : List Visit) (item : ModuleItem) → IsHolder placement signals count kids → (length placement.visit.way < 32 → map visit_of kids ≡ item_children library (holder_of placement.visit) item ++ rest) → link_faults library.lookups library.files placement.visit.way (scope_in placement.visit) item ≡ [] → AreTasks signals count (length (link_places item)) 0 (group_tasks placement (map base_of kids) (group_in library placement item))
group_lawful library placement signals count kids rest (Ports head names) all are h = no_tasks signals count 0 0
group_lawful library placement signals count kids rest (Nets at signed bounds nets) all are h =
    no_tasks signals count 0 0
group_lawful library placement signals count kids rest (Variables at signed bounds variables) all are h =
    no_tasks signals count 0 0
group_lawful library placement signals count kids rest (Integers at names) all are h = no_tasks signals count 0 0
group_lawful library placement signals count kids rest (Parameters at kind bounds values) all are h =
    no_tasks signals count 0 0
group_lawful library placement signals count kids rest (Drives at pause drives) all are h = no_tasks signals count 0 0
group_lawful library placement signals count kids rest (Gates at names pause drives) all are h =
    no_tasks signals count 0 0
group_lawful library placement signals count kids rest (Always at sensitivity body) all are h =
    no_tasks signals count 0 0
group_lawful library placement signals count kids rest (Instances child parameters instantiations) all are h =
    found_lawful library placement signals count kids rest (holder_of placement.visit) child (library.lookups child.text) parameters instantiations all are h

-- the processes of an item, with the connections of the instances that it places
pub part_lawful : (library : Library) (placement : Placement) (signals : List Signal) (count : ℕ) (kids : List Placement) (rest : List Visit) (item : ModuleItem) → IsHolder placement signals count kids → (length placement.visit.way < 32 → map visit_of kids ≡ item_children library (holder_of placement.visit) item ++ rest) → AreFaultless (part_steps library placement.visit.way (scope_in placement.visit) item) → AreTasks signals count (length (item_places item ++ link_places item)) (statement_count (part_steps library placement.visit.way (scope_in placement.visit) item)) (part_tasks library placement (map base_of kids) item)
part_lawful library placement signals count kids rest item all are h =
    let own : List Step = item_steps (scope_in placement.visit) item in
    let wrong : List Refusal = link_faults library.lookups library.files placement.visit.way (scope_in placement.visit) item in
    let links : List Step = link_steps library (scope_in placement.visit) item in
    let none : link_faults library.lookups library.files placement.visit.way (scope_in placement.visit) item ≡ [] =
    no_faults wrong (faultless_right (own ++ links) (faulty wrong) h) in
    let p : ℕ = length (item_places item) in
    let q : ℕ = length (link_places item) in
    let s : ℕ = statement_count (item_steps (scope_in placement.visit) item) in
    let joined : statement_count (part_steps library placement.visit.way (scope_in placement.visit) item) ≡ statement_count (own ++ links) + statement_count (faulty wrong) =
    count_append (own ++ links) (faulty wrong) in
    let both : statement_count (own ++ links) ≡ statement_count (item_steps (scope_in placement.visit) item) + statement_count links =
    count_append own links in
    tasks_weaker signals count (p + q) (s + 0) (length (item_places item ++ link_places item)) (statement_count (part_steps library placement.visit.way (scope_in placement.visit) item)) (part_tasks library placement (map base_of kids) item) (omega (arith, length-append (item_places item) (link_places item))) (omega arith) (more_tasks signals count p s q 0 (item_tasks placement.visit.place.file placement.base placement.number (scope_in placement.visit) item) (group_tasks placement (map base_of kids) (group_in library placement item)) (item_lawful placement.visit.place.file placement.base placement.number (scope_in placement.visit) signals count item all.scope all.inside (faultless_left own links (faultless_left (own ++ links) (faulty wrong) h))) (group_lawful library placement signals count kids rest item all are none))

-- ---- the children that are left behind an item

none_placed : (holder : Holder) (at : ℕ) (instantiations : List Instantiation) → length (placed_children holder at None instantiations) ≡ 0
none_placed holder at [] = refl
none_placed holder at (first ∷ others) = none_placed holder at others

all_placed : (holder : Holder) (at : ℕ) (group : Group) (instantiations : List Instantiation) → length (placed_children holder at (Some group) instantiations) ≡ length instantiations
all_placed holder at group [] = refl
all_placed holder at group (first ∷ others) =
    let rest : length (placed_children holder at (Some group) others) ≡ length others = all_placed holder at group others in
    omega arith

at_placed : (holder : Holder) (at : ℕ) (scope : Meanings) (place : Place) (c : Option Circuit) (parameters : Association) (instantiations : List Instantiation) → length (placed_children holder at (group_at scope place c parameters instantiations) instantiations) ≡ placed (group_at scope place c parameters instantiations)
at_placed holder at scope place None parameters instantiations = none_placed holder at instantiations
at_placed holder at scope place (Some c) parameters instantiations =
    all_placed holder at (group_with scope place c parameters instantiations) instantiations

found_placed : (holder : Holder) (at : ℕ) (files : List (List Circuit)) (scope : Meanings) (lookup : Lookup) (parameters : Association) (instantiations : List Instantiation) → length (placed_children holder at (found_group files scope lookup parameters instantiations) instantiations) ≡ placed (found_group files scope lookup parameters instantiations)
found_placed holder at files scope Missing parameters instantiations = none_placed holder at instantiations
found_placed holder at files scope Twice parameters instantiations = none_placed holder at instantiations
found_placed holder at files scope (Found place) parameters instantiations =
    at_placed holder at scope place (circuit_at files place) parameters instantiations

-- an item has as many children as it places instances
item_placed : (library : Library) (placement : Placement) (item : ModuleItem) → length (item_children library (holder_of placement.visit) item) ≡ placed (group_in library placement item)
item_placed library placement (Ports head names) = refl
item_placed library placement (Nets at signed bounds nets) = refl
item_placed library placement (Variables at signed bounds variables) = refl
item_placed library placement (Integers at names) = refl
item_placed library placement (Parameters at kind bounds values) = refl
item_placed library placement (Drives at pause drives) = refl
item_placed library placement (Gates at names pause drives) = refl
item_placed library placement (Always at sensitivity body) = refl
item_placed library placement (Instances child parameters instantiations) =
    found_placed (holder_of placement.visit) child.at library.files (scope_in placement.visit) (library.lookups child.text) parameters instantiations

pub children_left : (library : Library) (placement : Placement) (item : ModuleItem) (kids : List Placement) (rest : List Visit) → map visit_of kids ≡ item_children library (holder_of placement.visit) item ++ rest → map visit_of (drop (placed (group_in library placement item)) kids) ≡ rest
children_left library placement item kids rest are =
    let own : List Visit = item_children library (holder_of placement.visit) item in
    sym (drop-map visit_of (placed (group_in library placement item)) kids)
    ∙ (ap (drop (placed (group_in library placement item))) are
    ∙ (ap (λ n. drop n (own ++ rest)) (sym (item_placed library placement item)) ∙ drop-append_seam own rest))

pub bases_left : (library : Library) (placement : Placement) (item : ModuleItem) (kids : List Placement) → drop (placed (group_in library placement item)) (map base_of kids) ≡ map base_of (drop (placed (group_in library placement item)) kids)
bases_left library placement item kids = drop-map base_of (placed (group_in library placement item)) kids
