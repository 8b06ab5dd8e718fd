-- What is made of a module whose names mean the same in two libraries, but for the numbers of the files.
use Rattle.std.specs.List.{Contains}
use Rattle.std.specs.Option.{option_map}
use Rattle.std.proofs.Common.{◌≡◌, ◌∙◌, ℕ, ◌+◌, ◌-◌, Bool, true, false, List, [], ◌∷◌, ◌++◌, drop, length, map, Option, None, Some, refl, sym, ap}
use Rattle.std.proofs.lemmas.List.{map-append}
use Rattle.std.proofs.lemmas.List.Elements.{Contains-append_left, Contains-append_right, Contains-push}
use Rattle.rtl_tree.specs.TreeExpr.{Identifier}
use Rattle.rtl_tree.specs.TreeItem.{ModuleItem, Instances, Association, Instantiation}
use Rattle.rtl_tree.specs.TreeModule.{Circuit}
use Rattle.text_ground.specs.declared.text.Spot.{Spot}
use Rattle.rtl_flat.specs.Process.{Task}
use Rattle.rtl_elab.specs.elab_scope.Faults.{Answer, Breach, ModuleTwice, NoSuchModule, Refusal, least, located, located_at}
use Rattle.rtl_elab.specs.elab_scope.Names.{Meanings}
use Rattle.rtl_elab.specs.elab_body.Steps.{Step, checked, delays_of, faulty}
use Rattle.rtl_elab.specs.elab_body.Faultless.{node_total, statement_count}
use Rattle.rtl_elab.specs.elab_items.Scopes.{declaration_faults, listings_of}
use Rattle.rtl_elab.specs.elab_parts.Delays.{item_delays}
use Rattle.rtl_elab.specs.elab_parts.Items.{item_steps}
use Rattle.rtl_elab.specs.elab_parts.Tasks.{item_tasks}
use Rattle.rtl_elab.specs.elab_links.declared.module_set.Lookup.{Lookup}
use Rattle.rtl_elab.specs.elab_links.declared.module_set.Lookup.TheVariants.{Missing, Found, Twice}
use Rattle.rtl_elab.specs.elab_links.declared.module_set.Place.{Place}
use Rattle.rtl_elab.specs.elab_links.Groups.{Group, found_group, group_at, group_of}
use Rattle.rtl_elab.specs.elab_links.Instances.{found_faults, known_child_faults, link_faults}
use Rattle.rtl_elab.specs.elab_links.Modules.{circuit_at}
use Rattle.rtl_elab.specs.elab_walk.declared.room.Room.{Room}
use Rattle.rtl_elab.specs.elab_walk.Links.{group_steps}
use Rattle.rtl_elab.specs.elab_walk.Placements.{Placement}
use Rattle.rtl_elab.specs.elab_walk.Refusals.{own_faults, told_of, told_where}
use Rattle.rtl_elab.specs.elab_walk.Rooms.{has_room, extra_count, part_steps, parts_steps, process_faults, process_places, room_after, visit_steps}
use Rattle.rtl_elab.specs.elab_walk.Visits.{Holder, Library, Visit, child_in, children, holder_of, item_children, placed_children, scope_in}
use Rattle.rtl_elab.specs.elab_flat.Works.{Works, group_in, group_tasks, placed, with_part, with_parts}
use Rattle.elab_names.specs.Extracts.{renumbered}
use Rattle.elab_names.specs.LookUps.{name_in_item, names_in}
use Rattle.elab_names.specs.Moves.{moved_answer, moved_place, moved_spot, moved_visit}

-- a name means the same in both, where the second has other numbers for the files
pub record MeansMoved (number : ℕ → ℕ) (first second : Library) (name : List ℕ) : Type 0 where
  pub lookup : second.lookups name ≡ renumbered number (first.lookups name)
  pub circuit : (place : Place) → first.lookups name ≡ Found place → circuit_at second.files (moved_place number place) ≡ circuit_at first.files place

-- each of some names does
abbrev pub Agree : (ℕ → ℕ) → Library → Library → List (List ℕ) → Type 0
Agree number first second names =
    (name : List ℕ) → Contains names name → MeansMoved number first second name

abbrev pub moved_group : (ℕ → ℕ) → Group → Group
moved_group number group =
    record {
      place = moved_place number group.place;
      circuit = group.circuit;
      settings = group.settings;
      instantiations = group.instantiations;
    }

abbrev pub moved_holder : (ℕ → ℕ) → Holder → Holder
moved_holder number holder =
    record { path = holder.path; file = number holder.file; way = holder.way; scope = holder.scope }

module _ (number : ℕ → ℕ) (first second : Library) where
  pub agree_left : (names others : List (List ℕ)) → Agree number first second (names ++ others) → Agree number first second names
  agree_left names others same name h = same name (Contains-append_left names others name h)

  pub agree_right : (names others : List (List ℕ)) → Agree number first second (names ++ others) → Agree number first second others
  agree_right names others same name h = same name (Contains-append_right names others name h)

  -- ---- the instances that an item places, and their faults

  at_moved : (scope : Meanings) (place : Place) (one : Option Circuit) (parameters : Association) (all : List Instantiation) → group_at scope (moved_place number place) one parameters all ≡ option_map (moved_group number) (group_at scope place one parameters all)
  at_moved scope place None parameters all = refl
  at_moved scope place (Some circuit) parameters all = refl

  found_moved : (scope : Meanings) (lookup : Lookup) (parameters : Association) (all : List Instantiation) → ((place : Place) → lookup ≡ Found place → circuit_at second.files (moved_place number place) ≡ circuit_at first.files place) → found_group second.files scope (renumbered number lookup) parameters all ≡ option_map (moved_group number) (found_group first.files scope lookup parameters all)
  found_moved scope Missing parameters all same = refl
  found_moved scope Twice parameters all same = refl
  found_moved scope (Found place) parameters all same =
      ap (λ (one : Option Circuit). group_at scope (moved_place number place) one parameters all) (same place refl)
      ∙ at_moved scope place (circuit_at first.files place) parameters all

  faults_moved : (way : List (List ℕ)) (scope : Meanings) (child : Identifier) (lookup : Lookup) (parameters : Association) (all : List Instantiation) → ((place : Place) → lookup ≡ Found place → circuit_at second.files (moved_place number place) ≡ circuit_at first.files place) → found_faults second.files way scope child (renumbered number lookup) parameters all ≡ found_faults first.files way scope child lookup parameters all
  faults_moved way scope child Missing parameters all same = refl
  faults_moved way scope child Twice parameters all same = refl
  faults_moved way scope child (Found place) parameters all same =
      ap (λ (one : Option Circuit). known_child_faults way scope child one parameters all) (same place refl)

  group_moved : (scope : Meanings) (item : ModuleItem) → Agree number first second (name_in_item item) → group_of second.lookups second.files scope item ≡ option_map (moved_group number) (group_of first.lookups first.files scope item)
  group_moved scope (Instances child parameters all) same =
      let there : MeansMoved number first second child.text
      = same child.text (Contains-push [] child.text) in
      ap (λ (lookup : Lookup). found_group second.files scope lookup parameters all) there.lookup
      ∙ found_moved scope (first.lookups child.text) parameters all there.circuit
  group_moved scope _ same = refl

  same_faults : (way : List (List ℕ)) (scope : Meanings) (item : ModuleItem) → Agree number first second (name_in_item item) → link_faults second.lookups second.files way scope item ≡ link_faults first.lookups first.files way scope item
  same_faults way scope (Instances child parameters all) same =
      let there : MeansMoved number first second child.text
      = same child.text (Contains-push [] child.text) in
      ap (λ (lookup : Lookup). found_faults second.files way scope child lookup parameters all) there.lookup
      ∙ faults_moved way scope child (first.lookups child.text) parameters all there.circuit
  same_faults way scope _ same = refl

  -- ---- what an instance holds

  placed_moved : (holder : Holder) (at : ℕ) (group : Option Group) (all : List Instantiation) → placed_children (moved_holder number holder) at (option_map (moved_group number) group) all ≡ map (moved_visit number) (placed_children holder at group all)
  placed_moved holder at None [] = refl
  placed_moved holder at None (one ∷ others) = placed_moved holder at None others
  placed_moved holder at (Some made) [] = refl
  placed_moved holder at (Some made) (one ∷ others) =
      ap (λ (rest : List Visit). moved_visit number (child_in holder at one.name.text made) ∷ rest)
      (placed_moved holder at (Some made) others)

  item_moved : (holder : Holder) (item : ModuleItem) → Agree number first second (name_in_item item) → item_children second (moved_holder number holder) item ≡ map (moved_visit number) (item_children first holder item)
  item_moved holder (Instances child parameters all) same =
      ap (λ (group : Option Group). placed_children (moved_holder number holder) child.at group all)
      (group_moved holder.scope (Instances child parameters all) same)
      ∙ placed_moved holder child.at
      (group_of first.lookups first.files holder.scope (Instances child parameters all)) all
  item_moved holder _ same = refl

  items_moved : (holder : Holder) (items : List ModuleItem) → Agree number first second (names_in items) → children second (moved_holder number holder) items ≡ map (moved_visit number) (children first holder items)
  items_moved holder [] same = refl
  items_moved holder (item ∷ items) same =
      ap (λ (own : List Visit). own ++ children second (moved_holder number holder) items)
      (item_moved holder item (agree_left (name_in_item item) (names_in items) same))
      ∙ ap (λ (rest : List Visit). map (moved_visit number) (item_children first holder item) ++ rest)
      (items_moved holder items (agree_right (name_in_item item) (names_in items) same))
      ∙ sym (map-append (moved_visit number) (item_children first holder item) (children first holder items))

  -- ---- what is come upon

  same_links : (scope : Meanings) (group : Option Group) → group_steps scope (option_map (moved_group number) group) ≡ group_steps scope group
  same_links scope None = refl
  same_links scope (Some made) = refl

  same_part : (way : List (List ℕ)) (scope : Meanings) (item : ModuleItem) → Agree number first second (name_in_item item) → part_steps second way scope item ≡ part_steps first way scope item
  same_part way scope item same =
      let links : group_steps scope (group_of second.lookups second.files scope item) ≡ group_steps scope (group_of first.lookups first.files scope item)
      = ap (group_steps scope) (group_moved scope item same) ∙ same_links scope (group_of first.lookups first.files scope item) in
      ap (λ (steps : List Step). item_steps scope item ++ steps ++ faulty (link_faults second.lookups second.files way scope item))
      links
      ∙ ap (λ (faults : List Refusal). item_steps scope item ++ group_steps scope (group_of first.lookups first.files scope item) ++ faulty faults)
      (same_faults way scope item same)

  same_steps : (way : List (List ℕ)) (scope : Meanings) (items : List ModuleItem) → Agree number first second (names_in items) → parts_steps second way scope items ≡ parts_steps first way scope items
  same_steps way scope [] same = refl
  same_steps way scope (item ∷ items) same =
      ap (λ (own : List Step). own ++ parts_steps second way scope items)
      (same_part way scope item (agree_left (name_in_item item) (names_in items) same))
      ∙ ap (λ (rest : List Step). part_steps first way scope item ++ rest)
      (same_steps way scope items (agree_right (name_in_item item) (names_in items) same))

  -- ---- an instance

  abbrev faults_by : Room → Visit → List Step → List Refusal
  faults_by room v steps =
      declaration_faults v.settings room.base v.circuit
      ++ checked room.left.statements room.left.delays room.left.nodes steps
      ++ process_faults room.processes (process_places v.circuit.items)

  abbrev room_by : Room → Visit → List Step → Room
  room_by room v steps =
      record {
        base = room.base + length (listings_of v.settings v.circuit);
        processes = room.processes - length (process_places v.circuit.items);
        left = record {
          statements = room.left.statements - statement_count steps;
          delays = room.left.delays - length (delays_of steps);
          nodes = room.left.nodes - node_total steps;
        };
        number = room.number + 1;
        extras = room.extras - extra_count v.circuit;
      }

  spot_moved : (spot : Spot) (breach : Breach) → located_at (moved_spot number spot) breach ≡ moved_answer number (located_at spot breach)
  spot_moved spot (NoSuchModule name) = refl
  spot_moved spot (ModuleTwice name) = refl
  spot_moved spot _ = refl

  least_moved : (file : ℕ) (fault : Option Refusal) → option_map (located (number file)) fault ≡ option_map (moved_answer number) (option_map (located file) fault)
  least_moved file None = refl
  least_moved file (Some fault) =
      ap (λ (answer : Answer). Some answer) (spot_moved (record { file = file; at = fault.at }) fault.breach)

  where_moved : (room : Bool) (v : Visit) (faults : List Refusal) → told_where room (moved_visit number v) faults ≡ option_map (moved_answer number) (told_where room v faults)
  where_moved false v faults = refl
  where_moved true v faults = least_moved v.place.file (least faults)

  module _ (v : Visit) (same : Agree number first second (names_in v.circuit.items)) where
    all_steps : visit_steps second (moved_visit number v) ≡ visit_steps first v
    all_steps = same_steps v.way (scope_in v) v.circuit.items same

    pub told_moved : (room : Room) → told_of second room (moved_visit number v) ≡ option_map (moved_answer number) (told_of first room v)
    told_moved room =
        ap (λ (steps : List Step). told_where (has_room room v.circuit) (moved_visit number v) (faults_by room v steps))
        all_steps
        ∙ where_moved (has_room room v.circuit) v (own_faults first room v)

    pub same_room : (room : Room) → room_after second room (moved_visit number v) ≡ room_after first room v
    same_room room = ap (room_by room v) all_steps

    pub children_moved : children second (holder_of (moved_visit number v)) v.circuit.items ≡ map (moved_visit number) (children first (holder_of v) v.circuit.items)
    children_moved = items_moved (holder_of v) v.circuit.items same

  -- ---- works

  abbrev work_by : Placement → List ℕ → Works → ModuleItem → List Task → Works
  work_by placement bases works item tasks =
      record {
        tasks = works.tasks ++ (item_tasks placement.visit.place.file placement.base placement.number (scope_in placement.visit) item ++ tasks);
        delays = works.delays ++ item_delays placement.visit.place.file (length works.tasks) (scope_in placement.visit) item;
      }

  same_tasks : (placement : Placement) (bases : List ℕ) (group : Option Group) → group_tasks placement bases (option_map (moved_group number) group) ≡ group_tasks placement bases group
  same_tasks placement bases None = refl
  same_tasks placement bases (Some made) = refl

  same_count : (group : Option Group) → placed (option_map (moved_group number) group) ≡ placed group
  same_count None = refl
  same_count (Some made) = refl

  pub same_works : (placement : Placement) (bases : List ℕ) (works : Works) (items : List ModuleItem) → Agree number first second (names_in items) → with_parts second placement bases works items ≡ with_parts first placement bases works items
  same_works placement bases works [] same = refl
  same_works placement bases works (item ∷ items) same =
      let group : group_in second placement item ≡ option_map (moved_group number) (group_in first placement item)
      = group_moved (scope_in placement.visit) item (agree_left (name_in_item item) (names_in items) same) in
      let tasks : group_tasks placement bases (group_in second placement item) ≡ group_tasks placement bases (group_in first placement item)
      = ap (group_tasks placement bases) group ∙ same_tasks placement bases (group_in first placement item) in
      let count : placed (group_in second placement item) ≡ placed (group_in first placement item)
      = ap placed group ∙ same_count (group_in first placement item) in
      ap (λ (made : List Task). with_parts second placement (drop (placed (group_in second placement item)) bases)
      (work_by placement bases works item made) items)
      tasks
      ∙ ap (λ (many : ℕ). with_parts second placement (drop many bases)
      (with_part first placement bases works item) items)
      count
      ∙ same_works placement (drop (placed (group_in first placement item)) bases)
      (with_part first placement bases works item) items (agree_right (name_in_item item) (names_in items) same)
