-- The instances of a design are a tree in preorder: those right under one are its children.
use Rattle.std.specs.Prelude.{ℕ, zero, suc, ◌+◌, ◌≤◌, ◌<◌, ◌==◌, nat_lt, cond, Bool, true, false, List, [], ◌∷◌, ◌++◌, length, map, Option, None, Some}
use Rattle.std.specs.List.{flat_map}
use Rattle.std.proofs.Common.{◌≡◌, ◌∙◌, ap, refl, sym, subst, arith, append_assoc, append-nil, inl, inr, length-append}
use Rattle.std.proofs.lemmas.Bool.{cases_Bool}
use Rattle.std.proofs.lemmas.Bool.Decides.{nat_tests}
use Rattle.std.proofs.lemmas.List.{map-append}
use Rattle.rtl_tree.specs.TreeItem.{Association, ModuleItem, Ports, Nets, Variables, Integers, Parameters, Drives, Gates, Always, Instances, Instantiation}
use Rattle.rtl_tree.specs.TreeModule.{Circuit}
use Rattle.rtl_flat.specs.WellFormed.{IsHierarchy, IsUnder}
use Rattle.elab_laws.specs.elab_scope.Names.{Meanings}
use Rattle.elab_flat.specs.elab_items.Declarations.{declarations}
use Rattle.elab_flat.specs.elab_items.Scopes.{listings_of, scope_of}
use Rattle.elab_flat.specs.elab_links.declared.module_set.Lookup.{Lookup}
use Rattle.elab_flat.specs.elab_links.declared.module_set.Lookup.TheVariants.{Missing, Found, Twice}
use Rattle.elab_flat.specs.elab_links.declared.module_set.Place.{Place}
use Rattle.elab_flat.specs.elab_links.Groups.{Group, found_group, group_at, group_of}
use Rattle.elab_flat.specs.elab_links.Modules.{circuit_at}
use Rattle.elab_flat.specs.elab_links.Parameters.{settable, settings_by}
use Rattle.elab_flat.specs.elab_walk.Placements.{Placement, instance_of, placements}
use Rattle.elab_flat.specs.elab_walk.Visits.{Holder, Library, Visit, all_visits, child_of, children, holder_of, item_children, placed_children, scope_in, visits}
use Rattle.elab_flat.specs.Children.{HasChildren, HaveChildren, group_scopes, placed_scopes, scopes_of}
use Rattle.elab_flat.specs.Held.{held_under}

abbrev pub depth_in : Visit → ℕ
depth_in v = length v.way

abbrev pub visit_of : Placement → Visit
visit_of placement = placement.visit

abbrev pub children_of : Library → Visit → List Visit
children_of library v = children library (holder_of v) v.circuit.items

-- all at one depth
abbrev pub AreAt : ℕ → List Visit → Type 0
AreAt d [] = Unit {0}
AreAt d (v ∷ vs) = (depth_in v ≡ d) × AreAt d vs

at_append : (d : ℕ) (xs ys : List Visit) → AreAt d xs → AreAt d ys → AreAt d (xs ++ ys)
at_append d [] ys h g = g
at_append d (x ∷ xs) ys h g = (h.0, at_append d xs ys h.1 g)

child_at : (holder : Holder) (at : ℕ) (name : List ℕ) (group : Option Group) → AreAt (length holder.way + 1) (child_of holder at name group)
child_at holder at name None = tt
child_at holder at name (Some group) = (length-append holder.way (group.circuit.name.text ∷ []), tt)

placed_at : (holder : Holder) (at : ℕ) (group : Option Group) (instantiations : List Instantiation) → AreAt (length holder.way + 1) (placed_children holder at group instantiations)
placed_at holder at group [] = tt
placed_at holder at group (first ∷ others) =
    at_append (length holder.way + 1) (child_of holder at first.name.text group) (placed_children holder at group others) (child_at holder at first.name.text group) (placed_at holder at group others)

item_at : (library : Library) (holder : Holder) (item : ModuleItem) → AreAt (length holder.way + 1) (item_children library holder item)
item_at library holder (Ports head names) = tt
item_at library holder (Nets at signed bounds nets) = tt
item_at library holder (Variables at signed bounds variables) = tt
item_at library holder (Integers at names) = tt
item_at library holder (Parameters at kind bounds values) = tt
item_at library holder (Drives at pause drives) = tt
item_at library holder (Gates at names pause drives) = tt
item_at library holder (Always at sensitivity body) = tt
item_at library holder (Instances child parameters instantiations) =
    placed_at holder child.at (group_of library.lookups library.files holder.scope (Instances child parameters instantiations)) instantiations

-- children are one deeper
children_at : (library : Library) (holder : Holder) (items : List ModuleItem) → AreAt (length holder.way + 1) (children library holder items)
children_at library holder [] = tt
children_at library holder (first ∷ others) =
    at_append (length holder.way + 1) (item_children library holder first) (children library holder others) (item_at library holder first) (children_at library holder others)

-- ---- the instances right under one

abbrev pub held_visits : ℕ → List Visit → List Visit
held_visits d [] = []
held_visits d (v ∷ vs) =
    cond (nat_lt d (depth_in v)) (cond (depth_in v == d + 1) (v ∷ held_visits d vs) (held_visits d vs)) []

by_tests : (x y : Bool) (s : Placement) (ss : List Placement) (vs : List Visit) → map visit_of ss ≡ vs → map visit_of (cond x (cond y (s ∷ ss) ss) []) ≡ cond x (cond y (s.visit ∷ vs) vs) []
by_tests true true s ss vs h = ap (λ vs. s.visit ∷ vs) h
by_tests true false s ss vs h = h
by_tests false y s ss vs h = refl

abbrev pub behind_first : Visit → ℕ → ℕ
behind_first v base = base + length (listings_of v.settings v.circuit)

pub held_are : (d number base : ℕ) (vs : List Visit) → map visit_of (held_under d (placements number base vs)) ≡ held_visits d vs
held_are d number base [] = refl
held_are d number base (v ∷ vs) =
    by_tests (nat_lt d (depth_in v)) (depth_in v == d + 1) (record { visit = v; number = number; base = base }) (held_under d (placements (number + 1) (behind_first v base) vs)) (held_visits d vs) (held_are d (number + 1) (behind_first v base) vs)

-- all so deep at least
abbrev AreBelow : ℕ → List Visit → Type 0
AreBelow d [] = Unit {0}
AreBelow d (v ∷ vs) = (d ≤ depth_in v) × AreBelow d vs

below_append : (d : ℕ) (xs ys : List Visit) → AreBelow d xs → AreBelow d ys → AreBelow d (xs ++ ys)
below_append d [] ys h g = g
below_append d (x ∷ xs) ys h g = (h.0, below_append d xs ys h.1 g)

below_weaker : (d e : ℕ) (vs : List Visit) → d ≤ e → AreBelow e vs → AreBelow d vs
below_weaker d e [] le h = tt
below_weaker d e (v ∷ vs) le h =
    let deep : e ≤ depth_in v = h.0 in
    (omega arith, below_weaker d e vs le h.1)

is_deeper : (d e : ℕ) → d < e → nat_lt d e ≡ true
is_deeper d e h = grind (arith, nat_tests)

isnt_deeper : (d e : ℕ) → e ≤ d → nat_lt d e ≡ false
isnt_deeper d e h = grind (arith, nat_tests)

is_next : (d e : ℕ) → e ≡ d + 1 → (e == d + 1) ≡ true
is_next d e h = grind (arith, nat_tests)

isnt_next : (d e : ℕ) → d + 2 ≤ e → (e == d + 1) ≡ false
isnt_next d e h = grind (arith, nat_tests)

-- what is deeper than children is passed over
passed_over : (d : ℕ) (vs rest : List Visit) → AreBelow (d + 2) vs → held_visits d (vs ++ rest) ≡ held_visits d rest
passed_over d [] rest h = refl
passed_over d (v ∷ vs) rest h =
    let deep : d + 2 ≤ depth_in v = h.0 in
    let first : nat_lt d (depth_in v) ≡ true = is_deeper d (depth_in v) (omega arith) in
    let second : (depth_in v == d + 1) ≡ false = isnt_next d (depth_in v) deep in
    rw (first, second) (passed_over d vs rest h.1)

all_below : (library : Library) (k d : ℕ) (one : (v : Visit) → AreBelow (depth_in v) (visits library k v)) (kids : List Visit) → AreAt d kids → AreBelow d (flat_map (visits library k) kids)
all_below library k d one [] h = tt
all_below library k d one (kid ∷ kids) h =
    below_append d (visits library k kid) (flat_map (visits library k) kids) (subst (λ e. AreBelow e (visits library k kid)) h.0 (one kid)) (all_below library k d one kids h.1)

visits_below : (library : Library) (k : ℕ) (v : Visit) → AreBelow (depth_in v) (visits library k v)
visits_below library zero v = tt
visits_below library (suc k) v =
    (omega arith, below_weaker (depth_in v) (depth_in v + 1) (flat_map (visits library k) (children_of library v)) (omega arith) (all_below library k (depth_in v + 1) (visits_below library k) (children_of library v) (children_at library (holder_of v) v.circuit.items)))

-- the heads of subtrees in a row are those right under their holder
children_held : (library : Library) (k d : ℕ) (kids rest : List Visit) → AreAt (d + 1) kids → held_visits d (flat_map (visits library (suc k)) kids ++ rest) ≡ kids ++ held_visits d rest
children_held library k d [] rest h = refl
children_held library k d (kid ∷ kids) rest h =
    let at : depth_in kid ≡ d + 1 = h.0 in
    let first : nat_lt d (depth_in kid) ≡ true = is_deeper d (depth_in kid) (omega arith) in
    let second : (depth_in kid == d + 1) ≡ true = is_next d (depth_in kid) at in
    let own : List Visit = flat_map (visits library k) (children_of library kid) in
    let more : List Visit = flat_map (visits library (suc k)) kids in
    let below : AreBelow (d + 2) own =
    below_weaker (d + 2) (depth_in kid + 1) own (omega arith) (all_below library k (depth_in kid + 1) (visits_below library k) (children_of library kid) (children_at library (holder_of kid) kid.circuit.items)) in
    rw (first, second) (ap (λ vs. kid ∷ vs) (ap (held_visits d) (append_assoc own more rest) ∙ (passed_over d own (more ++ rest) below ∙ children_held library k d kids rest h.1)))

-- what ends a subtree: what isn't deeper than its head
abbrev IsLow : ℕ → List Visit → Type 0
IsLow d [] = Unit {0}
IsLow d (v ∷ vs) = depth_in v ≤ d

low_more : (d : ℕ) (vs : List Visit) → IsLow d vs → IsLow (d + 1) vs
low_more d [] h = tt
low_more d (v ∷ vs) h = omega arith

low_ends : (d : ℕ) (rest : List Visit) → IsLow d rest → held_visits d rest ≡ []
low_ends d [] h = refl
low_ends d (v ∷ vs) h = let first : nat_lt d (depth_in v) ≡ false = isnt_deeper d (depth_in v) h in rw first refl

low_front : (library : Library) (k d : ℕ) (kids rest : List Visit) → AreAt d kids → IsLow d rest → IsLow d (flat_map (visits library k) kids ++ rest)
low_front library zero d [] rest h low = low
low_front library zero d (kid ∷ kids) rest h low = low_front library zero d kids rest h.1 low
low_front library (suc k) d [] rest h low = low
low_front library (suc k) d (kid ∷ kids) rest h low = let at : depth_in kid ≡ d = h.0 in omega arith

held_kids : (library : Library) (k d : ℕ) (kids rest : List Visit) → 1 ≤ k → AreAt (d + 1) kids → IsLow d rest → held_visits d (flat_map (visits library k) kids ++ rest) ≡ kids
held_kids library zero d kids rest some h low = absurd (omega arith)
held_kids library (suc k) d kids rest some h low =
    children_held library k d kids rest h ∙ (ap (λ vs. kids ++ vs) (low_ends d rest low) ∙ append-nil kids)

-- behind the deepest instance none is right under it
none_held : (library : Library) (k d : ℕ) (kids rest : List Visit) → k ≡ 0 → IsLow d rest → held_visits d (flat_map (visits library k) kids ++ rest) ≡ []
none_held library zero d [] rest is low = low_ends d rest low
none_held library zero d (kid ∷ kids) rest is low = none_held library zero d kids rest is low
none_held library (suc k) d kids rest is low = absurd (omega arith)

-- those right under an instance are its children, where they may be there, and else none
pub record HoldsChildren (library : Library) (v : Visit) (others : List Visit) : Type 0 where
  pub held : depth_in v < 32 → held_visits (depth_in v) others ≡ children_of library v
  pub none : 32 ≤ depth_in v → held_visits (depth_in v) others ≡ []

-- so of each instance in a row
abbrev pub AreHolders : Library → List Visit → Type 0
AreHolders library [] = Unit {0}
AreHolders library (v ∷ others) = HoldsChildren library v others × AreHolders library others

all_hold : (library : Library) (k d : ℕ) (one : (v : Visit) (rest : List Visit) → depth_in v ≡ d → IsLow d rest → AreHolders library rest → AreHolders library (visits library k v ++ rest)) (kids rest : List Visit) → AreAt d kids → IsLow d rest → AreHolders library rest → AreHolders library (flat_map (visits library k) kids ++ rest)
all_hold library k d one [] rest at low h = h
all_hold library k d one (kid ∷ kids) rest at low h =
    let more : List Visit = flat_map (visits library k) kids in
    subst (AreHolders library) (sym (append_assoc (visits library k kid) more rest)) (one kid (more ++ rest) at.0 (low_front library k d kids rest at.1 low) (all_hold library k d one kids rest at.1 low h))

one_holds : (library : Library) (k d : ℕ) → d + k ≡ 33 → (v : Visit) (rest : List Visit) → depth_in v ≡ d → IsLow d rest → AreHolders library rest → AreHolders library (visits library k v ++ rest)
one_holds library zero d sum v rest at low h = h
one_holds library (suc k) d sum v rest at low h =
    let kids : List Visit = children_of library v in
    let deep : depth_in v + k ≡ 32 = omega arith in
    let lower : IsLow (depth_in v) rest = subst (λ e. IsLow e rest) (sym at) low in
    let next : d + 1 + k ≡ 33 = omega arith in
    let kids_at : AreAt (d + 1) kids =
    subst (λ e. AreAt (e + 1) kids) at (children_at library (holder_of v) v.circuit.items) in (
      record {
        held = λ less. held_kids library k (depth_in v) kids rest (omega arith) (children_at library (holder_of v) v.circuit.items) lower;
        none = λ deepest. none_held library k (depth_in v) kids rest (omega arith) lower;
      },
      all_hold library k (d + 1) (one_holds library k (d + 1) next) kids rest kids_at (low_more d rest low) h,
    )

pub holders : (library : Library) (v : Visit) → depth_in v ≡ 1 → AreHolders library (visits library 32 v)
holders library v at =
    subst (AreHolders library) (append-nil (visits library 32 v)) (one_holds library 32 1 (omega arith) v [] at tt tt)

-- ---- what names stand for in children

none_scopes : (holder : Holder) (at : ℕ) (instantiations : List Instantiation) → map scope_in (placed_children holder at None instantiations) ≡ []
none_scopes holder at [] = refl
none_scopes holder at (first ∷ others) = none_scopes holder at others

all_scopes : (holder : Holder) (at : ℕ) (group : Group) (instantiations : List Instantiation) → map scope_in (placed_children holder at (Some group) instantiations) ≡ map (λ instantiation. scope_of group.settings group.circuit) instantiations
all_scopes holder at group [] = refl
all_scopes holder at group (first ∷ others) =
    ap (λ scopes. scope_of group.settings group.circuit ∷ scopes) (all_scopes holder at group others)

-- instances whose module is this
abbrev pub group_with : Meanings → Place → Circuit → Association → List Instantiation → Group
group_with scope place c parameters instantiations =
    record { place = place; circuit = c; settings = settings_by (settable (declarations c)) scope parameters; instantiations = instantiations }

at_scopes : (holder : Holder) (at : ℕ) (scope : Meanings) (place : Place) (c : Option Circuit) (parameters : Association) (instantiations : List Instantiation) → map scope_in (placed_children holder at (group_at scope place c parameters instantiations) instantiations) ≡ group_scopes (group_at scope place c parameters instantiations)
at_scopes holder at scope place None parameters instantiations = none_scopes holder at instantiations
at_scopes holder at scope place (Some c) parameters instantiations =
    all_scopes holder at (group_with scope place c parameters instantiations) instantiations

found_scopes : (holder : Holder) (at : ℕ) (files : List (List Circuit)) (scope : Meanings) (lookup : Lookup) (parameters : Association) (instantiations : List Instantiation) → map scope_in (placed_children holder at (found_group files scope lookup parameters instantiations) instantiations) ≡ group_scopes (found_group files scope lookup parameters instantiations)
found_scopes holder at files scope Missing parameters instantiations = none_scopes holder at instantiations
found_scopes holder at files scope Twice parameters instantiations = none_scopes holder at instantiations
found_scopes holder at files scope (Found place) parameters instantiations =
    at_scopes holder at scope place (circuit_at files place) parameters instantiations

item_scopes : (library : Library) (holder : Holder) (item : ModuleItem) → map scope_in (item_children library holder item) ≡ group_scopes (group_of library.lookups library.files holder.scope item)
item_scopes library holder (Ports head names) = refl
item_scopes library holder (Nets at signed bounds nets) = refl
item_scopes library holder (Variables at signed bounds variables) = refl
item_scopes library holder (Integers at names) = refl
item_scopes library holder (Parameters at kind bounds values) = refl
item_scopes library holder (Drives at pause drives) = refl
item_scopes library holder (Gates at names pause drives) = refl
item_scopes library holder (Always at sensitivity body) = refl
item_scopes library holder (Instances child parameters instantiations) =
    found_scopes holder child.at library.files holder.scope (library.lookups child.text) parameters instantiations

children_scopes : (library : Library) (holder : Holder) (items : List ModuleItem) → map scope_in (children library holder items) ≡ placed_scopes library holder.scope items
children_scopes library holder [] = refl
children_scopes library holder (first ∷ others) =
    map-append scope_in (item_children library holder first) (children library holder others)
    ∙ ap (λ scopes. scopes ++ map scope_in (children library holder others)) (item_scopes library holder first)
    ∙ ap (λ scopes. group_scopes (group_of library.lookups library.files holder.scope first) ++ scopes) (children_scopes library holder others)

held_scopes : (held : List Placement) → scopes_of held ≡ map scope_in (map visit_of held)
held_scopes [] = refl
held_scopes (first ∷ others) = ap (λ scopes. scope_in first.visit ∷ scopes) (held_scopes others)

-- names stand in those right under an instance for what they do in the first that it places
has_children : (library : Library) (number base : ℕ) (v : Visit) (others : List Visit) → HoldsChildren library v others → HasChildren library (record { visit = v; number = number; base = base }) (placements (number + 1) (behind_first v base) others)
has_children library number base v others h =
    let held : List Placement = held_under (depth_in v) (placements (number + 1) (behind_first v base) others) in
    let placed : List Meanings = placed_scopes library (scope_in v) v.circuit.items in
    let are : scopes_of held ≡ map scope_in (held_visits (depth_in v) others) =
    held_scopes held ∙ ap (map scope_in) (held_are (depth_in v) (number + 1) (behind_first v base) others) in
    elim (cases_Bool (nat_lt (depth_in v) 32)) [
      | inl yes' ↦
          let less : depth_in v < 32 = grind (arith, nat_tests) in
          let all : scopes_of held ≡ placed =
          are ∙ (ap (map scope_in) (h.held less) ∙ children_scopes library (holder_of v) v.circuit.items) in
          ([], sym (append-nil (scopes_of held) ∙ all))
      | inr no' ↦
          let deep : 32 ≤ depth_in v = grind (arith, nat_tests) in
          let none : scopes_of held ≡ [] = are ∙ ap (map scope_in) (h.none deep) in
          (placed, sym (ap (λ scopes. scopes ++ placed) none))
    ]

have_children : (library : Library) (number base : ℕ) (vs : List Visit) → AreHolders library vs → HaveChildren library (placements number base vs)
have_children library number base [] h = tt
have_children library number base (v ∷ others) h =
    (has_children library number base v others h.0, have_children library (number + 1) (behind_first v base) others h.1)

pub all_have_children : (library : Library) (v : Visit) → depth_in v ≡ 1 → HaveChildren library (placements 0 0 (all_visits library v))
unfolding all_visits
all_have_children library v at = have_children library 0 0 (visits library 32 v) (holders library v at)

-- ---- the hierarchy

abbrev AreUnder : ℕ → List Visit → Type 0
AreUnder e [] = Unit {0}
AreUnder e (v ∷ vs) = (2 ≤ depth_in v) × (depth_in v ≤ e + 1) × (depth_in v ≤ 32) × AreUnder (depth_in v) vs

all_under : (library : Library) (k d : ℕ) (one : (v : Visit) (rest : List Visit) (e : ℕ) → depth_in v ≡ d → d ≤ e + 1 → ((f : ℕ) → d ≤ f + 1 → AreUnder f rest) → AreUnder e (visits library k v ++ rest)) (kids rest : List Visit) → AreAt d kids → ((f : ℕ) → d ≤ f + 1 → AreUnder f rest) → (e : ℕ) → d ≤ e + 1 → AreUnder e (flat_map (visits library k) kids ++ rest)
all_under library k d one [] rest at h e le = h e le
all_under library k d one (kid ∷ kids) rest at h e le =
    let more : List Visit = flat_map (visits library k) kids in
    subst (AreUnder e) (sym (append_assoc (visits library k kid) more rest)) (one kid (more ++ rest) e at.0 le (all_under library k d one kids rest at.1 h))

one_under : (library : Library) (k d : ℕ) → 2 ≤ d → d + k ≡ 33 → (v : Visit) (rest : List Visit) (e : ℕ) → depth_in v ≡ d → d ≤ e + 1 → ((f : ℕ) → d ≤ f + 1 → AreUnder f rest) → AreUnder e (visits library k v ++ rest)
one_under library zero d deep sum v rest e at le h = h e le
one_under library (suc k) d deep sum v rest e at le h =
    let kids : List Visit = children_of library v in
    let kids_at : AreAt (d + 1) kids =
    subst (λ e. AreAt (e + 1) kids) at (children_at library (holder_of v) v.circuit.items) in
    let next : d + 1 + k ≡ 33 = omega arith in
    let later : (f : ℕ) → d + 1 ≤ f + 1 → AreUnder f rest = λ f less. h f (omega arith) in (
      omega arith,
      omega arith,
      omega arith,
      all_under library k (d + 1) (one_under library k (d + 1) (omega arith) next) kids rest kids_at later (depth_in v) (omega arith),
    )

instances_under : (e number base : ℕ) (vs : List Visit) → AreUnder e vs → IsUnder e (map instance_of (placements number base vs))
instances_under e number base [] h = tt
instances_under e number base (v ∷ vs) h =
    (h.0, h.1, h.2, instances_under (depth_in v) (number + 1) (behind_first v base) vs h.3)

top_under : (library : Library) (k : ℕ) (v : Visit) → k ≡ 31 → depth_in v ≡ 1 → IsHierarchy (map instance_of (placements 0 0 (visits library (suc k) v)))
top_under library k v levels at =
    let kids : List Visit = children_of library v in
    let kids_at : AreAt 2 kids =
    subst (λ e. AreAt (e + 1) kids) at (children_at library (holder_of v) v.circuit.items) in
    let none : (f : ℕ) → 2 ≤ f + 1 → AreUnder f [] = λ f less. tt in
    let all : AreUnder 1 (flat_map (visits library k) kids ++ []) =
    all_under library k 2 (one_under library k 2 (omega arith) (omega arith)) kids [] kids_at none 1 (omega arith) in
    (at, instances_under 1 1 (behind_first v 0) (flat_map (visits library k) kids) (subst (AreUnder 1) (append-nil (flat_map (visits library k) kids)) all))

pub hierarchy : (library : Library) (v : Visit) → depth_in v ≡ 1 → IsHierarchy (map instance_of (placements 0 0 (visits library 32 v)))
hierarchy library v at = top_under library 31 v refl at
