-- What is told of an instance, and what it leaves where nothing is.
use Rattle.std.specs.Prelude.{ℕ, zero, suc, ◌+◌, ◌-◌, ◌≤◌, min, Bool, true, false, if◌then◌else◌, List, [], ◌∷◌, ◌++◌, length, Option, None, Some}
use Rattle.std.specs.List.{slice_get}
use Rattle.std.proofs.Common.{◌≡◌, ◌∙◌, ap, refl, sym, arith}
use Rattle.rtl_tree.specs.TreeItem.{ModuleItem}
use Rattle.elab_links.specs.elab_scope.Faults.{Refusal, after, comes_before, keep, least}
use Rattle.elab_links.specs.elab_scope.Names.{Meanings}
use Rattle.elab_links.proofs.elab_scope_proofs.Fitting.{no_cons}
use Rattle.elab_links.proofs.elab_scope_proofs.Least.{after_append}
use Rattle.elab_links.proofs.elab_scope_proofs.Sound.{nil_left, nil_right}
use Rattle.elab_parts.specs.elab_nodes.Spares.{spared}
use Rattle.elab_parts.proofs.elab_nodes_proofs.Sparing.{spared_behind}
use Rattle.elab_parts.specs.elab_body.declared.progress.Left.{Left}
use Rattle.elab_parts.specs.elab_body.Steps.{Step, Faulty, Statement, Turn, Delay, Nodes, Course, checked, delays_of, passed, where_spared, with_nodes}
use Rattle.elab_parts.proofs.elab_body_proofs.Passing.{passed_checked}
use Rattle.elab_links.specs.elab_items.Scopes.{declaration_faults, listings_of}
use Rattle.elab_links.proofs.elab_items_proofs.Law.{few_enough}
use Rattle.elab_parts.specs.elab_body.Faultless.{node_total, statement_count}
use Rattle.elab_walk.specs.declared.places.Seek.{Seek}
use Rattle.elab_walk.specs.declared.places.Seek.TheVariants as seek
use Rattle.elab_walk.specs.declared.room.Room.{Room}
use Rattle.elab_walk.specs.Leavings.{behind, left_or, most_of, spare_or}
use Rattle.elab_walk.specs.Refusals.{own_faults}
use Rattle.elab_walk.specs.Rooms.{extra_count, parts_steps, place_of, process_faults, process_places, room_after, sought, sought_on, surplus, visit_steps}
use Rattle.elab_walk.specs.Visits.{Library, Visit}
use Rattle.elab_walk.proofs.Seeking.{found_is, short, sought_left}
use Rattle.elab_walk.proofs.Sparing.{spare_is}

some_after : (b : Refusal) (fs : List Refusal) → after (Some b) fs ≡ None → ⊥
some_after b [] h = cc
some_after b (x ∷ xs) h =
    elim (comes_before x b) as (λ c. after (if c then (Some x) else (Some b)) xs ≡ None → ⊥) [ true ↦ some_after x xs | false ↦ some_after b xs ] h

-- where nothing is told there are no faults
pub nothing_told : (fs : List Refusal) → least fs ≡ None → fs ≡ []
nothing_told [] h = refl
nothing_told (x ∷ xs) h = absurd (some_after x xs h)

abbrev at_left : Option Refusal → ℕ → ℕ → ℕ → Bool → Course
at_left best s d n filled =
    record { best = best; left = Some (record { statements = s; delays = d; nodes = n }); filled = filled }

-- what steps leave of so many statements, delays and nodes
abbrev left_behind : ℕ → ℕ → ℕ → List Step → Option Left
left_behind s d n steps =
    Some (record { statements = s - statement_count steps; delays = d - length (delays_of steps); nodes = n - node_total steps })

-- what is left behind nodes, where it is so behind those that are left
spent_left : (best : Option Refusal) (at s d n count : ℕ) (filled : Bool) (steps : List Step) (next : ℕ → List Refusal) → ((left : ℕ) → next left ≡ [] → (passed (at_left best s d left filled) steps).left ≡ left_behind s d left steps) → (spare : Option ℕ) → spared n count ≡ spare → where_spared at spare next ≡ [] → (passed (with_nodes best at filled s d spare) steps).left ≡ left_behind s d n (Nodes at count ∷ steps)
spent_left best at s d n count filled steps next here None is h = absurd (no_cons _ _ h)
spent_left best at s d n count filled steps next here (Some left) is h =
    let behind_them : left ≡ n - count = spared_behind n count left is in
    let all : left - node_total steps ≡ n - (count + node_total steps) = omega arith in
    here left h
    ∙ ap (λ k. Some (record { statements = s - statement_count steps; delays = d - length (delays_of steps); nodes = k })) all

-- what is left behind steps of which nothing is told
pub passed_left : (best : Option Refusal) (s d n : ℕ) (filled : Bool) (steps : List Step) → checked s d n steps ≡ [] → (passed (record { best = best; left = Some (record { statements = s; delays = d; nodes = n }); filled = filled }) steps).left ≡ Some (record { statements = s - statement_count steps; delays = d - length (delays_of steps); nodes = n - node_total steps })
passed_left best s d n filled [] h =
    let e : s ≡ s - 0 = omega arith in
    let f : d ≡ d - 0 = omega arith in
    let g : n ≡ n - 0 = omega arith in
    cc
passed_left best s d n filled (Faulty told ∷ steps) h = absurd (no_cons _ _ h)
passed_left best zero d n filled (Statement at ∷ steps) h = absurd (no_cons _ _ h)
passed_left best (suc s) d n filled (Statement at ∷ steps) h =
    let e : s - statement_count steps ≡ suc s - (1 + statement_count steps) = omega arith in
    let f = passed_left best s d n true steps h in
    f ∙ ap (λ k. Some (record { statements = k; delays = d - length (delays_of steps); nodes = n - node_total steps })) e
passed_left best zero d n filled (Turn at ∷ steps) h = absurd (no_cons _ _ h)
passed_left best (suc s) d n filled (Turn at ∷ steps) h =
    let e : s - statement_count steps ≡ suc s - (1 + statement_count steps) = omega arith in
    let f = passed_left best s d n filled steps h in
    f ∙ ap (λ k. Some (record { statements = k; delays = d - length (delays_of steps); nodes = n - node_total steps })) e
passed_left best zero zero n filled (Delay at ∷ steps) h = absurd (no_cons _ _ h)
passed_left best (suc s) zero n filled (Delay at ∷ steps) h = absurd (no_cons _ _ h)
passed_left best zero (suc d) n filled (Delay at ∷ steps) h =
    let e : d - length (delays_of steps) ≡ suc d - suc (length (delays_of steps)) = omega arith in
    let f = passed_left best zero d n filled steps h in
    f
    ∙ ap (λ k. Some (record { statements = zero - statement_count steps; delays = k; nodes = n - node_total steps })) e
passed_left best (suc s) (suc d) n filled (Delay at ∷ steps) h =
    let e : d - length (delays_of steps) ≡ suc d - suc (length (delays_of steps)) = omega arith in
    let f = passed_left best (suc s) d n filled steps h in
    f
    ∙ ap (λ k. Some (record { statements = suc s - statement_count steps; delays = k; nodes = n - node_total steps })) e
passed_left best zero zero n filled (Nodes at count ∷ steps) h =
    spent_left best at zero zero n count filled steps (λ left. checked zero zero left steps) (λ left g. passed_left best zero zero left filled steps g) (spared n count) refl h
passed_left best zero (suc d) n filled (Nodes at count ∷ steps) h =
    spent_left best at zero (suc d) n count filled steps (λ left. checked zero (suc d) left steps) (λ left g. passed_left best zero (suc d) left filled steps g) (spared n count) refl h
passed_left best (suc s) zero n filled (Nodes at count ∷ steps) h =
    spent_left best at (suc s) zero n count filled steps (λ left. checked (suc s) zero left steps) (λ left g. passed_left best (suc s) zero left filled steps g) (spared n count) refl h
passed_left best (suc s) (suc d) n filled (Nodes at count ∷ steps) h =
    spent_left best at (suc s) (suc d) n count filled steps (λ left. checked (suc s) (suc d) left steps) (λ left g. passed_left best (suc s) (suc d) left filled steps g) (spared n count) refl h

-- the faults of declarations, of items and of the number of processes, one after the other
pub told : (library : Library) (room : Room) (v : Visit) (first : Option Refusal) (so_far : Course) (seek' : Seek) → first ≡ least (declaration_faults v.settings room.base v.circuit) → so_far ≡ passed (record { best = first; left = Some room.left; filled = false }) (visit_steps library v) → seek' ≡ sought_on (seek.Left room.processes) (process_places v.circuit.items) → after so_far.best (surplus (place_of seek')) ≡ least (own_faults library room v)
told library room v first so_far seek' is_first is_so_far is_seek =
    let declared : List Refusal = declaration_faults v.settings room.base v.circuit in
    let steps : List Step = visit_steps library v in
    let found : List Refusal = checked room.left.statements room.left.delays room.left.nodes steps in
    let over : List Refusal = process_faults room.processes (process_places v.circuit.items) in
    let best : so_far.best ≡ after first found =
    ap (λ c. c.best) is_so_far ∙ passed_checked first room.left.statements room.left.delays room.left.nodes false steps in
    let place : surplus (place_of seek') ≡ over =
    ap (λ s. surplus (place_of s)) is_seek ∙ ap surplus (found_is room.processes (process_places v.circuit.items)) in
    ap (λ b. after b (surplus (place_of seek'))) best
    ∙ ap (λ xs. after (after first found) xs) place
    ∙ ap (λ b. after (after b found) over) is_first
    ∙ sym (ap (λ b. after b over) (after_append None declared found))
    ∙ sym (after_append None (declared ++ found) over)

no_surplus : (place : Option ℕ) → surplus place ≡ [] → place ≡ None
no_surplus None h = refl
no_surplus (Some at) h = absurd (no_cons _ _ h)

-- what an instance leaves of which nothing is told
pub leaves : (library : Library) (room : Room) (v : Visit) (first : Option Refusal) (so_far : Course) (seek' : Seek) (spare : Option ℕ) → room.base ≤ 65535 → spare ≡ spared room.extras (extra_count v.circuit) → so_far ≡ passed (record { best = first; left = Some room.left; filled = false }) (visit_steps library v) → seek' ≡ sought_on (seek.Left room.processes) (process_places v.circuit.items) → least (own_faults library room v) ≡ None → behind room (length (listings_of v.settings v.circuit)) so_far.left seek' spare ≡ room_after library room v
leaves library room v first so_far seek' spare small is_spare is_so_far is_seek nothing =
    let declared : List Refusal = declaration_faults v.settings room.base v.circuit in
    let steps : List Step = visit_steps library v in
    let found : List Refusal = checked room.left.statements room.left.delays room.left.nodes steps in
    let places : List ℕ = process_places v.circuit.items in
    let over : List Refusal = process_faults room.processes places in
    let none : (declared ++ found) ++ over ≡ [] = nothing_told (own_faults library room v) nothing in
    let two : declared ++ found ≡ [] = nil_left (declared ++ found) over none in
    let no_over : over ≡ [] = nil_right (declared ++ found) over none in
    let no_declared : declared ≡ [] = nil_left declared found two in
    let no_found : found ≡ [] = nil_right declared found two in
    let few : length (listings_of v.settings v.circuit) ≤ 20000 - room.base =
    few_enough v.settings room.base v.circuit no_declared in
    let base : min (room.base + min (length (listings_of v.settings v.circuit)) 20000) 65535 ≡ room.base + length (listings_of v.settings v.circuit) =
    omega arith in
    let left : so_far.left ≡ Some (record { statements = room.left.statements - statement_count steps; delays = room.left.delays - length (delays_of steps); nodes = room.left.nodes - node_total steps }) =
    ap (λ c. c.left) is_so_far ∙ passed_left first room.left.statements room.left.delays room.left.nodes false steps no_found in
    let sought_is : seek' ≡ seek.Left (room.processes - length places) =
    is_seek ∙ sought_left room.processes places (no_surplus (slice_get places room.processes) no_over) in
    let one : left_or so_far.left room.left ≡ record { statements = room.left.statements - statement_count steps; delays = room.left.delays - length (delays_of steps); nodes = room.left.nodes - node_total steps } =
    ap (λ l. left_or l room.left) left in
    let other : most_of seek' ≡ room.processes - length places = ap most_of sought_is in
    let rest : spare_or spare ≡ room.extras - extra_count v.circuit =
    ap spare_or is_spare ∙ spare_is room.extras (extra_count v.circuit) in
    cc

-- what is come upon in the items of an instance
pub same_steps : (library : Library) (way way' : List (List ℕ)) (scope scope' : Meanings) (items items' : List ModuleItem) → way ≡ way' → scope ≡ scope' → items ≡ items' → parts_steps library way scope items ≡ parts_steps library way' scope' items'
same_steps library way way' scope scope' items items' ways scopes all =
    ap (λ w. parts_steps library w scope items) ways
    ∙ ap (λ s. parts_steps library way' s items) scopes
    ∙ ap (λ i. parts_steps library way' scope' i) all
