-- What elaboration makes of a top by whose names two libraries mean the same, but for the numbers of the files.
use Rattle.std.specs.Option.{option_map}
use Rattle.std.proofs.Common.{◌≡◌, ◌∙◌, ℕ, ◌+◌, List, [], ◌∷◌, ◌++◌, length, map, Option, None, Some, Ok, refl, sym, ap, subst, arith}
use Rattle.rtl_tree.specs.TreeModule.{Circuit}
use Rattle.rtl_elab.specs.elab_scope.Faults.{Answer}
use Rattle.rtl_elab.specs.elab_items.Scopes.{listings_of}
use Rattle.rtl_elab.specs.elab_links.declared.module_set.Lookup.{Lookup}
use Rattle.rtl_elab.specs.elab_links.declared.module_set.Lookup.TheVariants.{Missing, Found, Twice}
use Rattle.rtl_elab.specs.elab_links.declared.module_set.Place.{Place}
use Rattle.rtl_elab.specs.elab_links.Modules.{circuit_at}
use Rattle.rtl_elab.specs.elab_walk.Placements.{Placement, placements}
use Rattle.rtl_elab.specs.elab_walk.Refusals.{come_to, refusal}
use Rattle.rtl_elab.specs.elab_walk.Rooms.{whole_room}
use Rattle.rtl_elab.specs.elab_walk.Visits.{Library, Visit, all_visits, top_visit}
use Rattle.rtl_elab.proofs.elab_walk_proofs.Ending.{all_come_to}
use Rattle.rtl_elab.specs.elab_flat.Flats.{flat_of, with_works}
use Rattle.rtl_flat.specs.Flats.{DesignParts}
use Rattle.rtl_elab.specs.elab_flat.Held.{bases_under, depth_of}
use Rattle.rtl_elab.specs.elab_flat.Works.{Works, no_works, with_placement, with_placements}
use Rattle.rtl_elab.specs.Elaborated.{decided, elaborated, elaborated_at, elaborated_found, elaborated_of, made_of, noted, refused, visited, visited_found, visited_from}
use Rattle.rtl_elab.specs.elab_readings.Readings.{notes_of}
use Rattle.elab_names.specs.Extracts.{renumbered}
use Rattle.elab_names.specs.LookUps.{looked_up, names_by, names_in}
use Rattle.elab_names.specs.Moves.{moved_answer, moved_place, moved_placement, moved_visit}
use Rattle.elab_names.proofs.Agreeing.{Agree, MeansMoved, agree_left, agree_right, same_works}
use Rattle.elab_names.proofs.Running.{On, Over, State, log_is, log_of, moved_state, run, told_in, told_is, visits_moved}

-- each name that a top looks up means the same in both
abbrev pub AgreeBy : (ℕ → ℕ) → Library → Library → List ℕ → Type 0
AgreeBy number first second top = Agree number first second (looked_up first top)

told_decided : (told : Option Answer) (made : DesignParts) → refused (decided told made) ≡ told
told_decided None made = refl
told_decided (Some answer) made = refl

same_names : (number : ℕ → ℕ) (vs : List Visit) → names_by (map (moved_visit number) vs) ≡ names_by vs
same_names number [] = refl
same_names number (v ∷ vs) =
    ap (λ (names : List (List ℕ)). names_in v.circuit.items ++ names) (same_names number vs)

placements_moved : (number : ℕ → ℕ) (at base : ℕ) (vs : List Visit) → placements at base (map (moved_visit number) vs) ≡ map (moved_placement number) (placements at base vs)
placements_moved number at base [] = refl
placements_moved number at base (v ∷ vs) =
    ap (λ (others : List Placement). moved_placement number (record { visit = v; number = at; base = base }) ∷ others)
    (placements_moved number (at + 1) (base + length (listings_of v.settings v.circuit)) vs)

module _ (number : ℕ → ℕ) (first second : Library) where
  works_moved : (works : Works) (at base : ℕ) (vs : List Visit) → Agree number first second (names_by vs) → with_placements second works (map (moved_placement number) (placements at base vs)) ≡ with_placements first works (map (moved_placement number) (placements at base vs))
  works_moved works at base [] same = refl
  works_moved works at base (v ∷ vs) same =
      let here : Placement = moved_placement number (record { visit = v; number = at; base = base }) in
      let behind : List Placement
      = map (moved_placement number) (placements (at + 1) (base + length (listings_of v.settings v.circuit)) vs) in
      ap (λ (made : Works). with_placements second made behind)
      (same_works number first second here (bases_under (depth_of here) behind) works v.circuit.items
      (agree_left number first second (names_in v.circuit.items) (names_by vs) same))
      ∙ works_moved (with_placement first works here behind) (at + 1)
      (base + length (listings_of v.settings v.circuit)) vs
      (agree_right number first second (names_in v.circuit.items) (names_by vs) same)

  flat_moved : (vs : List Visit) → Agree number first second (names_by vs) → flat_of second (placements 0 0 (map (moved_visit number) vs)) ≡ flat_of first (map (moved_placement number) (placements 0 0 vs))
  flat_moved vs same =
      ap (flat_of second) (placements_moved number 0 0 vs)
      ∙ ap (with_works (map (moved_placement number) (placements 0 0 vs))) (works_moved no_works 0 0 vs same)

  made_moved : (vs : List Visit) → Agree number first second (names_by vs) → made_of second (placements 0 0 (map (moved_visit number) vs)) ≡ made_of first (map (moved_placement number) (placements 0 0 vs))
  made_moved vs same =
      ap (λ (all : List Placement). noted (notes_of all) (flat_of second (placements 0 0 (map (moved_visit number) vs)))) (placements_moved number 0 0 vs)
      ∙ ap (noted (notes_of (map (moved_placement number) (placements 0 0 vs)))) (flat_moved vs same)

  -- ---- from the top on

  module _ (v : Visit) (same : Agree number first second (names_by (come_to first whole_room (all_visits first v)))) where
    whole : run second (On whole_room []) (all_visits second (moved_visit number v)) ≡ moved_state number (run first (On whole_room []) (all_visits first v))
    unfolding all_visits
    whole =
        visits_moved number first second 32 v (On whole_room [])
        (subst (λ (log : List Visit). Agree number first second (names_by log))
        (sym (log_is first whole_room [] (all_visits first v))) same)

    log_moved : (state : State) → log_of (moved_state number state) ≡ map (moved_visit number) (log_of state)
    log_moved (On room log) = refl
    log_moved (Over told log) = refl

    told_moved : (state : State) → told_in (moved_state number state) ≡ option_map (moved_answer number) (told_in state)
    told_moved (On room log) = refl
    told_moved (Over told log) = refl

    come_moved : come_to second whole_room (all_visits second (moved_visit number v)) ≡ map (moved_visit number) (come_to first whole_room (all_visits first v))
    come_moved =
        sym (log_is second whole_room [] (all_visits second (moved_visit number v)))
        ∙ ap log_of whole
        ∙ log_moved (run first (On whole_room []) (all_visits first v))
        ∙ ap (map (moved_visit number)) (log_is first whole_room [] (all_visits first v))

    refusal_moved : refusal second whole_room (all_visits second (moved_visit number v)) ≡ option_map (moved_answer number) (refusal first whole_room (all_visits first v))
    refusal_moved =
        sym (told_is second whole_room [] (all_visits second (moved_visit number v)))
        ∙ ap told_in whole
        ∙ told_moved (run first (On whole_room []) (all_visits first v))
        ∙ ap (option_map (moved_answer number)) (told_is first whole_room [] (all_visits first v))

    told_of_moved : refused (elaborated_of second (all_visits second (moved_visit number v))) ≡ option_map (moved_answer number) (refused (elaborated_of first (all_visits first v)))
    told_of_moved =
        told_decided (refusal second whole_room (all_visits second (moved_visit number v)))
        (made_of second (placements 0 0 (all_visits second (moved_visit number v))))
        ∙ refusal_moved
        ∙ sym (ap (option_map (moved_answer number))
        (told_decided (refusal first whole_room (all_visits first v))
        (made_of first (placements 0 0 (all_visits first v)))))

    of_moved : refused (elaborated_of first (all_visits first v)) ≡ None → elaborated_of second (all_visits second (moved_visit number v)) ≡ Ok (made_of first (map (moved_placement number) (placements 0 0 (come_to first whole_room (all_visits first v)))))
    of_moved none =
        let nothing : refusal first whole_room (all_visits first v) ≡ None
        = sym (told_decided (refusal first whole_room (all_visits first v)) (made_of first (placements 0 0 (all_visits first v)))) ∙ none in
        let nor : refusal second whole_room (all_visits second (moved_visit number v)) ≡ None
        = refusal_moved ∙ ap (option_map (moved_answer number)) nothing in
        ap (λ (told : Option Answer). decided told
        (made_of second (placements 0 0 (all_visits second (moved_visit number v)))))
        nor
        ∙ ap (λ (vs : List Visit). Ok (made_of second (placements 0 0 vs)))
        (sym (all_come_to second whole_room (all_visits second (moved_visit number v)) nor) ∙ come_moved)
        ∙ ap (λ (made : DesignParts). Ok made) (made_moved (come_to first whole_room (all_visits first v)) same)

  -- ---- by what the name of the top means

  from_moved : (place : Place) (one : Option Circuit) → Agree number first second (names_by (visited_from first place one)) → visited_from second (moved_place number place) one ≡ map (moved_visit number) (visited_from first place one)
  from_moved place None same = refl
  from_moved place (Some circuit) same = come_moved (top_visit place circuit) same

  found_visited : (lookup : Lookup) → Agree number first second (names_by (visited_found first lookup)) → ((place : Place) → lookup ≡ Found place → circuit_at second.files (moved_place number place) ≡ circuit_at first.files place) → visited_found second (renumbered number lookup) ≡ map (moved_visit number) (visited_found first lookup)
  found_visited Missing same there = refl
  found_visited Twice same there = refl
  found_visited (Found place) same there =
      ap (visited_from second (moved_place number place)) (there place refl)
      ∙ from_moved place (circuit_at first.files place) same

  at_refused : (top : List ℕ) (place : Place) (one : Option Circuit) → Agree number first second (names_by (visited_from first place one)) → refused (elaborated_at second top (moved_place number place) one) ≡ option_map (moved_answer number) (refused (elaborated_at first top place one))
  at_refused top place None same = refl
  at_refused top place (Some circuit) same = told_of_moved (top_visit place circuit) same

  found_refused : (top : List ℕ) (lookup : Lookup) → Agree number first second (names_by (visited_found first lookup)) → ((place : Place) → lookup ≡ Found place → circuit_at second.files (moved_place number place) ≡ circuit_at first.files place) → refused (elaborated_found second top (renumbered number lookup)) ≡ option_map (moved_answer number) (refused (elaborated_found first top lookup))
  found_refused top Missing same there = refl
  found_refused top Twice same there = refl
  found_refused top (Found place) same there =
      ap (λ (one : Option Circuit). refused (elaborated_at second top (moved_place number place) one))
      (there place refl)
      ∙ at_refused top place (circuit_at first.files place) same

  at_design : (top : List ℕ) (place : Place) (one : Option Circuit) → Agree number first second (names_by (visited_from first place one)) → refused (elaborated_at first top place one) ≡ None → elaborated_at second top (moved_place number place) one ≡ Ok (made_of first (map (moved_placement number) (placements 0 0 (visited_from first place one))))
  at_design top place None same none = absurd cc
  at_design top place (Some circuit) same none = of_moved (top_visit place circuit) same none

  found_design : (top : List ℕ) (lookup : Lookup) → Agree number first second (names_by (visited_found first lookup)) → ((place : Place) → lookup ≡ Found place → circuit_at second.files (moved_place number place) ≡ circuit_at first.files place) → refused (elaborated_found first top lookup) ≡ None → elaborated_found second top (renumbered number lookup) ≡ Ok (made_of first (map (moved_placement number) (placements 0 0 (visited_found first lookup))))
  found_design top Missing same there none = absurd cc
  found_design top Twice same there none = absurd cc
  found_design top (Found place) same there none =
      ap (elaborated_at second top (moved_place number place)) (there place refl)
      ∙ at_design top place (circuit_at first.files place) same none

  module _ (top : List ℕ) (same : AgreeBy number first second top) where
    own : MeansMoved number first second top
    own = agree_left number first second (top ∷ []) (names_by (visited first top)) same top (0, omega arith, refl)

    held : Agree number first second (names_by (visited first top))
    held = agree_right number first second (top ∷ []) (names_by (visited first top)) same

    pub visited_by : visited second top ≡ map (moved_visit number) (visited first top)
    visited_by =
        ap (visited_found second) own.lookup ∙ found_visited (first.lookups top) held own.circuit

    pub looked_up_by : looked_up second top ≡ looked_up first top
    looked_up_by =
        ap (λ (vs : List Visit). top ∷ names_by vs) visited_by
        ∙ ap (λ (names : List (List ℕ)). top ∷ names) (same_names number (visited first top))

    pub refused_by : refused (elaborated second top) ≡ option_map (moved_answer number) (refused (elaborated first top))
    refused_by =
        ap (λ (lookup : Lookup). refused (elaborated_found second top lookup)) own.lookup
        ∙ found_refused top (first.lookups top) held own.circuit

    pub design_by : refused (elaborated first top) ≡ None → elaborated second top ≡ Ok (made_of first (map (moved_placement number) (placements 0 0 (visited first top))))
    design_by none =
        ap (elaborated_found second top) own.lookup
        ∙ found_design top (first.lookups top) held own.circuit none
