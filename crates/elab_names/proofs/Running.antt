-- The walk over instances one after the other, where files have other numbers: up to the first of which something is
-- told it goes over the same instances.
use Rattle.std.specs.List.{Contains, flat_map}
use Rattle.std.specs.Option.{option_map}
use Rattle.std.proofs.Common.{◌≡◌, ◌∙◌, ℕ, zero, suc, List, [], ◌∷◌, ◌++◌, map, Option, None, Some, refl, sym, ap, subst}
use Rattle.std.proofs.lemmas.List.{append-nil, append_assoc, map-append}
use Rattle.std.proofs.lemmas.List.Concat.{flat_map-append}
use Rattle.std.proofs.lemmas.List.Elements.{Contains-append_left}
use Rattle.rtl_elab.specs.elab_scope.Faults.{Answer}
use Rattle.rtl_elab.specs.elab_walk.declared.room.Room.{Room}
use Rattle.rtl_elab.specs.elab_walk.Refusals.{come_to, refusal, told_first, told_of, unless_told}
use Rattle.rtl_elab.specs.elab_walk.Rooms.{room_after}
use Rattle.rtl_elab.specs.elab_walk.Visits.{Library, Visit, children, holder_of, visits}
use Rattle.elab_names.specs.LookUps.{names_by, names_in}
use Rattle.elab_names.specs.Moves.{moved_answer, moved_visit}
use Rattle.elab_names.proofs.Agreeing.{Agree, agree_left, agree_right, children_moved, same_room, told_moved}

-- the walk goes on, with so much room and after these instances; or it is over, since something is told of the last
pub data State : Type 0 where
  On : (room : Room) (log : List Visit) → State
  Over : (told : Answer) (log : List Visit) → State

abbrev pub log_of : State → List Visit
log_of (On room log) = log
log_of (Over told log) = log

abbrev pub told_in : State → Option Answer
told_in (On room log) = None
told_in (Over told log) = Some told

abbrev passed : Room → List Visit → Option Answer → State
passed room log None = On room log
passed room log (Some told) = Over told log

abbrev step : Library → State → Visit → State
step library (On room log) v =
    passed (room_after library room v) (log ++ v ∷ []) (told_of library room v)
step library (Over told log) v = Over told log

abbrev pub run : Library → State → List Visit → State
run library state [] = state
run library state (v ∷ vs) = run library (step library state v) vs

abbrev pub moved_state : (ℕ → ℕ) → State → State
moved_state number (On room log) = On room (map (moved_visit number) log)
moved_state number (Over told log) = Over (moved_answer number told) (map (moved_visit number) log)

abbrev names_at : State → List (List ℕ)
names_at state = names_by (log_of state)

-- ---- how it goes

module _ (library : Library) where
  run_over : (told : Answer) (log vs : List Visit) → run library (Over told log) vs ≡ Over told log
  run_over told log [] = refl
  run_over told log (v ∷ vs) = run_over told log vs

  run_both : (state : State) (xs ys : List Visit) → run library state (xs ++ ys) ≡ run library (run library state xs) ys
  run_both state [] ys = refl
  run_both state (x ∷ xs) ys = run_both (step library state x) xs ys

  log_passed : (room : Room) (log : List Visit) (told : Option Answer) → log_of (passed room log told) ≡ log
  log_passed room log None = refl
  log_passed room log (Some told) = refl

  -- what follows in the log
  abbrev more_by : State → Visit → List Visit
  more_by (On room log) v = v ∷ []
  more_by (Over told log) v = []

  log_more : (state : State) (v : Visit) → log_of (step library state v) ≡ log_of state ++ more_by state v
  log_more (On room log) v =
      log_passed (room_after library room v) (log ++ v ∷ []) (told_of library room v)
  log_more (Over told log) v = sym (append-nil log)

  names_more : (state : State) (v : Visit) (name : List ℕ) → Contains (names_at state) name → Contains (names_at (step library state v)) name
  names_more state v name h =
      subst (λ (names : List (List ℕ)). Contains names name)
      (sym (ap names_by (log_more state v) ∙ flat_map-append (λ (w : Visit). names_in w.circuit.items) (log_of state) (more_by state v)))
      (Contains-append_left (names_at state) (names_by (more_by state v)) name h)

  pub names_kept : (state : State) (vs : List Visit) (name : List ℕ) → Contains (names_at state) name → Contains (names_at (run library state vs)) name
  names_kept state [] name h = h
  names_kept state (v ∷ vs) name h =
      names_kept (step library state v) vs name (names_more state v name h)

  -- what is in the log is what the walk comes to
  pub log_is : (room : Room) (log vs : List Visit) → log_of (run library (On room log) vs) ≡ log ++ come_to library room vs
  log_is room log [] = sym (append-nil log)
  log_is room log (v ∷ vs) =
      log_told room log v vs (told_of library room v) (log_is (room_after library room v) (log ++ v ∷ []) vs)
    where
      log_told : (room : Room) (log : List Visit) (v : Visit) (vs : List Visit) (told : Option Answer) → log_of (run library (On (room_after library room v) (log ++ v ∷ [])) vs) ≡ (log ++ v ∷ []) ++ come_to library (room_after library room v) vs → log_of (run library (passed (room_after library room v) (log ++ v ∷ []) told) vs) ≡ log ++ v ∷ unless_told told (come_to library (room_after library room v) vs)
      log_told room log v vs None rest =
          rest ∙ append_assoc log (v ∷ []) (come_to library (room_after library room v) vs)
      log_told room log v vs (Some told) rest = ap log_of (run_over told (log ++ v ∷ []) vs)

  pub told_is : (room : Room) (log vs : List Visit) → told_in (run library (On room log) vs) ≡ refusal library room vs
  told_is room log [] = refl
  told_is room log (v ∷ vs) =
      told_first_is room log v vs (told_of library room v) (told_is (room_after library room v) (log ++ v ∷ []) vs)
    where
      told_first_is : (room : Room) (log : List Visit) (v : Visit) (vs : List Visit) (told : Option Answer) → told_in (run library (On (room_after library room v) (log ++ v ∷ [])) vs) ≡ refusal library (room_after library room v) vs → told_in (run library (passed (room_after library room v) (log ++ v ∷ []) told) vs) ≡ told_first told (refusal library (room_after library room v) vs)
      told_first_is room log v vs None rest = rest
      told_first_is room log v vs (Some told) rest = ap told_in (run_over told (log ++ v ∷ []) vs)

-- ---- the same in the second library

module _ (number : ℕ → ℕ) (first second : Library) where
  passed_moved : (room : Room) (log : List Visit) (told : Option Answer) → passed room (map (moved_visit number) log) (option_map (moved_answer number) told) ≡ moved_state number (passed room log told)
  passed_moved room log None = refl
  passed_moved room log (Some told) = refl

  -- the names of the instance that is stepped to
  own_agree : (room : Room) (log : List Visit) (v : Visit) → Agree number first second (names_at (step first (On room log) v)) → Agree number first second (names_in v.circuit.items)
  own_agree room log v same =
      let names : names_at (step first (On room log) v) ≡ names_by log ++ (names_in v.circuit.items ++ [])
      = ap names_by (log_more first (On room log) v) ∙ flat_map-append (λ (w : Visit). names_in w.circuit.items) log (v ∷ []) in
      agree_left number first second (names_in v.circuit.items) []
      (agree_right number first second (names_by log) (names_in v.circuit.items ++ [])
      (subst (λ (all : List (List ℕ)). Agree number first second all) names same))

  step_moved : (state : State) (v : Visit) → Agree number first second (names_at (step first state v)) → step second (moved_state number state) (moved_visit number v) ≡ moved_state number (step first state v)
  step_moved (Over told log) v same = refl
  step_moved (On room log) v same =
      let own = own_agree room log v same in
      ap (λ (left : Room). passed left (map (moved_visit number) log ++ moved_visit number v ∷ [])
      (told_of second room (moved_visit number v)))
      (same_room number first second v own room)
      ∙ ap (λ (told : Option Answer). passed (room_after first room v)
      (map (moved_visit number) log ++ moved_visit number v ∷ []) told)
      (told_moved number first second v own room)
      ∙ ap (λ (others : List Visit). passed (room_after first room v) others
      (option_map (moved_answer number) (told_of first room v)))
      (sym (map-append (moved_visit number) log (v ∷ [])))
      ∙ passed_moved (room_after first room v) (log ++ v ∷ []) (told_of first room v)

  earlier : (state : State) (vs : List Visit) → Agree number first second (names_at (run first state vs)) → Agree number first second (names_at state)
  earlier state vs same name h = same name (names_kept first state vs name h)

  -- instances with all that they hold
  all_moved : (levels : ℕ) → ((v : Visit) (state : State) → Agree number first second (names_at (run first state (visits first levels v))) → run second (moved_state number state) (visits second levels (moved_visit number v)) ≡ moved_state number (run first state (visits first levels v))) → (vs : List Visit) (state : State) → Agree number first second (names_at (run first state (flat_map (visits first levels) vs))) → run second (moved_state number state) (flat_map (visits second levels) (map (moved_visit number) vs)) ≡ moved_state number (run first state (flat_map (visits first levels) vs))
  all_moved levels one [] state same = refl
  all_moved levels one (v ∷ vs) state same =
      let split : run first state (visits first levels v ++ flat_map (visits first levels) vs) ≡ run first (run first state (visits first levels v)) (flat_map (visits first levels) vs)
      = run_both first state (visits first levels v) (flat_map (visits first levels) vs) in
      let rest : Agree number first second (names_at (run first (run first state (visits first levels v)) (flat_map (visits first levels) vs)))
      = subst (λ (s : State). Agree number first second (names_at s)) split same in
      run_both second (moved_state number state) (visits second levels (moved_visit number v))
      (flat_map (visits second levels) (map (moved_visit number) vs))
      ∙ ap (λ (s : State). run second s (flat_map (visits second levels) (map (moved_visit number) vs)))
      (one v state (earlier (run first state (visits first levels v)) (flat_map (visits first levels) vs) rest))
      ∙ all_moved levels one vs (run first state (visits first levels v)) rest
      ∙ ap (moved_state number) (sym split)

  pub visits_moved : (levels : ℕ) (v : Visit) (state : State) → Agree number first second (names_at (run first state (visits first levels v))) → run second (moved_state number state) (visits second levels (moved_visit number v)) ≡ moved_state number (run first state (visits first levels v))
  visits_moved zero v state same = refl
  visits_moved (suc levels) v (Over told log) same =
      run_over second (moved_answer number told) (map (moved_visit number) log)
      (visits second (suc levels) (moved_visit number v))
      ∙ ap (moved_state number) (sym (run_over first told log (visits first (suc levels) v)))
  visits_moved (suc levels) v (On room log) same =
      let held = children first (holder_of v) v.circuit.items in
      let here : Agree number first second (names_at (step first (On room log) v))
      = earlier (step first (On room log) v) (flat_map (visits first levels) held) same in
      ap (λ (s : State). run second s
      (flat_map (visits second levels) (children second (holder_of (moved_visit number v)) v.circuit.items)))
      (step_moved (On room log) v here)
      ∙ ap (λ (vs : List Visit). run second (moved_state number (step first (On room log) v))
      (flat_map (visits second levels) vs))
      (children_moved number first second v (own_agree room log v here))
      ∙ all_moved levels (λ w state agree. visits_moved levels w state agree) held (step first (On room log) v) same
