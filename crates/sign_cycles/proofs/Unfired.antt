-- Where no clock fires, inputs may be set at any moments of one run: registers have their resets' constants, or what they had.
use Rattle.std.proofs.Common.{◌≡◌, ◌≢◌, ◌∙◌, ◌++◌, ◌<◌, ℕ, zero, suc, true, false, List, [], ◌∷◌, length, get_or, map, Option, None, Some, refl, sym, ap, subst, inl, inr, arith}
use Rattle.std.specs.Prelude.{IsTrue}
use Rattle.std.specs.List.{All, slice_get}
use Rattle.std.proofs.lemmas.Bool.{cases_Bool, cond-false, cond-true}
use Rattle.std.proofs.lemmas.List.Elements.{All-cons, All-head, All-nil, All-tail}
use Rattle.std.proofs.lemmas.List.Sorted.{All-permutation, IsPermutation-sym}
use Rattle.rtl_bits.specs.declared.Bit.{Bit}
use Rattle.rtl_bits.specs.declared.Bit.TheVariants.{X}
use Rattle.rtl_bits.specs.Bit.{is_unknown}
use Rattle.rtl_bits.specs.Bits.{has_unknown, same_bit}
use Rattle.rtl_flat.specs.Flows.{body_flow}
use Rattle.rtl_flat.specs.Paths.{MayWrite}
use Rattle.rtl_flat.specs.Process.{Watched, Actions, Edge'}
use Rattle.event_model.specs.Queue.{State, after, doing_at, happens, is_input, offer}
use Rattle.rtl_flat.specs.Flats.{Flat, widths}
use Rattle.event_model.specs.Writes.{Values}
use Rattle.event_edges.proofs.event_laws_proofs.Unheard.{same_bits}
use Rattle.net_model.specs.declared.fill.Fill.{Fill}
use Rattle.net_model.specs.Block.{block_bit}
use Rattle.net_model.specs.Control.{IsClockOrReset, IsReached}
use Rattle.net_model.specs.Cycle.{Chain, Guard, Setting, clocked_bit, given_after, is_active, item_bit, level, register_bit, reset_bit, strongest}
use Rattle.net_model.specs.Numbers.{AreNumbers, bit}
use Rattle.net_model.specs.Solution.{IsLasting}
use Rattle.net_model.proofs.Gates.{gate_is_input}
use Rattle.event_edges.specs.event_runs.Nets.{AreDriven, AreWide, given_with}
use Rattle.event_edges.specs.event_runs.Writers.{IsOrderly}
use Rattle.event_edges.proofs.event_runs_proofs.Laws.{driven_resolved, orderly_after, orderly_offer}
use Rattle.event_edges.specs.Levels.{CanMoveTo, GivesLevels, IsLevelStart, IsUnfired}
use Rattle.event_edges.specs.Moves.{Give, Move, Take, gifts, move_all}
use Rattle.event_edges.specs.Registers.{due_bit}
use Rattle.event_edges.specs.Reset.{IsReset, IsSet}
use Rattle.event_edges.specs.Synchronous.{IsItem}
use Rattle.event_edges.proofs.Cone.{item_in_cone, item_width}
use Rattle.event_edges.proofs.Due.{due_rest}
use Rattle.event_edges.proofs.Laws.{resets_set, set_at_rest}
use Rattle.event_edges.proofs.Levels.{unfired_due}
use Rattle.event_edges.proofs.Ports.{follows, one_bit}
use Rattle.event_gates.specs.Fixed.{CanMoveApart}
use Rattle.event_gates.proofs.Fixed.{all_back, all_front}
use Rattle.net_rest.specs.Rest.{AreGiven, IsHeldBit, numbers_of}
use Rattle.net_rest.proofs.net_laws_proofs.Known.{known_at}
use Rattle.net_rest.proofs.net_laws_proofs.Laws.{block_known}
use Rattle.net_rest.proofs.Numbers.{are_numbers, has_source, number_same}
use Rattle.net_rest.proofs.Rest.{latch_inside, register_inside}
use Rattle.sign_cycles.specs.Agree.{AreReset, IsSettledKnown}
use Rattle.sign_cycles.specs.Beside.{offers}
use Rattle.sign_cycles.specs.BringUp.{SetsInput}
use Rattle.sign_cycles.specs.Formed.{IsCleanClocked}
use Rattle.sign_cycles.specs.Round.{IsArrived, IsFollowed, IsSettled}
use Rattle.sign_cycles.specs.Unfired.{CanCome, IsCycleAtOnce, IsFollowedAtOnce, IsNextMoved, IsUnfiredStep, UnfiredAgree}
use Rattle.sign_cycles.proofs.Alone.{reached_number}
use Rattle.sign_cycles.proofs.BringUp.{all_settings, only_one}
use Rattle.sign_cycles.proofs.Chains.{no_edge_away}
use Rattle.sign_cycles.proofs.DataSteps.{given_pairs, pairs, settled_round}
use Rattle.sign_cycles.proofs.Edges.{clock_bit, item_lasts, of_clock, settled_known, strongest_constant}
use Rattle.sign_cycles.proofs.Followed as followed
use Rattle.sign_cycles.proofs.Held.{gates_left, given_left, held_moves, latch_gate, leaves_pairs, still_closed}
use Rattle.sign_cycles.proofs.InTurn.{at_once_alone, in_turn_at_once}
use Rattle.sign_cycles.proofs.Lists.{shows_all}
use Rattle.sign_cycles.proofs.Resets as reset
use Rattle.sign_cycles.proofs.Settled.{IsUnderWay, arrives, given_append, input_lasts, settled_way, way_after, way_offer}

-- ---- moves

module _ (d : Flat) (to : ℕ → Bit) where
  levels_front : (first second : List (ℕ × List Bit)) → GivesLevels d to (first ++ second) → GivesLevels d to first
  levels_front [] second gives = tt
  levels_front ((i, bits) ∷ first) second gives = (gives.0, gives.1, levels_front first second gives.2)

  levels_back : (first second : List (ℕ × List Bit)) → GivesLevels d to (first ++ second) → GivesLevels d to second
  levels_back [] second gives = gives
  levels_back ((i, bits) ∷ first) second gives = levels_back first second gives.2

  -- moves that give each input its level
  can_to : (s : State) (moves : List Move) → CanCome d s moves → GivesLevels d to (gifts moves) → CanMoveTo d to s moves
  can_to s [] can gives = tt
  can_to s (Take event ∷ moves) can gives = (can.0, can_to (after d s event) moves can.1 gives)
  can_to s (Give step ∷ moves) can gives =
      (levels_front step (gifts moves) gives, can_to (offer s step) moves can (levels_back step (gifts moves) gives))

  wide_gifts : (step : List (ℕ × List Bit)) → GivesLevels d to step → AreWide d step
  wide_gifts [] gives = tt
  wide_gifts ((i, bits) ∷ step) gives = (gives.0, wide_gifts step gives.2)

-- a reset that isn't among the active ones is inactive
none_active : (n : Values) (resets : List Guard) → strongest n resets ≡ None → All (λ (guard : Guard). is_active n guard.item ≡ false) resets
none_active n [] none = All-nil (λ (guard : Guard). is_active n guard.item ≡ false)
none_active n (guard ∷ resets) none =
    elim (cases_Bool (is_active n guard.item)) [
      | inl on ↦
          absurd (let no : ◌≡◌ {A = Option Guard} (Some guard) None = sym (cond-true (is_active n guard.item) (Some guard) (strongest n resets) on) ∙ none in cc)
      | inr off ↦
          All-cons (λ (one : Guard). is_active n one.item ≡ false) guard resets off
          (none_active n resets (sym (cond-false (is_active n guard.item) (Some guard) (strongest n resets) off) ∙ none))
    ]

module _ (P : Watched → Type 0) where
  to_items : (resets : List Guard) → All (λ (guard : Guard). P guard.item) resets → All P (map (λ (guard : Guard). guard.item) resets)
  to_items [] all = All-nil P
  to_items (guard ∷ resets) all =
      All-cons P guard.item (map (λ (one : Guard). one.item) resets) (All-head (λ (one : Guard). P one.item) guard resets all)
      (to_items resets (All-tail (λ (one : Guard). P one.item) guard resets all))

  at_place : (items : List Watched) → All P items → (place : ℕ) (item : Watched) → slice_get items place ≡ Some item → P item
  at_place [] all place item there = absurd (cc)
  at_place (first ∷ items) all zero item there =
      let same : first ≡ item = cc in subst P same (All-head P first items all)
  at_place (first ∷ items) all (suc place) item there = at_place items (All-tail P first items all) place item there

-- ---- a step

module _ (d : Flat) (chains : ℕ → Chain) (level_of : ℕ → ℕ) (clean : IsCleanClocked d chains level_of) (f : Fill) (s : State) (n : Values) (known : IsSettledKnown d chains f s n) (all : List Setting) (step : IsUnfiredStep d chains n all) (t : State) (next : IsNextMoved d s all t) where
  abbrev was : ℕ → Bit
  was c = bit n c 0

  abbrev to : ℕ → Bit
  to c = bit (given_after n all) c 0

  abbrev inputs : Values
  inputs = given_with n (pairs all)

  settled : IsSettled d f s n
  settled = settled_round d chains f s n known

  way : IsUnderWay d n s
  way = settled_way d level_of clean.solvable f s n settled

  -- ---- what is given

  -- what a clock or a reset is set to is its bit
  bit_is : (c : ℕ) → IsClockOrReset d c → (bits : List Bit) → length bits ≡ widths d c → bits ≡ given_after n all c → bits ≡ to c ∷ []
  bit_is c clock bits wide same =
      one_bit bits (to c) (wide ∙ clock_bit d clean.synchronous c clock) (ap (λ (l : List Bit). get_or l 0 X) same)

  each_level : (some : List Setting) → All (SetsInput d) some → ((c : ℕ) → IsClockOrReset d c → All (λ (setting : Setting). setting.input ≡ c → setting.number ≡ given_after n all c) some) → GivesLevels d to (offers some)
  each_level [] set last = tt
  each_level (setting ∷ some) set last =
      let one = All-head (SetsInput d) setting some set in (
        one.can_be.wide,
        (λ clock. bit_is setting.input clock setting.number one.can_be.wide
            (All-head (λ (other : Setting). other.input ≡ setting.input → other.number ≡ given_after n all setting.input) setting some (last setting.input clock) refl)),
        each_level some (All-tail (SetsInput d) setting some set)
            (λ c clock. All-tail (λ (other : Setting). other.input ≡ c → other.number ≡ given_after n all c) setting some (last c clock)),
      )

  can : CanMoveTo d to s next.moves
  can =
      can_to d to s next.moves next.can
      (subst (GivesLevels d to) (sym next.gives) (each_level all step.settings step.last))

  inputs_known : (i : ℕ) → has_unknown (inputs i) ≡ false
  inputs_known =
      followed.given_known d level_of clean.solvable n (pairs all) (all_settings d all step.settings) known.solution.numbers.known

  -- ---- the way

  way_moves : (given : Values) (u : State) (moves : List Move) → CanMoveTo d to u moves → IsUnderWay d given u → IsUnderWay d (given_with given (gifts moves)) (move_all d u moves)
  way_moves given u [] can' way' = way'
  way_moves given u (Take event ∷ moves) can' way' =
      way_moves given (after d u event) moves can'.1 (way_after d level_of clean.solvable given u way' event can'.0)
  way_moves given u (Give given' ∷ moves) can' way' =
      subst (λ (v : Values). IsUnderWay d v (move_all d (offer u given') moves)) (sym (given_append given given' (gifts moves)))
      (way_moves (given_with given given') (offer u given') moves can'.1 (way_offer d level_of clean.solvable given u given' (wide_gifts d to given' can'.0) way'))

  end_way : IsUnderWay d inputs t
  end_way =
      subst (IsUnderWay d inputs) next.leads
      (subst (λ (gifts' : List (ℕ × List Bit)). IsUnderWay d (given_with n gifts') (move_all d s next.moves)) next.gives
      (way_moves n s next.moves can way))

  arrived : IsArrived d inputs t
  arrived = arrives d level_of clean.solvable inputs t end_way next.rest

  input_is : (i : ℕ) → IsTrue (is_input d i) → t.value i ≡ given_after n all i
  input_is i input = arrived.inputs i input ∙ ap (λ (v : Values). v i) (given_pairs n all)

  set_moves :
      (p r : ℕ) (active : Bit) (i k : ℕ) (constant : Bit) → IsReset d p r active i k constant →
      (u : State) (moves : List Move) → CanMoveTo d to u moves → IsOrderly d u → IsSet d p r active i k constant u →
      IsSet d p r active i k constant (move_all d u moves)
  set_moves p r active i k constant is u [] can' order set = set
  set_moves p r active i k constant is u (Take event ∷ moves) can' order set =
      set_moves p r active i k constant is (after d u event) moves can'.1 (orderly_after d clean.solvable.lawful u event can'.0 order)
      ((resets_set d clean.solvable.lawful p r active i k constant is).run u (event ∷ []) (can'.0, tt) order set)
  set_moves p r active i k constant is u (Give given' ∷ moves) can' order set =
      set_moves p r active i k constant is (offer u given') moves can'.1 (orderly_offer d u given' (wide_gifts d to given' can'.0) order)
      ((resets_set d clean.solvable.lawful p r active i k constant is).offer u given' set)

  -- ---- clocks and resets

  start : IsLevelStart d was s
  start =
      record {
        rest = known.rest;
        order = way.orderly;
        resolved = way.resolved;
        before = λ c clock.
            one_bit (s.value c) (was c) (known.wide c ∙ clock_bit d clean.synchronous c clock)
            (settled.shows c 0 (input_lasts d c clock.input));
      }

  drivers : AreDriven d t
  drivers = (driven_resolved d clean.solvable.lawful).alone t end_way.resolved

  at_end : (c i : ℕ) → IsClockOrReset d c → IsReached d c i → bit t.value i 0 ≡ to c
  at_end c i clock reached =
      ap (λ (l : List Bit). get_or l 0 X)
      (follows d clean.synchronous t end_way.orderly drivers next.rest.no_active c clock (to c)
      (bit_is c clock (t.value c) (end_way.orderly.steady.widths c) (input_is c clock.input)) i reached)

  before : (c i : ℕ) → IsClockOrReset d c → IsReached d c i → bit n i 0 ≡ was c
  before c i clock reached = reached_number d clean.synchronous f n n n known.solution c clock i reached

  to_known : (c : ℕ) → IsClockOrReset d c → is_unknown (to c) ≡ false
  to_known c clock =
      let size = clock_bit d clean.synchronous c clock in
      let wide = end_way.orderly.steady.widths c in
      known_at (given_after n all c) 0 (ap (λ (v : Values). has_unknown (v c)) (sym (given_pairs n all)) ∙ inputs_known c)
      (let long = ap length (input_is c clock.input) in omega (arith, size, wide, long))

  was_known : (c : ℕ) → IsClockOrReset d c → is_unknown (was c) ≡ false
  was_known c clock =
      let size = clock_bit d clean.synchronous c clock in
      let wide = known.solution.numbers.wide c in
      known_at (n c) 0 (known.solution.numbers.known c) (omega (arith, size, wide))

  abbrev new : Values
  new = numbers_of d f t.value

  numbers : AreNumbers d new
  numbers = are_numbers d f t.value

  -- ---- one process

  module _ (p : ℕ) (events : List Watched) (body : Actions) (is : doing_at d p ≡ Some (Edge' events body)) where
    item_same : (item : Watched) → IsItem d p events body item → item_bit new item ≡ item_bit t.value item
    item_same item here =
        let cone = item_in_cone d clean.synchronous p events body item here in
        let inside : 0 < widths d item.signal = let one = item_width d clean.synchronous p events body item here in omega (arith, one) in
        number_same d f t.value item.signal 0 inside
        (has_source d item.signal 0 (clean.solvable.sourced item.signal 0 inside (item_lasts d chains level_of clean p events body is item here)))
        (ap is_unknown (at_end cone.clock item.signal cone.is_clock cone.reached) ∙ to_known cone.clock cone.is_clock)

    -- what an item's signal goes to
    item_to : (item : Watched) → IsItem d p events body item → (c : ℕ) → IsClockOrReset d c → IsReached d c item.signal → item_bit new item ≡ to c
    item_to item here c clock reached = item_same item here ∙ at_end c item.signal clock reached

    no_clock : happens (chains p).clock.edge (item_bit n (chains p).clock) (item_bit new (chains p).clock) ≡ false
    no_clock =
        of_clock d chains level_of clean p events body is (λ (item : Watched). item ≡ (chains p).clock → happens (chains p).clock.edge (item_bit n (chains p).clock) (item_bit new (chains p).clock) ≡ false) (λ item here same.
        let cone = item_in_cone d clean.synchronous p events body item here in
        let reached : IsReached d cone.clock (chains p).clock.signal = subst (λ (x : Watched). IsReached d cone.clock x.signal) same cone.reached in
        let here' : IsItem d p events body (chains p).clock = subst (IsItem d p events body) same here in
        ap (λ (x : Bit). happens (chains p).clock.edge x (item_bit new (chains p).clock)) (before cone.clock (chains p).clock.signal cone.is_clock reached)
        ∙ ap (λ (x : Bit). happens (chains p).clock.edge (was cone.clock) x) (item_to (chains p).clock here' cone.clock cone.is_clock reached)
        ∙ step.no_clock p events body is cone.clock cone.is_clock reached) refl

    -- an item that doesn't fire
    abbrev IsQuietItem : Watched → Type 0
    IsQuietItem one =
        IsItem d p events body one → (c : ℕ) → IsClockOrReset d c → IsReached d c one.signal →
        happens one.edge (was c) (to c) ≡ false

    module _ (i k : ℕ) (may : MayWrite (body_flow (widths d) body) i k) (lasts : IsLasting d i) where
      kept : clocked_bit (widths d) f n new (chains p).clock (chains p).part i k ≡ bit n i k
      kept = cond-false (happens (chains p).clock.edge (item_bit n (chains p).clock) (item_bit new (chains p).clock)) (block_bit (widths d) f n (chains p).part i k) (bit n i k) no_clock

      -- an active reset gives its constant
      by_reset : (guard : Guard) → strongest new (chains p).resets ≡ Some guard → bit t.value i k ≡ block_bit (widths d) f n guard.branch i k
      by_reset guard found =
          set_at_rest d clean.solvable.lawful p r (level guard.item.edge) i k constant is_reset t next.rest
          (subst (IsSet d p r (level guard.item.edge) i k constant) next.leads
          (set_moves p r (level guard.item.edge) i k constant is_reset s next.moves can way.orderly set_before))
          (sym (item_same guard.item item) ∙ same_bits (bit new r 0) (level guard.item.edge) only.1)
        where
          only : ((chains p).resets ≡ guard ∷ []) × (is_active new guard.item ≡ true)
          only = only_one d chains level_of clean new (chains p).resets (clean.formed p events body is).one_reset guard found

          item : IsItem d p events body guard.item
          item = reset.item d chains level_of clean f p events body is guard only.0

          r : ℕ
          r = guard.item.signal

          constant : Bit
          constant = block_bit (widths d) f n guard.branch i k

          is_reset : IsReset d p guard.item.signal (level guard.item.edge) i k (block_bit (widths d) f n guard.branch i k)
          is_reset = reset.is_reset d chains level_of clean f p events body is guard only.0 n known.solution.numbers i k may lasts

          found_before : bit s.value guard.item.signal 0 ≡ level guard.item.edge → strongest n (chains p).resets ≡ Some guard
          found_before now =
              ap (strongest n) only.0
              ∙ cond-true (is_active n guard.item) (Some guard) None
              (ap (λ (x : Bit). same_bit x (level guard.item.edge)) (sym (settled.shows guard.item.signal 0 (item_lasts d chains level_of clean p events body is guard.item item)) ∙ now)
              ∙ reset.level_same guard.item.edge)

          set_before : IsSet d p guard.item.signal (level guard.item.edge) i k (block_bit (widths d) f n guard.branch i k) s
          set_before asleep now =
              due_rest s i k known.rest.no_active.updates known.rest.no_delayed
              ∙ settled.shows i k lasts
              ∙ known.resets p events body is guard (found_before now) i k may lasts

      -- without one nothing wakes the body
      unfired : strongest new (chains p).resets ≡ None → IsUnfired d was to p events body
      unfired none item here c clock reached =
          at_place IsQuietItem events
          (All-permutation IsQuietItem ((chains p).clock ∷ map (λ (guard : Guard). guard.item) (chains p).resets) events
          (IsPermutation-sym events ((chains p).clock ∷ map (λ (guard : Guard). guard.item) (chains p).resets) (clean.formed p events body is).chained.items)
          (All-cons IsQuietItem (chains p).clock (map (λ (guard : Guard). guard.item) (chains p).resets) clock_quiet (to_items IsQuietItem (chains p).resets resets_quiet)))
          here.place item here.there here c clock reached
        where
          clock_quiet : IsQuietItem (chains p).clock
          clock_quiet here' c' clock' reached' = step.no_clock p events body is c' clock' reached'

          inactive : (one : Watched) → is_active new one ≡ false → IsQuietItem one
          inactive one off here' c' clock' reached' =
              no_edge_away one.edge (was c') (to c') (clean.synchronous.edges p events body one here') (was_known c' clock') (to_known c' clock')
              (ap (λ (x : Bit). same_bit x (level one.edge)) (sym (item_to one here' c' clock' reached')) ∙ off)

          each_inactive : (resets : List Guard) → All (λ (guard : Guard). is_active new guard.item ≡ false) resets → All (λ (guard : Guard). IsQuietItem guard.item) resets
          each_inactive [] off = All-nil (λ (guard : Guard). IsQuietItem guard.item)
          each_inactive (guard ∷ resets) off =
              All-cons (λ (one : Guard). IsQuietItem one.item) guard resets
              (inactive guard.item (All-head (λ (one : Guard). is_active new one.item ≡ false) guard resets off))
              (each_inactive resets (All-tail (λ (one : Guard). is_active new one.item ≡ false) guard resets off))

          resets_quiet : All (λ (guard : Guard). IsQuietItem guard.item) (chains p).resets
          resets_quiet = each_inactive (chains p).resets (none_active new (chains p).resets none)

      stays : strongest new (chains p).resets ≡ None → bit t.value i k ≡ bit n i k
      stays none =
          sym (due_rest t i k next.rest.no_active.updates next.rest.no_delayed)
          ∙ ap (λ (u : State). due_bit u i k) (sym next.leads)
          ∙ unfired_due d clean.synchronous was to s start next.moves can p events body is (unfired none) i k may
          ∙ due_rest s i k known.rest.no_active.updates known.rest.no_delayed
          ∙ settled.shows i k lasts

      register_bit_is : bit t.value i k ≡ register_bit (widths d) f n new (chains p) i k
      register_bit_is = by_guard (strongest new (chains p).resets) refl
        where
          by_guard : (o : Option Guard) → strongest new (chains p).resets ≡ o → bit t.value i k ≡ reset_bit (widths d) f n o (clocked_bit (widths d) f n new (chains p).clock (chains p).part i k) i k
          by_guard None e = stays e ∙ sym kept
          by_guard (Some guard) e = by_reset guard e

      bit_known : k < widths d i → is_unknown (bit t.value i k) ≡ false
      bit_known inside = by_guard (strongest new (chains p).resets) refl
        where
          by_guard : (o : Option Guard) → strongest new (chains p).resets ≡ o → is_unknown (bit t.value i k) ≡ false
          by_guard None e =
              let size = known.solution.numbers.wide i in
              ap is_unknown (stays e) ∙ known_at (n i) k (known.solution.numbers.known i) (omega (arith, size, inside))
          by_guard (Some guard) e =
              let only = only_one d chains level_of clean new (chains p).resets (clean.formed p events body is).one_reset guard e in
              ap is_unknown (by_reset guard e)
              ∙ block_known d f n guard.branch i k known.solution.numbers (reset.branch d chains level_of clean f p events body is guard only.0).lawful inside

  -- ---- the numbers that follow

  -- no gate is set
  apart : (g : ℕ) (u : State) (moves : List Move) → CanMoveTo d to u moves → All (λ (one : ℕ × List Bit). one.0 ≢ g) (gifts moves) → CanMoveApart d g u moves
  apart g u [] can' left = tt
  apart g u (Take event ∷ moves) can' left = (can'.0, apart g (after d u event) moves can'.1 left)
  apart g u (Give given' ∷ moves) can' left = (
    (wide_gifts d to given' can'.0, all_front (λ one. one.0 ≢ g) given' (gifts moves) left),
    apart g (offer u given') moves can'.1 (all_back (λ one. one.0 ≢ g) given' (gifts moves) left),
  )

  -- so closed latches hold
  latch_holds : (i k : ℕ) → IsHeldBit d t.value i k → bit t.value i k ≡ bit n i k
  latch_holds i k is =
      let g = is.latch.gate.input in
      let gate = latch_gate d i k is.latch in
      let left = gates_left d all step.ungated g gate in
      let same : t.value g ≡ n g = arrived.inputs g (gate_is_input d g gate) ∙ given_left n g all left in
      ap (λ (u : State). bit u.value i k) (sym next.leads)
      ∙ held_moves d chains level_of clean i k is.latch f s n settled (still_closed d t.value n i k is same) [] (tt, All-nil (λ (one : ℕ × List Bit). one.0 ≢ g))
      next.moves (apart g s next.moves can (subst (λ (gifts' : List (ℕ × List Bit)). All (λ (one : ℕ × List Bit). one.0 ≢ g) gifts') (sym next.gives) (leaves_pairs g all left)))
      ∙ settled.shows i k is.latch.lasting

  given_are : AreGiven d t.value
  given_are =
      record {
        inputs = λ i input. ap has_unknown (arrived.inputs i input) ∙ inputs_known i;
        registers = λ i k register.
            bit_known register.process register.events register.body register.does i k register.may register.lasting (register_inside d level_of clean.solvable i k register);
        latches = λ i k is.
            let size = known.solution.numbers.wide i in
            let inside = latch_inside d level_of clean.solvable i k is.latch in
            ap is_unknown (latch_holds i k is) ∙ known_at (n i) k (known.solution.numbers.known i) (omega (arith, size, inside));
      }

  all_followed : IsFollowed d f n t.value t new
  all_followed =
      followed.followed d level_of clean.solvable f inputs t.value t arrived given_are (λ i input. sym (arrived.inputs i input))
      (λ i k register. refl) (λ i k is. refl) n known.solution.numbers (λ i k is. sym (latch_holds i k is))

  cycle : IsCycleAtOnce d chains f n all new
  cycle =
      let solution = all_followed.solution in
      record {
        inputs = λ i input. solution.inputs i input ∙ input_is i input;
        registers = λ p events body is i k may lasts.
            solution.kept i k (record { process = p; events = events; body = body; does = is; may = may; lasting = lasts })
            ∙ register_bit_is p events body is i k may lasts;
        rest = record {
          numbers = solution.numbers;
          inputs = λ i input. refl;
          kept = λ i k register. refl;
          assigns = solution.assigns;
          blocks = solution.blocks;
          others = solution.others;
        };
      }

  resets_hold : AreReset d chains f new
  resets_hold p events body is guard found i k may lasts =
      cycle.registers p events body is i k may lasts
      ∙ ap (λ (o : Option Guard). reset_bit (widths d) f n o (clocked_bit (widths d) f n new (chains p).clock (chains p).part i k) i k) found
      ∙ strongest_constant d chains level_of clean p events body is f new n new known.solution.numbers numbers guard found i k may lasts

  after_step : IsSettledKnown d chains f t new
  after_step = settled_known d chains f t new all_followed.settled resets_hold

  pub at_once : IsFollowedAtOnce d chains f n all t
  at_once =
      record {
        next = new;
        follows = cycle;
        alone = λ other. at_once_alone d chains level_of clean f n known.solution known.resets all step new other cycle;
        in_turn = in_turn_at_once d chains level_of clean f n known.solution known.resets all step new cycle;
        settled = after_step;
        shows = shows_all d chains f t new after_step;
      }

pub unfired_agrees : (d : Flat) (chains : ℕ → Chain) (level_of : ℕ → ℕ) → IsCleanClocked d chains level_of → (f : Fill) → UnfiredAgree d chains f
unfired_agrees d chains level_of clean f =
    record { agrees = λ s n known all step t next. at_once d chains level_of clean f s n known all step t next }
