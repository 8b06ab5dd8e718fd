-- At the end of a step of one clock or reset a register has what its body asked for, if an event of the body came, from the
-- values before it.
use Rattle.std.proofs.Common.{◌≡◌, ◌≢◌, ◌∙◌, ◌||◌, ◌==◌, ◌<◌, ◌++◌, ℕ, zero, suc, Bool, true, false, List, [], ◌∷◌, Some, length, get_or, refl, sym, ap, subst, inl, inr, arith}
use Rattle.std.specs.Prelude.{if◌then◌else◌, is_some}
use Rattle.std.specs.List.{slice_get}
use Rattle.std.proofs.lemmas.Bool.{and_from, cases_Bool, cases_eq, eq-eqb, false≢true, ne_eqb, or_left, or_right}
use Rattle.rtl_bits.specs.declared.Bit.{Bit}
use Rattle.rtl_bits.specs.declared.Bit.TheVariants.{X}
use Rattle.rtl_flat.specs.Flows.{body_flow, may_select}
use Rattle.rtl_flat.specs.Paths.{MayWrite, ReadsOutside}
use Rattle.rtl_flat.specs.PathSets.{items_list}
use Rattle.rtl_flat.specs.Process.{Watched, Actions, Edge'}
use Rattle.event_model.specs.Bodies.{body_made}
use Rattle.event_model.specs.Queue.{State, Event, Input, Evaluate, Update, Run, Delayed, Activate, CanRun, IsAtRest, IsThere, after, doing_at, happens, run}
use Rattle.rtl_flat.specs.Flats.{Flat, widths}
use Rattle.event_model.specs.Traces.{FollowsPath, Same}
use Rattle.event_model.specs.Writes.{Values}
use Rattle.event_runs.specs.event_laws.Steady.{HaveWidths}
use Rattle.net_model.specs.Control.{InClockCone, IsReached}
use Rattle.net_model.specs.Numbers.{bit}
use Rattle.net_model.specs.Solution.{IsLasting}
use Rattle.event_runs.proofs.event_laws_proofs.Laws.{depends, outside_inside}
use Rattle.event_runs.specs.Effects.{delayed_after, laters, run_made}
use Rattle.event_runs.specs.Plain.{ran_by}
use Rattle.event_runs.proofs.Laws.{effect}
use Rattle.event_edges.specs.Laws.{HaveTaken}
use Rattle.event_edges.specs.Moves.{IsBeside}
use Rattle.event_edges.specs.Quiet.{IsQuietRun}
use Rattle.event_edges.specs.Registers.{updates_bit}
use Rattle.event_edges.specs.Synchronous.{IsItem, IsSynchronous}
use Rattle.event_edges.specs.Turned.{IsClockedTemporary, IsEdgeStart, IsTurn, IsTurning, fires, found_at, item_fires, set_to, IsTurnedAt}
use Rattle.event_edges.proofs.Cone.{item_fixed, item_in_cone, item_reached, item_whole, item_width, listed_item, reached_apart, unread_outside}
use Rattle.event_edges.proofs.Due.{due_rest, its_sole, not_others, of_body}
use Rattle.event_edges.proofs.Going.{IsGoing, IsSplit, all_turned, is_turn, split, split_beside, starts}
use Rattle.event_edges.proofs.Hearing.{any_same, falsely, find, happens_same, or_none}
use Rattle.event_edges.proofs.Ports.{one_bit}
use Rattle.event_edges.proofs.Registers.{choose, not_over, refuse, updates_append}
use Rattle.event_edges.proofs.Turning.{fires_between, unfired, whole_selected}

-- a bit of an item is listed
items_at : (ws : ℕ → ℕ) (list : List Watched) (place : ℕ) (x : Watched) (i k : ℕ) → slice_get list place ≡ Some x → may_select ws x.signal x.selection i k ≡ true → items_list ws list i k ≡ true
items_at ws [] place x i k there h = absurd (cc)
items_at ws (y ∷ list) zero x i k there h =
    let same : y ≡ x = cc in
    or_left (may_select ws y.signal y.selection i k) (items_list ws list i k) (ap (λ (z : Watched). may_select ws z.signal z.selection i k) same ∙ h)
items_at ws (y ∷ list) (suc place) x i k there h =
    or_right (may_select ws y.signal y.selection i k) (items_list ws list i k) (items_at ws list place x i k there h)

either_wide : (b : Bool) (x y : List Bit) (n : ℕ) → length x ≡ n → length y ≡ n → length (if b then x else y) ≡ n
either_wide true x y n left right = left
either_wide false x y n left right = right

module _ (d : Flat) (sync : IsSynchronous d) (c : ℕ) (a b : Bit) where
  -- ---- what a woken body finds

  module _ (old : Values) (turn : IsTurn d c a b old) (p : ℕ) (list : List Watched) (body : Actions) (is : doing_at d p ≡ Some (Edge' list body)) (ran : ℕ → Bool) (s : State) (h : IsTurning d c a b old ran s) (woken : s.woken p ≡ true) where
    -- its clock or reset that comes from the input has turned
    has_turned : (x : Watched) → IsItem d p list body x → IsReached d c x.signal → s.value x.signal ≡ b ∷ []
    has_turned x item reached =
        let came = find (item_fires old s.value) list (h.fired p list body is ∙ or_left (s.woken p) (ran p) woken) in
        let first : IsItem d p list body came.item = record { does = is; place = came.place; there = came.there } in
        elim (item_reached d sync p list body came.item first c turn.clock.input) [
          | inl r ↦
              let same = sync.once p list body came.item x first item c turn.clock.input r reached in
              elim (h.behind came.item.signal r) [
                | inl e ↦
                    absurd (false≢true (sym (fires_between old s.value came.item a a (turn.before came.item.signal r) e ∙ happens_same came.item.edge a) ∙ came.passes))
                | inr e ↦ ap s.value (sym same) ∙ e
              ]
          | inr apart ↦
              absurd (false≢true (sym (unfired d sync c a b old turn ran s h p list body came.item first apart) ∙ came.passes))
        ]

    module _ (new : Values) (turned : (i : ℕ) → IsReached d c i → bit new i 0 ≡ b) (others : (x : Watched) → IsItem d p list body x → (IsReached d c x.signal → ⊥) → Same new old x.signal 0) (i k : ℕ) (reads : ReadsOutside (body_flow (widths d) body) i k) where
      lasts : IsClockedTemporary d i → ⊥
      lasts t = unread_outside d t.process i t.of_process p (Edge' list body) is k reads

      at_item : (x : Watched) → IsItem d p list body x → i ≡ x.signal → Same new s.value i k
      at_item x item same =
          let inside : k < widths d i = outside_inside d body i k (sync.lawful p (Edge' list body) is).2 reads in
          let one : widths d i ≡ 1 = ap (widths d) same ∙ item_width d sync p list body x item in
          let first : k ≡ 0 = omega (arith, inside, one) in
          let at_first : Same new s.value x.signal 0 =
          elim (item_reached d sync p list body x item c turn.clock.input) [
            | inl r ↦ turned x.signal r ∙ sym (ap (λ l. get_or l 0 X) (has_turned x item r))
            | inr apart ↦
                others x item apart ∙ sym (h.kept x.signal 0 apart (λ t. item_fixed d sync p list body x item t.of_process.variable))
          ] in
          subst (λ j. Same new s.value j k) (sym same) (subst (λ n. Same new s.value x.signal n) (sym first) at_first)

      apart : items_list (widths d) list i 0 ≡ false → IsReached d c i → ⊥
      apart none reached =
          let one = listed_item (widths d) list i k (sync.tests p list body is i k (record { clock = c; is_clock = turn.clock; reached = reached }) reads) in
          let item : IsItem d p list body one.item = record { does = is; place = one.place; there = one.there } in
          false≢true (sym none
          ∙ items_at (widths d) list one.place one.item i 0 one.there
          (whole_selected (widths d) one.item.signal one.item.selection i (item_whole d sync p list body one.item item) one.same (item_width d sync p list body one.item item)))

      pub finds : Same (found_at (widths d) list old new) s.value i k
      finds =
          elim (cases_Bool (items_list (widths d) list i 0)) [
            | inl listed ↦
                let one = listed_item (widths d) list i 0 listed in
                ap (λ l. get_or l k X) (choose (items_list (widths d) list i 0) (new i) (old i) listed)
                ∙ at_item one.item (record { does = is; place = one.place; there = one.there }) one.same
            | inr none ↦
                ap (λ l. get_or l k X) (refuse (items_list (widths d) list i 0) (new i) (old i) none)
                ∙ sym (h.kept i k (apart none) lasts)
          ]

  -- ---- the end

  module _ (s0 : State) (start : IsEdgeStart d c a b s0) (t : State) where
    module _ (Inv : (ℕ → Bool) → State → Type 0) (parts : IsSplit d sync c a b s0.value (is_turn d sync c a b s0 start) Inv t) where
      behind : IsQuietRun d parts.next t
      behind = parts.ends.behind

      pub cone_same : (i k : ℕ) → InClockCone d i → Same t.value parts.last.value i k
      cone_same i k cone =
          behind.cone i k cone ∙ ap (λ (v : Values). get_or (v i) k X) parts.value

      pub wide : HaveWidths d t.value
      wide = behind.order.steady.widths

      pub turned : (i : ℕ) → IsReached d c i → bit t.value i 0 ≡ b
      turned i reached =
          cone_same i 0 (record { clock = c; is_clock = start.clock; reached = reached })
          ∙ ap (λ l. get_or l 0 X) (all_turned d sync c a b s0.value (is_turn d sync c a b s0 start) parts.ran parts.last parts.going parts.still i reached)

      module _ (p : ℕ) (list : List Watched) (body : Actions) (is : doing_at d p ≡ Some (Edge' list body)) where
        pub others : (x : Watched) → IsItem d p list body x → (IsReached d c x.signal → ⊥) → Same t.value s0.value x.signal 0
        others x item apart =
            cone_same x.signal 0 (item_in_cone d sync p list body x item)
            ∙ parts.going.turning.kept x.signal 0 apart (λ m. item_fixed d sync p list body x item m.of_process.variable)

        -- an event of the body came just where it has run
        fired : fires s0.value t.value list ≡ parts.ran p
        fired =
            any_same (item_fires s0.value t.value) (item_fires s0.value parts.last.value) list
            (λ place x there.
            ap (happens x.edge (bit s0.value x.signal 0)) (cone_same x.signal 0 (item_in_cone d sync p list body x (record { does = is; place = place; there = there }))))
            ∙ parts.going.turning.fired p list body is
            ∙ ap (λ y. y || parts.ran p) (parts.still.processes p (ap is_some is))

    -- ---- one register bit

    module _ (p : ℕ) (list : List Watched) (body : Actions) (is : doing_at d p ≡ Some (Edge' list body)) (i k : ℕ) (may : MayWrite (body_flow (widths d) body) i k) (aim : Values) where
      -- what is asked for
      abbrev made : Bit → Bit
      made x = updates_bit i k (laters (body_made (widths d) aim body)) x

      -- what is delayed for the bit: nothing until the body has run, and then what it asked for
      abbrev Asked : (ℕ → Bool) → State → Type 0
      Asked ran s = (x : Bit) → updates_bit i k s.delayed x ≡ (if ran p then made x else x)

      module _ (follows : FollowsPath (widths d) aim body) (wide_aim : HaveWidths d aim) (agrees : (ran : ℕ → Bool) (s : State) → IsTurning d c a b s0.value ran s → s.woken p ≡ true → (j n : ℕ) → ReadsOutside (body_flow (widths d) body) j n → Same aim s.value j n) where
        module _ (ran : ℕ → Bool) (s : State) (going : IsGoing d c a b s0.value ran s) (asked : Asked ran s) where
          stays : (x : Bit) → updates_bit i k s.delayed x ≡ (if (ran p || false) then made x else x)
          stays x = asked x ∙ ap (λ (z : Bool). if z then made x else x) (sym (or_none (ran p)))

          runs_now : (q : ℕ) → s.woken q ≡ true → (x : Bit) → updates_bit i k (s.delayed ++ laters (run_made d s.value (doing_at d q))) x ≡ (if (ran p || (p == q)) then made x else x)
          runs_now q woken x =
              updates_append i k s.delayed (laters (run_made d s.value (doing_at d q))) x
              ∙ elim (cases_eq p q) [
                | inl same ↦
                    let here : s.woken p ≡ true = ap s.woken same ∙ woken in
                    let fresh = falsely (ran p) (λ did. false≢true (sym (going.turning.once p list body is) ∙ and_from (s.woken p) (ran p) here did)) in
                    let alike = depends d aim s.value body wide_aim going.order.steady.widths (sync.lawful p (Edge' list body) is).2 follows (agrees ran s going.turning here) in
                    ap (λ o. updates_bit i k (laters (run_made d s.value o)) (updates_bit i k s.delayed x)) (ap (doing_at d) (sym same) ∙ is)
                    ∙ ap (λ ms. updates_bit i k (laters ms) (updates_bit i k s.delayed x)) (sym alike.made)
                    ∙ ap (λ y. made y) (asked x ∙ refuse (ran p) (made x) x fresh)
                    ∙ sym (choose (ran p || (p == q)) (made x) x (or_right (ran p) (p == q) (eq-eqb p q same)))
                | inr other ↦
                    not_over i k (laters (run_made d s.value (doing_at d q))) (updates_bit i k s.delayed x) (falsely _ (not_others d sync.lawful p list body is i k (of_body d sync p list body is i k may) (its_sole d sync p list body is i k may) s q (λ same. other (sym same)) (doing_at d q) refl))
                    ∙ asked x
                    ∙ ap (λ (z : Bool). if z then made x else x) (sym (ap (λ y. ran p || y) (ne_eqb p q other) ∙ or_none (ran p)))
              ]

          by_event : (event : Event) → IsThere d s event → event ≢ Activate → (x : Bit) → updates_bit i k (delayed_after d s event) x ≡ (if ran_by ran event p then made x else x)
          by_event (Input j) there active x = stays x
          by_event (Evaluate q) there active x = stays x
          by_event (Update q) there active x = stays x
          by_event (Run q) there active x = runs_now q there.1 x
          by_event Delayed there active x = absurd (there going.turning.activated)
          by_event Activate there active x = absurd (active refl)

        keeps : (ran : ℕ → Bool) (s : State) (event : Event) → IsGoing d c a b s0.value ran s → IsThere d s event → event ≢ Activate → Asked ran s → Asked (ran_by ran event) (after d s event)
        keeps ran s event going there active asked x =
            ap (λ us. updates_bit i k us x) (effect d s event there).delayed ∙ by_event ran s going asked event there active x

        -- what the bit comes to
        comes :
            (parts : IsSplit d sync c a b s0.value (is_turn d sync c a b s0 start) Asked t) → IsAtRest d t → IsLasting d i →
            bit t.value i k ≡ (if fires s0.value t.value list then made (bit s0.value i k) else bit s0.value i k)
        comes parts rest lasting =
            let before = parts.going.turning.kept i k (λ reached. reached_apart d sync c start.clock.input i reached (of_body d sync p list body is i k may)) (λ m. lasting (record { process = m.process; of_process = m.of_process })) in
            sym (due_rest t i k rest.no_active.updates rest.no_delayed)
            ∙ parts.ends.due p list body is i k may
            ∙ parts.due i k
            ∙ parts.inv (bit parts.last.value i k)
            ∙ ap (λ y. if parts.ran p then made y else y) before
            ∙ ap (λ (z : Bool). if z then made (bit s0.value i k) else bit s0.value i k) (sym (fired Asked parts p list body is))

  -- ---- steps

  -- how a step is split, for each condition that events keep up to the activation
  module _ (s : State) (start : IsEdgeStart d c a b s) (t : State) (rest : IsAtRest d t) (parts : (Inv : (ℕ → Bool) → State → Type 0) → ((ran : ℕ → Bool) (u : State) (event : Event) → IsGoing d c a b s.value ran u → IsThere d u event → event ≢ Activate → Inv ran u → Inv (ran_by ran event) (after d u event)) → Inv (λ q. false) (set_to s c b) → IsSplit d sync c a b s.value (is_turn d sync c a b s start) Inv t) where
    one : IsSplit d sync c a b s.value (is_turn d sync c a b s start) (λ ran u. Unit {0}) t
    one = parts (λ ran u. Unit {0}) (λ ran u event g there active inv. tt) tt

    turn : IsTurn d c a b s.value
    turn = is_turn d sync c a b s start

    turned_cone : IsTurnedAt d c b s t
    turned_cone =
        record {
          turned = λ i reached.
              one_bit (t.value i) b (wide s start t (λ ran u. Unit {0}) one i ∙ sym (turn.wide i) ∙ ap length (turn.before i reached))
              (turned s start t (λ ran u. Unit {0}) one i reached);
          others = λ i k cone apart.
              cone_same s start t (λ ran u. Unit {0}) one i k cone
              ∙ one.going.turning.kept i k apart (λ m. reached_apart d sync cone.clock cone.is_clock.input i cone.reached m.of_process.variable);
        }

    taken : HaveTaken d s t
    taken p list body is path i k may lasting =
        let old = s.value in
        let aim = found_at (widths d) list old t.value in
        let wide_aim : HaveWidths d aim = λ j. either_wide (items_list (widths d) list j 0) (t.value j) (old j) (widths d j) (wide s start t (λ ran u. Unit {0}) one j) (turn.wide j) in
        let agrees = λ (ran : ℕ → Bool) (u : State) (h : IsTurning d c a b old ran u) (woken : u.woken p ≡ true) (j n : ℕ) (reads : ReadsOutside (body_flow (widths d) body) j n). finds old turn p list body is ran u h woken t.value (turned s start t (λ ran' u'. Unit {0}) one) (others s start t (λ ran' u'. Unit {0}) one p list body is) j n reads in
        let asked : Asked s start t p list body is i k may aim (λ q. false) (set_to s c b) = λ x. ap (λ us. updates_bit i k us x) start.rest.no_delayed in
        let two = parts (Asked s start t p list body is i k may aim) (keeps s start t p list body is i k may aim path wide_aim agrees) asked in
        comes s start t p list body is i k may aim path wide_aim agrees two rest lasting

  module _ (s : State) (start : IsEdgeStart d c a b s) (events : List Event) (can : CanRun d (set_to s c b) events) (t : State) (leads : run d (set_to s c b) events ≡ t) (rest : IsAtRest d t) where
    parts_of :
        (Inv : (ℕ → Bool) → State → Type 0) →
        ((ran : ℕ → Bool) (u : State) (event : Event) → IsGoing d c a b s.value ran u → IsThere d u event → event ≢ Activate → Inv ran u → Inv (ran_by ran event) (after d u event)) →
        Inv (λ q. false) (set_to s c b) → IsSplit d sync c a b s.value (is_turn d sync c a b s start) Inv t
    parts_of Inv kept first =
        subst (IsSplit d sync c a b s.value (is_turn d sync c a b s start) Inv) leads
        (split d sync c a b s.value (is_turn d sync c a b s start) Inv kept (λ q. false) (set_to s c b) events (starts d sync c a b s start) first can
        (subst (IsAtRest d) (sym leads) rest))

    pub cone_turns : IsTurnedAt d c b s t
    cone_turns = turned_cone s start t rest parts_of

    pub at_edge : HaveTaken d s t
    at_edge = taken s start t rest parts_of

  module _ (s : State) (start : IsEdgeStart d c a b s) (t : State) (way : IsBeside d (set_to s c b) t) (rest : IsAtRest d t) where
    parts_beside :
        (Inv : (ℕ → Bool) → State → Type 0) →
        ((ran : ℕ → Bool) (u : State) (event : Event) → IsGoing d c a b s.value ran u → IsThere d u event → event ≢ Activate → Inv ran u → Inv (ran_by ran event) (after d u event)) →
        Inv (λ q. false) (set_to s c b) → IsSplit d sync c a b s.value (is_turn d sync c a b s start) Inv t
    parts_beside Inv kept first =
        split_beside d sync c a b s.value (is_turn d sync c a b s start) Inv kept (λ q. false) (set_to s c b) t way (starts d sync c a b s start) first

    pub turned_beside : IsTurnedAt d c b s t
    turned_beside = turned_cone s start t rest parts_beside

    pub taken_beside : HaveTaken d s t
    taken_beside = taken s start t rest parts_beside
