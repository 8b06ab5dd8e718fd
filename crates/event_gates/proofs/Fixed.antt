-- An input that isn't set keeps what is reached from it, and latches that it closes hold.
use Rattle.std.proofs.Common.{◌≡◌, ◌≢◌, ◌∙◌, ◌++◌, ◌||◌, ℕ, true, false, List, [], ◌∷◌, Option, None, Some, refl, sym, ap, subst, inl, inr}
use Rattle.std.specs.Prelude.{IsTrue, is_some}
use Rattle.std.specs.List.{All}
use Rattle.std.proofs.lemmas.Bool.{cases_eq, false≢true}
use Rattle.std.proofs.lemmas.List.{ext_get_or}
use Rattle.std.proofs.lemmas.List.Elements.{All-cons, All-head, All-nil, All-tail}
use Rattle.rtl_bits.specs.declared.Bit.{Bit}
use Rattle.rtl_bits.specs.declared.Bit.TheVariants.{X}
use Rattle.rtl_flat.specs.Expression.{Tree}
use Rattle.rtl_flat.specs.Flows.{flow_of}
use Rattle.rtl_flat.specs.Paths.{MayWrite, MayWriteLate}
use Rattle.rtl_flat.specs.PathSets.{OfProcess}
use Rattle.rtl_flat.specs.Process.{Piece, Doing, Assign, Comb, Edge'}
use Rattle.rtl_flat.specs.Signs.{Has}
use Rattle.rtl_flat.specs.declared.signal.Kind.TheVariants.{Net}
use Rattle.event_model.specs.Queue.{State, Event, Input, Evaluate, Update, Run, Delayed, Activate, CanRun, HasNoActive, IsAtRest, IsThere, after, doing_at, doing_of, is_assignment, is_body, is_input, offer, run}
use Rattle.rtl_flat.specs.Flats.{Flat, widths}
use Rattle.event_model.specs.Traces.{Same}
use Rattle.event_model.specs.Writes.{Values, all_written, put}
use Rattle.event_edges.specs.event_laws.Steady.{AreLawful}
use Rattle.event_edges.proofs.event_laws_proofs.Lengths.{put_other}
use Rattle.net_model.specs.Control.{IsReached, Itself, Through, whole_of}
use Rattle.net_model.specs.Numbers.{bit}
use Rattle.event_edges.specs.event_runs.Effects.{IsEffect, evaluates, event_writes, is_heard, nows, run_made, runs, takes, updates}
use Rattle.event_edges.specs.event_runs.Nets.{offered_after}
use Rattle.event_edges.specs.event_runs.Writers.{CanWrite, IsOrderly}
use Rattle.event_edges.proofs.event_runs_proofs.Laws.{effect, offer_leaves, orderly_after, orderly_offer, untouched}
use Rattle.event_edges.proofs.event_runs_proofs.May.{process_late, process_now}
use Rattle.event_edges.proofs.event_runs_proofs.Signals.{body_variable, late_variable, net_input, net_variable, target_may, target_net, variable_input}
use Rattle.event_edges.proofs.event_runs_proofs.Writers.{assign_may, event_over, event_within, from_process, of_process, to_process}
use Rattle.event_edges.specs.Moves.{Activated, CanMove, Give, IsActivated, IsBeside, Move, NoneThere, Take, gifts, move_all, moved}
use Rattle.event_edges.proofs.Cone.{whole_bit}
use Rattle.event_edges.proofs.Hearing.{falsely}
use Rattle.event_edges.proofs.Moves.{set_wide}
use Rattle.event_edges.proofs.Quiet.{if_false, if_none, not_evaluated, some_heard}
use Rattle.event_gates.specs.Fixed.{CanMoveApart, IsFixed, IsFixedRun, IsMoveApart, IsReachedTarget, IsShutBit, SetsOthers}
use Rattle.event_gates.specs.Gates.{AreFed}

-- ---- gifts

module _ (P : ℕ × List Bit → Type 0) where
  pub all_front : (first second : List (ℕ × List Bit)) → All P (first ++ second) → All P first
  all_front [] second all = All-nil P
  all_front (one ∷ first) second all =
      All-cons P one first (All-head P one (first ++ second) all) (all_front first second (All-tail P one (first ++ second) all))

  pub all_back : (first second : List (ℕ × List Bit)) → All P (first ++ second) → All P second
  all_back [] second all = all
  all_back (one ∷ first) second all = all_back first second (All-tail P one (first ++ second) all)

-- moves that give data leave an input that isn't among these
moves_apart : (d : Flat) (c : ℕ) (s : State) (moves : List Move) → CanMove d s moves → All (λ (one : ℕ × List Bit). one.0 ≢ c) (gifts moves) → CanMoveApart d c s moves
moves_apart d c s [] can others = tt
moves_apart d c s (Take event ∷ moves) can others = (can.0, moves_apart d c (after d s event) moves can.1 others)
moves_apart d c s (Give step ∷ moves) can others = (
  (set_wide d step can.0, all_front (λ one. one.0 ≢ c) step (gifts moves) others),
  moves_apart d c (offer s step) moves can.1 (all_back (λ one. one.0 ≢ c) step (gifts moves) others),
)

module _ (d : Flat) (lawful : AreLawful d) where
  -- ---- what is offered

  -- an input is reached from itself alone
  reached_input : (c i : ℕ) → IsReached d c i → IsTrue (is_input d i) → i ≡ c
  reached_input c _ Itself input = refl
  reached_input c _ (Through i j reached passed) input =
      absurd (net_input d j net input)
    where
      does : doing_at d passed.process ≡ Some (Assign (whole_of j passed.connection.spot) passed.value)
      does = ap doing_of passed.connection.there ∙ ap Some passed.connection.does

      net : Has (λ s. s.kind ≡ Net) d.signals j
      net =
          target_net d lawful passed.process (whole_of j passed.connection.spot) passed.value does j 0
          (whole_bit (widths d) j passed.connection.spot passed.port_bit)

  not_offered : (c : ℕ) (offered : ℕ → Option (List Bit)) (step : List (ℕ × List Bit)) → SetsOthers d c step → offered_after offered step c ≡ offered c
  not_offered c offered [] others = refl
  not_offered c offered ((i, bits) ∷ step) others =
      let first = All-head (λ (one : ℕ × List Bit). one.0 ≡ c → ⊥) (i, bits) step others.1 in
      not_offered c (put offered i (Some bits)) step (others.0.1, All-tail (λ (one : ℕ × List Bit). one.0 ≡ c → ⊥) (i, bits) step others.1)
      ∙ put_other offered i c (Some bits) (λ same. first (sym same))

  fixed_offer : (c : ℕ) (s : State) → IsFixed d c s → (step : List (ℕ × List Bit)) → SetsOthers d c step → IsFixed d c (offer s step)
  fixed_offer c s fixed step others =
      subst (IsFixed d c) (sym (offer_leaves d s step))
      (record {
        offered = λ i input reached.
            let same = reached_input c i reached input in
            ap (offered_after s.offered step) same ∙ not_offered c s.offered step others ∙ ap s.offered (sym same) ∙ fixed.offered i input reached;
        ports = fixed.ports;
        pending = fixed.pending;
      })

  pub rest_fixed : (c : ℕ) (s : State) → IsAtRest d s → (step : List (ℕ × List Bit)) → SetsOthers d c step → IsFixed d c (offer s step)
  rest_fixed c s rest step others =
      fixed_offer c s
      (record {
        offered = λ i input reached. rest.no_active.inputs i input;
        ports = λ p target e is reaches. rest.no_active.processes p (ap is_some is);
        pending = λ p target e is reaches. rest.no_active.drivers p (ap is_assignment is);
      }) step others

  module _ (c : ℕ) (fed : AreFed d c) where
    -- ---- who writes

    -- no body may write what is reached
    no_body : (p : ℕ) → is_body (doing_at d p) ≡ true → (i k : ℕ) → OfProcess MayWrite d.signals d.tasks p i k → IsReached d c i → ⊥
    no_body p body i k may reached =
        let (does, is, writes) = of_process MayWrite d p i k may in
        by does is writes (ap is_body (sym is) ∙ body)
      where
        by : (does : Doing) → doing_at d p ≡ Some does → MayWrite (flow_of (widths d) does) i k → is_body (Some does) ≡ true → ⊥
        by (Assign target e) is writes body = false≢true body
        by (Comb list body') is writes body = fed p (Comb list body') is i k reached writes
        by (Edge' events body') is writes body = fed p (Edge' events body') is i k reached writes

    -- nor a nonblocking update
    no_update : (q i k : ℕ) → OfProcess MayWriteLate d.signals d.tasks q i k → IsReached d c i → ⊥
    no_update q i k late reached =
        let (does, is, writes) = of_process MayWrite d q i k (process_late d q i k late) in
        by does is writes
      where
        by : (does : Doing) → doing_at d q ≡ Some does → MayWrite (flow_of (widths d) does) i k → ⊥
        by (Assign target e) is writes =
            net_variable d i
            (target_net d lawful q target e is i k (target_may d lawful q target e is i k (to_process MayWrite d q i k (Assign target e) is writes)))
            (late_variable d lawful q i k late)
        by (Comb list body) is writes = fed q (Comb list body) is i k reached writes
        by (Edge' events body) is writes = fed q (Edge' events body) is i k reached writes

    module _ (s : State) (order : IsOrderly d s) (fixed : IsFixed d c s) where
      -- no event may write what is reached
      leaves : (event : Event) → IsThere d s event → (i k : ℕ) → CanWrite d event i k → IsReached d c i → ⊥
      leaves (Input j) there i k same reached =
          false≢true (sym (ap is_some (fixed.offered j there.0 (subst (IsReached d c) same reached))) ∙ there.1)
      leaves (Evaluate p) there i k can reached = can
      leaves (Update p) there i k can reached = by (doing_at d p) refl there.0
        where
          by : (o : Option Doing) → doing_at d p ≡ o → is_assignment o ≡ true → ⊥
          by None is assigns = false≢true assigns
          by (Some (Comb list body)) is assigns = false≢true assigns
          by (Some (Edge' events body)) is assigns = false≢true assigns
          by (Some (Assign target e)) is assigns =
              let none = fixed.pending p target e is (record { signal = i; bit = k; reached = reached; may = target_may d lawful p target e is i k can }) in
              false≢true (sym (ap is_some none) ∙ there.1)
      leaves (Run p) there i k can reached = no_body p there.0 i k (process_now d p i k can) reached
      leaves Delayed there i k can reached = no_update can.process i k can.may reached
      leaves Activate there i k can reached = can

      kept : (event : Event) → IsThere d s event → (i k : ℕ) → IsReached d c i → Same (after d s event).value s.value i k
      kept event there i k reached =
          untouched d lawful s event i k there order (λ can. leaves event there i k can reached)

      module _ (event : Event) (there : IsThere d s event) where
        made : IsEffect d s event (event_writes d s event) (after d s event)
        made = effect d s event there

        -- who drives it hears nothing
        not_heard : (q : ℕ) (target : List Piece) (e : Tree) → doing_at d q ≡ Some (Assign target e) → IsReachedTarget d c target → is_heard d s.value (event_writes d s event) (doing_at d q) ≡ false
        not_heard q target e is at =
            falsely (is_heard d s.value (event_writes d s event) (doing_at d q))
            (λ h.
            let one = some_heard d (Assign target e) s.value (event_writes d s event) order.steady.widths (event_within d lawful s order event there) (ap (is_heard d s.value (event_writes d s event)) (sym is) ∙ h) in
            leaves event there one.signal one.bit (event_over d lawful s order event one.signal one.bit one.over)
            (fed q (Assign target e) is at.signal at.bit at.reached (assign_may (widths d) target e at.signal at.bit at.may) one.signal one.bit one.listened))

        fixed_after : IsFixed d c (after d s event)
        fixed_after =
            record {
              offered = λ i input reached. made.offered i ∙ if_none false (takes event i) None (s.offered i) refl (fixed.offered i input reached);
              ports = λ p target e is at.
                  made.woken p
                  ∙ if_false (evaluates event p || runs event p) _ (ap (λ x. x || is_heard d s.value (event_writes d s event) (doing_at d p)) (fixed.ports p target e is at) ∙ not_heard p target e is at);
              pending = λ p target e is at.
                  made.pending p
                  ∙ if_none (evaluates event p) (updates event p) _ (s.pending p) (not_evaluated d s event there p (fixed.ports p target e is at)) (fixed.pending p target e is at);
            }

        -- ---- a latch holds

        latch_kept : (i k : ℕ) → IsShutBit d c s.value i k → Same (after d s event).value s.value i k
        latch_kept i k latch = by event there
          where
            others : (q : ℕ) → (q ≡ latch.process → ⊥) → OfProcess MayWrite d.signals d.tasks q i k → ⊥
            others q other may = latch.sole q other may

            own : OfProcess MayWrite d.signals d.tasks latch.process i k
            own = to_process MayWrite d latch.process i k (Comb latch.list latch.body) latch.does latch.may

            same_by : (event' : Event) → IsThere d s event' → (CanWrite d event' i k → ⊥) → Same (after d s event').value s.value i k
            same_by event' there' cannot = untouched d lawful s event' i k there' order cannot

            by : (event' : Event) → IsThere d s event' → Same (after d s event').value s.value i k
            by (Input j) there' =
                same_by (Input j) there'
                (λ same. variable_input d i (body_variable d lawful latch.process (ap is_body latch.does) i k own) (subst (λ x. IsTrue (is_input d x)) (sym same) there'.0))
            by (Evaluate q) there' = same_by (Evaluate q) there' (λ can. can)
            by (Update q) there' =
                same_by (Update q) there'
                (λ can.
                elim (cases_eq q latch.process) [
                  | inl same ↦ false≢true (sym (ap is_assignment (ap (doing_at d) same ∙ latch.does)) ∙ there'.0)
                  | inr other ↦ others q other can
                ])
            by (Run q) there' =
                elim (cases_eq q latch.process) [
                  | inl same ↦
                      ap (λ (v : Values). bit v i k)
                      ((effect d s (Run q) there').value
                      ∙ ap (λ o. all_written s.value (nows (run_made d s.value o))) (ap (doing_at d) same ∙ latch.does)
                      ∙ ap (λ ms. all_written s.value (nows ms)) (latch.shuts s.value order.steady.widths latch.closed))
                  | inr other ↦ same_by (Run q) there' (λ can. others q other (process_now d q i k can))
                ]
            by Delayed there' =
                same_by Delayed there'
                (λ can.
                elim (cases_eq can.process latch.process) [
                  | inl same ↦
                      latch.no_late (from_process MayWriteLate d latch.process i k (Comb latch.list latch.body) latch.does (subst (λ q. OfProcess MayWriteLate d.signals d.tasks q i k) same can.may))
                  | inr other ↦ others can.process other (process_late d can.process i k can.may)
                ])
            by Activate there' = same_by Activate there' (λ can. can)

    -- ---- moves

    none : (s : State) → IsOrderly d s → IsFixed d c s → IsFixedRun d c s s
    none s order fixed =
        record {
          order = order;
          fixed = fixed;
          cone = λ i k reached. refl;
          latches = λ i k latch. refl;
        }

    -- one after another
    joined : (s t u : State) → IsOrderly d s → IsFixedRun d c s t → IsFixedRun d c t u → IsFixedRun d c s u
    joined s t u order first second =
        record {
          order = second.order;
          fixed = second.fixed;
          cone = λ i k reached. second.cone i k reached ∙ first.cone i k reached;
          latches = λ i k latch. second.latches i k (still i k latch) ∙ first.latches i k latch;
        }
      where
        still : (i k : ℕ) → IsShutBit d c s.value i k → IsShutBit d c t.value i k
        still i k latch =
            record {
              process = latch.process;
              list = latch.list;
              body = latch.body;
              does = latch.does;
              gate = latch.gate;
              reached = latch.reached;
              level = latch.level;
              closed =
                  ext_get_or X (t.value latch.gate) (s.value latch.gate) (first.order.steady.widths latch.gate ∙ sym (order.steady.widths latch.gate))
                  (λ n below. first.cone latch.gate n latch.reached)
                  ∙ latch.closed;
              shuts = latch.shuts;
              may = latch.may;
              sole = latch.sole;
              no_late = latch.no_late;
            }

    by_event : (s : State) → IsOrderly d s → IsFixed d c s → (event : Event) → IsThere d s event → IsFixedRun d c s (after d s event)
    by_event s order fixed event there =
        record {
          order = orderly_after d lawful s event there order;
          fixed = fixed_after s order fixed event there;
          cone = kept s order fixed event there;
          latches = latch_kept s order fixed event there;
        }

    by_offer : (s : State) → IsOrderly d s → IsFixed d c s → (step : List (ℕ × List Bit)) → SetsOthers d c step → IsFixedRun d c s (offer s step)
    by_offer s order fixed step others =
        let stays : (i k : ℕ) → Same (offer s step).value s.value i k = λ i k. ap (λ (u : State). bit u.value i k) (offer_leaves d s step) in
        record {
          order = orderly_offer d s step others.0 order;
          fixed = fixed_offer c s fixed step others;
          cone = λ i k reached. stays i k;
          latches = λ i k latch. stays i k;
        }

    by_move : (s : State) → IsOrderly d s → IsFixed d c s → (move : Move) → IsMoveApart d c s move → IsFixedRun d c s (moved d s move)
    by_move s order fixed (Take event) is = by_event s order fixed event is
    by_move s order fixed (Give step) is = by_offer s order fixed step is

    pub moves_fix : (s : State) (moves : List Move) → IsOrderly d s → IsFixed d c s → CanMoveApart d c s moves → IsFixedRun d c s (move_all d s moves)
    moves_fix s [] order fixed can = none s order fixed
    moves_fix s (move ∷ moves) order fixed can =
        let first = by_move s order fixed move can.0 in
        joined s (moved d s move) (move_all d s (move ∷ moves)) order first (moves_fix (moved d s move) moves first.order first.fixed can.1)

    pub runs_fix : (s : State) (events : List Event) → IsOrderly d s → IsFixed d c s → CanRun d s events → IsFixedRun d c s (run d s events)
    runs_fix s [] order fixed can = none s order fixed
    runs_fix s (event ∷ events) order fixed can =
        let first = by_event s order fixed event can.0 in
        joined s (after d s event) (run d s (event ∷ events)) order first (runs_fix (after d s event) events first.order first.fixed can.1)

    -- ---- beside a turn

    activated_fix : (s t : State) → HasNoActive d s → IsActivated d s t → IsOrderly d s → IsFixed d c s → IsFixedRun d c s t
    activated_fix s _ still (NoneThere nothing) order fixed = none s order fixed
    activated_fix s _ still (Activated some) order fixed = by_event s order fixed Activate (still, some)

    pub beside_fixes :
        (s t : State) → IsOrderly d s → IsFixed d c s → (way : IsBeside d s t) → All (λ (one : ℕ × List Bit). one.0 ≢ c) (gifts way.late) →
        IsFixedRun d c s t
    beside_fixes s t order fixed way others =
        let u = run d s way.early in
        let first = runs_fix s way.early order fixed way.can_early in
        let second = activated_fix u way.next way.still way.activated first.order first.fixed in
        let third = moves_fix way.next way.late second.order second.fixed (moves_apart d c way.next way.late way.can_late others) in
        subst (IsFixedRun d c s) way.leads
        (joined s u (move_all d way.next way.late) order first (joined u way.next (move_all d way.next way.late) first.order second third))
