-- A step of one clock or reset, from its start up to rest: first the turn, then, once its nonblocking updates are active,
-- a quiet run.
use Rattle.std.proofs.Common.{◌≡◌, ◌≢◌, ◌∙◌, ◌||◌, ◌&&◌, ℕ, Bool, false, List, [], ◌∷◌, None, Some, All, length, refl, sym, ap, subst, inl, inr}
use Rattle.std.specs.Prelude.{IsSome, is_some, unwrap_or}
use Rattle.std.proofs.lemmas.Bool.{cases_eq, false≢true}
use Rattle.std.proofs.lemmas.List.Elements.{All-head, All-tail}
use Rattle.rtl_bits.specs.declared.Bit.{Bit}
use Rattle.rtl_flat.specs.Process.{Watched}
use Rattle.event_model.specs.Queue.{State, Event, Input, Evaluate, Update, Run, Delayed, Activate, CanRun, HasNoActive, IsAtRest, IsThere, after, doing_at, is_assignment, run}
use Rattle.rtl_flat.specs.Flats.{Flat, widths}
use Rattle.event_model.specs.Writes.{Values, put}
use Rattle.event_runs.proofs.event_laws_proofs.Lengths.{put_at, put_other}
use Rattle.net_model.specs.Control.{IsReached}
use Rattle.net_model.specs.Numbers.{bit}
use Rattle.event_runs.specs.Nets.{AreOffered, AreResolved}
use Rattle.event_runs.specs.Plain.{ran_after, ran_by}
use Rattle.event_runs.specs.Writers.{IsOrderly, are_over}
use Rattle.event_runs.proofs.Laws.{driven_resolved, offer_gives, offered_after, orderly_after, orderly_offer, resolved_after}
use Rattle.event_edges.specs.Moves.{Activated, IsActivated, IsBeside, NoneThere, move_all}
use Rattle.event_edges.specs.Quiet.{IsQuiet}
use Rattle.event_edges.specs.Registers.{due_bit, updates_bit}
use Rattle.event_edges.specs.Synchronous.{IsSynchronous}
use Rattle.event_edges.specs.Turned.{IsEdgeStart, IsTurn, IsTurning, fires, set_to}
use Rattle.event_edges.proofs.Hearing.{happens_same}
use Rattle.event_edges.proofs.Moves.{IsQuietEnd, quiet_events, quiet_moves}
use Rattle.event_edges.proofs.Ports.{follows, resolves}
use Rattle.event_edges.proofs.Turns.{turning_after}

-- ---- before the activation

-- a state before it
pub record IsGoing (d : Flat) (c : ℕ) (a b : Bit) (old : Values) (ran : ℕ → Bool) (s : State) : Type 0 where
  pub order : IsOrderly d s
  pub shown : AreResolved d s
  pub given : AreOffered d (put old c (b ∷ [])) s
  pub turning : IsTurning d c a b old ran s

-- nothing fires where nothing changes
none_fire : (v : Values) (events : List Watched) → fires v v events ≡ false
none_fire v [] = refl
none_fire v (item ∷ events) =
    ap (λ x. x || fires v v events) (happens_same item.edge (bit v item.signal 0)) ∙ none_fire v events

-- with no active event and nothing delayed a state is quiet
pub quiet_at : (d : Flat) (s : State) → HasNoActive d s → (u : State) → u.offered ≡ s.offered → u.woken ≡ s.woken → u.pending ≡ s.pending → u.delayed ≡ [] → IsQuiet d u
quiet_at d s still u offered woken pending delayed =
    record {
      offered = λ i input some cone. false≢true (sym (ap is_some (ap (λ f. f i) offered ∙ still.inputs i input)) ∙ some);
      blocks = λ p events body is. ap (λ f. f p) woken ∙ still.processes p (ap is_some is);
      ports = λ p target e is cone. ap (λ f. f p) woken ∙ still.processes p (ap is_some is);
      pending = λ p target e is cone. ap (λ f. f p) pending ∙ still.drivers p (ap is_assignment is);
      delayed = λ i k over. false≢true (ap (are_over i k) (sym delayed) ∙ over);
    }

module _ (d : Flat) (sync : IsSynchronous d) (c : ℕ) (a b : Bit) where
  module _ (s : State) (start : IsEdgeStart d c a b s) where
    pub is_turn : IsTurn d c a b s.value
    is_turn =
        record {
          clock = start.clock;
          other = start.other;
          wide = start.order.steady.widths;
          before = follows d sync s start.order ((driven_resolved d sync.lawful).alone s start.resolved) start.rest.no_active c start.clock a start.before;
        }

    not_woken : (p : ℕ) → IsSome (doing_at d p) → s.woken p ≡ false
    not_woken p there = start.rest.no_active.processes p there

    begins : IsTurning d c a b s.value (λ p. false) (set_to s c b)
    begins =
        record {
          wide = start.order.steady.widths;
          offered = λ i bits input e.
              elim (cases_eq i c) [
                | inl same ↦
                    let there : Some (b ∷ []) ≡ Some bits = sym (put_at s.offered c i (Some (b ∷ [])) same) ∙ e in
                    let bits' : b ∷ [] ≡ bits = cc (there) in
                    (same, sym bits')
                | inr other ↦
                    absurd (let none : None ≡ Some bits = sym (start.rest.no_active.inputs i input) ∙ sym (put_other s.offered c i (Some (b ∷ [])) other) ∙ e in cc)
              ];
          behind = λ i reached. inl (is_turn.before i reached);
          ports = λ p target e is woken. absurd (false≢true (sym (not_woken p (ap is_some is)) ∙ woken));
          pending = λ p target e is bits due.
              absurd (let none : None ≡ Some bits = sym (start.rest.no_active.drivers p (ap is_assignment is)) ∙ due in cc);
          waits = λ p list body is. not_woken p (ap is_some is);
          fired = λ p events body is.
              none_fire s.value events ∙ sym (ap (λ x. x || false) (not_woken p (ap is_some is)));
          once = λ p events body is. ap (λ x. x && false) (not_woken p (ap is_some is));
          activated = start.rest.no_active.updates;
          kept = λ i k apart lasting. refl;
        }

    offered_none : AreOffered d s.value s
    offered_none =
        record {
          wide = λ i input. start.order.steady.widths i;
          comes = λ i input. ap (λ o. unwrap_or o (s.value i)) (start.rest.no_active.inputs i input);
        }

    pub starts : IsGoing d c a b s.value (λ p. false) (set_to s c b)
    starts =
        record {
          order = orderly_offer d s ((c, b ∷ []) ∷ []) (wide, tt) start.order;
          shown = start.resolved;
          given = offer_gives d s.value s ((c, b ∷ []) ∷ []) (wide, tt) offered_none;
          turning = begins;
        }
      where
        wide : length (b ∷ []) ≡ widths d c
        wide = ap length (sym start.before) ∙ start.order.steady.widths c

  -- ---- up to rest

  module _ (old : Values) (turn : IsTurn d c a b old) where
    going_after :
        (ran : ℕ → Bool) (s : State) → IsGoing d c a b old ran s → (event : Event) → IsThere d s event → event ≢ Activate →
        IsGoing d c a b old (ran_by ran event) (after d s event)
    going_after ran s going event there active =
        record {
          order = orderly_after d sync.lawful s event there going.order;
          shown = resolved_after d sync.lawful s event there going.order going.shown;
          given = offered_after d sync.lawful (put old c (b ∷ [])) s event there going.order going.given;
          turning = turning_after d sync c a b old turn ran s going.turning event there active
              (λ p target e is port. resolves d sync (put s.driver p (b ∷ [])) p target e port.from port.port b is port.link (put_at s.driver p p (b ∷ []) refl));
        }

    pub going_run :
        (ran : ℕ → Bool) (s : State) (events : List Event) → CanRun d s events → All (λ event. event ≢ Activate) events → IsGoing d c a b old ran s →
        IsGoing d c a b old (ran_after ran events) (run d s events)
    going_run ran s [] can active going = going
    going_run ran s (event ∷ events) can active going =
        going_run (ran_by ran event) (after d s event) events can.1 (All-tail (λ (e : Event). e ≢ Activate) event events active)
        (going_after ran s going event can.0 (All-head (λ (e : Event). e ≢ Activate) event events active))

    -- where no event is active all that is reached has turned
    pub all_turned :
        (ran : ℕ → Bool) (s : State) → IsGoing d c a b old ran s → HasNoActive d s → (i : ℕ) → IsReached d c i → s.value i ≡ b ∷ []
    all_turned ran s going still =
        follows d sync s going.order ((driven_resolved d sync.lawful).alone s going.shown) still c turn.clock b
        (ap (λ o. unwrap_or o (s.value c)) (sym (still.inputs c turn.clock.input))
        ∙ going.given.comes c turn.clock.input ∙ put_at old c c (b ∷ []) refl)

    -- where the turn ends, and the quiet run behind it
    pub record IsSplit (Inv : (ℕ → Bool) → State → Type 0) (t : State) : Type 0 where
      pub ran : ℕ → Bool
      pub last : State
      pub going : IsGoing d c a b old ran last
      pub inv : Inv ran last
      pub still : HasNoActive d last
      pub next : State
      pub value : next.value ≡ last.value
      pub due : (i k : ℕ) → due_bit next i k ≡ updates_bit i k last.delayed (bit last.value i k)
      pub ends : IsQuietEnd d next t

    module _ (Inv : (ℕ → Bool) → State → Type 0) (keeps : (ran : ℕ → Bool) (s : State) (event : Event) → IsGoing d c a b old ran s → IsThere d s event → event ≢ Activate → Inv ran s → Inv (ran_by ran event) (after d s event)) where
      -- where no active event is left, nonblocking updates become active if there are any
      ending :
          (ran : ℕ → Bool) (s : State) → IsGoing d c a b old ran s → Inv ran s → HasNoActive d s → (next : State) → IsActivated d s next →
          (t : State) → (IsOrderly d next → IsQuiet d next → IsQuietEnd d next t) → IsSplit Inv t
      ending ran s going inv still _ (NoneThere none) t behind =
          record {
            ran = ran;
            last = s;
            going = going;
            inv = inv;
            still = still;
            next = s;
            value = refl;
            due = λ i k. ap (λ us. updates_bit i k s.delayed (updates_bit i k us (bit s.value i k))) going.turning.activated;
            ends = behind going.order (quiet_at d s still s refl refl refl none);
          }
      ending ran s going inv still _ (Activated some) t behind =
          record {
            ran = ran;
            last = s;
            going = going;
            inv = inv;
            still = still;
            next = after d s Activate;
            value = refl;
            due = λ i k. refl;
            ends = behind (orderly_after d sync.lawful s Activate (still, some) going.order) (quiet_at d s still (after d s Activate) refl refl refl refl);
          }

      pub split :
          (ran : ℕ → Bool) (s : State) (events : List Event) → IsGoing d c a b old ran s → Inv ran s → CanRun d s events → IsAtRest d (run d s events) →
          IsSplit Inv (run d s events)
      split ran s [] going inv can rest =
          ending ran s going inv rest.no_active s (NoneThere rest.no_delayed) s (quiet_events d sync s [] tt)
      split ran s (Activate ∷ events) going inv can rest =
          ending ran s going inv can.0.0 (after d s Activate) (Activated can.0.1) (run d (after d s Activate) events)
          (quiet_events d sync (after d s Activate) events can.1)
      split ran s (Input i ∷ events) going inv can rest =
          split (ran_by ran (Input i)) (after d s (Input i)) events (going_after ran s going (Input i) can.0 (λ h. cc)) (keeps ran s (Input i) going can.0 (λ h. cc) inv) can.1 rest
      split ran s (Evaluate p ∷ events) going inv can rest =
          split (ran_by ran (Evaluate p)) (after d s (Evaluate p)) events (going_after ran s going (Evaluate p) can.0 (λ h. cc)) (keeps ran s (Evaluate p) going can.0 (λ h. cc) inv) can.1 rest
      split ran s (Update p ∷ events) going inv can rest =
          split (ran_by ran (Update p)) (after d s (Update p)) events (going_after ran s going (Update p) can.0 (λ h. cc)) (keeps ran s (Update p) going can.0 (λ h. cc) inv) can.1 rest
      split ran s (Run p ∷ events) going inv can rest =
          split (ran_by ran (Run p)) (after d s (Run p)) events (going_after ran s going (Run p) can.0 (λ h. cc)) (keeps ran s (Run p) going can.0 (λ h. cc) inv) can.1 rest
      split ran s (Delayed ∷ events) going inv can rest =
          split (ran_by ran Delayed) (after d s Delayed) events (going_after ran s going Delayed can.0 (λ h. cc)) (keeps ran s Delayed going can.0 (λ h. cc) inv) can.1 rest

      -- the same with data beside the turn
      keeps_run :
          (ran : ℕ → Bool) (s : State) (events : List Event) → CanRun d s events → All (λ event. event ≢ Activate) events → IsGoing d c a b old ran s →
          Inv ran s → Inv (ran_after ran events) (run d s events)
      keeps_run ran s [] can active going inv = inv
      keeps_run ran s (event ∷ events) can active going inv =
          let other = All-head (λ (e : Event). e ≢ Activate) event events active in
          keeps_run (ran_by ran event) (after d s event) events can.1 (All-tail (λ (e : Event). e ≢ Activate) event events active)
          (going_after ran s going event can.0 other) (keeps ran s event going can.0 other inv)

      pub split_beside : (ran : ℕ → Bool) (s t : State) → IsBeside d s t → IsGoing d c a b old ran s → Inv ran s → IsSplit Inv t
      split_beside ran s t way going inv =
          subst (IsSplit Inv) way.leads
          (ending (ran_after ran way.early) (run d s way.early) (going_run ran s way.early way.can_early way.before going)
          (keeps_run ran s way.early way.can_early way.before going inv) way.still way.next way.activated (move_all d way.next way.late)
          (quiet_moves d sync way.next way.late way.can_late))
