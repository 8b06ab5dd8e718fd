-- How a step ends beside which data are given.
use Rattle.std.proofs.Common.{◌≡◌, ◌≢◌, ◌∙◌, ◌+◌, ◌*◌, ◌-◌, ◌≤◌, ℕ, List, [], ◌∷◌, ◌++◌, length, Option, Some, refl, sym, ap, subst, inl, inr, arith}
use Rattle.std.specs.List.{All}
use Rattle.std.proofs.lemmas.List.Elements.{All-cons, All-nil}
use Rattle.rtl_bits.specs.declared.Bit.{Bit}
use Rattle.event_model.specs.Queue.{State, Event, Input, Evaluate, Update, Run, Delayed, Activate, CanRun, HasNoActive, IsAtRest, IsThere, after, offer, run}
use Rattle.rtl_flat.specs.Flats.{Flat}
use Rattle.check_laws.specs.event_laws.Steady.{AreLawful}
use Rattle.check_laws.specs.event_runs.Writers.{IsOrderly}
use Rattle.check_laws.specs.event_settling.Ending.{ComesToRest, IsStart, bound, later_wave}
use Rattle.check_laws.specs.event_settling.Settling.{IsSettling}
use Rattle.check_laws.proofs.event_settling_proofs.Ends as ending
use Rattle.check_laws.proofs.event_settling_proofs.Quiet.{IsQuiet, begins_quiet}
use Rattle.net_model.specs.Control.{InClockCone}
use Rattle.sign_cycles.specs.event_edges.event_runs.Nets.{offered_after}
use Rattle.sign_cycles.specs.event_edges.Moves.{Activated, CanMove, Give, IsActivated, IsBeside, Move, NoneThere, Take, gifts, move_all}
use Rattle.sign_cycles.specs.event_edges.Quiet.{SetData}
use Rattle.sign_cycles.specs.event_edges.Synchronous.{IsSynchronous}
use Rattle.sign_cycles.proofs.event_edges_proofs.event_runs_proofs.Laws.{offer_leaves, orderly_after, orderly_offer}
use Rattle.sign_cycles.proofs.event_edges_proofs.Moves.{cone_offered, set_wide}
use Rattle.check_clean.specs.Benches.{ComesToActivation, EndsBeside, events_among}

-- ---- up to the activation

abbrev pub IsOther : Event → Type 0
IsOther event = event ≢ Activate

module _ (d : Flat) where
  one_sooner : (s : State) (event : Event) → IsThere d s event → IsOther event → ComesToActivation d (after d s event) → ComesToActivation d s
  one_sooner s event there other rest =
      record {
        events = event ∷ rest.events;
        can = (there, rest.can);
        before = All-cons IsOther event rest.events other rest.before;
        still = rest.still;
      }

  -- a run to rest up to its activation
  to_activation : (s : State) (events : List Event) → CanRun d s events → IsAtRest d (run d s events) → ComesToActivation d s
  to_activation s [] can rest =
      record { events = []; can = tt; before = All-nil IsOther; still = rest.no_active }
  to_activation s (Activate ∷ events) can rest =
      record { events = []; can = tt; before = All-nil IsOther; still = can.0.0 }
  to_activation s (Input i ∷ events) can rest =
      one_sooner s (Input i) can.0 (λ h. cc) (to_activation (after d s (Input i)) events can.1 rest)
  to_activation s (Evaluate p ∷ events) can rest =
      one_sooner s (Evaluate p) can.0 (λ h. cc) (to_activation (after d s (Evaluate p)) events can.1 rest)
  to_activation s (Update p ∷ events) can rest =
      one_sooner s (Update p) can.0 (λ h. cc) (to_activation (after d s (Update p)) events can.1 rest)
  to_activation s (Run p ∷ events) can rest =
      one_sooner s (Run p) can.0 (λ h. cc) (to_activation (after d s (Run p)) events can.1 rest)
  to_activation s (Delayed ∷ events) can rest =
      one_sooner s Delayed can.0 (λ h. cc) (to_activation (after d s Delayed) events can.1 rest)

-- ---- behind it

long_append : (first second : List (ℕ × List Bit)) → length (first ++ second) ≡ length first + length second
long_append [] second = omega arith
long_append (one ∷ first) second = let rest = long_append first second in omega (arith, rest)

module _ (d : Flat) (sync : IsSynchronous d) (level : ℕ → Option ℕ) (h : IsSettling d level (InClockCone d)) where
  abbrev second : State → ℕ
  second s = ending.second d sync.lawful level (InClockCone d) h s

  -- a state behind the activation, from where so many events may come
  record IsLate (s : State) (room : ℕ) : Type 0 where
    orderly : IsOrderly d s
    quiet : IsQuiet d (InClockCone d) s
    most : second s ≤ room

  -- data that are given add what comes of them
  late_offer : (s : State) (step : List (ℕ × List Bit)) (room : ℕ) → SetData d step → IsLate s room → IsLate (offer s step) (room + length step * later_wave d)
  late_offer s step room set it =
      let more = ending.more_offered d sync.lawful level (InClockCone d) h s step in
      let most = it.most in
      record {
        orderly = orderly_offer d s step (set_wide d step set) it.orderly;
        quiet = subst (IsQuiet d (InClockCone d)) (sym (offer_leaves d s step)) (record {
          inputs = λ i input cone. cone_offered d sync s.offered step set i input cone ∙ it.quiet.inputs i input cone;
          blocks = it.quiet.blocks;
          waits = it.quiet.waits;
          drives = it.quiet.drives;
          delayed = it.quiet.delayed;
        });
        most = omega (arith, more, most);
      }

  -- what is left behind moves
  record IsLeft (t : State) (moves : List Move) (room : ℕ) : Type 0 where
    left : ℕ
    spent : left + events_among moves ≡ room + length (gifts moves) * later_wave d
    late : IsLate t left

  along : (s : State) (moves : List Move) (room : ℕ) → CanMove d s moves → IsLate s room → IsLeft (move_all d s moves) moves room
  along s [] room can it = record { left = room; spent = omega arith; late = it }
  along s (Take event ∷ moves) room can it =
      let less = ending.fewer d sync.lawful level (InClockCone d) h s it.orderly it.quiet event can.0 in
      let fewer = less.1 in
      let most = it.most in
      let rest = along (after d s event) moves (room - 1) can.1
      (record { orderly = orderly_after d sync.lawful s event can.0 it.orderly; quiet = less.0; most = omega (arith, fewer, most) }) in
      let spent = rest.spent in
      record { left = rest.left; spent = omega (arith, spent, fewer, most); late = rest.late }
  along s (Give step ∷ moves) room can it =
      let rest = along (offer s step) moves (room + length step * later_wave d) can.1 (late_offer s step room can.0 it) in
      let spent = rest.spent in
      let long = ap (λ n. n * later_wave d) (long_append step (gifts moves)) in
      record { left = rest.left; spent = omega (arith, spent, long); late = rest.late }

  -- ---- ways with data

  module _ (s : State) (start : IsStart d s) where
    -- where nonblocking updates become active
    activated :
        (u v : State) (room : ℕ) → HasNoActive d u → IsActivated d u v → IsOrderly d u →
        ending.Lasts d sync.lawful level (InClockCone d) h u room → IsLate v room
    activated u _ room still (NoneThere none) orderly lasts =
        let it = ending.none_left d sync.lawful level (InClockCone d) h u (record { no_active = still; no_delayed = none }) in
        let most = it.1 in
        record { orderly = orderly; quiet = it.0; most = omega (arith, most) }
    activated u _ room still (Activated some) orderly (inl first) =
        let less = ending.turns d sync.lawful level (InClockCone d) h u (still, some) in
        record {
          orderly = orderly_after d sync.lawful u Activate (still, some) orderly;
          quiet = begins_quiet d (InClockCone d) level h u still;
          most = omega (arith, less, first);
        }
    activated u _ room still (Activated some) orderly (inr (quiet, most)) = absurd (some quiet.delayed)

    along_way : (t : State) (way : IsBeside d s t) → (left : ℕ) × (left + (length way.early + events_among way.late) ≡ bound d + length (gifts way.late) * later_wave d) × IsLate t left
    along_way t way =
        let early = ending.along d sync.lawful level (InClockCone d) h s way.early (bound d) start.orderly (inl (ending.begins d sync.lawful level (InClockCone d) h s start)) way.can_early in
        let late = along way.next way.late early.left way.can_late (activated (run d s way.early) way.next early.left way.still way.activated early.orderly early.lasts) in
        let first = early.spent in
        let second = late.spent in
        (late.left, omega (arith, first, second), subst (λ (u : State). IsLate u late.left) way.leads late.late)

    bounded : (t : State) (way : IsBeside d s t) → length way.early + events_among way.late ≤ bound d + length (gifts way.late) * later_wave d
    bounded t way = let spent = (along_way t way).1 in omega (arith, spent)

    further : (t : State) → IsBeside d s t → ComesToRest d t
    further t way =
        let it = along_way t way in
        ending.to_rest d sync.lawful level (InClockCone d) h it.0 t it.2.orderly (inr (it.2.quiet, it.2.most)) (ending.next_or_rest d t)

    activates : (events : List Event) → CanRun d s events → ComesToActivation d (run d s events)
    activates events can =
        let it = ending.along d sync.lawful level (InClockCone d) h s events (bound d) start.orderly (inl (ending.begins d sync.lawful level (InClockCone d) h s start)) can in
        let rest = ending.to_rest d sync.lawful level (InClockCone d) h it.left (run d s events) it.orderly it.lasts (ending.next_or_rest d (run d s events)) in
        to_activation d (run d s events) rest.events rest.can rest.rest

    pub ends_beside : EndsBeside d s
    ends_beside =
        record { activates = λ events can before. activates events can; bounded = bounded; further = further }
