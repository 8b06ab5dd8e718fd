-- From where a step starts every run ends, and comes to rest.
use Rattle.std.proofs.Common.{◌≡◌, ◌∙◌, ◌⊎◌, ◌+◌, ◌*◌, ◌-◌, ◌<◌, ◌≤◌, ℕ, zero, suc, Bool, true, false, cond, ◌&&◌, is_some, List, [], ◌∷◌, ◌++◌, length, Option, None, Some, refl, sym, ap, subst, inl, inr, arith}
use Rattle.std.specs.Prelude.{sum_by, unwrap_or}
use Rattle.std.specs.List.{All, slice_get}
use Rattle.std.proofs.lemmas.Bool.{true≢false}
use Rattle.std.proofs.lemmas.List.Elements.{All-head, All-nil, All-tail}
use Rattle.std.proofs.lemmas.List.Sums.{sum_by-cons}
use Rattle.rtl_bits.specs.declared.Bit.{Bit}
use Rattle.rtl_flat.specs.declared.signal.Signal.{Signal}
use Rattle.event_model.specs.Order.{active}
use Rattle.event_model.specs.Policies.{one_if}
use Rattle.event_model.specs.Queue.{State, Event, Input, Evaluate, Update, Run, Delayed, Activate, CanRun, IsThere, HasNoActive, IsAtRest, after, doing_at, is_assignment, is_input, is_input_kind, is_input_of, offer, run}
use Rattle.rtl_flat.specs.Flats.{Flat, widths}
use Rattle.event_model.specs.Writes.{Write, put}
use Rattle.event_model.proofs.Active.{Each, all_there, no_active}
use Rattle.event_runs.specs.event_laws.Steady.{AreLawful, IsWithin}
use Rattle.event_runs.proofs.event_laws_proofs.Lengths.{put_other}
use Rattle.event_runs.proofs.event_laws_proofs.Steady.{steady_offer}
use Rattle.event_runs.specs.Effects.{laters, run_made}
use Rattle.event_runs.specs.Writers.{IsOrderly}
use Rattle.event_runs.proofs.Late.{late_none, orderly_after, orderly_power_up, orderly_run}
use Rattle.event_settling.specs.Settling.{Fits, IsSettling}
use Rattle.event_settling.proofs.Quiet.{IsQuiet, begins_quiet, made_none, quiet_after}
use Rattle.event_settling.proofs.Totals.{of_some, total, total_list, total_most, total_raised, total_same}
use Rattle.event_settling.proofs.Facts.{some_doing}
use Rattle.event_settling.specs.Ending.{Choice, ComesToRest, Ends, Held, IsFit, IsHeld, IsReached, IsSimulator, IsStart, PowerUp, Stepped, StepsStart, StopsAtRest, bound, first_wave, later_wave, lates, first_events, with_next}
use Rattle.event_settling.proofs.Falls.{Pays, falls, of_input, of_process, to_come}
use Rattle.event_settling.proofs.Few.{few_late, per, per_more, per_most}
use Rattle.event_settling.proofs.Shares.{all_within, led_within, share}

-- ---- where no event is left

abbrev pub HasNext : Flat → State → Type 0
HasNext d s = (event : Event) × IsThere d s event

by_active : (d : Flat) (s : State) (es : List Event) → active d s ≡ es → Each (IsThere d s) es → HasNext d s ⊎ HasNoActive d s
by_active d s [] none there = inr (no_active d s none)
by_active d s (event ∷ es) some there = inl (event, there.0)

by_delayed : (d : Flat) (s : State) (us : List (List Write)) → s.delayed ≡ us → HasNoActive d s → HasNext d s ⊎ IsAtRest d s
by_delayed d s [] none still = inr (record { no_active = still; no_delayed = none })
by_delayed d s (u ∷ us) some still = inl (Activate, (still, λ none. cons_some u us (sym some ∙ none)))
  where
    cons_some : {A : Type 0} (x : A) (xs : List A) → x ∷ xs ≡ [] → ⊥
    cons_some x xs h = cc

-- an event is there, or the queue is at rest
pub next_or_rest : (d : Flat) (s : State) → HasNext d s ⊎ IsAtRest d s
next_or_rest d s =
    elim (by_active d s (active d s) refl (all_there d s)) [
      | inl next ↦ inl next
      | inr still ↦ by_delayed d s s.delayed refl still
    ]

pub stops_at_rest : (d : Flat) → StopsAtRest d
stops_at_rest d s stuck =
    elim (next_or_rest d s) [
      | inl next ↦ absurd (stuck next.0 next.1)
      | inr rest ↦ rest
    ]

-- ---- runs one after another

run_append : (d : Flat) (s : State) (es fs : List Event) → run d s (es ++ fs) ≡ run d (run d s es) fs
run_append d s [] fs = refl
run_append d s (e ∷ es) fs = run_append d (after d s e) es fs

can_append : (d : Flat) (s : State) (es fs : List Event) → CanRun d s es → CanRun d (run d s es) fs → CanRun d s (es ++ fs)
can_append d s [] fs a b = b
can_append d s (e ∷ es) fs a b = (a.0, can_append d (after d s e) es fs a.1 b)

one_longer : (es : List Event) (e : Event) → length (es ++ e ∷ []) ≡ length es + 1
one_longer [] e = omega arith
one_longer (x ∷ es) e = let rest = one_longer es e in omega (arith, rest)

-- ---- where steps start

start_offer : (d : Flat) (s : State) (step : List (ℕ × List Bit)) → Fits d step → IsStart d s → IsStart d (offer s step)
start_offer d s [] fits start = start
start_offer d s (one ∷ others) fits start =
    start_offer d (record s { offered = put s.offered one.0 (Some one.1) }) others (All-tail (λ (x : ℕ × List Bit). length x.1 ≤ widths d x.0) one others fits)
    (record {
      orderly = record {
        steady = steady_offer d s one.0 one.1 (All-head (λ (x : ℕ × List Bit). length x.1 ≤ widths d x.0) one others fits) start.orderly.steady;
        late = record { activated = start.orderly.late.activated; delayed = start.orderly.late.delayed };
      };
      drivers = start.drivers;
      activated = start.activated;
      delayed = start.delayed;
    })

start_rest : (d : Flat) (s : State) → IsOrderly d s → IsAtRest d s → IsStart d s
start_rest d s orderly rest =
    record { orderly = orderly; drivers = rest.no_active.drivers; activated = rest.no_active.updates; delayed = rest.no_delayed }

held_orderly : (d : Flat) (s : State) → IsHeld d s → IsOrderly d s
held_orderly d s held =
    record {
      steady = record {
        within = record {
          offered = λ i bits input is. absurd (let none = sym is ∙ held.rest.no_active.inputs i input in cc);
          activated = rw held.rest.no_active.updates (All-nil (All (IsWithin (widths d))));
          delayed = rw held.rest.no_delayed (All-nil (All (IsWithin (widths d))));
        };
        widths = held.wide;
        up_to_date = λ p target e here still.
            ap (λ o. unwrap_or o (s.driver p)) (held.rest.no_active.drivers p (ap is_assignment here)) ∙ held.drivers p target e here;
      };
      late = late_none d s held.rest.no_active.updates held.rest.no_delayed;
    }

start_reached : (d : Flat) → AreLawful d → (s : State) → IsReached d s → IsStart d s
start_reached d lawful s (PowerUp) =
    record { orderly = orderly_power_up d; drivers = λ p is. refl; activated = refl; delayed = refl }
start_reached d lawful s (Held u held) = start_rest d u (held_orderly d u held) held.rest
start_reached d lawful s (Stepped u t step events before fits can leads rest) =
    let start = start_offer d u step fits (start_reached d lawful u before) in
    start_rest d t (subst (IsOrderly d) leads (orderly_run d lawful (offer u step) events can start.orderly)) rest

pub steps_start : (d : Flat) → AreLawful d → StepsStart d
steps_start d lawful s step reached fits = start_offer d s step fits (start_reached d lawful s reached)

-- ---- both waves

total_none : (m : ℕ) (f : ℕ → ℕ) → ((k : ℕ) → k < m → f k ≡ 0) → total m f ≡ 0
total_none m f none =
    let most = total_most m f (λ k. 0) (λ k below. let one = none k below in omega (arith, one)) in
    let same = total_same m 0 in
    omega (arith, most, same)

cond_by : (b : Bool) (o : Option (List Bit)) (x : ℕ) → (b ≡ true → o ≡ None) → cond (b && is_some o) x 0 ≡ 0
cond_by true o x none = ap (λ (p : Option (List Bit)). cond (is_some p) x 0) (none refl)
cond_by false o x none = refl

cond_not : (b : Bool) (x : ℕ) → b ≡ false → cond b x 0 ≡ 0
cond_not true x e = absurd (true≢false e)
cond_not false x e = refl

cond_most : (b : Bool) (x : ℕ) → cond b x 0 ≤ x
cond_most true x = omega arith
cond_most false x = omega arith

-- a number for each input
abbrev times_input : ℕ → Signal → ℕ
times_input c signal = cond (is_input_kind signal.kind) c 0

input_most : (c : ℕ) (o : Option Signal) (b : Bool) → cond (is_input_of o && b) c 0 ≤ of_some (times_input c) o
input_most c None b = omega arith
input_most c (Some signal) b = by_kind (is_input_kind signal.kind) b
  where
    by_kind : (k b : Bool) → cond (k && b) c 0 ≤ cond k c 0
    by_kind true true = omega arith
    by_kind true false = omega arith
    by_kind false b = omega arith

times_inputs : (c : ℕ) (signals : List Signal) → sum_by (times_input c) signals ≤ sum_by (λ signal. one_if (is_input_kind signal.kind)) signals * c
times_inputs c [] = omega arith
times_inputs c (signal ∷ signals) =
    let all = sum_by-cons (times_input c) signal signals in
    let count = sum_by-cons (λ (signal : Signal). one_if (is_input_kind signal.kind)) signal signals in
    let rest = times_inputs c signals in
    by_kind (is_input_kind signal.kind) (sum_by (times_input c) signals) (sum_by (λ signal. one_if (is_input_kind signal.kind)) signals)
    (sum_by (times_input c) (signal ∷ signals)) (sum_by (λ signal. one_if (is_input_kind signal.kind)) (signal ∷ signals)) all count rest
  where
    by_kind : (k : Bool) (few much few' much' : ℕ) → few' ≡ cond k c 0 + few → much' ≡ one_if k + much → few ≤ much * c → few' ≤ much' * c
    by_kind true few much few' much' all count rest =
        let each = ap (λ m. m * c) count in
        omega (arith, all, each, rest)
    by_kind false few much few' much' all count rest =
        let each = ap (λ m. m * c) count in
        omega (arith, all, each, rest)

module _ (d : Flat) (lawful : AreLawful d) (level : ℕ → Option ℕ) (cone : ℕ → Type 0) (h : IsSettling d level cone) where
  abbrev n : ℕ
  n = length d.tasks

  abbrev own : ℕ
  own = 2 + lates d * suc (later_wave d)

  -- up to the activation
  abbrev pub first : State → ℕ
  first s = to_come d s (first_wave d) (suc (later_wave d)) (share d level own)

  -- behind it
  abbrev pub second : State → ℕ
  second s = to_come d s (later_wave d) 0 (share d level 2)

  pays_first : (s : State) → Pays d level s (first_wave d) (suc (later_wave d)) (share d level own)
  pays_first s =
      record {
        all = let most = all_within d level own in omega (arith, most);
        driver = λ p is. let most = led_within d level own p in omega (arith, most);
        body = λ p is woken.
            let most = led_within d level own p in
            let few = per_most (suc (later_wave d)) (lates d) (laters (run_made d s.value (doing_at d p))) (few_late d s.value p) in
            omega (arith, most, few);
      }

  pays_second : (s : State) → IsOrderly d s → IsQuiet d cone s → Pays d level s (later_wave d) 0 (share d level 2)
  pays_second s orderly quiet =
      record {
        all = let most = all_within d level 2 in omega (arith, most);
        driver = λ p is. led_within d level 2 p;
        body = λ p is woken.
            let most = led_within d level 2 p in
            let none = ap (per 0) (made_none d lawful level cone h s orderly quiet p (doing_at d p) refl woken) in
            omega (arith, most, none);
      }

  -- the activation, where nothing else is left
  pub activated : (s : State) → HasNoActive d s → second (after d s Activate) ≤ per (later_wave d) s.delayed
  activated s still =
      let inputs = total_none (length d.signals) (of_input d (after d s Activate) (later_wave d)) (λ i below. cond_by (is_input d i) (s.offered i) (later_wave d) (still.inputs i)) in
      let processes = total_none n (of_process d (after d s Activate) (share d level 2))
      (λ p below.
      let it = some_doing d p below in
      let woken = cond_not (s.woken p) (share d level 2 p) (still.processes p (ap is_some it.1)) in
      let pending = cond_by (is_assignment (doing_at d p)) (s.pending p) (share d level 2 p - 1) (still.drivers p) in
      omega (arith, woken, pending)) in
      omega (arith, inputs, processes)

  pub turns : (s : State) → IsThere d s Activate → second (after d s Activate) + 1 ≤ first s
  turns s there =
      let most = activated s there.0 in
      let more = per_more (later_wave d) s.delayed there.1 in
      omega (arith, most, more)

  -- ---- along a run

  -- no more than so many events are to come
  abbrev pub Lasts : State → ℕ → Type 0
  Lasts s room = (first s ≤ room) ⊎ (IsQuiet d cone s × (second s ≤ room))

  -- an event, with fewer to come behind it
  abbrev pub Goes : State → Event → ℕ → Type 0
  Goes s event room = (left : ℕ) × (left + 1 ≡ room) × Lasts (after d s event) left

  by_first : (s : State) (event : Event) (room : ℕ) → first (after d s event) + 1 ≤ first s → first s ≤ room → Goes s event room
  by_first s event room less most = (room - 1, omega (arith, less, most), inl (omega (arith, less, most)))

  first_goes : (s : State) → IsOrderly d s → (room : ℕ) → first s ≤ room → (event : Event) → IsThere d s event → Goes s event room
  first_goes s orderly room most (Input i) there =
      by_first s (Input i) room (falls d lawful level cone h s orderly (first_wave d) (suc (later_wave d)) (share d level own) (pays_first s) (Input i) (λ e. cc) there) most
  first_goes s orderly room most (Evaluate p) there =
      by_first s (Evaluate p) room (falls d lawful level cone h s orderly (first_wave d) (suc (later_wave d)) (share d level own) (pays_first s) (Evaluate p) (λ e. cc) there) most
  first_goes s orderly room most (Update p) there =
      by_first s (Update p) room (falls d lawful level cone h s orderly (first_wave d) (suc (later_wave d)) (share d level own) (pays_first s) (Update p) (λ e. cc) there) most
  first_goes s orderly room most (Run p) there =
      by_first s (Run p) room (falls d lawful level cone h s orderly (first_wave d) (suc (later_wave d)) (share d level own) (pays_first s) (Run p) (λ e. cc) there) most
  first_goes s orderly room most Delayed there =
      by_first s Delayed room (falls d lawful level cone h s orderly (first_wave d) (suc (later_wave d)) (share d level own) (pays_first s) Delayed (λ e. cc) there) most
  first_goes s orderly room most Activate there =
      let less = turns s there in
      (room - 1, omega (arith, less, most), inr (begins_quiet d cone level h s there.0, omega (arith, less, most)))

  -- a quiet state has no further activation
  not_again : (s : State) → IsQuiet d cone s → (event : Event) → IsThere d s event → event ≡ Activate → ⊥
  not_again s quiet (Input i) there e = cc
  not_again s quiet (Evaluate p) there e = cc
  not_again s quiet (Update p) there e = cc
  not_again s quiet (Run p) there e = cc
  not_again s quiet Delayed there e = cc
  not_again s quiet Activate there e = there.1 quiet.delayed

  -- behind the activation each event leaves fewer to come
  pub fewer :
      (s : State) → IsOrderly d s → IsQuiet d cone s → (event : Event) → IsThere d s event →
      IsQuiet d cone (after d s event) × (second (after d s event) + 1 ≤ second s)
  fewer s orderly quiet event there = (
    quiet_after d lawful level cone h s orderly quiet event there,
    falls d lawful level cone h s orderly (later_wave d) 0 (share d level 2) (pays_second s orderly quiet) event (λ e. not_again s quiet event there e) there,
  )

  by_second : (s : State) (event : Event) (room : ℕ) → IsQuiet d cone (after d s event) → second (after d s event) + 1 ≤ second s → second s ≤ room → Goes s event room
  by_second s event room quiet less most =
      (room - 1, omega (arith, less, most), inr (quiet, omega (arith, less, most)))

  pub goes : (s : State) → IsOrderly d s → (room : ℕ) → Lasts s room → (event : Event) → IsThere d s event → Goes s event room
  goes s orderly room (inl most) event there = first_goes s orderly room most event there
  goes s orderly room (inr (quiet, most)) event there =
      let less = fewer s orderly quiet event there in
      by_second s event room less.0 less.1 most

  -- where nothing is left nothing is to come
  pub none_left : (s : State) → IsAtRest d s → IsQuiet d cone s × (second s ≤ 0)
  none_left s rest = subst (λ (u : State). IsQuiet d cone u × (second u ≤ 0)) same (begins_quiet d cone level h emptied still, omega (arith, most))
    where
      emptied : State
      emptied = record s { activated = []; delayed = [] }

      still : HasNoActive d emptied
      still =
          record { inputs = rest.no_active.inputs; processes = rest.no_active.processes; drivers = rest.no_active.drivers; updates = refl }

      most : second (after d emptied Activate) ≤ per (later_wave d) emptied.delayed
      most = activated emptied still

      same : after d emptied Activate ≡ s
      same =
          ap (λ (us : List (List Write)). record s { activated = us; delayed = [] }) (sym rest.no_active.updates)
          ∙ ap (λ (us : List (List Write)). record s { activated = s.activated; delayed = us }) (sym rest.no_delayed)

  -- each value that is offered behind the activation adds what comes of an input there
  one_more : (s : State) (i : ℕ) (bits : List Bit) → second (record s { offered = put s.offered i (Some bits) }) ≤ second s + later_wave d
  one_more s i bits =
      let more = total_raised (length d.signals) i (later_wave d) (of_input d (record s { offered = put s.offered i (Some bits) }) (later_wave d)) (of_input d s (later_wave d))
      (let most = cond_most (is_input d i && is_some (put s.offered i (Some bits) i)) (later_wave d) in omega (arith, most))
      (λ k other. let same = ap (λ o. cond (is_input d k && is_some o) (later_wave d) 0) (put_other s.offered i k (Some bits) other) in omega (arith, same)) in
      omega (arith, more)

  pub more_offered : (s : State) (step : List (ℕ × List Bit)) → second (offer s step) ≤ second s + length step * later_wave d
  more_offered s [] = omega arith
  more_offered s ((i, bits) ∷ step) =
      let one = one_more s i bits in
      let others = more_offered (record s { offered = put s.offered i (Some bits) }) step in
      omega (arith, one, others)

  -- what is to come behind a run
  pub record IsLeft (s : State) (events : List Event) (room : ℕ) : Type 0 where
    pub left : ℕ
    pub spent : left + length events ≡ room
    pub orderly : IsOrderly d (run d s events)
    pub lasts : Lasts (run d s events) left

  pub along : (s : State) (events : List Event) (room : ℕ) → IsOrderly d s → Lasts s room → CanRun d s events → IsLeft s events room
  along s [] room orderly lasts can = record { left = room; spent = omega arith; orderly = orderly; lasts = lasts }
  along s (event ∷ events) room orderly lasts can =
      let next = goes s orderly room lasts event can.0 in
      let it = along (after d s event) events next.0 (orderly_after d lawful s event can.0 orderly) next.2 can.1 in
      let one = next.1 in
      let spent = it.spent in
      record { left = it.left; spent = omega (arith, one, spent); orderly = it.orderly; lasts = it.lasts }

  -- some run leads to rest
  pub to_rest : (room : ℕ) (s : State) → IsOrderly d s → Lasts s room → HasNext d s ⊎ IsAtRest d s → ComesToRest d s
  to_rest room s orderly lasts (inr rest) = record { events = []; can = tt; rest = rest }
  to_rest zero s orderly lasts (inl (event, there)) =
      let it = goes s orderly 0 lasts event there in
      let one = it.1 in
      absurd (omega (arith, one))
  to_rest (suc room) s orderly lasts (inl (event, there)) =
      let it = goes s orderly (suc room) lasts event there in
      let one = it.1 in
      let same : it.0 ≡ room = omega (arith, one) in
      let rest = to_rest room (after d s event) (orderly_after d lawful s event there orderly) (subst (Lasts (after d s event)) same it.2) (next_or_rest d (after d s event)) in
      record { events = event ∷ rest.events; can = (there, rest.can); rest = rest.rest }

  -- ---- where a step starts

  pub begins : (s : State) → IsStart d s → first s ≤ bound d
  begins s start =
      let inputs = total_most (length d.signals) (of_input d s (first_wave d)) (λ i. of_some (times_input (first_wave d)) (slice_get d.signals i))
      (λ i below. input_most (first_wave d) (slice_get d.signals i) (is_some (s.offered i))) in
      let all = total_list (times_input (first_wave d)) d.signals in
      let each = times_inputs (first_wave d) d.signals in
      let processes = total_most n (of_process d s (share d level own)) (share d level own)
      (λ p below.
      let woken = cond_most (s.woken p) (share d level own p) in
      let pending = cond_by (is_assignment (doing_at d p)) (s.pending p) (share d level own p - 1) (start.drivers p) in
      omega (arith, woken, pending)) in
      let within = all_within d level own in
      let activated = ap (per (first_wave d)) start.activated in
      let delayed = ap (per (suc (later_wave d))) start.delayed in
      omega (arith, inputs, all, each, processes, within, activated, delayed)

  -- ---- simulators

  module _ (s : State) (start : IsStart d s) (choice : Choice) (is : IsSimulator d s choice) where
    -- after so many rounds there were as many events, or none is left
    record IsAfter (rounds : ℕ) : Type 0 where
      can : CanRun d s (first_events choice rounds)
      much : (length (first_events choice rounds) ≡ rounds) ⊎ (choice (first_events choice rounds) ≡ None)

    by_choice : (m : ℕ) (o : Option Event) → choice (first_events choice m) ≡ o → IsAfter m → IsAfter (suc m)
    by_choice m None none it =
        let same : first_events choice (suc m) ≡ first_events choice m = ap (with_next (first_events choice m)) none in
        record { can = subst (CanRun d s) (sym same) it.can; much = inr (ap choice same ∙ none) }
    by_choice m (Some event) some it =
        let same : first_events choice (suc m) ≡ first_events choice m ++ event ∷ [] = ap (with_next (first_events choice m)) some in
        let there : IsThere d (run d s (first_events choice m)) event = subst (IsFit d (run d s (first_events choice m))) some (is (first_events choice m) it.can) in
        record {
          can = subst (CanRun d s) (sym same) (can_append d s (first_events choice m) (event ∷ []) it.can (there, tt));
          much = elim it.much [
            | inl long ↦
                let size = ap length same in
                let more = one_longer (first_events choice m) event in
                inl (omega (arith, long, size, more))
            | inr none ↦ absurd (let z = sym none ∙ some in cc)
          ];
        }

    in_rounds : (m : ℕ) → IsAfter m
    in_rounds zero = record { can = tt; much = inl refl }
    in_rounds (suc m) = by_choice m (choice (first_events choice m)) refl (in_rounds m)

    at_end : (o : Option Event) → choice (first_events choice (bound d)) ≡ o → IsAtRest d (run d s (first_events choice (bound d)))
    at_end None none =
        stops_at_rest d (run d s (first_events choice (bound d))) (subst (IsFit d (run d s (first_events choice (bound d)))) none (is (first_events choice (bound d)) (in_rounds (bound d)).can))
    at_end (Some event) some = absurd (by_much (in_rounds (bound d)).much)
      where
        by_much : (length (first_events choice (bound d)) ≡ bound d) ⊎ (choice (first_events choice (bound d)) ≡ None) → ⊥
        by_much (inr none) = let z = sym none ∙ some in cc
        by_much (inl long) =
            let can = (in_rounds (bound d)).can in
            let there : IsThere d (run d s (first_events choice (bound d))) event = subst (IsFit d (run d s (first_events choice (bound d)))) some (is (first_events choice (bound d)) can) in
            let it = along s (first_events choice (bound d) ++ event ∷ []) (bound d) start.orderly (inl (begins s start)) (can_append d s (first_events choice (bound d)) (event ∷ []) can (there, tt)) in
            let more = one_longer (first_events choice (bound d)) event in
            let spent = it.spent in
            omega (arith, long, more, spent)

  pub ends : Ends d
  ends s start =
      record {
        bounded = λ events can.
            let it = along s events (bound d) start.orderly (inl (begins s start)) can in
            let spent = it.spent in
            omega (arith, spent);
        further = λ events can.
            let it = along s events (bound d) start.orderly (inl (begins s start)) can in
            to_rest it.left (run d s events) it.orderly it.lasts (next_or_rest d (run d s events));
        simulated = λ choice is.
            ((in_rounds s start choice is (bound d)).can, at_end s start choice is (choice (first_events choice (bound d))) refl);
      }
