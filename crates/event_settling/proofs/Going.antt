-- A step by level: the wave up to the activation of nonblocking updates, and the one behind it.
use Rattle.std.proofs.Common.{◌≡◌, ◌∙◌, ◌⊎◌, ◌+◌, ◌<◌, ◌≤◌, ◌-◌, ℕ, Bool, true, false, ◌&&◌, is_some, List, [], ◌∷◌, length, Option, None, Some, refl, sym, ap, subst, inl, inr, arith}
use Rattle.std.specs.List.{All, slice_get}
use Rattle.std.proofs.lemmas.Bool.{false≢true, true≢false}
use Rattle.std.proofs.lemmas.List.Elements.{All-nil}
use Rattle.rtl_flat.specs.declared.signal.Signal.{Signal}
use Rattle.rtl_flat.specs.Process.{Actions, Watched, Doing, Assign, Comb, Edge', Task}
use Rattle.event_model.specs.declared.policy.Policy.TheVariants.{Level}
use Rattle.event_model.specs.Order.{active, ready, ready_where}
use Rattle.event_model.specs.Policies.{budget, chosen, cost, nonblocking_in, nonblocking_of, one_if, run_cost}
use Rattle.event_model.specs.Queue.{State, Event, Input, Evaluate, Update, Run, Delayed, Activate, IsThere, HasNoActive, after, doing_at, doing_of, is_assignment, is_input_kind, is_input_of}
use Rattle.rtl_flat.specs.Flats.{Flat, widths}
use Rattle.event_model.specs.Writes.{Write}
use Rattle.event_model.proofs.Active.{no_active}
use Rattle.event_model.proofs.Runs.{chosen_there}
use Rattle.event_runs.specs.event_laws.Steady.{AreLawful, IsWithin}
use Rattle.event_runs.specs.Effects.{other_updates}
use Rattle.event_runs.specs.Writers.{IsOrderly}
use Rattle.event_runs.proofs.Late.{orderly_after}
use Rattle.event_settling.specs.Settling.{IsBegun, IsSettling}
use Rattle.event_settling.proofs.Budget.{falls, need, offers, to_pay}
use Rattle.event_runs.proofs.Effects.{effect}
use Rattle.event_settling.proofs.Orders.{IsChosen, choice}
use Rattle.event_settling.proofs.Quiet.{IsQuiet, begins_quiet, quiet_after, some_none}
use Rattle.event_settling.proofs.Totals.{of_some, total, total_both, total_list, total_most, total_same}
use Rattle.event_settling.proofs.Wave.{IsWave, done_by, wave_after}

-- what a process may cost behind the activation: a block with an edge doesn't run again
abbrev pub again : Option Doing → ℕ
again None = 0
again (Some (Assign target value)) = 2
again (Some (Comb list body)) = run_cost (Some (Comb list body))
again (Some (Edge' events body)) = 0

-- what all processes may cost there
abbrev pub second : Flat → ℕ
second d = total (length d.tasks) (λ p. again (doing_at d p))

-- up to the activation, with room for both waves
pub record InFirst (d : Flat) (level : ℕ → Option ℕ) (s : State) (room : ℕ) : Type 0 where
  pub done : ℕ → Bool
  pub wave : IsWave d level s done
  pub most : to_pay d s done (λ p. need (doing_at d p)) + second d ≤ room

-- behind it
pub record InSecond (d : Flat) (level : ℕ → Option ℕ) (cone : ℕ → Type 0) (s : State) (room : ℕ) : Type 0 where
  pub done : ℕ → Bool
  pub wave : IsWave d level s done
  pub quiet : IsQuiet d cone s
  pub most : to_pay d s done (λ p. again (doing_at d p)) ≤ room

-- a state in a step, with what may still be spent, and a number that no event raises
pub record IsGoing (d : Flat) (level : ℕ → Option ℕ) (cone : ℕ → Type 0) (s : State) (room size : ℕ) : Type 0 where
  pub orderly : IsOrderly d s
  pub wave : (InFirst d level s room × (size ≡ room + 1)) ⊎ (InSecond d level cone s room × (size ≡ room))

-- what an event leads to: it can be paid, and the number falls, or fewer updates are active
pub record Goes (d : Flat) (level : ℕ → Option ℕ) (cone : ℕ → Type 0) (s t : State) (price room size : ℕ) : Type 0 where
  pub left : ℕ
  pub smaller : ℕ
  pub pays : left + price ≡ room
  pub going : IsGoing d level cone t left smaller
  pub falls : (smaller < size) ⊎ ((smaller ≡ size) × (length t.activated < length s.activated))

-- ---- small facts

run_costs : (o : Option Doing) → 1 ≤ run_cost o
run_costs None = omega arith
run_costs (Some does) = omega arith

fewer : (us : List (List Write)) → (us ≡ [] → ⊥) → length (other_updates us) < length us
fewer [] some = absurd (some refl)
fewer (u ∷ us) some = omega arith

-- an event costs something, or it makes an active update
price_or :
    (d : Flat) (level : ℕ → Option ℕ) (s : State) (event : Event) → IsThere d s event → IsChosen level d s event →
    (1 ≤ cost d event) ⊎ ((cost d event ≡ 0) × (length (after d s event).activated < length s.activated))
price_or d level s (Input i) there is = inl (omega arith)
price_or d level s (Evaluate p) there is = inl (omega arith)
price_or d level s (Update p) there is = inl (omega arith)
price_or d level s (Run p) there is = inl (run_costs (doing_at d p))
price_or d level s Delayed there is =
    let same = ap length ((effect d s Delayed there).activated) in
    let less = fewer s.activated there in
    inr (refl, omega (arith, same, less))
price_or d level s Activate there is = absurd is

-- ---- both waves within the budget

waves_of :
    (does : Doing) → ((list : Option (List Watched)) (body : Actions) → does ≡ Comb list body → nonblocking_in body ≡ 0) →
    need (Some does) + again (Some does) ≤ 4 + (nonblocking_of does + one_if (is_assignment (Some does)))
waves_of (Assign target value) none = omega arith
waves_of (Comb list body) none = let zero' = none list body refl in omega (arith, zero')
waves_of (Edge' events body) none = omega arith

abbrev assignments : Task → ℕ
assignments task = one_if (is_assignment (Some task.does))

abbrev lates : Task → ℕ
lates task = nonblocking_of task.does

both_waves :
    (o : Option Task) → ((list : Option (List Watched)) (body : Actions) → doing_of o ≡ Some (Comb list body) → nonblocking_in body ≡ 0) →
    need (doing_of o) + again (doing_of o) ≤ 4 + (of_some lates o + of_some assignments o)
both_waves None none = omega arith
both_waves (Some task) none = waves_of task.does (λ list body e. none list body (ap Some e))

and_less : (a b : Bool) → one_if (a && b) ≤ one_if a
and_less true true = omega arith
and_less true false = omega arith
and_less false b = omega arith

abbrev inputs_of : Signal → ℕ
inputs_of signal = one_if (is_input_kind signal.kind)

offered_most : (o : Option Signal) (b : Bool) → one_if (is_input_of o && b) ≤ of_some inputs_of o
offered_most None b = omega arith
offered_most (Some signal) b = and_less (is_input_kind signal.kind) b

within_budget :
    (d : Flat) (s : State) → ((p : ℕ) (list : Option (List Watched)) (body : Actions) → doing_at d p ≡ Some (Comb list body) → nonblocking_in body ≡ 0) →
    to_pay d s (λ q. false) (λ p. need (doing_at d p)) + second d ≤ budget d
within_budget d s none =
    let n = length d.tasks in
    let first = total_most (length d.signals) (offers d s) (λ i. of_some inputs_of (slice_get d.signals i)) (λ i below. offered_most (slice_get d.signals i) (is_some (s.offered i))) in
    let inputs = total_list inputs_of d.signals in
    let sum = total_both n (λ p. need (doing_at d p)) (λ p. again (doing_at d p)) in
    let each = total_most n (λ p. need (doing_at d p) + again (doing_at d p)) (λ p. 4 + (of_some lates (slice_get d.tasks p) + of_some assignments (slice_get d.tasks p)))
    (λ p below. both_waves (slice_get d.tasks p) (none p)) in
    let four = total_both n (λ p. 4) (λ p. of_some lates (slice_get d.tasks p) + of_some assignments (slice_get d.tasks p)) in
    let same = total_same n 4 in
    let parts = total_both n (λ p. of_some lates (slice_get d.tasks p)) (λ p. of_some assignments (slice_get d.tasks p)) in
    let late = total_list lates d.tasks in
    let assigned = total_list assignments d.tasks in
    omega (arith, first, inputs, sum, each, four, same, parts, late, assigned)

-- ---- one event

module _ (d : Flat) (lawful : AreLawful d) (level : ℕ → Option ℕ) (cone : ℕ → Type 0) (h : IsSettling d level cone) where
  -- a block with an edge isn't woken behind the activation
  again_enough : (s : State) → IsQuiet d cone s → (p : ℕ) (does : Option Doing) → doing_at d p ≡ does → s.woken p ≡ true → need does ≤ again does
  again_enough s quiet p None e woken = omega arith
  again_enough s quiet p (Some (Assign target value)) e woken = omega arith
  again_enough s quiet p (Some (Comb list body)) e woken = omega arith
  again_enough s quiet p (Some (Edge' events body)) e woken = absurd (true≢false (sym woken ∙ quiet.blocks p events body e))

  -- nothing has been taken where updates become active
  activated_first : (t : State) (room : ℕ) → HasNoActive d t → InFirst d level t room → InSecond d level cone (after d t Activate) room
  activated_first t room none at =
      record {
        done = λ q. false;
        wave = record {
          after = λ p q is inside woken. absurd (false≢true is);
          pending = λ p is some. absurd (some_none (t.pending p) some (none.drivers p is));
          last = λ p q is some done. absurd (false≢true done);
          inputs = λ p i is input. absurd (false≢true is);
          updates = λ p is. absurd (false≢true is);
        };
        quiet = begins_quiet d cone level h t none;
        most = let most = at.most in omega (arith, most);
      }

  activated_second : (t : State) (room : ℕ) → HasNoActive d t → InSecond d level cone t room → InSecond d level cone (after d t Activate) room
  activated_second t room none at =
      record {
        done = at.done;
        wave = record {
          after = at.wave.after;
          pending = at.wave.pending;
          last = at.wave.last;
          inputs = at.wave.inputs;
          updates = λ p is. at.quiet.delayed;
        };
        quiet = begins_quiet d cone level h t none;
        most = at.most;
      }

  pub orderly_active : (t : State) → IsOrderly d t → IsOrderly d (after d t Activate)
  orderly_active t orderly =
      let steady = orderly.steady in
      record {
        steady = record {
          within = record { offered = steady.within.offered; activated = steady.within.delayed; delayed = All-nil (All (IsWithin (widths d))) };
          widths = steady.widths;
          up_to_date = steady.up_to_date;
        };
        late = record { activated = orderly.late.delayed; delayed = λ i k over. absurd (false≢true over) };
      }

  abbrev Price : State → State → ℕ → Type 0
  Price s t price = (1 ≤ price) ⊎ ((price ≡ 0) × (length t.activated < length s.activated))

  -- a number that is less by a price
  less_by :
      (s t : State) (price left room more : ℕ) → left + price ≡ room → Price s t price →
      (left + more < room + more) ⊎ ((left + more ≡ room + more) × (length t.activated < length s.activated))
  less_by s t price left room more pays (inl some) = inl (omega (arith, pays, some))
  less_by s t price left room more pays (inr none) = let zero' = none.0 in inr (omega (arith, pays, zero'), none.1)

  -- in the first wave, where something stays active
  stays_first :
      (s t : State) (price left room size : ℕ) → left + price ≡ room → size ≡ room + 1 → IsOrderly d t → InFirst d level t left →
      Price s t price → Goes d level cone s t price room size
  stays_first s t price left room size pays is orderly at some =
      record {
        left = left;
        smaller = left + 1;
        pays = pays;
        going = record { orderly = orderly; wave = inl (at, refl) };
        falls = subst (λ n. (left + 1 < n) ⊎ ((left + 1 ≡ n) × (length t.activated < length s.activated))) (sym is) (less_by s t price left room 1 pays some);
      }

  turns_first :
      (s t : State) (price left room size : ℕ) → left + price ≡ room → size ≡ room + 1 → HasNoActive d t → IsOrderly d t →
      InFirst d level t left → Goes d level cone s (after d t Activate) price room size
  turns_first s t price left room size pays is none orderly at =
      record {
        left = left;
        smaller = left;
        pays = pays;
        going = record { orderly = orderly_active t orderly; wave = inr (activated_first t left none at, refl) };
        falls = inl (omega (arith, pays, is));
      }

  stays_second :
      (s t : State) (price left room size : ℕ) → left + price ≡ room → size ≡ room → IsOrderly d t → InSecond d level cone t left →
      Price s t price → Goes d level cone s t price room size
  stays_second s t price left room size pays is orderly at some =
      record {
        left = left;
        smaller = left;
        pays = pays;
        going = record { orderly = orderly; wave = inr (at, refl) };
        falls = by_price some;
      }
    where
      by_price : Price s t price → (left < size) ⊎ ((left ≡ size) × (length t.activated < length s.activated))
      by_price (inl more) = inl (omega (arith, pays, is, more))
      by_price (inr none) = let zero' = none.0 in inr (omega (arith, pays, is, zero'), none.1)

  turns_second :
      (s t : State) (price left room size : ℕ) → left + price ≡ room → size ≡ room → HasNoActive d t → IsOrderly d t →
      InSecond d level cone t left → Price s t price → Goes d level cone s (after d t Activate) price room size
  turns_second s t price left room size pays is none orderly at some =
      stays_second s (after d t Activate) price left room size pays is (orderly_active t orderly) (activated_second t left none at) (by_price some)
    where
      by_price : Price s t price → Price s (after d t Activate) price
      by_price (inl more) = inl more
      by_price (inr fewer') =
          let no_more = ap length at.quiet.delayed in
          let less = fewer'.1 in
          inr (fewer'.0, omega (arith, no_more, less))

  -- and after that, whether updates become active or not
  ready_first :
      (s t : State) (price left room size : ℕ) (es : List Event) → active d t ≡ es → left + price ≡ room → size ≡ room + 1 → IsOrderly d t →
      InFirst d level t left → Price s t price → Goes d level cone s (ready_where d t es) price room size
  ready_first s t price left room size [] none pays is orderly at some = turns_first s t price left room size pays is (no_active d t none) orderly at
  ready_first s t price left room size (event ∷ es) some' pays is orderly at some = stays_first s t price left room size pays is orderly at some

  ready_second :
      (s t : State) (price left room size : ℕ) (es : List Event) → active d t ≡ es → left + price ≡ room → size ≡ room → IsOrderly d t →
      InSecond d level cone t left → Price s t price → Goes d level cone s (ready_where d t es) price room size
  ready_second s t price left room size [] none pays is orderly at some = turns_second s t price left room size pays is (no_active d t none) orderly at some
  ready_second s t price left room size (event ∷ es) some' pays is orderly at some = stays_second s t price left room size pays is orderly at some

  -- the event that is taken next can be paid
  pub goes :
      (s : State) (room size : ℕ) (event : Event) → IsGoing d level cone s room size → chosen Level level d s ≡ Some event →
      Goes d level cone s (ready d (after d s event)) (cost d event) room size
  goes s room size event going next = by_wave going.wave
    where
      there : IsThere d s event
      there = chosen_there Level level d s event next

      is : IsChosen level d s event
      is = choice level d s event next

      orderly : IsOrderly d (after d s event)
      orderly = orderly_after d lawful s event there going.orderly

      some : Price s (after d s event) (cost d event)
      some = price_or d level s event there is

      by_wave :
          (InFirst d level s room × (size ≡ room + 1)) ⊎ (InSecond d level cone s room × (size ≡ room)) →
          Goes d level cone s (ready d (after d s event)) (cost d event) room size
      by_wave (inl (at, same)) =
          let less = falls d level (λ p. need (doing_at d p)) s (λ p inside woken. omega arith) event at.done there is at.wave in
          let most = at.most in
          ready_first s (after d s event) (cost d event) (room - cost d event) room size (active d (after d s event)) refl (omega (arith, less, most)) same orderly
          (record {
            done = done_by at.done event;
            wave = wave_after d lawful level cone h s going.orderly event at.done there is at.wave;
            most = omega (arith, less, most);
          }) some
      by_wave (inr (at, same)) =
          let less = falls d level (λ p. again (doing_at d p)) s (λ p inside woken. again_enough s at.quiet p (doing_at d p) refl woken) event at.done there is at.wave in
          let most = at.most in
          ready_second s (after d s event) (cost d event) (room - cost d event) room size (active d (after d s event)) refl (omega (arith, less, most)) same orderly
          (record {
            done = done_by at.done event;
            wave = wave_after d lawful level cone h s going.orderly event at.done there is at.wave;
            quiet = quiet_after d lawful level cone h s going.orderly at.quiet event there;
            most = omega (arith, less, most);
          }) some

  -- ---- where a step begins

  pub begins : (s : State) → IsBegun d s → IsGoing d level cone s (budget d) (budget d + 1)
  begins s begun =
      record {
        orderly = begun.orderly;
        wave = inl (
          record {
            done = λ q. false;
            wave = record {
              after = λ p q is inside woken. absurd (false≢true is);
              pending = λ p is some. absurd (some_none (s.pending p) some (begun.drivers p is));
              last = λ p q is some done. absurd (false≢true done);
              inputs = λ p i is input. absurd (false≢true is);
              updates = λ p is. absurd (false≢true is);
            };
            most = within_budget d s (λ p list body e. h.blocking p list body e);
          },
          refl,
        );
      }
