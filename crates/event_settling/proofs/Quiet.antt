-- Behind the activation of nonblocking updates nothing of the cone changes, so that no block with an edge runs.
use Rattle.std.proofs.Common.{◌≡◌, ◌∙◌, ◌==◌, ℕ, Bool, true, false, ◌||◌, if◌then◌else◌, IsSome, is_some, List, [], ◌++◌, Option, None, Some, refl, sym, ap, subst, inl, inr}
use Rattle.std.specs.Prelude.{IsTrue}
use Rattle.std.proofs.lemmas.Bool.{cases_Bool, eqb-true, false≢true, true≢false}
use Rattle.rtl_bits.specs.declared.Bit.{Bit}
use Rattle.rtl_flat.specs.Expression.{Tree}
use Rattle.rtl_flat.specs.Flows.{flow_of}
use Rattle.rtl_flat.specs.Paths.{MayWrite, MayWriteLate, ReadsOutside}
use Rattle.rtl_flat.specs.PathSets.{OfProcess}
use Rattle.rtl_flat.specs.Process.{Piece, Watched, Actions, Doing, Assign, Comb, Edge'}
use Rattle.rtl_flat.proofs.Paths.{decided}
use Rattle.event_model.specs.Queue.{State, Event, Input, Evaluate, Update, Run, Delayed, Activate, IsThere, HasNoActive, after, doing_at, drive_now, is_assignment, is_input}
use Rattle.rtl_flat.specs.Flats.{Flat, widths}
use Rattle.event_runs.specs.event_laws.Steady.{AreLawful}
use Rattle.event_runs.specs.Effects.{delayed_after, evaluates, event_writes, is_heard, laters, run_made, runs, takes, updates}
use Rattle.event_runs.specs.Writers.{CanWrite, IsOrderly}
use Rattle.event_runs.proofs.May.{process_late, process_now}
use Rattle.event_runs.proofs.Writers.{event_over, event_within, of_process, to_process}
use Rattle.event_settling.specs.Settling.{IsConeDriver, IsSettling}
use Rattle.event_runs.proofs.Effects.{effect}
use Rattle.event_settling.proofs.Facts.{assign_reads}
use Rattle.event_settling.proofs.Inner.{none_in}
use Rattle.event_settling.proofs.Waking.{attends, reached}

-- the cone is at rest, and no update waits for a further activation
pub record IsQuiet (d : Flat) (cone : ℕ → Type 0) (s : State) : Type 0 where
  pub inputs : (i : ℕ) → IsTrue (is_input d i) → cone i → s.offered i ≡ None
  pub blocks : (p : ℕ) (events : List Watched) (body : Actions) → doing_at d p ≡ Some (Edge' events body) → s.woken p ≡ false
  pub waits : (p i k : ℕ) → OfProcess MayWrite d.signals d.tasks p i k → cone i → s.woken p ≡ false
  pub drives : (p i k : ℕ) → OfProcess MayWrite d.signals d.tasks p i k → cone i → s.pending p ≡ None
  pub delayed : s.delayed ≡ []

pub some_none : {A : Type 0} (o : Option A) → IsSome o → o ≡ None → ⊥
some_none (Some x) is e = absurd (let z : Some x ≡ None = e in cc)
some_none None is e = false≢true is

-- ---- what is written

-- a continuous assignment makes no update
never_late : (ws : ℕ → ℕ) (target : List Piece) (value : Tree) (i k : ℕ) → MayWriteLate (flow_of ws (Assign target value)) i k → ⊥
never_late ws target value i k h =
    false≢true ((decided (flow_of ws (Assign target value)) i k).late.1 h)

module _ (d : Flat) (lawful : AreLawful d) (level : ℕ → Option ℕ) (cone : ℕ → Type 0) (h : IsSettling d level cone) (s : State) (orderly : IsOrderly d s) (quiet : IsQuiet d cone s) where
  late_cone : (does : Doing) (i k : ℕ) → is_assignment (Some does) ≡ true → MayWriteLate (flow_of (widths d) does) i k → ⊥
  late_cone (Assign target value) i k is written = never_late (widths d) target value i k written
  late_cone (Comb list body) i k is written = false≢true is
  late_cone (Edge' events body) i k is written = false≢true is

  -- no event may write a bit of the cone
  never_cone : (event : Event) → IsThere d s event → (i k : ℕ) → CanWrite d event i k → cone i → ⊥
  never_cone (Input j) there i k can is =
      some_none (s.offered j) there.1 (quiet.inputs j there.0 (subst cone can is))
  never_cone (Evaluate p) there i k can is = can
  never_cone (Update p) there i k can is = some_none (s.pending p) there.1 (quiet.drives p i k can is)
  never_cone (Run p) there i k can is =
      true≢false (sym there.1 ∙ quiet.waits p i k (process_now d p i k can) is)
  never_cone Delayed there i k can is =
      let it = of_process MayWriteLate d can.process i k can.may in
      let driver = h.drivers can.process i k (process_late d can.process i k can.may) is in
      late_cone it.0 i k (ap is_assignment (sym it.1) ∙ driver.assigns) it.2
  never_cone Activate there i k can is = can

  -- who listens to the cone alone hears nothing
  deaf :
      (event : Event) → IsThere d s event → (does : Doing) → ((i k : ℕ) → attends (widths d) does i k ≡ true → cone i) →
      is_heard d s.value (event_writes d s event) (Some does) ≡ false
  deaf event there does lies =
      elim (cases_Bool (is_heard d s.value (event_writes d s event) (Some does))) [
        | inl is ↦
            let it = reached d s.value (event_writes d s event) does orderly.steady.widths (event_within d lawful s orderly event there) is in
            absurd (never_cone event there it.signal it.bit (event_over d lawful s orderly event it.signal it.bit it.over) (lies it.signal it.bit it.attended))
        | inr not ↦ not
      ]

  stays :
      (event : Event) → IsThere d s event → (p : ℕ) (does : Doing) → doing_at d p ≡ Some does →
      ((i k : ℕ) → attends (widths d) does i k ≡ true → cone i) → s.woken p ≡ false → (after d s event).woken p ≡ false
  stays event there p does e lies waits =
      (effect d s event there).woken p
      ∙ still (evaluates event p || runs event p) (s.woken p) (is_heard d s.value (event_writes d s event) (doing_at d p)) waits
      (ap (is_heard d s.value (event_writes d s event)) e ∙ deaf event there does lies)
    where
      still : (b woken hears : Bool) → woken ≡ false → hears ≡ false → (if b then false else (woken || hears)) ≡ false
      still true woken hears a c = refl
      still false woken hears a c = ap (λ x. x || hears) a ∙ c

  driver_stays :
      (event : Event) → IsThere d s event → (p i k : ℕ) → OfProcess MayWrite d.signals d.tasks p i k → cone i →
      (after d s event).woken p ≡ false
  driver_stays event there p i k may is =
      let driver = h.drivers p i k may is in
      let it = of_process MayWrite d p i k may in
      stays event there p it.0 it.1 (λ j l attended. lies it.0 it.1 (ap is_assignment (sym it.1) ∙ driver.assigns) driver j l attended) (quiet.waits p i k may is)
    where
      lies :
          (does : Doing) → doing_at d p ≡ Some does → is_assignment (Some does) ≡ true → IsConeDriver d cone p → (j l : ℕ) →
          attends (widths d) does j l ≡ true → cone j
      lies (Assign target value) e is driver j l attended =
          driver.reads j l (to_process ReadsOutside d p j l (Assign target value) e (assign_reads (widths d) target value j l attended))
      lies (Comb list body) e is driver j l attended = absurd (false≢true is)
      lies (Edge' events body) e is driver j l attended = absurd (false≢true is)

  -- an evaluation is of a woken process
  not_evaluated : (event : Event) → IsThere d s event → (p : ℕ) → s.woken p ≡ false → evaluates event p ≡ false
  not_evaluated (Input i) there p waits = refl
  not_evaluated (Evaluate q) there p waits =
      elim (cases_Bool (p == q)) [
        | inl same ↦ absurd (true≢false (sym there.1 ∙ ap s.woken (sym (eqb-true p q same)) ∙ waits))
        | inr other ↦ other
      ]
  not_evaluated (Update q) there p waits = refl
  not_evaluated (Run q) there p waits = refl
  not_evaluated Delayed there p waits = refl
  not_evaluated Activate there p waits = refl

  nothing_pending : (event : Event) → IsThere d s event → (p : ℕ) → s.woken p ≡ false → s.pending p ≡ None → (after d s event).pending p ≡ None
  nothing_pending event there p waits none =
      (effect d s event there).pending p ∙ by_event (Some (drive_now s.value (doing_at d p))) (evaluates event p) (updates event p) (not_evaluated event there p waits)
    where
      by_event : (v : Option (List Bit)) (a b : Bool) → a ≡ false → (if a then v else if b then None else s.pending p) ≡ None
      by_event v true b e = absurd (true≢false e)
      by_event v false true e = refl
      by_event v false false e = none

  not_offered : (event : Event) → IsThere d s event → (i : ℕ) → s.offered i ≡ None → (after d s event).offered i ≡ None
  not_offered event there i none = (effect d s event there).offered i ∙ by_event (takes event i)
    where
      by_event : (a : Bool) → (if a then None else s.offered i) ≡ None
      by_event true = refl
      by_event false = none

  -- no body that may run makes an update
  pub made_none : (p : ℕ) (does : Option Doing) → doing_at d p ≡ does → s.woken p ≡ true → laters (run_made d s.value does) ≡ []
  made_none p None e woken = refl
  made_none p (Some (Assign target value)) e woken = refl
  made_none p (Some (Comb list body)) e woken = none_in (widths d) body (h.blocking p list body e) s.value
  made_none p (Some (Edge' events body)) e woken = absurd (true≢false (sym woken ∙ quiet.blocks p events body e))

  none_delayed : (event : Event) → IsThere d s event → delayed_after d s event ≡ []
  none_delayed (Input i) there = quiet.delayed
  none_delayed (Evaluate p) there = quiet.delayed
  none_delayed (Update p) there = quiet.delayed
  none_delayed (Run p) there =
      ap (λ us. us ++ laters (run_made d s.value (doing_at d p))) quiet.delayed ∙ made_none p (doing_at d p) refl there.1
  none_delayed Delayed there = quiet.delayed
  none_delayed Activate there = refl

  pub quiet_after : (event : Event) → IsThere d s event → IsQuiet d cone (after d s event)
  quiet_after event there =
      record {
        inputs = λ i input is. not_offered event there i (quiet.inputs i input is);
        blocks = λ p events body e. stays event there p (Edge' events body) e (h.items p events body e) (quiet.blocks p events body e);
        waits = λ p i k may is. driver_stays event there p i k may is;
        drives = λ p i k may is. nothing_pending event there p (quiet.waits p i k may is) (quiet.drives p i k may is);
        delayed = (effect d s event there).delayed ∙ none_delayed event there;
      }

-- where updates have just become active the cone is at rest
pub begins_quiet :
    (d : Flat) (cone : ℕ → Type 0) (level : ℕ → Option ℕ) (h : IsSettling d level cone) (s : State) → HasNoActive d s →
    IsQuiet d cone (after d s Activate)
begins_quiet d cone level h s none =
    record {
      inputs = λ i input is. none.inputs i input;
      blocks = λ p events body e. none.processes p (ap is_some e);
      waits = λ p i k may is. let it = of_process MayWrite d p i k may in none.processes p (ap is_some it.1);
      drives = λ p i k may is. none.drivers p (h.drivers p i k may is).assigns;
      delayed = refl;
    }
