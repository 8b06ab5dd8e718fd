-- Each event but the activation lowers what may still come by one at least.
use Rattle.std.proofs.Common.{◌≡◌, ◌≢◌, ◌∙◌, ◌==◌, ◌+◌, ◌-◌, ◌<◌, ◌≤◌, ◌⊎◌, ℕ, Bool, true, false, cond, ◌&&◌, ◌||◌, if◌then◌else◌, is_some, List, length, Option, None, Some, refl, ap, inl, inr, arith}
use Rattle.std.proofs.lemmas.Bool.{eq-eqb, false≢true, ne_eqb, or_left, true≢false}
use Rattle.rtl_bits.specs.declared.Bit.{Bit}
use Rattle.rtl_flat.specs.Process.{Doing, Assign, Comb, Edge'}
use Rattle.event_model.specs.Policies.{is_below}
use Rattle.event_model.specs.Queue.{State, Event, Input, Evaluate, Update, Run, Delayed, Activate, IsThere, after, doing_at, drive_now, is_assignment, is_body, is_input}
use Rattle.rtl_flat.specs.Flats.{Flat}
use Rattle.event_model.proofs.Active.{assignment_is, signal_there, task_there}
use Rattle.event_runs.specs.event_laws.Steady.{AreLawful}
use Rattle.event_runs.specs.Effects.{evaluates, event_writes, is_heard, laters, run_made, runs, takes, updates}
use Rattle.event_runs.specs.Writers.{IsOrderly}
use Rattle.event_runs.proofs.Effects.{effect}
use Rattle.event_settling.specs.Settling.{IsSettling}
use Rattle.event_settling.proofs.Totals.{total, total_both, total_less, total_most}
use Rattle.event_settling.proofs.Hears.{hears_run, hears_update}
use Rattle.event_settling.proofs.Few.{per, per_append, per_other}
use Rattle.event_settling.proofs.Shares.{led}

-- ---- what may still come

-- of an input
abbrev pub of_input : Flat → State → ℕ → ℕ → ℕ
of_input d s each i = cond (is_input d i && is_some (s.offered i)) each 0

-- of a process: all that comes of its evaluation or run, and of its driver's update
abbrev pub of_process : Flat → State → (ℕ → ℕ) → ℕ → ℕ
of_process d s a p =
    cond (s.woken p) (a p) 0 + cond (is_assignment (doing_at d p) && is_some (s.pending p)) (a p - 1) 0

-- of all, where so many come of an input or an activated update, of a delayed one, and of each process
abbrev pub to_come : Flat → State → ℕ → ℕ → (ℕ → ℕ) → ℕ
to_come d s each later a =
    total (length d.signals) (of_input d s each) + total (length d.tasks) (of_process d s a) + per each s.activated + per later s.delayed

-- ---- small facts

either_most : (taken woken hears : Bool) (x : ℕ) → cond (if taken then false else (woken || hears)) x 0 ≤ cond woken x 0 + cond hears x 0
either_most true woken hears x = omega arith
either_most false true hears x = omega arith
either_most false false hears x = omega arith

not_woken : (taken rest : Bool) (x : ℕ) → taken ≡ true → cond (if taken then false else rest) x 0 ≡ 0
not_woken true rest x e = refl
not_woken false rest x e = absurd (false≢true e)

-- no more is pending where no expression is evaluated
pending_most :
    (b e u : Bool) (new o : Option (List Bit)) (x : ℕ) → e ≡ false →
    cond (b && is_some (if e then new else if u then None else o)) x 0 ≤ cond (b && is_some o) x 0
pending_most b true u new o x not = absurd (true≢false not)
pending_most true false true new o x not = omega arith
pending_most true false false new o x not = omega arith
pending_most false false u new o x not = omega arith

-- nor is more offered
offered_most : (b t : Bool) (o : Option (List Bit)) (x : ℕ) → cond (b && is_some (if t then None else o)) x 0 ≤ cond (b && is_some o) x 0
offered_most true true o x = omega arith
offered_most true false o x = omega arith
offered_most false t o x = omega arith

cond_most : (b : Bool) (x : ℕ) → cond b x 0 ≤ x
cond_most true x = omega arith
cond_most false x = omega arith

cond_both : (a b : Bool) (x : ℕ) → a ≡ true → b ≡ true → cond (a && b) x 0 ≡ x
cond_both true true x e f = refl
cond_both true false x e f = absurd (false≢true f)
cond_both false b x e f = absurd (false≢true e)

cond_none : (a b : Bool) (x : ℕ) → b ≡ false → cond (a && b) x 0 ≡ 0
cond_none true b x e = ap (λ c. cond c x 0) e
cond_none false b x e = refl

cond_is : (a : Bool) (x : ℕ) → a ≡ true → cond a x 0 ≡ x
cond_is true x e = refl
cond_is false x e = absurd (false≢true e)

cond_less : (a b : Bool) (x : ℕ) → (a ≡ true → b ≡ true) → cond a x 0 ≤ cond b x 0
cond_less true true x h = omega arith
cond_less true false x h = absurd (false≢true (h refl))
cond_less false true x h = omega arith
cond_less false false x h = omega arith

taken_none : (b : Bool) (o : Option (List Bit)) → b ≡ true → is_some (if b then None else o) ≡ false
taken_none true o e = refl
taken_none false o e = absurd (false≢true e)

other_or : (q p : ℕ) → q ≢ p → ((q == p) || false) ≡ false
other_or q p other = ap (λ b. b || false) (ne_eqb q p other)

body_not : (o : Option Doing) → is_body o ≡ true → is_assignment o ≡ false
body_not None e = refl
body_not (Some (Assign target value)) e = absurd (false≢true e)
body_not (Some (Comb list body)) e = refl
body_not (Some (Edge' events body)) e = refl

body_some : (o : Option Doing) → is_body o ≡ true → is_some o ≡ true
body_some None e = absurd (false≢true e)
body_some (Some does) e = refl

-- ---- what comes pays for what it leads to

pub record Pays (d : Flat) (level : ℕ → Option ℕ) (s : State) (each later : ℕ) (a : ℕ → ℕ) : Type 0 where
  -- an input or an update may wake all processes
  pub all : total (length d.tasks) a + 1 ≤ each
  -- an evaluation leads to an update, and that wakes those above
  pub driver : (p : ℕ) → is_assignment (doing_at d p) ≡ true → total (length d.tasks) (led d level a p) + 2 ≤ a p
  -- a body wakes those above, and makes updates
  pub body :
      (p : ℕ) → is_body (doing_at d p) ≡ true → s.woken p ≡ true →
      total (length d.tasks) (led d level a p) + 1 + per later (laters (run_made d s.value (doing_at d p))) ≤ a p

module _ (d : Flat) (lawful : AreLawful d) (level : ℕ → Option ℕ) (cone : ℕ → Type 0) (h : IsSettling d level cone) (s : State) (orderly : IsOrderly d s) (each later : ℕ) (a : ℕ → ℕ) (pays : Pays d level s each later a) where
  abbrev n : ℕ
  n = length d.tasks

  abbrev hears : Event → ℕ → Bool
  hears event q = is_heard d s.value (event_writes d s event) (doing_at d q)

  inputs_most : (event : Event) → IsThere d s event → (i : ℕ) → of_input d (after d s event) each i ≤ of_input d s each i
  inputs_most event there i =
      let same = ap (λ (o : Option (List Bit)). cond (is_input d i && is_some o) each 0) ((effect d s event there).offered i) in
      let less = offered_most (is_input d i) (takes event i) (s.offered i) each in
      omega (arith, same, less)

  all_inputs : (event : Event) → IsThere d s event → total (length d.signals) (of_input d (after d s event) each) ≤ total (length d.signals) (of_input d s each)
  all_inputs event there =
      total_most (length d.signals) (of_input d (after d s event) each) (of_input d s each) (λ i below. inputs_most event there i)

  pending_less :
      (event : Event) → IsThere d s event → (q : ℕ) → evaluates event q ≡ false →
      cond (is_assignment (doing_at d q) && is_some ((after d s event).pending q)) (a q - 1) 0 ≤ cond (is_assignment (doing_at d q) && is_some (s.pending q)) (a q - 1) 0
  pending_less event there q not =
      let same = ap (λ (o : Option (List Bit)). cond (is_assignment (doing_at d q) && is_some o) (a q - 1) 0) ((effect d s event there).pending q) in
      let less = pending_most (is_assignment (doing_at d q)) (evaluates event q) (updates event q) (Some (drive_now s.value (doing_at d q))) (s.pending q) (a q - 1) not in
      omega (arith, same, less)

  -- a process that isn't evaluated is owed no more but where it hears
  process_most :
      (event : Event) → IsThere d s event → (q : ℕ) → evaluates event q ≡ false →
      of_process d (after d s event) a q ≤ of_process d s a q + cond (hears event q) (a q) 0
  process_most event there q not =
      let same = ap (λ b. cond b (a q) 0) ((effect d s event there).woken q) in
      let less = either_most (evaluates event q || runs event q) (s.woken q) (hears event q) (a q) in
      let pending = pending_less event there q not in
      omega (arith, same, less, pending)

  -- an input or an update, which may wake all
  all_processes :
      (event : Event) → IsThere d s event → ((q : ℕ) → evaluates event q ≡ false) →
      total n (of_process d (after d s event) a) + 1 ≤ total n (of_process d s a) + each
  all_processes event there not =
      let most = total_most n (of_process d (after d s event) a) (λ q. of_process d s a q + a q)
      (λ q below.
      let one = process_most event there q (not q) in
      let few = cond_most (hears event q) (a q) in
      omega (arith, one, few)) in
      let both = total_both n (of_process d s a) a in
      let all = pays.all in
      omega (arith, most, both, all)

  -- a process, which wakes those above
  some_processes :
      (event : Event) (p c : ℕ) → IsThere d s event → p < n → ((q : ℕ) → q ≢ p → evaluates event q ≡ false) →
      ((q : ℕ) → q < n → q ≢ p → hears event q ≡ true → is_below (level p) (level q) ≡ true) →
      of_process d (after d s event) a p + c ≤ of_process d s a p + led d level a p p →
      total n (of_process d (after d s event) a) + c ≤ total n (of_process d s a) + total n (led d level a p)
  some_processes event p c there inside not above less =
      let most = total_less n p c (of_process d (after d s event) a) (λ q. of_process d s a q + led d level a p q) inside less
      (λ q below other.
      let one = process_most event there q (not q other) in
      let few = cond_less (hears event q) (is_below (level p) (level q)) (a q) (above q below other) in
      omega (arith, one, few)) in
      let both = total_both n (of_process d s a) (led d level a p) in
      omega (arith, most, both)

  abbrev Falls : Event → Type 0
  Falls event = to_come d (after d s event) each later a + 1 ≤ to_come d s each later a

  fall_input : (i : ℕ) → IsThere d s (Input i) → Falls (Input i)
  fall_input i there =
      let e = effect d s (Input i) there in
      let had = cond_both (is_input d i) (is_some (s.offered i)) each there.0 there.1 in
      let has = cond_none (is_input d i) (is_some ((after d s (Input i)).offered i)) each (ap is_some (e.offered i) ∙ taken_none (i == i) (s.offered i) (eq-eqb i i refl)) in
      let inputs = total_less (length d.signals) i each (of_input d (after d s (Input i)) each) (of_input d s each) (signal_there d i there.0) (omega (arith, had, has))
      (λ j below other. inputs_most (Input i) there j) in
      let processes = all_processes (Input i) there (λ q. refl) in
      let activated = ap (per each) e.activated in
      let delayed = ap (per later) e.delayed in
      omega (arith, inputs, processes, activated, delayed)

  fall_delayed : IsThere d s Delayed → Falls Delayed
  fall_delayed there =
      let e = effect d s Delayed there in
      let inputs = all_inputs Delayed there in
      let processes = all_processes Delayed there (λ q. refl) in
      let activated = ap (per each) e.activated in
      let fewer = per_other each s.activated there in
      let delayed = ap (per later) e.delayed in
      omega (arith, inputs, processes, activated, fewer, delayed)

  fall_update : (p : ℕ) → IsThere d s (Update p) → Falls (Update p)
  fall_update p there =
      let e = effect d s (Update p) there in
      let inside = task_there d p (assignment_is (doing_at d p) there.0) in
      let inputs = all_inputs (Update p) there in
      let had = cond_both (is_assignment (doing_at d p)) (is_some (s.pending p)) (a p - 1) there.0 there.1 in
      let has = cond_none (is_assignment (doing_at d p)) (is_some ((after d s (Update p)).pending p)) (a p - 1)
      (ap is_some (e.pending p) ∙ taken_none (p == p) (s.pending p) (eq-eqb p p refl)) in
      let woken = ap (λ b. cond b (a p) 0) (e.woken p) in
      let own = either_most false (s.woken p) (hears (Update p) p) (a p) in
      let above = cond_less (hears (Update p) p) (is_below (level p) (level p)) (a p) (λ is. hears_update d level cone h lawful s orderly p p there inside is) in
      let processes = some_processes (Update p) p (a p - 1) there inside (λ q other. refl)
      (λ q below other is. hears_update d level cone h lawful s orderly p q there below is) (omega (arith, had, has, woken, own, above)) in
      let enough = pays.driver p there.0 in
      let activated = ap (per each) e.activated in
      let delayed = ap (per later) e.delayed in
      omega (arith, inputs, processes, enough, activated, delayed)

  fall_evaluate : (p : ℕ) → IsThere d s (Evaluate p) → Falls (Evaluate p)
  fall_evaluate p there =
      let e = effect d s (Evaluate p) there in
      let inside = task_there d p (assignment_is (doing_at d p) there.0) in
      let inputs = all_inputs (Evaluate p) there in
      let enough = pays.driver p there.0 in
      let had = cond_is (s.woken p) (a p) there.1 in
      let woken = ap (λ b. cond b (a p) 0) (e.woken p) in
      let none = not_woken ((p == p) || false) (s.woken p || hears (Evaluate p) p) (a p) (or_left (p == p) false (eq-eqb p p refl)) in
      let pending = cond_most (is_assignment (doing_at d p) && is_some ((after d s (Evaluate p)).pending p)) (a p - 1) in
      let most = total_less n p 1 (of_process d (after d s (Evaluate p)) a) (of_process d s a) inside (omega (arith, enough, had, woken, none, pending))
      (λ q below other. let one = process_most (Evaluate p) there q (ne_eqb q p other) in omega (arith, one)) in
      let activated = ap (per each) e.activated in
      let delayed = ap (per later) e.delayed in
      omega (arith, inputs, most, activated, delayed)

  fall_run : (p : ℕ) → IsThere d s (Run p) → Falls (Run p)
  fall_run p there =
      let e = effect d s (Run p) there in
      let inside = task_there d p (body_some (doing_at d p) there.0) in
      let inputs = all_inputs (Run p) there in
      let had = cond_is (s.woken p) (a p) there.1 in
      let woken = ap (λ b. cond b (a p) 0) (e.woken p) in
      let none = not_woken (p == p) (s.woken p || hears (Run p) p) (a p) (eq-eqb p p refl) in
      let pending = pending_less (Run p) there p refl in
      let processes = some_processes (Run p) p (a p) there inside (λ q other. refl)
      (λ q below other is. above q other (hears_run d level cone h lawful s orderly p q there below is)) (omega (arith, had, woken, none, pending)) in
      let enough = pays.body p there.0 there.1 in
      let activated = ap (per each) e.activated in
      let delayed = ap (per later) e.delayed in
      let more = per_append later s.delayed (laters (run_made d s.value (doing_at d p))) in
      omega (arith, inputs, processes, enough, activated, delayed, more)
    where
      above : (q : ℕ) → q ≢ p → (q ≡ p) ⊎ (is_below (level p) (level q) ≡ true) → is_below (level p) (level q) ≡ true
      above q other (inl same) = absurd (other same)
      above q other (inr is) = is

  pub falls : (event : Event) → event ≢ Activate → IsThere d s event → Falls event
  falls (Input i) other there = fall_input i there
  falls (Evaluate p) other there = fall_evaluate p there
  falls (Update p) other there = fall_update p there
  falls (Run p) other there = fall_run p there
  falls Delayed other there = fall_delayed there
  falls Activate other there = absurd (other refl)
