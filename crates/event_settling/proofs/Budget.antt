-- Each event of a wave lowers what its inputs and processes may still cost by what it costs.
use Rattle.std.proofs.Common.{◌≡◌, ◌≢◌, ◌∙◌, ◌==◌, ◌+◌, ◌<◌, ◌≤◌, ℕ, Bool, true, false, cond, ◌&&◌, ◌||◌, if◌then◌else◌, is_some, List, length, Option, None, Some, refl, ap, inl, inr, arith}
use Rattle.std.proofs.lemmas.Bool.{cases_Bool, eq-eqb, false≢true, ne_eqb, or_left, or_right, true≢false}
use Rattle.rtl_bits.specs.declared.Bit.{Bit}
use Rattle.rtl_flat.specs.Process.{Doing, Assign, Comb, Edge'}
use Rattle.event_model.specs.Policies.{cost, one_if, run_cost}
use Rattle.event_model.specs.Queue.{State, Event, Input, Evaluate, Update, Run, Delayed, Activate, IsThere, after, doing_at, drive_now, is_assignment, is_body, is_input}
use Rattle.rtl_flat.specs.Flats.{Flat}
use Rattle.event_model.proofs.Active.{assignment_is, signal_there, task_there}
use Rattle.event_runs.specs.Effects.{evaluates, runs, takes, updates}
use Rattle.event_runs.proofs.Effects.{effect}
use Rattle.event_settling.proofs.Orders.{IsChosen, IsLeast, not_before}
use Rattle.event_settling.proofs.Totals.{total, total_less, total_most}
use Rattle.event_settling.proofs.Wave.{IsWave, done_by}

-- ---- what may still be paid

-- whether an input has an update
abbrev pub offers : Flat → State → ℕ → ℕ
offers d s i = one_if (is_input d i && is_some (s.offered i))

-- what a process may cost in a wave: all that it costs, where it hasn't been taken; else its pending update
abbrev pub weight : Flat → State → (ℕ → Bool) → (ℕ → ℕ) → ℕ → ℕ
weight d s done full p =
    cond (done p) (one_if (is_assignment (doing_at d p) && is_some (s.pending p))) (full p)

-- what is left to pay in a wave
abbrev pub to_pay : Flat → State → (ℕ → Bool) → (ℕ → ℕ) → ℕ
to_pay d s done full = total (length d.signals) (offers d s) + total (length d.tasks) (weight d s done full)

-- what an evaluation with its update costs, or a run of a body
abbrev pub need : Option Doing → ℕ
need None = 0
need (Some (Assign target value)) = 2
need (Some (Comb list body)) = run_cost (Some (Comb list body))
need (Some (Edge' events body)) = run_cost (Some (Edge' events body))

-- ---- small facts

one_most : (b : Bool) → one_if b ≤ 1
one_most true = omega arith
one_most false = omega arith

and_both : (a b : Bool) → a ≡ true → b ≡ true → one_if (a && b) ≡ 1
and_both true true e f = refl
and_both true false e f = absurd (false≢true f)
and_both false b e f = absurd (false≢true e)

and_not : (a b : Bool) → b ≡ false → one_if (a && b) ≡ 0
and_not true b e = ap one_if e
and_not false b e = refl

no_one : (a b : Bool) → a ≡ false → one_if (a && b) ≡ 0
no_one true b e = absurd (true≢false e)
no_one false b e = refl

-- no more is offered where a value may have been taken away
less_offered : (a b : Bool) (o : Option (List Bit)) → one_if (a && is_some (if b then None else o)) ≤ one_if (a && is_some o)
less_offered true true o = omega arith
less_offered true false o = omega arith
less_offered false b o = omega arith

cond_is : (b : Bool) (x y : ℕ) → b ≡ true → cond b x y ≡ x
cond_is true x y e = refl
cond_is false x y e = absurd (false≢true e)

cond_not : (b : Bool) (x y : ℕ) → b ≡ false → cond b x y ≡ y
cond_not true x y e = absurd (true≢false e)
cond_not false x y e = refl

body_not : (o : Option Doing) → is_body o ≡ true → is_assignment o ≡ false
body_not None e = refl
body_not (Some (Assign target value)) e = absurd (false≢true e)
body_not (Some (Comb list body)) e = refl
body_not (Some (Edge' events body)) e = refl

assign_need : (o : Option Doing) → is_assignment o ≡ true → need o ≡ 2
assign_need None e = absurd (false≢true e)
assign_need (Some (Assign target value)) e = refl
assign_need (Some (Comb list body)) e = absurd (false≢true e)
assign_need (Some (Edge' events body)) e = absurd (false≢true e)

body_need : (o : Option Doing) → is_body o ≡ true → need o ≡ run_cost o
body_need None e = absurd (false≢true e)
body_need (Some (Assign target value)) e = absurd (false≢true e)
body_need (Some (Comb list body)) e = refl
body_need (Some (Edge' events body)) e = refl

-- ---- each event

module _ (d : Flat) (level : ℕ → Option ℕ) (full : ℕ → ℕ) (s : State) (enough : (p : ℕ) → p < length d.tasks → s.woken p ≡ true → need (doing_at d p) ≤ full p) where
  -- offers never become more
  offers_most : (event : Event) → IsThere d s event → (i : ℕ) → offers d (after d s event) i ≤ offers d s i
  offers_most event there i =
      let same = ap (λ (o : Option (List Bit)). one_if (is_input d i && is_some o)) ((effect d s event there).offered i) in
      let less = less_offered (is_input d i) (takes event i) (s.offered i) in
      omega (arith, same, less)

  -- where no process is taken and nothing that was pending is more, weights are no more
  weight_most :
      (event : Event) (done : ℕ → Bool) → IsThere d s event → (q : ℕ) → (evaluates event q || runs event q) ≡ false → evaluates event q ≡ false →
      weight d (after d s event) (done_by done event) full q ≤ weight d s done full q
  weight_most event done there q not_taken not_evaluated =
      by_done (done q) (evaluates event q || runs event q) (evaluates event q) (updates event q) (Some (drive_now s.value (doing_at d q))) not_taken not_evaluated
      (ap (λ (o : Option (List Bit)). one_if (is_assignment (doing_at d q) && is_some o)) ((effect d s event there).pending q))
    where
      by_done :
          (a b e u : Bool) (new : Option (List Bit)) → b ≡ false → e ≡ false →
          one_if (is_assignment (doing_at d q) && is_some ((after d s event).pending q)) ≡ one_if (is_assignment (doing_at d q) && is_some (if e then new else if u then None else s.pending q)) →
          cond (a || b) (one_if (is_assignment (doing_at d q) && is_some ((after d s event).pending q))) (full q) ≤ cond a (one_if (is_assignment (doing_at d q) && is_some (s.pending q))) (full q)
      by_done a true e u new not not' same = absurd (true≢false not)
      by_done a false true u new not not' same = absurd (true≢false not')
      by_done true false false u new not not' same =
          let less = less_offered (is_assignment (doing_at d q)) u (s.pending q) in
          omega (arith, same, less)
      by_done false false false u new not not' same = omega arith

  -- the sums fall
  fall_input : (i : ℕ) (done : ℕ → Bool) → IsThere d s (Input i) →
      to_pay d (after d s (Input i)) (done_by done (Input i)) full + 1 ≤ to_pay d s done full
  fall_input i done there =
      let e = effect d s (Input i) there in
      let had = and_both (is_input d i) (is_some (s.offered i)) there.0 there.1 in
      let has = and_not (is_input d i) (is_some ((after d s (Input i)).offered i)) (ap is_some (e.offered i) ∙ none (i == i) (eq-eqb i i refl)) in
      let a = total_less (length d.signals) i 1 (offers d (after d s (Input i))) (offers d s) (signal_there d i there.0) (omega (arith, had, has))
      (λ j below other. offers_most (Input i) there j) in
      let b = total_most (length d.tasks) (weight d (after d s (Input i)) (done_by done (Input i)) full) (weight d s done full)
      (λ q below. weight_most (Input i) done there q refl refl) in
      omega (arith, a, b)
    where
      none : (b : Bool) → b ≡ true → is_some (if b then None else s.offered i) ≡ false
      none true e = refl
      none false e = absurd (false≢true e)

  fall_delayed : (done : ℕ → Bool) → IsThere d s Delayed →
      to_pay d (after d s Delayed) (done_by done Delayed) full ≤ to_pay d s done full
  fall_delayed done there =
      let a = total_most (length d.signals) (offers d (after d s Delayed)) (offers d s) (λ j below. offers_most Delayed there j) in
      let b = total_most (length d.tasks) (weight d (after d s Delayed) (done_by done Delayed) full) (weight d s done full)
      (λ q below. weight_most Delayed done there q refl refl) in
      omega (arith, a, b)

  -- one process whose weight falls
  fall_at : (event : Event) (p c : ℕ) (done : ℕ → Bool) → IsThere d s event → p < length d.tasks →
      weight d (after d s event) (done_by done event) full p + c ≤ weight d s done full p →
      ((q : ℕ) → q ≢ p → (evaluates event q || runs event q) ≡ false) → ((q : ℕ) → q ≢ p → evaluates event q ≡ false) →
      to_pay d (after d s event) (done_by done event) full + c ≤ to_pay d s done full
  fall_at event p c done there inside less not_taken not_evaluated =
      let a = total_most (length d.signals) (offers d (after d s event)) (offers d s) (λ j below. offers_most event there j) in
      let b = total_less (length d.tasks) p c (weight d (after d s event) (done_by done event) full) (weight d s done full) inside less
      (λ q below other. weight_most event done there q (not_taken q other) (not_evaluated q other)) in
      omega (arith, a, b)

  not_done : (p : ℕ) (done : ℕ → Bool) → IsWave d level s done → IsLeast level d s p → done p ≡ false
  not_done p done w least =
      elim (cases_Bool (done p)) [
        | inl is ↦ absurd (not_before level p (w.after p p is least.inside least.woken))
        | inr not ↦ not
      ]

  update_less :
      (p : ℕ) (done : ℕ → Bool) → IsThere d s (Update p) → done p ≡ true →
      weight d (after d s (Update p)) (done_by done (Update p)) full p + 1 ≤ weight d s done full p
  update_less p done there is =
      let e = effect d s (Update p) there in
      let had = and_both (is_assignment (doing_at d p)) (is_some (s.pending p)) there.0 there.1 in
      let has = and_not (is_assignment (doing_at d p)) (is_some ((after d s (Update p)).pending p)) (ap is_some (e.pending p) ∙ none (p == p) (eq-eqb p p refl)) in
      let before = cond_is (done p) (one_if (is_assignment (doing_at d p) && is_some (s.pending p))) (full p) is in
      let behind = cond_is (done p || false) (one_if (is_assignment (doing_at d p) && is_some ((after d s (Update p)).pending p))) (full p) (or_left (done p) false is) in
      omega (arith, had, has, before, behind)
    where
      none : (b : Bool) → b ≡ true → is_some (if b then None else s.pending p) ≡ false
      none true e = refl
      none false e = absurd (false≢true e)

  evaluate_less :
      (p : ℕ) (done : ℕ → Bool) → IsThere d s (Evaluate p) → IsLeast level d s p → done p ≡ false →
      weight d (after d s (Evaluate p)) (done_by done (Evaluate p)) full p + 1 ≤ weight d s done full p
  evaluate_less p done there least not =
      let most = enough p least.inside least.woken in
      let two = assign_need (doing_at d p) there.0 in
      let before = cond_not (done p) (one_if (is_assignment (doing_at d p) && is_some (s.pending p))) (full p) not in
      let taken = or_right (done p) ((p == p) || false) (or_left (p == p) false (eq-eqb p p refl)) in
      let behind = cond_is (done_by done (Evaluate p) p) (one_if (is_assignment (doing_at d p) && is_some ((after d s (Evaluate p)).pending p))) (full p) taken in
      let one = one_most (is_assignment (doing_at d p) && is_some ((after d s (Evaluate p)).pending p)) in
      omega (arith, most, two, before, behind, one)

  run_less :
      (p : ℕ) (done : ℕ → Bool) → IsThere d s (Run p) → IsLeast level d s p → done p ≡ false →
      weight d (after d s (Run p)) (done_by done (Run p)) full p + run_cost (doing_at d p) ≤ weight d s done full p
  run_less p done there least not =
      let most = enough p least.inside least.woken in
      let all = body_need (doing_at d p) there.0 in
      let before = cond_not (done p) (one_if (is_assignment (doing_at d p) && is_some (s.pending p))) (full p) not in
      let taken = or_right (done p) (p == p) (eq-eqb p p refl) in
      let behind = cond_is (done_by done (Run p) p) (one_if (is_assignment (doing_at d p) && is_some ((after d s (Run p)).pending p))) (full p) taken in
      let none = no_one (is_assignment (doing_at d p)) (is_some ((after d s (Run p)).pending p)) (body_not (doing_at d p) there.0) in
      omega (arith, most, all, before, behind, none)

  other_or : (q p : ℕ) → q ≢ p → ((q == p) || false) ≡ false
  other_or q p other = ap (λ b. b || false) (ne_eqb q p other)

  -- each event of a wave costs no more than by what it lowers the sum
  pub falls : (event : Event) (done : ℕ → Bool) → IsThere d s event → IsChosen level d s event → IsWave d level s done →
      to_pay d (after d s event) (done_by done event) full + cost d event ≤ to_pay d s done full
  falls (Input i) done there chosen w = fall_input i done there
  falls (Evaluate p) done there chosen w =
      fall_at (Evaluate p) p 1 done there chosen.inside (evaluate_less p done there chosen (not_done p done w chosen)) (λ q other. other_or q p other) (λ q other. ne_eqb q p other)
  falls (Update p) done there chosen w =
      fall_at (Update p) p 1 done there (task_there d p (assignment_is (doing_at d p) there.0)) (update_less p done there (w.pending p there.0 there.1)) (λ q other. refl) (λ q other. refl)
  falls (Run p) done there chosen w =
      fall_at (Run p) p (run_cost (doing_at d p)) done there chosen.inside (run_less p done there chosen (not_done p done w chosen)) (λ q other. ne_eqb q p other) (λ q other. refl)
  falls Delayed done there chosen w = let less = fall_delayed done there in omega (arith, less)
  falls Activate done there chosen w = absurd chosen
