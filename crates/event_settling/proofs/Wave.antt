-- By level processes are taken in their order, up to the activation of nonblocking updates and again behind it.
use Rattle.std.proofs.Common.{◌≡◌, ◌∙◌, ◌⊎◌, ◌==◌, ◌<◌, ℕ, Bool, true, false, ◌||◌, if◌then◌else◌, IsSome, is_some, List, [], length, Option, None, Some, refl, sym, ap, subst, inl, inr}
use Rattle.std.specs.Prelude.{IsTrue}
use Rattle.std.proofs.lemmas.Bool.{eqb-true, eq-eqb, false≢true, or_cases, or_right, true≢false}
use Rattle.rtl_bits.specs.declared.Bit.{Bit}
use Rattle.event_model.specs.Queue.{State, Event, Input, Evaluate, Update, Run, Delayed, Activate, IsThere, after, doing_at, drive_now, is_assignment, is_input}
use Rattle.rtl_flat.specs.Flats.{Flat}
use Rattle.event_runs.specs.event_laws.Steady.{AreLawful}
use Rattle.event_runs.specs.Effects.{evaluates, event_writes, is_heard, runs, updates, IsEffect}
use Rattle.event_runs.specs.Writers.{IsOrderly}
use Rattle.event_settling.specs.Settling.{IsSettling}
use Rattle.event_runs.proofs.Effects.{effect}
use Rattle.event_settling.proofs.Hears.{hears_run, hears_update}
use Rattle.event_settling.proofs.Orders.{Before, IsChosen, IsLeast, before_above, before_then}
use Rattle.event_settling.proofs.Quiet.{some_none}

-- which processes have been taken in a wave: each woken one comes after them; a pending value is that of the last; and once
-- one has been taken, no input and no update is left
pub record IsWave (d : Flat) (level : ℕ → Option ℕ) (s : State) (done : ℕ → Bool) : Type 0 where
  pub after : (p q : ℕ) → done p ≡ true → q < length d.tasks → s.woken q ≡ true → Before level p q
  pub pending : (p : ℕ) → IsTrue (is_assignment (doing_at d p)) → IsSome (s.pending p) → done p ≡ true
  pub last : (p q : ℕ) → IsTrue (is_assignment (doing_at d p)) → IsSome (s.pending p) → done q ≡ true → (q ≡ p) ⊎ Before level q p
  pub inputs : (p i : ℕ) → done p ≡ true → IsTrue (is_input d i) → s.offered i ≡ None
  pub updates : (p : ℕ) → done p ≡ true → s.activated ≡ []

-- an event takes a process
abbrev pub done_by : (ℕ → Bool) → Event → ℕ → Bool
done_by done event q = done q || (evaluates event q || runs event q)

-- a test that is passed by one number alone
pub only_it : (q p : ℕ) → (q == p) ≡ true → q ≡ p
only_it q p h = eqb-true q p h

or_none : (a b : Bool) → b ≡ false → (a || b) ≡ true → a ≡ true
or_none true b e h = refl
or_none false b e h = absurd (true≢false (sym h ∙ e))

if_false : {A : Type 0} (b : Bool) (x y : A) → b ≡ false → (if b then x else y) ≡ y
if_false true x y e = absurd (true≢false e)
if_false false x y e = refl

-- what is woken after an event was woken before, or hears
woken_from : (b woken hears : Bool) → (if b then false else (woken || hears)) ≡ true → (b ≡ false) × ((woken ≡ true) ⊎ (hears ≡ true))
woken_from true woken hears h = absurd (false≢true h)
woken_from false woken hears h = (refl, or_cases woken hears h)

module _ (d : Flat) (lawful : AreLawful d) (level : ℕ → Option ℕ) (cone : ℕ → Type 0) (h : IsSettling d level cone) (s : State) (orderly : IsOrderly d s) where
  -- who hears a body comes after it, or is that block
  after_run :
      (p q : ℕ) → IsThere d s (Run p) → q < length d.tasks → is_heard d s.value (event_writes d s (Run p)) (doing_at d q) ≡ true →
      (q ≡ p) ⊎ Before level p q
  after_run p q there inside hears =
      elim (hears_run d level cone h lawful s orderly p q there inside hears) [
        | inl same ↦ inl same
        | inr above ↦ inr (before_above level p q above)
      ]

  -- ---- each event keeps a wave

  -- while nothing has been taken
  none_taken :
      (event : Event) (done : ℕ → Bool) → ((p : ℕ) → done p ≡ true → ⊥) →
      ((p : ℕ) → IsSome (s.pending p) → IsTrue (is_assignment (doing_at d p)) → ⊥) →
      ((q : ℕ) → (evaluates event q || runs event q) ≡ false) → ((q : ℕ) → evaluates event q ≡ false) →
      ((q : ℕ) → updates event q ≡ false) → IsThere d s event → IsWave d level (after d s event) (done_by done event)
  none_taken event done free idle not_taken not_evaluated not_updated there =
      record {
        after = λ p q is inside woken. absurd (none p is);
        pending = λ p is some. absurd (idle p (still p some) is);
        last = λ p q is some taken. absurd (none q taken);
        inputs = λ p i is input. absurd (none p is);
        updates = λ p is. absurd (none p is);
      }
    where
      none : (p : ℕ) → done_by done event p ≡ true → ⊥
      none p is = free p (or_none (done p) (evaluates event p || runs event p) (not_taken p) is)

      still : (p : ℕ) → IsSome ((after d s event).pending p) → IsSome (s.pending p)
      still p some =
          let new : Option (List Bit) = Some (drive_now s.value (doing_at d p)) in
          let same = (effect d s event there).pending p
          ∙ if_false (evaluates event p) new (if updates event p then None else s.pending p) (not_evaluated p)
          ∙ if_false (updates event p) None (s.pending p) (not_updated p) in
          ap is_some (sym same) ∙ some

  wave_input :
      (i : ℕ) (done : ℕ → Bool) → IsThere d s (Input i) → IsWave d level s done →
      IsWave d level (after d s (Input i)) (done_by done (Input i))
  wave_input i done there w =
      let free : (p : ℕ) → done p ≡ true → ⊥ = λ p is. some_none (s.offered i) there.1 (w.inputs p i is there.0) in
      none_taken (Input i) done free (λ p some is. free p (w.pending p is some)) (λ q. refl) (λ q. refl) (λ q. refl) there

  wave_delayed : (done : ℕ → Bool) → IsThere d s Delayed → IsWave d level s done → IsWave d level (after d s Delayed) (done_by done Delayed)
  wave_delayed done there w =
      let free : (p : ℕ) → done p ≡ true → ⊥ = λ p is. there (w.updates p is) in
      none_taken Delayed done free (λ p some is. free p (w.pending p is some)) (λ q. refl) (λ q. refl) (λ q. refl) there

  wave_update :
      (p : ℕ) (done : ℕ → Bool) → IsThere d s (Update p) → IsWave d level s done →
      IsWave d level (after d s (Update p)) (done_by done (Update p))
  wave_update p done there w =
      record {
        after = λ r q is inside woken.
            elim (woken_from false (s.woken q) (is_heard d s.value (event_writes d s (Update p)) (doing_at d q)) (sym (e.woken q) ∙ woken)).1 [
              | inl before ↦ w.after r q (taken r is) inside before
              | inr hears ↦
                  let after = before_above level p q (hears_update d level cone h lawful s orderly p q there inside hears) in
                  elim (w.last p r there.0 there.1 (taken r is)) [
                    | inl same ↦ subst (λ (j : ℕ). Before level j q) (sym same) after
                    | inr first ↦ before_then level r p q first after
                  ]
            ];
        pending = λ r is some. ap (λ b. b || false) (w.pending r is (was r some));
        last = λ r q is some done'. w.last r q is (was r some) (taken q done');
        inputs = λ r i is input. (e.offered i) ∙ w.inputs r i (taken r is) input;
        updates = λ r is. e.activated ∙ w.updates r (taken r is);
      }
    where
      e : IsEffect d s (Update p) (event_writes d s (Update p)) (after d s (Update p))
      e = effect d s (Update p) there

      taken : (r : ℕ) → done_by done (Update p) r ≡ true → done r ≡ true
      taken r is = or_none (done r) false refl is

      was : (r : ℕ) → IsSome ((after d s (Update p)).pending r) → IsSome (s.pending r)
      was r some = by_test (r == p) (ap is_some (sym (e.pending r)) ∙ some)
        where
          by_test : (b : Bool) → is_some (if b then None else s.pending r) ≡ true → IsSome (s.pending r)
          by_test true is = absurd (false≢true is)
          by_test false is = is

  -- a process is taken that comes before all other woken ones
  wave_taken :
      (event : Event) (p : ℕ) (done : ℕ → Bool) → IsThere d s event → IsLeast level d s p → ((q : ℕ) → (evaluates event q || runs event q) ≡ (q == p)) →
      ((q : ℕ) → q < length d.tasks → is_heard d s.value (event_writes d s event) (doing_at d q) ≡ true → (q ≡ p) ⊎ Before level p q) →
      ((q : ℕ) → IsSome ((after d s event).pending q) → (q ≡ p) ⊎ IsSome (s.pending q)) →
      ((i : ℕ) → (after d s event).offered i ≡ s.offered i) → (after d s event).activated ≡ s.activated →
      IsWave d level s done → IsWave d level (after d s event) (done_by done event)
  wave_taken event p done there least one hears new offered activated w =
      record {
        after = λ r q is inside woken. later r q (taken r is) inside (sym ((effect d s event there).woken q) ∙ woken);
        pending = λ r is some. it r (newest r is some);
        last = λ r q is some done'.
            elim (taken q done') [
              | inl before ↦ inr (subst (λ (j : ℕ). Before level q j) (sym (newest r is some)) (w.after q p before least.inside least.woken))
              | inr same ↦ inl (same ∙ sym (newest r is some))
            ];
        inputs = λ r i is input. offered i ∙ least.inputs i input;
        updates = λ r is. activated ∙ least.updates;
      }
    where
      taken : (r : ℕ) → done_by done event r ≡ true → (done r ≡ true) ⊎ (r ≡ p)
      taken r is =
          elim (or_cases (done r) (evaluates event r || runs event r) is) [
            | inl before ↦ inl before
            | inr now ↦ inr (only_it r p (sym (one r) ∙ now))
          ]

      newest : (r : ℕ) → IsTrue (is_assignment (doing_at d r)) → IsSome ((after d s event).pending r) → r ≡ p
      newest r is some =
          elim (new r some) [
            | inl same ↦ same
            | inr before ↦ absurd (some_none (s.pending r) before (least.drivers r is))
          ]

      it : (r : ℕ) → r ≡ p → done_by done event r ≡ true
      it r same = or_right (done r) (evaluates event r || runs event r) (one r ∙ eq-eqb r p same)

      after_it :
          (q : ℕ) → q < length d.tasks → (q ≡ p → ⊥) →
          (s.woken q ≡ true) ⊎ (is_heard d s.value (event_writes d s event) (doing_at d q) ≡ true) → Before level p q
      after_it q inside other (inl before) =
          elim (least.least q inside before) [ inl same ↦ absurd (other same) | inr after ↦ after ]
      after_it q inside other (inr hears') =
          elim (hears q inside hears') [ inl same ↦ absurd (other same) | inr after ↦ after ]

      later :
          (r q : ℕ) → (done r ≡ true) ⊎ (r ≡ p) → q < length d.tasks →
          (if evaluates event q || runs event q then false else (s.woken q || is_heard d s.value (event_writes d s event) (doing_at d q))) ≡ true → Before level r q
      later r q (inl before) inside woken =
          let parts = woken_from (evaluates event q || runs event q) (s.woken q) (is_heard d s.value (event_writes d s event) (doing_at d q)) woken in
          let other : q ≡ p → ⊥ = λ same. true≢false (sym (one q ∙ eq-eqb q p same) ∙ parts.0) in
          before_then level r p q (w.after r p before least.inside least.woken) (after_it q inside other parts.1)
      later r q (inr same) inside woken =
          let parts = woken_from (evaluates event q || runs event q) (s.woken q) (is_heard d s.value (event_writes d s event) (doing_at d q)) woken in
          let other : q ≡ p → ⊥ = λ same. true≢false (sym (one q ∙ eq-eqb q p same) ∙ parts.0) in
          subst (λ (j : ℕ). Before level j q) (sym same) (after_it q inside other parts.1)

  wave_evaluate :
      (p : ℕ) (done : ℕ → Bool) → IsThere d s (Evaluate p) → IsLeast level d s p → IsWave d level s done →
      IsWave d level (after d s (Evaluate p)) (done_by done (Evaluate p))
  wave_evaluate p done there least w =
      wave_taken (Evaluate p) p done there least (λ q. or_none_is (q == p)) (λ q inside hears. absurd (false≢true hears)) new
      (effect d s (Evaluate p) there).offered (effect d s (Evaluate p) there).activated w
    where
      or_none_is : (b : Bool) → (b || false) ≡ b
      or_none_is true = refl
      or_none_is false = refl

      new : (q : ℕ) → IsSome ((after d s (Evaluate p)).pending q) → (q ≡ p) ⊎ IsSome (s.pending q)
      new q some = by_test (q == p) refl (ap is_some (sym ((effect d s (Evaluate p) there).pending q)) ∙ some)
        where
          by_test :
              (b : Bool) → (q == p) ≡ b → is_some (if b then Some (drive_now s.value (doing_at d q)) else s.pending q) ≡ true →
              (q ≡ p) ⊎ IsSome (s.pending q)
          by_test true is some' = inl (only_it q p is)
          by_test false is some' = inr some'

  wave_run :
      (p : ℕ) (done : ℕ → Bool) → IsThere d s (Run p) → IsLeast level d s p → IsWave d level s done →
      IsWave d level (after d s (Run p)) (done_by done (Run p))
  wave_run p done there least w =
      wave_taken (Run p) p done there least (λ q. refl) (λ q inside hears. after_run p q there inside hears)
      (λ q some. inr (ap is_some (sym ((effect d s (Run p) there).pending q)) ∙ some))
      (effect d s (Run p) there).offered (effect d s (Run p) there).activated w

  pub wave_after :
      (event : Event) (done : ℕ → Bool) → IsThere d s event → IsChosen level d s event → IsWave d level s done →
      IsWave d level (after d s event) (done_by done event)
  wave_after (Input i) done there chosen w = wave_input i done there w
  wave_after (Evaluate p) done there chosen w = wave_evaluate p done there chosen w
  wave_after (Update p) done there chosen w = wave_update p done there w
  wave_after (Run p) done there chosen w = wave_run p done there chosen w
  wave_after Delayed done there chosen w = wave_delayed done there w
  wave_after Activate done there chosen w = absurd chosen
