-- The events that a policy takes are settled by the design, the levels of its processes and the state.
use Rattle.std.proofs.Common.{◌≡◌, ◌∙◌, ℕ, ◌+◌, ◌<◌, length, Option, None, Some, refl, sym, ap, subst, ◌⊎◌, inl, inr, arith}
use Rattle.event_model.specs.declared.policy.Policy.{Policy}
use Rattle.event_model.specs.Order.{ready}
use Rattle.event_model.specs.Policies.{Here, IsDone, IsTooDear, Next, PolicyRun, budget, chosen, cost}
use Rattle.event_model.specs.Queue.{Event, State, after}
use Rattle.rtl_flat.specs.Flats.{Flat}
use Rattle.event_laws.proofs.OneLevel.{same_choice}

some_one : {A : Type 0} (x y : A) → Some x ≡ Some y → x ≡ y
some_one x y e = cc

-- ---- by other levels that agree

module _ (policy : Policy) (f g : ℕ → Option ℕ) (d : Flat) (all : (p : ℕ) → p < length d.tasks → f p ≡ g p) where
  pub moved : (s t : State) (spent : ℕ) → PolicyRun policy f d s spent t → PolicyRun policy g d s spent t
  moved s t spent (Here u) = Here u
  moved s t spent (Next first middle before event run next) =
      Next first middle before event (moved first middle before run) (sym (same_choice f g policy d middle all) ∙ next)

-- ---- of two runs one goes on from the other

module _ (policy : Policy) (level : ℕ → Option ℕ) (d : Flat) where
  -- a run's first event, and the run behind it
  record GoesOn (s t : State) (spent : ℕ) : Type 0 where
    pub event : Event
    pub next : chosen policy level d s ≡ Some event
    pub later : ℕ
    pub run : PolicyRun policy level d (ready d (after d s event)) later t
    pub sum : spent ≡ cost d event + later

  begins : (s t : State) (spent : ℕ) → PolicyRun policy level d s spent t → ((s ≡ t) × (spent ≡ 0)) ⊎ GoesOn s t spent
  begins s t spent (Here u) = inl (refl, refl)
  begins s t spent (Next first middle before event run next) =
      elim (begins first middle before run) [
        | inl none ↦
            inr (record {
              event = event;
              next = ap (chosen policy level d) none.0 ∙ next;
              later = 0;
              run = subst (λ (from : State). PolicyRun policy level d (ready d (after d from event)) 0 (ready d (after d middle event))) (sym none.0) (Here (ready d (after d middle event)));
              sum = omega (none.1, arith);
            })
        | inr some ↦
            inr (record {
              event = some.event;
              next = some.next;
              later = some.later + cost d event;
              run = Next (ready d (after d first some.event)) middle some.later event some.run next;
              sum = omega (some.sum, arith);
            })
      ]

  -- a run between two states, by what was spent before each
  record Leads (t u : State) (before now : ℕ) : Type 0 where
    pub spent : ℕ
    pub run : PolicyRun policy level d t spent u
    pub sum : now ≡ before + spent

  -- an event more at the end of the second run
  one_more : (t middle : State) (a b : ℕ) (event : Event) → chosen policy level d middle ≡ Some event → Leads t middle a b ⊎ Leads middle t b a → Leads t (ready d (after d middle event)) a (b + cost d event) ⊎ Leads (ready d (after d middle event)) t (b + cost d event) a
  one_more t middle a b event next (inl leads) =
      inl (record { spent = leads.spent + cost d event; run = Next t middle leads.spent event leads.run next; sum = omega (leads.sum, arith) })
  one_more t middle a b event next (inr leads) =
      elim (begins middle t leads.spent leads.run) [
        | inl none ↦
            inl (record {
              spent = 0 + cost d event;
              run = Next t middle 0 event (subst (λ (x : State). PolicyRun policy level d x 0 middle) none.0 (Here middle)) next;
              sum = omega (leads.sum, none.1, arith);
            })
        | inr some ↦
            let same : some.event ≡ event = some_one some.event event (sym some.next ∙ next) in
            inr (record {
              spent = some.later;
              run = subst (λ (e : Event). PolicyRun policy level d (ready d (after d middle e)) some.later t) same some.run;
              sum = omega (leads.sum, some.sum, ap (cost d) same, arith);
            })
      ]

  compared : (s t u : State) (a b : ℕ) → PolicyRun policy level d s a t → PolicyRun policy level d s b u → Leads t u a b ⊎ Leads u t b a
  compared s t u a b one (Here v) = inr (record { spent = a; run = one; sum = omega arith })
  compared s t u a b one (Next first middle before event run next) =
      one_more t middle a before event next (compared first t middle a before one run)

  -- ---- one end

  stays : (t u : State) (spent : ℕ) → IsDone policy level d t → PolicyRun policy level d t spent u → t ≡ u
  stays t u spent done run =
      elim (begins t u spent run) [
        | inl none ↦ none.0
        | inr some ↦ absurd (let both : ◌≡◌ {A = Option Event} (Some some.event) None = sym some.next ∙ done in cc)
      ]

  pub one_rest : (s t u : State) (a b : ℕ) → PolicyRun policy level d s a t → IsDone policy level d t → PolicyRun policy level d s b u → IsDone policy level d u → t ≡ u
  one_rest s t u a b one done other rest =
      elim (compared s t u a b one other) [
        | inl leads ↦ stays t u leads.spent done leads.run
        | inr leads ↦ sym (stays u t leads.spent rest leads.run)
      ]

  undone : (t : State) (left : ℕ) → IsDone policy level d t → IsTooDear policy level d t left → ⊥
  undone t left done dear =
      let both : ◌≡◌ {A = Option Event} (Some dear.event) None = sym dear.next ∙ done in cc

  pub rests_or_stops : (s t u : State) (a b left over : ℕ) → left + a ≡ budget d → PolicyRun policy level d s a t → IsDone policy level d t → over + b ≡ budget d → PolicyRun policy level d s b u → IsTooDear policy level d u over → ⊥
  rests_or_stops s t u a b left over whole one done all other dear =
      elim (compared s t u a b one other) [
        | inl leads ↦
            undone u over (subst (λ (x : State). IsDone policy level d x) (stays t u leads.spent done leads.run) done) dear
        | inr leads ↦
            elim (begins u t leads.spent leads.run) [
              | inl none ↦ undone u over (subst (λ (x : State). IsDone policy level d x) (sym none.0) done) dear
              | inr some ↦
                  let same : some.event ≡ dear.event = some_one some.event dear.event (sym some.next ∙ dear.next) in
                  let short : over < cost d dear.event = dear.dear in
                  omega (whole, all, leads.sum, some.sum, ap (cost d) same, short, arith)
            ]
      ]
