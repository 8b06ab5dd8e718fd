-- What a policy does is a run of the queue.
use Rattle.std.proofs.Common.{◌≡◌, ◌∙◌, ℕ, Bool, true, false, cond, List, [], ◌∷◌, ◌++◌, map, Option, None, Some, refl, sym, ap, subst}
use Rattle.event_model.specs.declared.policy.Policy.{Policy}
use Rattle.event_model.specs.declared.policy.Policy.TheVariants.{Level, Ascending, Descending}
use Rattle.event_model.specs.Writes.{Write}
use Rattle.event_model.specs.Queue.{State, Event, Input, Update, Activate, after, IsThere, IsAtRest, run, CanRun, Reaches}
use Rattle.rtl_flat.specs.Flats.{Flat}
use Rattle.event_model.specs.Order.{woken_event, inputs, updates, woken, first_delayed, active, ready_where, ready, IsReady}
use Rattle.event_model.specs.Policies.{first_of, last_of, is_below, lower, lowest, lowest_event, by_level, chosen, PolicyRun, Here, Next, IsDone}
use Rattle.event_model.proofs.Active.{Each, each_append, there_delayed, there_inputs, there_updates, woken_are, all_there, no_active, at_rest, is_ready}

-- ---- what is chosen is there

some_one : {A : Type 0} (x y : A) → Some x ≡ Some y → x ≡ y
some_one x y e = cc

first_each : {A : Type 0} (P : A → Type 0) (xs : List A) (x : A) → Each P xs → first_of xs ≡ Some x → P x
first_each P [] x h e = absurd (let z : None ≡ Some x = e in cc)
first_each P (y ∷ ys) x h e = subst P (some_one y x e) h.0

last_each : {A : Type 0} (P : A → Type 0) (xs : List A) (x : A) → Each P xs → last_of xs ≡ Some x → P x
last_each P [] x h e = absurd (let z : None ≡ Some x = e in cc)
last_each P (y ∷ []) x h e = subst P (some_one y x e) h.0
last_each P (y ∷ z ∷ zs) x h e = last_each P (z ∷ zs) x h.1 e

either_number : (P : ℕ → Type 0) (b : Bool) (p q : ℕ) → P p → P q → P (cond b q p)
either_number P true p q a b = b
either_number P false p q a b = a

lower_each : (P : ℕ → Type 0) (level : ℕ → Option ℕ) (p : ℕ) (o : Option ℕ) → P p → ((q : ℕ) → o ≡ Some q → P q) → P (lower level p o)
lower_each P level p None h k = h
lower_each P level p (Some q) h k = either_number P (is_below (level q) (level p)) p q h (k q refl)

lowest_each : (P : ℕ → Type 0) (level : ℕ → Option ℕ) (ps : List ℕ) (q : ℕ) → Each P ps → lowest level ps ≡ Some q → P q
lowest_each P level [] q h e = absurd (let z : None ≡ Some q = e in cc)
lowest_each P level (p ∷ ps) q h e =
    subst P (some_one (lower level p (lowest level ps)) q e) (lower_each P level p (lowest level ps) h.0 (λ r f. lowest_each P level ps r h.1 f))

there_lowest : (d : Flat) (s : State) (o : Option ℕ) → ((q : ℕ) → o ≡ Some q → IsThere d s (woken_event d q)) → Each (IsThere d s) (lowest_event d o)
there_lowest d s None h = tt
there_lowest d s (Some q) h = (h q refl, tt)

there_by_level : (level : ℕ → Option ℕ) (d : Flat) (s : State) → Each (IsThere d s) (by_level level d s)
there_by_level level d s =
    each_append (IsThere d s) ((map Input (inputs d s) ++ map Update (updates d s)) ++ first_delayed s.activated) (lowest_event d (lowest level (woken d s)))
    (each_append (IsThere d s) (map Input (inputs d s) ++ map Update (updates d s)) (first_delayed s.activated)
    (each_append (IsThere d s) (map Input (inputs d s)) (map Update (updates d s)) (there_inputs d s) (there_updates d s)) (there_delayed d s s.activated refl))
    (there_lowest d s (lowest level (woken d s)) (λ q e. lowest_each (λ p. IsThere d s (woken_event d p)) level (woken d s) q (woken_are d s) e))

pub chosen_there : (policy : Policy) (level : ℕ → Option ℕ) (d : Flat) (s : State) (event : Event) → chosen policy level d s ≡ Some event → IsThere d s event
chosen_there Level level d s event e = first_each (IsThere d s) (by_level level d s) event (there_by_level level d s) e
chosen_there Ascending level d s event e = first_each (IsThere d s) (active d s) event (all_there d s) e
chosen_there Descending level d s event e = last_each (IsThere d s) (active d s) event (all_there d s) e

-- ---- runs one after another

run_append : (d : Flat) (s : State) (es fs : List Event) → run d s (es ++ fs) ≡ run d (run d s es) fs
run_append d s [] fs = refl
run_append d s (e ∷ es) fs = run_append d (after d s e) es fs

can_append : (d : Flat) (s : State) (es fs : List Event) → CanRun d s es → CanRun d (run d s es) fs → CanRun d s (es ++ fs)
can_append d s [] fs a b = b
can_append d s (e ∷ es) fs a b = (a.0, can_append d (after d s e) es fs a.1 b)

pub then : (d : Flat) (s t : State) (event : Event) → Reaches d s t → IsThere d t event → Reaches d s (after d t event)
then d s t event r h =
    record {
      events = r.events ++ event ∷ [];
      can = can_append d s r.events (event ∷ []) r.can (subst (λ u. IsThere d u event) (sym r.leads) h, tt);
      leads = run_append d s r.events (event ∷ []) ∙ ap (λ u. after d u event) r.leads;
    }

-- ---- nonblocking updates that become active

nothing_new : (d : Flat) (s : State) → s.activated ≡ [] → s.delayed ≡ [] → after d s Activate ≡ s
nothing_new d s a b =
    ap (λ (ws : List (List Write)). record s { activated = ws; delayed = [] }) (b ∙ sym a)
    ∙ ap (λ (ws : List (List Write)). record s { delayed = ws }) (sym b)

cons_some : {A : Type 0} (x : A) (xs : List A) → x ∷ xs ≡ [] → ⊥
cons_some x xs h = cc

activate : (d : Flat) (s t : State) (ws : List (List Write)) → t.delayed ≡ ws → Reaches d s t → active d t ≡ [] → Reaches d s (after d t Activate)
activate d s t [] e r h = subst (Reaches d s) (sym (nothing_new d t (no_active d t h).updates e)) r
activate d s t (w ∷ ws) e r h = then d s t Activate r (no_active d t h, λ f. cons_some w ws (sym e ∙ f))

make_ready : (d : Flat) (s t : State) (es : List Event) → active d t ≡ es → Reaches d s t → Reaches d s (ready_where d t es)
make_ready d s t [] e r = activate d s t t.delayed refl r e
make_ready d s t (x ∷ xs) e r = r

pub taken : (d : Flat) (s t : State) (event : Event) → Reaches d s t → IsThere d t event → Reaches d s (ready d (after d t event))
taken d s t event r h = make_ready d s (after d t event) (active d (after d t event)) refl (then d s t event r h)

-- ---- policies

-- what a policy does is a run
pub policy_reaches : (policy : Policy) (level : ℕ → Option ℕ) (d : Flat) (s t : State) (spent : ℕ) → PolicyRun policy level d s spent t → Reaches d s t
policy_reaches policy level d s t spent (Here u) = record { events = []; can = tt; leads = refl }
policy_reaches policy level d s t spent (Next begun u n event before next) =
    taken d begun u event (policy_reaches policy level d begun u n before) (chosen_there policy level d u event next)

-- it is ready after each event
pub policy_ready : (policy : Policy) (level : ℕ → Option ℕ) (d : Flat) (s t : State) (spent : ℕ) → IsReady d s → PolicyRun policy level d s spent t → IsReady d t
policy_ready policy level d s t spent r (Here u) = r
policy_ready policy level d s t spent r (Next begun u n event before next) = is_ready d (after d u event)

-- ---- where a policy finds nothing, nothing is active

first_none : {A : Type 0} (xs : List A) → first_of xs ≡ None → xs ≡ []
first_none [] e = refl
first_none (x ∷ xs) e = absurd (let z : Some x ≡ None = e in cc)

last_none : {A : Type 0} (xs : List A) → last_of xs ≡ None → xs ≡ []
last_none [] e = refl
last_none (x ∷ []) e = absurd (let z : Some x ≡ None = e in cc)
last_none (x ∷ y ∷ ys) e = absurd (cons_some y ys (last_none (y ∷ ys) e))

append_parts : {A : Type 0} (xs ys : List A) → xs ++ ys ≡ [] → (xs ≡ []) × (ys ≡ [])
append_parts [] ys e = (refl, e)
append_parts (x ∷ xs) ys e = absurd (cons_some x (xs ++ ys) e)

lowest_some : (level : ℕ → Option ℕ) (d : Flat) (ps : List ℕ) → lowest_event d (lowest level ps) ≡ [] → ps ≡ []
lowest_some level d [] e = refl
lowest_some level d (p ∷ ps) e = absurd (cons_some (woken_event d (lower level p (lowest level ps))) [] e)

join : {A : Type 0} (a b c e : List A) → a ≡ [] → b ≡ [] → c ≡ [] → e ≡ [] → ((a ++ b) ++ c) ++ e ≡ []
join a b c e h i j k = ap (λ x. ((x ++ b) ++ c) ++ e) h ∙ ap (λ x. (x ++ c) ++ e) i ∙ ap (λ x. x ++ e) j ∙ k

none_by_level : (level : ℕ → Option ℕ) (d : Flat) (s : State) → by_level level d s ≡ [] → active d s ≡ []
none_by_level level d s e =
    let a = append_parts ((map Input (inputs d s) ++ map Update (updates d s)) ++ first_delayed s.activated) (lowest_event d (lowest level (woken d s))) e in
    let b = append_parts (map Input (inputs d s) ++ map Update (updates d s)) (first_delayed s.activated) a.0 in
    let c = append_parts (map Input (inputs d s)) (map Update (updates d s)) b.0 in
    join (map Input (inputs d s)) (map Update (updates d s)) (map (woken_event d) (woken d s)) (first_delayed s.activated) c.0 c.1 (ap (map (woken_event d)) (lowest_some level d (woken d s) a.1)) b.1

pub none_left : (policy : Policy) (level : ℕ → Option ℕ) (d : Flat) (s : State) → IsDone policy level d s → active d s ≡ []
none_left Level level d s e = none_by_level level d s (first_none (by_level level d s) e)
none_left Ascending level d s e = first_none (active d s) e
none_left Descending level d s e = last_none (active d s) e

-- at the end of a policy's run no event is left
pub policy_rests : (policy : Policy) (level : ℕ → Option ℕ) (d : Flat) (s : State) → IsReady d s → IsDone policy level d s → IsAtRest d s
policy_rests policy level d s r e = at_rest d s r (none_left policy level d s e)
