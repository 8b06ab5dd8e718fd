-- What the survey has taken goes on to modules, and there is one least place.
use Rattle.std.proofs.Common.{◌≡◌, ℕ, zero, suc, ◌<◌, ◌≤◌, ◌⊎◌, inl, inr, true, List, [], ◌∷◌, ◌++◌, length, take, drop, Option, Some, None, refl, sym, ap, subst, ◌∙◌, arith}
use Rattle.std.proofs.lemmas.List.{length-append}
use Rattle.std.proofs.lemmas.Bool.{cases_order}
use Rattle.rtl_tree.specs.Symbols.{Terminal}
use Rattle.text_survey.specs.declared.task.Task.{Task}
use Rattle.text_survey.specs.declared.task.Taking.{Taking}
use Rattle.text_survey.specs.declared.task.Taking.TheVariants as taking
use Rattle.text_survey.specs.Table.{Step}
use Rattle.text_survey.specs.Rule.{rule}
use Rattle.text_survey.specs.Machine.{State, at, symbol_at, behind, left, moved, next, after, Leads}
use Rattle.text_survey.specs.Surveys.{AreNumbered, IsReached, start}
use Rattle.text_survey.proofs.Laws.Steps.{some_is, first, stays, goes, trans, more, one}
use Rattle.text_survey.proofs.Laws.Ahead.{ahead}
use Rattle.text_survey.proofs.Laws.Sound.{spelled}
use Rattle.text_survey.specs.Least.{AreWords, Spell, GoesOn, IsLeast}
use Rattle.text_survey.proofs.Rows.{fit, ending, ending_words, ending_numbered}
use Rattle.text_survey.proofs.Finish.{finishes, stays_fit}

-- ---- lists

one_more : {A : Type 0} (u : List A) (x : A) (behind : List A) → u ++ x ∷ behind ≡ (u ++ x ∷ []) ++ behind
one_more [] x behind = refl
one_more (y ∷ u) x behind = ap (λ xs. y ∷ xs) (one_more u x behind)

take_front : {A : Type 0} (u v : List A) → take (length u) (u ++ v) ≡ u
take_front [] v = refl
take_front (x ∷ u) v = ap (λ xs. x ∷ xs) (take_front u v)

numbered : (u rest others : List Terminal) → AreNumbered (u ++ rest) → AreNumbered others → AreNumbered (u ++ others)
numbered [] rest others n m = m
numbered (t ∷ u) rest others n m = (n.0, numbered u rest others n.1 m)

-- ---- what was taken goes on

-- some words after what was taken lead to the end
abbrev Going : List Terminal → List Terminal → Type 0
Going ts rest =
    (u : List Terminal) × (ts ≡ u ++ rest) × (others : List Terminal) × AreWords others × AreNumbered others × Leads (start (u ++ others)) (at [] [])

by_taking : (P : Type 0) (t : Taking) → (((xs : List Terminal) → left t xs ≡ xs) → P) → (((xs : List Terminal) → left t xs ≡ behind xs) → P) → P
by_taking P taking.Nothing f g = f (λ xs. refl)
by_taking P taking.Ahead f g = f (λ xs. refl)
by_taking P taking.Token f g = g (λ xs. refl)
by_taking P taking.Node f g = g (λ xs. refl)
by_taking P taking.Operator f g = g (λ xs. refl)

-- a token is taken: the tasks that are left are done to the end by their shortest text
taken : (ts : List Terminal) (h : Task) (tasks : List Task) (x : Terminal) (rest : List Terminal) (step : Step) → Leads (start ts) (at (h ∷ tasks) (x ∷ rest)) → fit (h ∷ tasks) None ≡ true → rule h (Some x.symbol) ≡ Some step
    → ((xs : List Terminal) → left step.taking xs ≡ behind xs) → Going ts rest
taken ts h tasks x rest step w f e l =
    let a = ahead (start ts) (at (h ∷ tasks) (x ∷ rest)) w in
    let u = a.0 in
    let todo = step.tasks ++ tasks in
    let fits' = stays_fit h tasks (Some x.symbol) step f e in
    let others = ending todo in
    let to_step : Leads (start (u ++ x ∷ others)) (at (h ∷ tasks) (x ∷ others)) = a.2 (x ∷ others) refl in
    let by_step : Leads (at (h ∷ tasks) (x ∷ others)) (at todo others) =
    subst (λ r. Leads (at (h ∷ tasks) (x ∷ others)) (at todo r)) (l (x ∷ others)) (one h step (x ∷ others) tasks e) in
    let whole = trans (start (u ++ x ∷ others)) (at (h ∷ tasks) (x ∷ others)) (at [] []) to_step (trans (at (h ∷ tasks) (x ∷ others)) (at todo others) (at [] []) by_step (finishes todo fits')) in
    (u ++ x ∷ [], a.1 ∙ one_more u x rest, others, ending_words todo fits', ending_numbered todo fits', subst (λ xs. Leads (start xs) (at [] [])) (one_more u x others) whole)

going_on : (ts : List Terminal) (h : Task) (tasks : List Task) (rest : List Terminal) (step : Step) → Leads (start ts) (at (h ∷ tasks) rest) → fit (h ∷ tasks) None ≡ true → rule h (symbol_at rest) ≡ Some step → Going ts rest
    → Going ts (left step.taking rest)
going_on ts h tasks [] step w f e g =
    by_taking (Going ts (left step.taking [])) step.taking (λ l. subst (λ r. Going ts r) (sym (l [])) g) (λ l. subst (λ r. Going ts r) (sym (l [])) g)
going_on ts h tasks (x ∷ rest) step w f e g =
    by_taking (Going ts (left step.taking (x ∷ rest))) step.taking (λ l. subst (λ r. Going ts r) (sym (l (x ∷ rest))) g)
    (λ l. subst (λ r. Going ts r) (sym (l (x ∷ rest))) (taken ts h tasks x rest step w f e l))

-- what holds after some further steps
Later : List Terminal → State → ℕ → Type 0
Later ts t n = (s : State) → Leads (start ts) s → fit s.tasks None ≡ true → Going ts s.rest → after n s ≡ Some t → Going ts t.rest

by_step : (ts : List Terminal) (t : State) (n : ℕ) → Later ts t n → (h : Task) (tasks : List Task) (rest : List Terminal) (a : State) (o : Option Step) → Leads (start ts) (at (h ∷ tasks) rest) → fit (h ∷ tasks) None ≡ true → Going ts rest
    → rule h (symbol_at rest) ≡ o → moved o tasks rest ≡ Some a → after n a ≡ Some t → Going ts t.rest
unfolding Later next
by_step ts t n ih h tasks rest a None w f g r m e = cc
by_step ts t n ih h tasks rest a (Some step) w f g r m e =
    let b = some_is (at (step.tasks ++ tasks) (left step.taking rest)) a m in
    ih a (more (start ts) (at (h ∷ tasks) rest) a w (ap (λ o. moved o tasks rest) r ∙ m))
    (subst (λ (z : State). fit z.tasks None ≡ true) b (stays_fit h tasks (symbol_at rest) step f r))
    (subst (λ (z : State). Going ts z.rest) b (going_on ts h tasks rest step w f r g)) e

by_tasks : (ts : List Terminal) (t : State) (n : ℕ) → Later ts t n → (tasks : List Task) (rest : List Terminal) (a : State) → Leads (start ts) (at tasks rest) → fit tasks None ≡ true → Going ts rest → next tasks rest ≡ Some a → after n a ≡ Some t
    → Going ts t.rest
unfolding next
by_tasks ts t n ih [] rest a w f g m e = cc
by_tasks ts t n ih (h ∷ tasks) rest a w f g m e = by_step ts t n ih h tasks rest a (rule h (symbol_at rest)) w f g refl m e

later : (ts : List Terminal) (t : State) (n : ℕ) → Later ts t n
unfolding Later
later ts t zero s w f g e = subst (λ (z : State). Going ts z.rest) (some_is s t e) g
later ts t (suc n) s w f g e =
    let v = first n s t (next s.tasks s.rest) e in
    by_tasks ts t n (later ts t n) s.tasks s.rest v.0 w f g v.1 v.2

nothing_taken : (ts : List Terminal) → Going ts ts
unfolding next
nothing_taken ts = ([], refl, [], tt, tt, goes (start []) (at [] []) (at [] []) refl (stays (at [] [])))

reached : (ts : List Terminal) (s : State) → Leads (start ts) s → Going ts s.rest
unfolding Later
reached ts s w = later ts s w.0 (start ts) (stays (start ts)) refl (nothing_taken ts) w.1

pub goes_on : (tokens : List Terminal) (n : ℕ) → AreNumbered tokens → IsReached tokens n → GoesOn tokens n
goes_on tokens n m r =
    let s = r.0 in
    let g = reached tokens s r.1 in
    let u = g.0 in
    let others = g.2 in
    let size : n ≡ length u = omega (arith, r.2, ap length g.1, length-append u s.rest) in
    let front : u ≡ take n tokens = sym (take_front u s.rest) ∙ sym (ap (take (length u)) g.1) ∙ ap (λ k. take k tokens) (sym size) in
    let spells : Spell (u ++ others) = spelled (u ++ others) g.5 (numbered u s.rest others (subst AreNumbered g.1 m) g.4) in
    (others, g.3, subst (λ xs. Spell (xs ++ others)) front spells)

-- ---- one least place

take_less : (m n : ℕ) (ts others : List Terminal) → m < n → n ≤ length ts → (take m (take n ts ++ others) ≡ take m ts) × (symbol_at (drop m (take n ts ++ others)) ≡ symbol_at (drop m ts))
take_less m zero ts others l h = absurd (omega (arith, l))
take_less m (suc n) [] others l h = absurd (omega (arith, h))
take_less zero (suc n) (t ∷ ts) others l h = (refl, refl)
take_less (suc m) (suc n) (t ∷ ts) others l h =
    let v = take_less m n ts others (omega (arith, l)) (omega (arith, h)) in
    (ap (λ xs. t ∷ xs) v.0, v.1)

-- what is dead does not go on
not_before : (tokens : List Terminal) (m n : ℕ) → IsLeast tokens m → IsLeast tokens n → m < n → ⊥
not_before tokens m n a b l =
    let g = b.goes_on in
    let other = take n tokens ++ g.0 in
    let same = take_less m n tokens g.0 l b.within in
    let some = g.2 [] in
    a.dead other same.0 same.1 [] some.0 some.1

pub one_least : (tokens : List Terminal) (m n : ℕ) → IsLeast tokens m → IsLeast tokens n → m ≡ n
one_least tokens m n a b =
    by_order (cases_order m n)
  where
    by_order : (m ≡ n) ⊎ ((m < n) ⊎ (n < m)) → m ≡ n
    by_order (inl e) = e
    by_order (inr (inl l)) = absurd (not_before tokens m n a b l)
    by_order (inr (inr l)) = absurd (not_before tokens n m b a l)
