-- The survey looks at one token more than it takes.
use Rattle.std.proofs.Common.{◌≡◌, ℕ, zero, suc, List, [], ◌∷◌, ◌++◌, Option, Some, None, refl, sym, ap, subst, ◌∙◌}
use Rattle.rtl_tree.specs.Symbols.{Terminal}
use Rattle.text_survey.specs.declared.task.Task.{Task}
use Rattle.text_survey.specs.declared.task.Taking.{Taking}
use Rattle.text_survey.specs.declared.task.Taking.TheVariants as taking
use Rattle.text_survey.specs.Table.{Step}
use Rattle.text_survey.specs.Rule.{rule}
use Rattle.text_survey.specs.Machine.{State, at, symbol_at, behind, left, moved, next, after, Leads}
use Rattle.text_survey.proofs.Laws.Steps.{some_is, first, stays, goes}

-- the same comes next after the same
same_after : (u r other : List Terminal) → symbol_at r ≡ symbol_at other → symbol_at (u ++ r) ≡ symbol_at (u ++ other)
same_after [] r other e = e
same_after (t ∷ u) r other e = refl

-- what is left before a step begins with what is left after it
Back : Taking → List Terminal → List Terminal → List Terminal → Type 0
Back taking ts u r =
    (v : List Terminal) × (ts ≡ v ++ r) × ((other : List Terminal) → symbol_at r ≡ symbol_at other → (symbol_at ts ≡ symbol_at (v ++ other)) × (left taking (v ++ other) ≡ u ++ other))

kept : (taking : Taking) (ts u r : List Terminal) → ((xs : List Terminal) → left taking xs ≡ xs) → left taking ts ≡ u ++ r → Back taking ts u r
unfolding Back
kept taking ts u r k e =
    let f = sym (k ts) ∙ e in
    (u, f, λ other same. (ap symbol_at f ∙ same_after u r other same, k (u ++ other)))

ended : (r other : List Terminal) → r ≡ [] → symbol_at r ≡ symbol_at other → other ≡ []
ended r [] e same = refl
ended [] (t ∷ ts) e same = cc
ended (a ∷ ends) other e same = cc

nil_left : (u r : List Terminal) → [] ≡ u ++ r → u ≡ []
nil_left [] r e = refl
nil_left (t ∷ u) r e = cc

nil_right : (u r : List Terminal) → [] ≡ u ++ r → r ≡ []
nil_right [] r e = sym e
nil_right (t ∷ u) r e = cc

taken : (taking : Taking) (ts u r : List Terminal) → ((xs : List Terminal) → left taking xs ≡ behind xs) → left taking ts ≡ u ++ r → Back taking ts u r
unfolding Back
taken taking [] u r k e =
    let f = sym (k []) ∙ e in (
      [],
      sym (nil_right u r f),
      λ other same.
          let o = ended r other (nil_right u r f) same in
          (ap symbol_at (sym (nil_right u r f)) ∙ same, k other ∙ ap behind o ∙ sym (rw (nil_left u r f, o) refl)),
    )
taken taking (t ∷ ts) u r k e =
    (t ∷ u, ap (λ xs. t ∷ xs) (sym (k (t ∷ ts)) ∙ e), λ other same. (refl, k (t ∷ (u ++ other))))

back : (taking : Taking) (ts u r : List Terminal) → left taking ts ≡ u ++ r → Back taking ts u r
back taking.Nothing ts u r e = kept taking.Nothing ts u r (λ xs. refl) e
back taking.Ahead ts u r e = kept taking.Ahead ts u r (λ xs. refl) e
back taking.Token ts u r e = taken taking.Token ts u r (λ xs. refl) e
back taking.Node ts u r e = taken taking.Node ts u r (λ xs. refl) e
back taking.Operator ts u r e = taken taking.Operator ts u r (λ xs. refl) e

-- one step
Once : List Task → List Terminal → State → List Terminal → List Terminal → Type 0
Once tasks ts end u r =
    (v : List Terminal) × (ts ≡ v ++ r) × ((other : List Terminal) → symbol_at r ≡ symbol_at other → next tasks (v ++ other) ≡ Some (at end.tasks (u ++ other)))

once_by : (o : Option Step) (t : Task) (tasks : List Task) (ts : List Terminal) (end : State) (u r : List Terminal) → rule t (symbol_at ts) ≡ o → moved o tasks ts ≡ Some end → end.rest ≡ u ++ r
    → Once (t ∷ tasks) ts end u r
unfolding Once Back next
once_by None t tasks ts end u r e m f = cc
once_by (Some step) t tasks ts end u r e m f =
    let a = some_is (at (step.tasks ++ tasks) (left step.taking ts)) end m in
    let b = back step.taking ts u r (ap (λ s. s.rest) a ∙ f) in (
      b.0,
      b.1,
      λ other same.
          let c = b.2 other same in
          ap (λ o. moved (rule t o) tasks (b.0 ++ other)) (sym c.0)
          ∙ ap (λ o. moved o tasks (b.0 ++ other)) e
          ∙ ap (λ xs. Some (at (step.tasks ++ tasks) xs)) c.1
          ∙ ap (λ (s : State). Some (at s.tasks (u ++ other))) a,
    )

once : (tasks : List Task) (ts : List Terminal) (end : State) (u r : List Terminal) → next tasks ts ≡ Some end → end.rest ≡ u ++ r → Once tasks ts end u r
unfolding next
once [] ts end u r e f = cc
once (t ∷ tasks) ts end u r e f = once_by (rule t (symbol_at ts)) t tasks ts end u r refl e f

-- steps go the same way over other tokens that are the same up to where they stop, and one further
abbrev pub Alike : State → State → Type 0
Alike s t = (u : List Terminal) × (s.rest ≡ u ++ t.rest) × ((other : List Terminal) → symbol_at t.rest ≡ symbol_at other → Leads (at s.tasks (u ++ other)) (at t.tasks other))

ahead_from : (n : ℕ) (s t : State) → after n s ≡ Some t → Alike s t
unfolding Once
ahead_from zero s t e = subst (λ z. Alike s z) (some_is s t e) ([], refl, λ other same. stays (at s.tasks other))
ahead_from (suc n) s t e =
    let f = first n s t (next s.tasks s.rest) e in
    let v = ahead_from n f.0 t f.2 in
    let o = once s.tasks s.rest f.0 v.0 t.rest f.1 v.1 in
    (o.0, o.1, λ other same. goes (at s.tasks (o.0 ++ other)) (at f.0.tasks (v.0 ++ other)) (at t.tasks other) (o.2 other same) (v.2 other same))

pub ahead : (s t : State) → Leads s t → Alike s t
ahead s t w = ahead_from w.0 s t w.1
