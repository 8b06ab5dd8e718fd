-- Steps after steps.
use Rattle.std.proofs.Common.{◌≡◌, ℕ, zero, suc, List, [], ◌∷◌, ◌++◌, Option, Some, None, refl, sym, ap, subst, ◌∙◌}
use Rattle.rtl_tree.specs.declared.symbol.Symbol.{Symbol}
use Rattle.rtl_tree.specs.Symbols.{Terminal}
use Rattle.text_grammar.specs.Grammar.{IsA}
use Rattle.text_survey.specs.declared.task.Task.{Task}
use Rattle.text_survey.specs.declared.task.Taking.TheVariants as taking
use Rattle.text_survey.specs.Table.{Step, go}
use Rattle.text_survey.specs.Rule.{rule}
use Rattle.text_survey.specs.Machine.{State, at, symbol_at, left, moved, next, carry, after, Leads}

pub some_is : {A : Type 0} (x y : A) → Some x ≡ Some y → x ≡ y
some_is x y h = cc

pub none_some : {A : Type 0} (o : Option A) (x : A) → o ≡ None → o ≡ Some x → ⊥
none_some o x e f = cc

-- the first of some steps
pub first : (n : ℕ) (s t : State) (o : Option State) → carry (after n) o ≡ Some t → (a : State) × (o ≡ Some a) × (after n a ≡ Some t)
first n s t None h = cc
first n s t (Some a) h = (a, refl, h)

pub stays : (s : State) → Leads s s
stays s = (0, refl)

pub goes : (s t u : State) → next s.tasks s.rest ≡ Some t → Leads t u → Leads s u
goes s t u e w = (suc w.0, ap (λ o. carry (after w.0) o) e ∙ w.1)

trans_from : (n : ℕ) (s t u : State) → after n s ≡ Some t → Leads t u → Leads s u
trans_from zero s t u e w = subst (λ z. Leads z u) (sym (some_is s t e)) w
trans_from (suc n) s t u e w =
    let v = first n s t (next s.tasks s.rest) e in
    goes s v.0 u v.1 (trans_from n v.0 t u v.2 w)

pub trans : (s t u : State) → Leads s t → Leads t u → Leads s u
trans s t u v w = trans_from v.0 s t u v.1 w

-- one more step at the end
pub more : (s t u : State) → Leads s t → next t.tasks t.rest ≡ Some u → Leads s u
more s t u w e = trans s t u w (goes t u u e (stays u))

-- where nothing more can be done, there is one end
one_end_from : (n m : ℕ) (s a b : State) → after n s ≡ Some a → next a.tasks a.rest ≡ None → after m s ≡ Some b → next b.tasks b.rest ≡ None → a ≡ b
one_end_from zero zero s a b e x f y = some_is a b (sym e ∙ f)
one_end_from zero (suc m) s a b e x f y =
    let v = first m s b (next s.tasks s.rest) f in
    absurd (none_some (next s.tasks s.rest) v.0 (ap (λ (z : State). next z.tasks z.rest) (some_is s a e) ∙ x) v.1)
one_end_from (suc n) zero s a b e x f y =
    let v = first n s a (next s.tasks s.rest) e in
    absurd (none_some (next s.tasks s.rest) v.0 (ap (λ (z : State). next z.tasks z.rest) (some_is s b f) ∙ y) v.1)
one_end_from (suc n) (suc m) s a b e x f y =
    let v = first n s a (next s.tasks s.rest) e in
    let w = first m s b (next s.tasks s.rest) f in
    one_end_from n m v.0 a b v.2 x (ap (λ z. after m z) (some_is v.0 w.0 (sym v.1 ∙ w.1)) ∙ w.2) y

pub one_end : (s a b : State) → Leads s a → next a.tasks a.rest ≡ None → Leads s b → next b.tasks b.rest ≡ None → a ≡ b
one_end s a b v x w y = one_end_from v.0 w.0 s a b v.1 x w.1 y

-- these tasks, and then others, are done as far as the others
pub record Runs (tasks : List Task) (ts rest : List Terminal) : Type 0 where
  pub runs : (others : List Task) → Leads (at (tasks ++ others) ts) (at others rest)

abbrev pub Does : Task → List Terminal → List Terminal → Type 0
Does t = Runs (t ∷ [])

pub nothing : (ts : List Terminal) → Runs [] ts ts
nothing ts = record { runs = λ others. stays (at others ts) }

pub by_rule : (t : Task) (step : Step) (ts rest : List Terminal) → rule t (symbol_at ts) ≡ Some step → Runs step.tasks (left step.taking ts) rest → Does t ts rest
unfolding next
by_rule t step ts rest e w =
    record {
      runs = λ others. goes (at (t ∷ others) ts) (at (step.tasks ++ others) (left step.taking ts)) (at others rest) (ap (λ o. moved o others ts) e) (w.runs others);
    }

-- one task after another
infixr 12 ◌▸◌
pub ◌▸◌ : {t : Task} {tasks : List Task} {ts mid rest : List Terminal} → Does t ts mid → Runs tasks mid rest → Runs (t ∷ tasks) ts rest
◌▸◌ {t} {tasks} {ts} {mid} {rest} p q =
    record {
      runs = λ others. trans (at (t ∷ (tasks ++ others)) ts) (at (tasks ++ others) mid) (at others rest) (p.runs (tasks ++ others)) (q.runs others);
    }

-- two tasks, and then others
infixr 12 ◌▹◌
pub ◌▹◌ : {t u : Task} {tasks : List Task} {ts mid rest : List Terminal} → Runs (t ∷ u ∷ []) ts mid → Runs tasks mid rest → Runs (t ∷ u ∷ tasks) ts rest
◌▹◌ {t} {u} {tasks} {ts} {mid} {rest} p q =
    record {
      runs = λ others. trans (at (t ∷ u ∷ (tasks ++ others)) ts) (at (tasks ++ others) mid) (at others rest) (p.runs (tasks ++ others)) (q.runs others);
    }

pub stay : {t : Task} {tasks : List Task} {ts rest : List Terminal} → rule t (symbol_at ts) ≡ go taking.Nothing tasks → Runs tasks ts rest → Does t ts rest
stay {t} {tasks} {ts} {rest} e w = by_rule t (record { taking = taking.Nothing; tasks = tasks }) ts rest e w

pub look : {t : Task} {tasks : List Task} {ts rest : List Terminal} → rule t (symbol_at ts) ≡ go taking.Ahead tasks → Runs tasks ts rest → Does t ts rest
look {t} {tasks} {ts} {rest} e w = by_rule t (record { taking = taking.Ahead; tasks = tasks }) ts rest e w

-- a token is taken
pub shift : (t : Task) (step : Step) (symbol : Symbol) (ts mid rest : List Terminal) → rule t (Some symbol) ≡ Some step → ((a : Terminal) (ends : List Terminal) → left step.taking (a ∷ ends) ≡ ends)
    → IsA symbol ts mid → Runs step.tasks mid rest → Does t ts rest
shift t step symbol ts mid rest e l w v =
    subst (λ x. Does t x rest) (sym w.1)
    (by_rule t step (w.0 ∷ mid) rest (ap (λ s. rule t (Some s)) w.2 ∙ e) (subst (λ x. Runs step.tasks x rest) (sym (l w.0 mid)) v))

pub token : {t : Task} {tasks : List Task} {ts mid rest : List Terminal} (symbol : Symbol) → rule t (Some symbol) ≡ go taking.Token tasks → IsA symbol ts mid → Runs tasks mid rest → Does t ts rest
token {t} {tasks} {ts} {mid} {rest} symbol e w v = shift t (record { taking = taking.Token; tasks = tasks }) symbol ts mid rest e (λ a ends. refl) w v

pub node : {t : Task} {tasks : List Task} {ts mid rest : List Terminal} (symbol : Symbol) → rule t (Some symbol) ≡ go taking.Node tasks → IsA symbol ts mid → Runs tasks mid rest → Does t ts rest
node {t} {tasks} {ts} {mid} {rest} symbol e w v = shift t (record { taking = taking.Node; tasks = tasks }) symbol ts mid rest e (λ a ends. refl) w v

pub operator : {t : Task} {tasks : List Task} {ts mid rest : List Terminal} (symbol : Symbol) → rule t (Some symbol) ≡ go taking.Operator tasks → IsA symbol ts mid → Runs tasks mid rest → Does t ts rest
operator {t} {tasks} {ts} {mid} {rest} symbol e w v = shift t (record { taking = taking.Operator; tasks = tasks }) symbol ts mid rest e (λ a ends. refl) w v

-- a step alone
pub one : (t : Task) (step : Step) (ts : List Terminal) (others : List Task) → rule t (symbol_at ts) ≡ Some step → Leads (at (t ∷ others) ts) (at (step.tasks ++ others) (left step.taking ts))
unfolding next
one t step ts others e =
    goes (at (t ∷ others) ts) (at (step.tasks ++ others) (left step.taking ts)) (at (step.tasks ++ others) (left step.taking ts)) (ap (λ o. moved o others ts) e)
    (stays (at (step.tasks ++ others) (left step.taking ts)))

pub one_taken : (t : Task) (step : Step) (symbol : Symbol) (ts mid : List Terminal) (others : List Task) → rule t (Some symbol) ≡ Some step
    → ((a : Terminal) (ends : List Terminal) → left step.taking (a ∷ ends) ≡ ends) → IsA symbol ts mid → Leads (at (t ∷ others) ts) (at (step.tasks ++ others) mid)
one_taken t step symbol ts mid others e l w =
    subst (λ x. Leads (at (t ∷ others) x) (at (step.tasks ++ others) mid)) (sym w.1)
    (subst (λ x. Leads (at (t ∷ others) (w.0 ∷ mid)) (at (step.tasks ++ others) x)) (l w.0 mid) (one t step (w.0 ∷ mid) others (ap (λ s. rule t (Some s)) w.2 ∙ e)))
