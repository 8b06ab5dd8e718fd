-- Steps after steps, with what was read.
use Rattle.std.proofs.Common.{◌≡◌, ℕ, zero, suc, List, [], ◌∷◌, ◌++◌, Option, Some, None, refl, sym, ap, subst, ◌∙◌}
use Rattle.rtl_tree.specs.declared.symbol.Symbol.{Symbol}
use Rattle.rtl_tree.specs.Symbols.{Terminal}
use Rattle.text_grammar.specs.Grammar.{IsA, IsAt}
use Rattle.text_survey.specs.declared.task.Task.{Task}
use Rattle.text_survey.specs.declared.task.Taking.TheVariants as taking
use Rattle.text_survey.specs.Table.{Step, go}
use Rattle.text_survey.specs.Rule.{rule}
use Rattle.text_survey.specs.Machine.{State, at, symbol_at, left, moved, next, Leads}
use Rattle.text_survey.specs.Depths.{Nest, Depths, depths, begun, counted, place, Reading, reading, advanced, advance, carry_on, reading_after, ReadsOn}
use Rattle.text_survey.proofs.Laws.Steps.{goes, stays}

some_is : {A : Type 0} (x y : A) → Some x ≡ Some y → x ≡ y
some_is x y h = cc

none_some : {A : Type 0} (o : Option A) (x : A) → o ≡ None → o ≡ Some x → ⊥
none_some o x e f = cc

first : (n : ℕ) (t : Reading) (o : Option Reading) → carry_on (reading_after n) o ≡ Some t → (a : Reading) × (o ≡ Some a) × (reading_after n a ≡ Some t)
first n t None h = cc
first n t (Some a) h = (a, refl, h)

pub stays_read : (s : Reading) → ReadsOn s s
stays_read s = (0, refl)

pub goes_read : (s t u : Reading) → advance s.tasks s.rest s.read ≡ Some t → ReadsOn t u → ReadsOn s u
goes_read s t u e w = (suc w.0, ap (λ o. carry_on (reading_after w.0) o) e ∙ w.1)

trans_from : (n : ℕ) (s t u : Reading) → reading_after n s ≡ Some t → ReadsOn t u → ReadsOn s u
trans_from zero s t u e w = subst (λ z. ReadsOn z u) (sym (some_is s t e)) w
trans_from (suc n) s t u e w =
    let v = first n t (advance s.tasks s.rest s.read) e in
    goes_read s v.0 u v.1 (trans_from n v.0 t u v.2 w)

pub trans_read : (s t u : Reading) → ReadsOn s t → ReadsOn t u → ReadsOn s u
trans_read s t u v w = trans_from v.0 s t u v.1 w

pub more_read : (s t u : Reading) → ReadsOn s t → advance t.tasks t.rest t.read ≡ Some u → ReadsOn s u
more_read s t u w e = trans_read s t u w (goes_read t u u e (stays_read u))

-- where nothing more can be done, there is one end
one_end_from : (n m : ℕ) (s a b : Reading) → reading_after n s ≡ Some a → advance a.tasks a.rest a.read ≡ None → reading_after m s ≡ Some b → advance b.tasks b.rest b.read ≡ None → a ≡ b
one_end_from zero zero s a b e x f y = some_is a b (sym e ∙ f)
one_end_from zero (suc m) s a b e x f y =
    let v = first m b (advance s.tasks s.rest s.read) f in
    absurd (none_some (advance s.tasks s.rest s.read) v.0 (ap (λ (z : Reading). advance z.tasks z.rest z.read) (some_is s a e) ∙ x) v.1)
one_end_from (suc n) zero s a b e x f y =
    let v = first n a (advance s.tasks s.rest s.read) e in
    absurd (none_some (advance s.tasks s.rest s.read) v.0 (ap (λ (z : Reading). advance z.tasks z.rest z.read) (some_is s b f) ∙ y) v.1)
one_end_from (suc n) (suc m) s a b e x f y =
    let v = first n a (advance s.tasks s.rest s.read) e in
    let w = first m b (advance s.tasks s.rest s.read) f in
    one_end_from n m v.0 a b v.2 x (ap (λ z. reading_after m z) (some_is v.0 w.0 (sym v.1 ∙ w.1)) ∙ w.2) y

pub one_end_read : (s a b : Reading) → ReadsOn s a → advance a.tasks a.rest a.read ≡ None → ReadsOn s b → advance b.tasks b.rest b.read ≡ None → a ≡ b
one_end_read s a b v x w y = one_end_from v.0 w.0 s a b v.1 x w.1 y

-- what comes before an end where nothing more can be done goes on to it
between_from : (n m : ℕ) (s t u : Reading) → reading_after n s ≡ Some t → advance t.tasks t.rest t.read ≡ None → reading_after m s ≡ Some u → ReadsOn u t
between_from n zero s t u e x f = subst (λ z. ReadsOn z t) (some_is s u f) (n, e)
between_from zero (suc m) s t u e x f =
    let v = first m u (advance s.tasks s.rest s.read) f in
    absurd (none_some (advance s.tasks s.rest s.read) v.0 (ap (λ (z : Reading). advance z.tasks z.rest z.read) (some_is s t e) ∙ x) v.1)
between_from (suc n) (suc m) s t u e x f =
    let v = first n t (advance s.tasks s.rest s.read) e in
    let w = first m u (advance s.tasks s.rest s.read) f in
    between_from n m v.0 t u v.2 x (ap (λ z. reading_after m z) (some_is v.0 w.0 (sym v.1 ∙ w.1)) ∙ w.2)

pub between : (s t u : Reading) → ReadsOn s t → advance t.tasks t.rest t.read ≡ None → ReadsOn s u → ReadsOn u t
between s t u v x w = between_from v.0 w.0 s t u v.1 x w.1

assoc : (xs ys zs : List Task) → (xs ++ ys) ++ zs ≡ xs ++ (ys ++ zs)
assoc [] ys zs = refl
assoc (x ∷ xs) ys zs = ap (λ l. x ∷ l) (assoc xs ys zs)

-- tasks that are done to the end are done over others too
Framed : ℕ → Type 0
Framed n = (tasks others : List Task) (ts rest : List Terminal) (d d' : Depths) → reading_after n (reading tasks ts d) ≡ Some (reading [] rest d') → ReadsOn (reading (tasks ++ others) ts d) (reading others rest d')

framed_by : (n : ℕ) → Framed n → (t : Task) (tasks others : List Task) (ts rest : List Terminal) (d d' : Depths) (a : Reading) (o : Option Step) → rule t (symbol_at ts) ≡ o → advanced o t tasks ts d ≡ Some a
    → reading_after n a ≡ Some (reading [] rest d') → ReadsOn (reading (t ∷ (tasks ++ others)) ts d) (reading others rest d')
unfolding Framed advance
framed_by n ih t tasks others ts rest d d' a None r m e = cc
framed_by n ih t tasks others ts rest d d' a (Some step) r m e =
    let after' = counted t (begun step.taking (place ts) d) in
    let b = some_is (reading (step.tasks ++ tasks) (left step.taking ts) after') a m in
    let w = ih (step.tasks ++ tasks) others (left step.taking ts) rest after' d' (ap (λ z. reading_after n z) b ∙ e) in
    goes_read (reading (t ∷ (tasks ++ others)) ts d) (reading (step.tasks ++ (tasks ++ others)) (left step.taking ts) after') (reading others rest d') (ap (λ o. advanced o t (tasks ++ others) ts d) r)
    (subst (λ xs. ReadsOn (reading xs (left step.taking ts) after') (reading others rest d')) (assoc step.tasks tasks others) w)

framed_from : (n : ℕ) → Framed n
unfolding Framed advance
framed_from zero tasks others ts rest d d' e =
    subst (λ (z : Reading). ReadsOn (reading (z.tasks ++ others) z.rest z.read) (reading others rest d')) (sym (some_is (reading tasks ts d) (reading [] rest d') e)) (stays_read (reading others rest d'))
framed_from (suc n) [] others ts rest d d' e = cc
framed_from (suc n) (t ∷ tasks) others ts rest d d' e =
    let v = first n (reading [] rest d') (advanced (rule t (symbol_at ts)) t tasks ts d) e in
    framed_by n (framed_from n) t tasks others ts rest d d' v.0 (rule t (symbol_at ts)) refl v.1 v.2

pub framed : (tasks others : List Task) (ts rest : List Terminal) (d d' : Depths) → ReadsOn (reading tasks ts d) (reading [] rest d') → ReadsOn (reading (tasks ++ others) ts d) (reading others rest d')
unfolding Framed
framed tasks others ts rest d d' w = framed_from w.0 tasks others ts rest d d' w.1

-- ---- the steps alone

abbrev pub bare : Reading → State
bare s = at s.tasks s.rest

bare_by : (o : Option Step) (t : Task) (tasks : List Task) (ts : List Terminal) (d : Depths) (a : Reading) → advanced o t tasks ts d ≡ Some a → moved o tasks ts ≡ Some (bare a)
bare_by None t tasks ts d a e = cc
bare_by (Some step) t tasks ts d a e = ap (λ (z : Reading). Some (bare z)) (some_is _ a e)

bare_step : (tasks : List Task) (ts : List Terminal) (d : Depths) (a : Reading) → advance tasks ts d ≡ Some a → next tasks ts ≡ Some (bare a)
unfolding advance next
bare_step [] ts d a e = cc
bare_step (t ∷ tasks) ts d a e = bare_by (rule t (symbol_at ts)) t tasks ts d a e

bare_from : (n : ℕ) (s t : Reading) → reading_after n s ≡ Some t → Leads (bare s) (bare t)
bare_from zero s t e = subst (λ z. Leads (bare s) (bare z)) (some_is s t e) (stays (bare s))
bare_from (suc n) s t e =
    let v = first n t (advance s.tasks s.rest s.read) e in
    goes (bare s) (bare v.0) (bare t) (bare_step s.tasks s.rest s.read v.0 v.1) (bare_from n v.0 t v.2)

pub leads : (s t : Reading) → ReadsOn s t → Leads (bare s) (bare t)
leads s t w = bare_from w.0 s t w.1

-- ---- what tasks do

-- these tasks, and then others, are done as far as the others, and change what was read
pub record Runs (tasks : List Task) (ts rest : List Terminal) (e : Depths → Depths) : Type 0 where
  pub runs : (others : List Task) (d : Depths) → ReadsOn (reading (tasks ++ others) ts d) (reading others rest (e d))

abbrev pub Does : Task → List Terminal → List Terminal → (Depths → Depths) → Type 0
Does t = Runs (t ∷ [])

-- nothing is read of which the depth counts
abbrev pub same : Depths → Depths
same d = d

-- what was read stands by itself
abbrev pub push : Nest → Depths → Depths
push n d = depths d.places n (d.top ∷ d.under)

-- what was read last becomes more
abbrev pub grow : (Nest → Nest) → Depths → Depths
grow g d = depths d.places (g d.top) d.under

pub nothing : (ts : List Terminal) → Runs [] ts ts same
nothing ts = record { runs = λ others d. stays_read (reading others ts d) }

pub by_rule : (t : Task) (step : Step) (ts rest : List Terminal) (e : Depths → Depths) → rule t (symbol_at ts) ≡ Some step → Runs step.tasks (left step.taking ts) rest e
    → Does t ts rest (λ d. e (counted t (begun step.taking (place ts) d)))
unfolding advance
by_rule t step ts rest e r w =
    record {
      runs = λ others d.
          goes_read (reading (t ∷ others) ts d) (reading (step.tasks ++ others) (left step.taking ts) (counted t (begun step.taking (place ts) d)))
          (reading others rest (e (counted t (begun step.taking (place ts) d))))
          (ap (λ o. advanced o t others ts d) r) (w.runs others (counted t (begun step.taking (place ts) d)));
    }

-- one task after another
infixr 12 ◌▸◌
pub ◌▸◌ : {t : Task} {tasks : List Task} {ts mid rest : List Terminal} {e f : Depths → Depths} → Does t ts mid e → Runs tasks mid rest f → Runs (t ∷ tasks) ts rest (λ d. f (e d))
◌▸◌ {t} {tasks} {ts} {mid} {rest} {e} {f} p q =
    record {
      runs = λ others d.
          trans_read (reading (t ∷ (tasks ++ others)) ts d) (reading (tasks ++ others) mid (e d)) (reading others rest (f (e d)))
          (p.runs (tasks ++ others) d) (q.runs others (e d));
    }

-- two tasks, and then others
infixr 12 ◌▹◌
pub ◌▹◌ : {t u : Task} {tasks : List Task} {ts mid rest : List Terminal} {e f : Depths → Depths} → Runs (t ∷ u ∷ []) ts mid e → Runs tasks mid rest f → Runs (t ∷ u ∷ tasks) ts rest (λ d. f (e d))
◌▹◌ {t} {u} {tasks} {ts} {mid} {rest} {e} {f} p q =
    record {
      runs = λ others d.
          trans_read (reading (t ∷ u ∷ (tasks ++ others)) ts d) (reading (tasks ++ others) mid (e d)) (reading others rest (f (e d)))
          (p.runs (tasks ++ others) d) (q.runs others (e d));
    }

-- the same change, told in another way
pub told : {tasks : List Task} {ts rest : List Terminal} (e f : Depths → Depths) → ((d : Depths) → e d ≡ f d) → Runs tasks ts rest e → Runs tasks ts rest f
told {tasks} {ts} {rest} e f h w = record { runs = λ others d. subst (λ x. ReadsOn (reading (tasks ++ others) ts d) (reading others rest x)) (h d) (w.runs others d) }

pub stay : {t : Task} {tasks : List Task} {ts rest : List Terminal} {e : Depths → Depths} → rule t (symbol_at ts) ≡ go taking.Nothing tasks → Runs tasks ts rest e → Does t ts rest (λ d. e (counted t d))
stay {t} {tasks} {ts} {rest} {e} r w = by_rule t (record { taking = taking.Nothing; tasks = tasks }) ts rest e r w

-- a node begins before the next token
pub look : {t : Task} {tasks : List Task} {ts rest : List Terminal} {e : Depths → Depths} (p : ℕ) → place ts ≡ p → rule t (symbol_at ts) ≡ go taking.Ahead tasks → Runs tasks ts rest e
    → Does t ts rest (λ d. e (counted t (begun taking.Ahead p d)))
look {t} {tasks} {ts} {rest} {e} p h r w =
    subst (λ x. Does t ts rest (λ d. e (counted t (begun taking.Ahead x d)))) h (by_rule t (record { taking = taking.Ahead; tasks = tasks }) ts rest e r w)

-- a token is taken
pub shift : (t : Task) (step : Step) (symbol : Symbol) (ts mid rest : List Terminal) (p : ℕ) (e : Depths → Depths) → rule t (Some symbol) ≡ Some step → ((a : Terminal) (ends : List Terminal) → left step.taking (a ∷ ends) ≡ ends)
    → IsAt symbol p ts mid → Runs step.tasks mid rest e → Does t ts rest (λ d. e (counted t (begun step.taking p d)))
shift t step symbol ts mid rest p e r l w v =
    subst (λ x. Does t x rest (λ d. e (counted t (begun step.taking p d)))) (sym w.1)
    (subst (λ x. Does t (w.0 ∷ mid) rest (λ d. e (counted t (begun step.taking x d)))) w.2.1
    (by_rule t step (w.0 ∷ mid) rest e (ap (λ s. rule t (Some s)) w.2.0 ∙ r) (subst (λ x. Runs step.tasks x rest e) (sym (l w.0 mid)) v)))

pub token : {t : Task} {tasks : List Task} {ts mid rest : List Terminal} {e : Depths → Depths} (symbol : Symbol) → rule t (Some symbol) ≡ go taking.Token tasks → IsA symbol ts mid → Runs tasks mid rest e → Does t ts rest (λ d. e (counted t d))
token {t} {tasks} {ts} {mid} {rest} {e} symbol r w v = shift t (record { taking = taking.Token; tasks = tasks }) symbol ts mid rest w.0.at e r (λ a ends. refl) (w.0, w.1, (w.2, refl)) v

pub node : {t : Task} {tasks : List Task} {ts mid rest : List Terminal} {e : Depths → Depths} (symbol : Symbol) (p : ℕ) → rule t (Some symbol) ≡ go taking.Node tasks → IsAt symbol p ts mid → Runs tasks mid rest e
    → Does t ts rest (λ d. e (counted t (begun taking.Node p d)))
node {t} {tasks} {ts} {mid} {rest} {e} symbol p r w v = shift t (record { taking = taking.Node; tasks = tasks }) symbol ts mid rest p e r (λ a ends. refl) w v

pub operator : {t : Task} {tasks : List Task} {ts mid rest : List Terminal} {e : Depths → Depths} (symbol : Symbol) (p : ℕ) → rule t (Some symbol) ≡ go taking.Operator tasks → IsAt symbol p ts mid → Runs tasks mid rest e
    → Does t ts rest (λ d. e (counted t (begun taking.Operator p d)))
operator {t} {tasks} {ts} {mid} {rest} {e} symbol p r w v = shift t (record { taking = taking.Operator; tasks = tasks }) symbol ts mid rest p e r (λ a ends. refl) w v

-- a step alone
pub one : (t : Task) (step : Step) (ts : List Terminal) (others : List Task) (d : Depths) → rule t (symbol_at ts) ≡ Some step
    → ReadsOn (reading (t ∷ others) ts d) (reading (step.tasks ++ others) (left step.taking ts) (counted t (begun step.taking (place ts) d)))
unfolding advance
one t step ts others d e =
    let s = reading (step.tasks ++ others) (left step.taking ts) (counted t (begun step.taking (place ts) d)) in
    goes_read (reading (t ∷ others) ts d) s s (ap (λ o. advanced o t others ts d) e) (stays_read s)

pub one_taken : (t : Task) (step : Step) (symbol : Symbol) (p : ℕ) (ts mid : List Terminal) (others : List Task) (d : Depths) → rule t (Some symbol) ≡ Some step
    → ((a : Terminal) (ends : List Terminal) → left step.taking (a ∷ ends) ≡ ends) → IsAt symbol p ts mid
    → ReadsOn (reading (t ∷ others) ts d) (reading (step.tasks ++ others) mid (counted t (begun step.taking p d)))
one_taken t step symbol p ts mid others d e l w =
    subst (λ x. ReadsOn (reading (t ∷ others) x d) (reading (step.tasks ++ others) mid (counted t (begun step.taking p d)))) (sym w.1)
    (subst (λ x. ReadsOn (reading (t ∷ others) (w.0 ∷ mid) d) (reading (step.tasks ++ others) mid (counted t (begun step.taking x d)))) w.2.1
    (subst (λ x. ReadsOn (reading (t ∷ others) (w.0 ∷ mid) d) (reading (step.tasks ++ others) x (counted t (begun step.taking w.0.at d)))) (l w.0 mid)
    (one t step (w.0 ∷ mid) others d (ap (λ s. rule t (Some s)) w.2.0 ∙ e))))
