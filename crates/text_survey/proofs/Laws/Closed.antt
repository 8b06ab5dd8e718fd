-- Whatever comes later, the tokens through each `endmodule` that was taken spell modules.
use Rattle.std.proofs.Common.{◌≡◌, ℕ, zero, suc, ◌+◌, ◌-◌, ◌≤◌, true, List, [], ◌∷◌, ◌++◌, length, take, Option, Some, None, refl, sym, ap, subst, ◌∙◌, arith}
use Rattle.std.specs.List.{slice_get}
use Rattle.std.proofs.lemmas.List.{length-append}
use Rattle.rtl_tree.specs.declared.symbol.Symbol.TheVariants as symbol
use Rattle.rtl_tree.specs.Symbols.{Terminal}
use Rattle.text_survey.specs.declared.task.Task.{Task}
use Rattle.text_survey.specs.declared.task.Task.TheVariants as task
use Rattle.text_survey.specs.declared.task.Taking.{Taking}
use Rattle.text_survey.specs.declared.task.Taking.TheVariants as taking
use Rattle.text_survey.specs.Table.{Step, same_symbol}
use Rattle.text_survey.specs.Rule.{rule}
use Rattle.text_survey.specs.Machine.{State, at, symbol_at, left, moved, next, after, Leads}
use Rattle.text_survey.specs.Surveys.{SpellSome, AreClosed, start}
use Rattle.text_survey.proofs.Laws.Steps.{some_is, first, stays, goes, trans, more}
use Rattle.text_survey.proofs.Laws.Ahead.{ahead}
use Rattle.text_survey.proofs.Laws.Inside.{shaped, begins_shaped, end_last, keeps_shape, takes, taker}
use Rattle.text_survey.proofs.Laws.Sound.{spelled}

take_front : {A : Type 0} (u v : List A) → take (length u) (u ++ v) ≡ u
take_front [] v = refl
take_front (x ∷ u) v = ap (λ xs. x ∷ xs) (take_front u v)

one_more : {A : Type 0} (u : List A) (x : A) (behind : List A) → u ++ x ∷ behind ≡ (u ++ x ∷ []) ++ behind
one_more [] x behind = refl
one_more (y ∷ u) x behind = ap (λ xs. y ∷ xs) (one_more u x behind)

-- the end of a module with the end of the tokens behind it
ends_here : (x : Terminal) → x.symbol ≡ symbol.Endmodule → Leads (at (task.Expect symbol.Endmodule ∷ task.Source ∷ []) (x ∷ [])) (at [] [])
unfolding next same_symbol
ends_here x e =
    goes (at (task.Expect symbol.Endmodule ∷ task.Source ∷ []) (x ∷ [])) (at (task.Source ∷ []) []) (at [] [])
    (ap (λ s. moved (rule (task.Expect symbol.Endmodule) (Some s)) (task.Source ∷ []) (x ∷ [])) e)
    (goes (at (task.Source ∷ []) []) (at [] []) (at [] []) refl (stays (at [] [])))

-- tokens that end with a module
ends_with : (ts behind : List Terminal) (x : Terminal) → x.symbol ≡ symbol.Endmodule → Leads (start ts) (at (task.Expect symbol.Endmodule ∷ task.Source ∷ []) (x ∷ behind))
    → SpellSome (take (length ts - length behind) ts)
ends_with ts behind x e w =
    let a = ahead (start ts) (at (task.Expect symbol.Endmodule ∷ task.Source ∷ []) (x ∷ behind)) w in
    let u = a.0 in
    let whole : ts ≡ (u ++ x ∷ []) ++ behind = a.1 ∙ one_more u x behind in
    let size : length ts - length behind ≡ length (u ++ x ∷ []) = omega (arith, ap length whole, length-append (u ++ x ∷ []) behind) in
    let front : take (length ts - length behind) ts ≡ u ++ x ∷ [] = ap (λ n. take n ts) size ∙ ap (take (length (u ++ x ∷ []))) whole ∙ take_front (u ++ x ∷ []) behind in
    let run = trans (start (u ++ x ∷ [])) (at (task.Expect symbol.Endmodule ∷ task.Source ∷ []) (x ∷ [])) (at [] []) (a.2 (x ∷ []) refl) (ends_here x e) in
    subst SpellSome (sym front) (spelled (u ++ x ∷ []) run)

-- a token that is still to come comes later, or is taken now
by_left : (P : Type 0) (t : Taking) (front : List Terminal) (x : Terminal) (behind : List Terminal)
    → ((later : List Terminal) → left t (front ++ x ∷ behind) ≡ later ++ x ∷ behind → P) → (takes t ≡ true → front ≡ [] → P) → P
unfolding takes
by_left P taking.Nothing front x behind later now = later front refl
by_left P taking.Ahead front x behind later now = later front refl
by_left P taking.Token [] x behind later now = now refl refl
by_left P taking.Node [] x behind later now = now refl refl
by_left P taking.Operator [] x behind later now = now refl refl
by_left P taking.Token (y ∷ front) x behind later now = later front refl
by_left P taking.Node (y ∷ front) x behind later now = later front refl
by_left P taking.Operator (y ∷ front) x behind later now = later front refl

-- what holds of an `endmodule` that some further steps take
Later : List Terminal → State → ℕ → Type 0
Later ts t n =
    (s : State) → Leads (start ts) s → shaped s.tasks ≡ true → after n s ≡ Some t → (front behind : List Terminal) (x : Terminal) → s.rest ≡ front ++ x ∷ behind → x.symbol ≡ symbol.Endmodule → length t.rest ≤ length behind
    → SpellSome (take (length ts - length behind) ts)

by_step : (ts : List Terminal) (t : State) (n : ℕ) → Later ts t n → (h : Task) (tasks : List Task) (rest : List Terminal) (a : State) (o : Option Step) → Leads (start ts) (at (h ∷ tasks) rest) → shaped (h ∷ tasks) ≡ true
    → rule h (symbol_at rest) ≡ o → moved o tasks rest ≡ Some a → after n a ≡ Some t → (front behind : List Terminal) (x : Terminal) → rest ≡ front ++ x ∷ behind → x.symbol ≡ symbol.Endmodule → length t.rest ≤ length behind
    → SpellSome (take (length ts - length behind) ts)
unfolding Later next
by_step ts t n ih h tasks rest a None w s r m e front behind x f i l = cc
by_step ts t n ih h tasks rest a (Some step) w s r m e front behind x f i l =
    let b = some_is (at (step.tasks ++ tasks) (left step.taking rest)) a m in
    let moves : next (h ∷ tasks) rest ≡ Some a = ap (λ o. moved o tasks rest) r ∙ m in
    by_left (SpellSome (take (length ts - length behind) ts)) step.taking front x behind
    (λ later g.
    ih a (more (start ts) (at (h ∷ tasks) rest) a w moves)
    (subst (λ (z : State). shaped z.tasks ≡ true) b (keeps_shape h tasks (symbol_at rest) step s r))
    e later behind x
    (sym (ap (λ (z : State). z.rest) b) ∙ ap (left step.taking) f ∙ g)
    i l)
    (λ takes' none.
    let here : rest ≡ x ∷ behind = f ∙ ap (λ u. u ++ x ∷ behind) none in
    let ends : h ≡ task.Expect symbol.Endmodule = taker h step (ap (λ o. rule h o) (sym (ap symbol_at here ∙ ap (λ y. Some y) i)) ∙ r) takes' in
    let under : tasks ≡ task.Source ∷ [] = end_last tasks (subst (λ y. shaped (y ∷ tasks) ≡ true) ends s) in
    ends_with ts behind x i
    (subst (λ z. Leads (start ts) (at (task.Expect symbol.Endmodule ∷ task.Source ∷ []) z)) here
    (subst (λ z. Leads (start ts) (at (task.Expect symbol.Endmodule ∷ z) rest)) under (subst (λ z. Leads (start ts) (at (z ∷ tasks) rest)) ends w))))

by_tasks : (ts : List Terminal) (t : State) (n : ℕ) → Later ts t n → (tasks : List Task) (rest : List Terminal) → Leads (start ts) (at tasks rest) → shaped tasks ≡ true → (a : State) → next tasks rest ≡ Some a → after n a ≡ Some t
    → (front behind : List Terminal) (x : Terminal) → rest ≡ front ++ x ∷ behind → x.symbol ≡ symbol.Endmodule → length t.rest ≤ length behind → SpellSome (take (length ts - length behind) ts)
unfolding next
by_tasks ts t n ih [] rest w h a m g front behind x f i l = cc
by_tasks ts t n ih (k ∷ tasks) rest w h a m g front behind x f i l = by_step ts t n ih k tasks rest a (rule k (symbol_at rest)) w h refl m g front behind x f i l

later : (ts : List Terminal) (t : State) (n : ℕ) → Later ts t n
unfolding Later
later ts t zero s w h e front behind x f i l =
    absurd (omega (arith, ap length (sym (ap (λ (z : State). z.rest) (some_is s t e)) ∙ f), length-append front (x ∷ behind), l))
later ts t (suc n) s w h e front behind x f i l =
    let v = first n s t (next s.tasks s.rest) e in
    by_tasks ts t n (later ts t n) s.tasks s.rest w h v.0 v.1 v.2 front behind x f i l

-- a list about one of its elements
around : {A : Type 0} (xs : List A) (m : ℕ) (x : A) → slice_get xs m ≡ Some x → (front : List A) × (behind : List A) × (xs ≡ front ++ x ∷ behind) × (length xs ≡ m + 1 + length behind)
around [] m x e = cc
around (y ∷ xs) zero x e = ([], xs, ap (λ z. z ∷ xs) (head_is e), omega arith)
  where
    head_is : Some y ≡ Some x → y ≡ x
    head_is g = cc
around (y ∷ xs) (suc m) x e =
    let v = around xs m x e in
    (y ∷ v.0, v.1, ap (λ z. y ∷ z) v.2, omega (arith, v.3))

-- the tokens through each `endmodule` that was taken
pub closed : (ts : List Terminal) (t : State) → Leads (start ts) t → AreClosed ts (length ts - length t.rest)
unfolding Later
closed ts t w m x before there i =
    let v = around ts m x there in
    let size : length ts - length v.1 ≡ m + 1 = omega (arith, v.3) in
    subst (λ n. SpellSome (take n ts)) size (later ts t w.0 (start ts) (stays (start ts)) begins_shaped w.1 v.0 v.1 x v.2 i (omega (arith, v.3, before)))
