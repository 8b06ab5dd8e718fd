-- Whether a statement has come in a turn of a loop.
use Rattle.std.specs.Prelude.{ℕ, zero, suc, Bool, true, false, ◌||◌, List, [], ◌∷◌, ◌++◌, ◌⊎◌, Option, None, Some}
use Rattle.std.proofs.Common.{◌≡◌, ◌∙◌, ap, refl, sym, inl, inr}
use Rattle.std.proofs.lemmas.Bool.{cases_Bool}
use Rattle.elab_nodes.specs.elab_scope.Faults.{Refusal, TooLarge, keep}
use Rattle.elab_nodes.specs.elab_scope.Rules.{fault}
use Rattle.elab_nodes.specs.Spares.{spared}
use Rattle.elab_body.specs.declared.progress.Left.{Left}
use Rattle.elab_body.specs.Bodies.{counted}
use Rattle.elab_body.specs.Courses.{begun, ended, filled_by, turned}
use Rattle.elab_body.specs.Steps.{Step, Faulty, Statement, Turn, Delay, Nodes, Course, has_statement, passed, spent_in, stepped, with_delays, with_nodes, with_statements}
use Rattle.elab_body.proofs.Passing.{passed_append, passed_cut}

abbrev at_course : Option Refusal → Option Left → Bool → Course
at_course best left filled = record { best = best; left = left; filled = filled }

or_true : (b : Bool) → b || true ≡ true
or_true true = refl
or_true false = refl

or_false : (b : Bool) → b || false ≡ b
or_false true = refl
or_false false = refl

-- ---- that a statement has come before changes nothing else

count_filled : (b : Bool) (best : Option Refusal) (at : ℕ) (f g : Bool) (s d n : ℕ) → g ≡ b || f → with_statements best at g s d n ≡ filled_by b (with_statements best at f s d n)
count_filled b best at f g zero d n is =
    ap (λ h. at_course (keep best (fault at TooLarge)) None h) is
count_filled b best at f g (suc s) d n is =
    ap (λ h. at_course best (Some (record { statements = s; delays = d; nodes = n })) h) is

pause_filled : (b : Bool) (best : Option Refusal) (at : ℕ) (f : Bool) (s d n : ℕ) → with_delays best at (b || f) s d n ≡ filled_by b (with_delays best at f s d n)
pause_filled b best at f s zero n = refl
pause_filled b best at f s (suc d) n = refl

spend_filled : (b : Bool) (best : Option Refusal) (at : ℕ) (f : Bool) (s d : ℕ) (spare : Option ℕ) → with_nodes best at (b || f) s d spare ≡ filled_by b (with_nodes best at f s d spare)
spend_filled b best at f s d None = refl
spend_filled b best at f s d (Some n) = refl

step_filled : (b : Bool) (best : Option Refusal) (left : Option Left) (f : Bool) (x : Step) → stepped (at_course best left (b || f)) x ≡ filled_by b (stepped (at_course best left f) x)
step_filled b best None f (Faulty told) = refl
step_filled b best None f (Statement at) = refl
step_filled b best None f (Turn at) = refl
step_filled b best None f (Delay at) = refl
step_filled b best None f (Nodes at count) = refl
step_filled b best (Some l) f (Faulty told) = refl
step_filled b best (Some l) f (Statement at) =
    count_filled b best at true true l.statements l.delays l.nodes (sym (or_true b))
step_filled b best (Some l) f (Turn at) =
    count_filled b best at f (b || f) l.statements l.delays l.nodes refl
step_filled b best (Some l) f (Delay at) =
    pause_filled b best at f l.statements l.delays l.nodes
step_filled b best (Some l) f (Nodes at count) =
    spend_filled b best at f l.statements l.delays (spared l.nodes count)

filled : (b : Bool) (course : Course) (xs : List Step) → passed (filled_by b course) xs ≡ filled_by b (passed course xs)
filled b course [] = refl
filled b course (x ∷ xs) =
    ap (λ c. passed c xs) (step_filled b course.best course.left course.filled x)
    ∙ filled b (stepped course x) xs

before : (course : Course) (xs : List Step) → passed course xs ≡ filled_by course.filled (passed (begun course) xs)
before course xs =
    ap (λ f. passed (at_course course.best course.left f) xs) (sym (or_false course.filled))
    ∙ filled course.filled (begun course) xs

-- ---- steps without a statement

count_keeps : (best : Option Refusal) (at : ℕ) (f : Bool) (s d n : ℕ) → (with_statements best at f s d n).filled ≡ f
count_keeps best at f zero d n = refl
count_keeps best at f (suc s) d n = refl

pause_keeps : (best : Option Refusal) (at : ℕ) (f : Bool) (s d n : ℕ) → (with_delays best at f s d n).filled ≡ f
pause_keeps best at f s zero n = refl
pause_keeps best at f s (suc d) n = refl

spend_keeps : (best : Option Refusal) (at : ℕ) (f : Bool) (s d : ℕ) (spare : Option ℕ) → (with_nodes best at f s d spare).filled ≡ f
spend_keeps best at f s d None = refl
spend_keeps best at f s d (Some n) = refl

told_keeps : (best : Option Refusal) (left : Option Left) (f : Bool) (told : Refusal) → (stepped (at_course best left f) (Faulty told)).filled ≡ f
told_keeps best None f told = refl
told_keeps best (Some l) f told = refl

turn_keeps : (best : Option Refusal) (left : Option Left) (f : Bool) (at : ℕ) → (stepped (at_course best left f) (Turn at)).filled ≡ f
turn_keeps best None f at = refl
turn_keeps best (Some l) f at = count_keeps best at f l.statements l.delays l.nodes

delay_keeps : (best : Option Refusal) (left : Option Left) (f : Bool) (at : ℕ) → (stepped (at_course best left f) (Delay at)).filled ≡ f
delay_keeps best None f at = refl
delay_keeps best (Some l) f at = pause_keeps best at f l.statements l.delays l.nodes

nodes_keep : (best : Option Refusal) (left : Option Left) (f : Bool) (at count : ℕ) → (stepped (at_course best left f) (Nodes at count)).filled ≡ f
nodes_keep best None f at count = refl
nodes_keep best (Some l) f at count =
    spend_keeps best at f l.statements l.delays (spared l.nodes count)

quiet : (course : Course) (xs : List Step) → has_statement xs ≡ false → (passed course xs).filled ≡ course.filled
quiet course [] has = refl
quiet course (Faulty told ∷ xs) has =
    quiet (stepped course (Faulty told)) xs has
    ∙ told_keeps course.best course.left course.filled told
quiet course (Statement at ∷ xs) has = absurd cc
quiet course (Turn at ∷ xs) has =
    quiet (stepped course (Turn at)) xs has ∙ turn_keeps course.best course.left course.filled at
quiet course (Delay at ∷ xs) has =
    quiet (stepped course (Delay at)) xs has ∙ delay_keeps course.best course.left course.filled at
quiet course (Nodes at count ∷ xs) has =
    quiet (stepped course (Nodes at count)) xs has
    ∙ nodes_keep course.best course.left course.filled at count

-- ---- steps with a statement

-- a limit is passed, or a statement has come
abbrev Came : Course → Type 0
Came course = (course.left ≡ None) ⊎ (course.filled ≡ true)

cut : (best : Option Refusal) (f : Bool) (xs : List Step) → Came (passed (at_course best None f) xs)
cut best f xs = inl (ap (λ c. c.left) (passed_cut best f xs))

after_one : (best : Option Refusal) (left : Option Left) (xs : List Step) → Came (passed (at_course best left true) xs)
after_one best left xs = inr (ap (λ c. c.filled) (filled true (at_course best left false) xs))

spent_comes : (best : Option Refusal) (at s d : ℕ) (f : Bool) (xs : List Step) → ((left : ℕ) → Came (passed (at_course best (Some (record { statements = s; delays = d; nodes = left })) f) xs)) → (spare : Option ℕ) → Came (passed (with_nodes best at f s d spare) xs)
spent_comes best at s d f xs here None = cut _ _ xs
spent_comes best at s d f xs here (Some left) = here left

comes : (best : Option Refusal) (s d n : ℕ) (f : Bool) (xs : List Step) → has_statement xs ≡ true → Came (passed (at_course best (Some (record { statements = s; delays = d; nodes = n })) f) xs)
comes best s d n f [] has = absurd cc
comes best s d n f (Faulty told ∷ xs) has = comes (keep best told) s d n f xs has
comes best zero d n f (Statement at ∷ xs) has = cut _ _ xs
comes best (suc s) d n f (Statement at ∷ xs) has = after_one best _ xs
comes best zero d n f (Turn at ∷ xs) has = cut _ _ xs
comes best (suc s) d n f (Turn at ∷ xs) has = comes best s d n f xs has
comes best s zero n f (Delay at ∷ xs) has = cut _ _ xs
comes best s (suc d) n f (Delay at ∷ xs) has = comes best s d n f xs has
comes best s d n f (Nodes at count ∷ xs) has =
    spent_comes best at s d f xs (λ left. comes best s d left f xs has) (spared n count)

came : (best : Option Refusal) (left : Option Left) (f : Bool) (xs : List Step) → has_statement xs ≡ true → Came (passed (at_course best left f) xs)
came best None f xs has = cut best f xs
came best (Some l) f xs has = comes best l.statements l.delays l.nodes f xs has

-- ---- the end of a turn

over_turn : (best : Option Refusal) (left : Option Left) (f : Bool) (at : ℕ) → left ≡ None → turned at (at_course best left f) ≡ at_course best left f
over_turn best None true at none = refl
over_turn best None false at none = refl
over_turn best (Some l) f at none = absurd cc

filled_turn : (at : ℕ) (course : Course) → course.filled ≡ true → turned at course ≡ course
filled_turn at course has = rw has refl

empty_turn : (at : ℕ) (course : Course) → course.filled ≡ false → turned at course ≡ stepped course (Turn at)
empty_turn at course has = rw has refl

whole : (at : ℕ) (xs : List Step) → has_statement xs ≡ true → counted at xs ≡ xs
whole at xs has = rw has refl

once_more : (at : ℕ) (xs : List Step) → has_statement xs ≡ false → counted at xs ≡ xs ++ Turn at ∷ []
once_more at xs has = rw has refl

whole_turn : (at : ℕ) (course : Course) → Came course → turned at course ≡ course
whole_turn at course (inl none) = over_turn course.best course.left course.filled at none
whole_turn at course (inr has) = filled_turn at course has

-- a turn counts where no statement has come in it
pub turn_ended : (course : Course) (at : ℕ) (xs : List Step) → ended course.filled at (passed (begun course) xs) ≡ passed course (counted at xs)
turn_ended course at xs = elim (cases_Bool (has_statement xs)) [
  | inl has ↦
      let p : Course = passed (begun course) xs in
      ap (filled_by course.filled) (whole_turn at p (came course.best course.left false xs has))
      ∙ sym (before course xs)
      ∙ ap (passed course) (sym (whole at xs has))
  | inr has ↦
      let p : Course = passed (begun course) xs in
      ap (filled_by course.filled) (empty_turn at p (quiet (begun course) xs has))
      ∙ sym (step_filled course.filled p.best p.left p.filled (Turn at))
      ∙ ap (λ c. stepped c (Turn at)) (sym (before course xs))
      ∙ sym (passed_append course xs (Turn at ∷ []))
      ∙ ap (passed course) (sym (once_more at xs has))
]
