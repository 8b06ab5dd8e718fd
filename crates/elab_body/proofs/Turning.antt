-- The turns of a loop, one after the other.
use Rattle.std.specs.Prelude.{ℕ, zero, suc, ℤ, Bool, true, false, List, [], ◌∷◌, ◌++◌, Ok, Err}
use Rattle.std.proofs.Common.{◌≡◌, ◌∙◌, ap, refl, sym}
use Rattle.rtl_const.specs.Constant.{Outcome}
use Rattle.elab_nodes.specs.elab_scope.Faults.{TooLarge}
use Rattle.elab_nodes.specs.elab_scope.Names.{Meanings}
use Rattle.elab_nodes.specs.elab_scope.Rules.{fault, number_faults}
use Rattle.elab_body.specs.Bodies.{Head, counted, in_head, in_turn, turns, where_true, with_number}
use Rattle.elab_body.specs.Courses.{goes_on}
use Rattle.elab_body.specs.Steps.{Course, Step, faulty, passed}
use Rattle.elab_body.proofs.Passing.{passed_append}

-- a body in a scope
abbrev Turned : Type 0
Turned = Meanings → List Step

true_goes : (o : Outcome) (xs : List Step) → goes_on o ≡ true → where_true o xs ≡ xs
true_goes (Ok number) xs goes = rw goes refl
true_goes (Err cause) xs goes = absurd cc

false_stops : (o : Outcome) (xs : List Step) → goes_on o ≡ false → where_true o xs ≡ faulty (number_faults o)
false_stops (Ok number) xs stops = rw stops refl
false_stops (Err cause) xs stops = refl

goes : (c : Course) (body : Turned) (scope : Meanings) (head : Head) (k : ℕ) (n : ℤ) (s : Outcome) → goes_on (in_head (in_turn scope head n) head.condition) ≡ true → in_head (in_turn scope head n) head.step ≡ s → passed c (turns body scope head (suc k) n) ≡ passed (passed c (counted head.at (body (in_turn scope head n)))) (with_number s (turns body scope head k))
unfolding turns
goes c body scope head k n s on is =
    let turn : List Step = counted head.at (body (in_turn scope head n)) in
    let next : List Step = with_number (in_head (in_turn scope head n) head.step) (turns body scope head k) in
    ap (passed c) (true_goes (in_head (in_turn scope head n) head.condition) (turn ++ next) on)
    ∙ passed_append c turn next
    ∙ ap (λ s. passed (passed c turn) (with_number s (turns body scope head k))) is

stops : (c : Course) (body : Turned) (scope : Meanings) (head : Head) (k : ℕ) (n : ℤ) → goes_on (in_head (in_turn scope head n) head.condition) ≡ false → passed c (turns body scope head k n) ≡ passed c (faulty (number_faults (in_head (in_turn scope head n) head.condition)))
unfolding turns
stops c body scope head zero n off =
    ap (passed c) (false_stops (in_head (in_turn scope head n) head.condition) (faulty (fault head.at TooLarge ∷ [])) off)
stops c body scope head (suc k) n off =
    ap (passed c) (false_stops (in_head (in_turn scope head n) head.condition) (counted head.at (body (in_turn scope head n)) ++ with_number (in_head (in_turn scope head n) head.step) (turns body scope head k)) off)

last : (c : Course) (body : Turned) (scope : Meanings) (head : Head) (n : ℤ) → goes_on (in_head (in_turn scope head n) head.condition) ≡ true → passed c (turns body scope head zero n) ≡ passed c (faulty (fault head.at TooLarge ∷ []))
unfolding turns
last c body scope head n on =
    ap (passed c) (true_goes (in_head (in_turn scope head n) head.condition) (faulty (fault head.at TooLarge ∷ [])) on)

condition_in : (scope turned : Meanings) (head : Head) (n : ℤ) (o : Outcome) (b : Bool) → turned ≡ in_turn scope head n → o ≡ in_head turned head.condition → goes_on o ≡ b → goes_on (in_head (in_turn scope head n) head.condition) ≡ b
condition_in scope turned head n o b in_it is on =
    ap (λ s. goes_on (in_head s head.condition)) (sym in_it) ∙ ap goes_on (sym is) ∙ on

-- a turn, and what follows from its step
pub turn_goes : (c c1 : Course) (body : Turned) (scope turned after : Meanings) (head : Head) (j k : ℕ) (n : ℤ) (o s : Outcome) → turned ≡ in_turn scope head n → after ≡ turned → j ≡ suc k → o ≡ in_head turned head.condition → goes_on o ≡ true → c1 ≡ passed c (counted head.at (body turned)) → s ≡ in_head after head.step → passed c (turns body scope head j n) ≡ passed c1 (with_number s (turns body scope head k))
turn_goes c c1 body scope turned after head j k n o s in_it same more is on turn step =
    ap (λ j. passed c (turns body scope head j n)) more
    ∙ goes c body scope head k n s (condition_in scope turned head n o true in_it is on) (ap (λ s. in_head s head.step) (sym (same ∙ in_it)) ∙ sym step)
    ∙ ap (λ d. passed d (with_number s (turns body scope head k))) (ap (λ s. passed c (counted head.at (body s))) (sym in_it) ∙ sym turn)

-- a condition that doesn't hold, or has no number, ends the loop
pub turn_stops : (c : Course) (body : Turned) (scope turned : Meanings) (head : Head) (k : ℕ) (n : ℤ) (o : Outcome) → turned ≡ in_turn scope head n → o ≡ in_head turned head.condition → goes_on o ≡ false → passed c (turns body scope head k n) ≡ passed c (faulty (number_faults o))
turn_stops c body scope turned head k n o in_it is off =
    stops c body scope head k n (condition_in scope turned head n o false in_it is off)
    ∙ ap (λ o. passed c (faulty (number_faults o))) (ap (λ s. in_head s head.condition) (sym in_it) ∙ sym is)

-- a turn too many
pub turn_last : (c : Course) (body : Turned) (scope turned : Meanings) (head : Head) (k : ℕ) (n : ℤ) (o : Outcome) → turned ≡ in_turn scope head n → k ≡ zero → o ≡ in_head turned head.condition → goes_on o ≡ true → passed c (turns body scope head k n) ≡ passed c (faulty (fault head.at TooLarge ∷ []))
turn_last c body scope turned head k n o in_it none is on =
    ap (λ k. passed c (turns body scope head k n)) none
    ∙ last c body scope head n (condition_in scope turned head n o true in_it is on)
