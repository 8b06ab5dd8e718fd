-- The notes of the turns of a loop, one after the other.
use Rattle.std.specs.Prelude.{ℕ, zero, suc, ℤ, true, List, [], ◌∷◌, ◌++◌, Option, None, Some, Ok, Err}
use Rattle.std.proofs.Common.{◌≡◌, ◌∙◌, ap, refl, sym, inl, inr, append_assoc}
use Rattle.std.proofs.lemmas.Bool.{cases_Bool}
use Rattle.std.proofs.lemmas.List.{append-nil}
use Rattle.rtl_const.specs.Constant.{Outcome, is_true}
use Rattle.rtl_flat.specs.declared.note.Note.{Note}
use Rattle.elab_body.specs.Bodies.{Head}
use Rattle.elab_body.specs.Courses.{goes_on}
use Rattle.elab_standard.specs.declared.uses.Home.{Home}
use Rattle.elab_standard.specs.Scopes.{Scopes}
use Rattle.elab_standard.specs.Uses.{Test, Count, use_notes}
use Rattle.elab_uses.specs.Bodies.{Uses, in_turn, notes_in, number_in, turn_uses, uses_if, uses_with}
use Rattle.elab_uses.specs.Branches.{next_number, number_or_none, once_uses}
use Rattle.elab_uses.proofs.Rows.{notes_append, then_noted}

-- a body in its scopes
abbrev Turned : Type 0
Turned = Scopes → Uses

-- what follows with the number of the next turn, where there is one
abbrev pub following : Option ℤ → (ℤ → Uses) → Uses
following None next = []
following (Some number) next = next number

steps_on : (step : Outcome) (next : ℤ → Uses) → uses_with step next ≡ following (number_or_none step) next
steps_on (Ok number) next = refl
steps_on (Err cause) next = refl

-- a turn is what it uses alone, and what follows
split_turn : (condition step : Outcome) (xs : Uses) (next : ℤ → Uses) → uses_if condition (xs ++ uses_with step next) ≡ uses_if condition xs ++ following (next_number condition step) next
split_turn (Err cause) step xs next = refl
split_turn (Ok number) step xs next = elim (cases_Bool (is_true number)) [
  | inl yes' ↦ rw yes' (ap (λ ys. xs ++ ys) (steps_on step next))
  | inr no' ↦ rw no' refl
]

goes : (body : Turned) (s : Scopes) (head : Head) (k : ℕ) (n : ℤ) → turn_uses body s head (suc k) n ≡ once_uses body (in_turn s head n) head ++ following (next_number (number_in (in_turn s head n) head.condition) (number_in (in_turn s head n) head.step)) (turn_uses body s head k)
unfolding turn_uses
goes body s head k n =
    let t : Scopes = in_turn s head n in
    let next : ℤ → Uses = turn_uses body s head k in
    let condition : Outcome = number_in t head.condition in
    let step : Outcome = number_in t head.step in
    ap (λ xs. (t, Test head.condition) ∷ xs) (ap (uses_if condition) (sym (append_assoc (body t) ((t, Count head.step) ∷ []) (uses_with step next))) ∙ split_turn condition step (body t ++ (t, Count head.step) ∷ []) next)

-- a turn more, from the number that the next one has
pub turn_noted : (home : Home) (xs ys : List Note) (body : Turned) (s set : Scopes) (head : Head) (j k : ℕ) (n : ℤ) (next : Option ℤ) → set ≡ in_turn s head n → j ≡ suc k → ys ≡ xs ++ notes_in home (once_uses body set head) → next ≡ next_number (number_in set head.condition) (number_in set head.step) → xs ++ notes_in home (turn_uses body s head j n) ≡ ys ++ notes_in home (following next (turn_uses body s head k))
turn_noted home xs ys body s set head j k n next in_it more told is =
    let t : Scopes = in_turn s head n in
    let rest : Uses = following next (turn_uses body s head k) in
    let after : Scopes → Uses = λ t. following (next_number (number_in t head.condition) (number_in t head.step)) (turn_uses body s head k) in
    let same : rest ≡ after t = ap (λ o. following o (turn_uses body s head k)) is ∙ ap after in_it in
    ap (λ j. xs ++ notes_in home (turn_uses body s head j n)) more
    ∙ ap (λ us. xs ++ notes_in home us) (goes body s head k n)
    ∙ ap (λ us. xs ++ us) (notes_append home (once_uses body t head) (after t))
    ∙ sym (append_assoc xs (notes_in home (once_uses body t head)) (notes_in home (after t)))
    ∙ ap (λ us. (xs ++ notes_in home (once_uses body t head)) ++ notes_in home us) (sym same)
    ∙ ap (λ t. (xs ++ notes_in home (once_uses body t head)) ++ notes_in home rest) (sym in_it)
    ∙ ap (λ us. us ++ notes_in home rest) (sym told)

-- the condition behind the last turn that there may be
pub last_noted : (home : Home) (xs ys : List Note) (body : Turned) (s set : Scopes) (head : Head) (k : ℕ) (n : ℤ) → set ≡ in_turn s head n → k ≡ zero → ys ≡ xs ++ use_notes home set (Test head.condition) → xs ++ notes_in home (turn_uses body s head k n) ≡ ys
unfolding turn_uses
last_noted home xs ys body s set head k n in_it none told =
    ap (λ k. xs ++ notes_in home (turn_uses body s head k n)) none
    ∙ ap (λ us. xs ++ us) (append-nil (use_notes home (in_turn s head n) (Test head.condition)))
    ∙ ap (λ t. xs ++ use_notes home t (Test head.condition)) (sym in_it)
    ∙ sym told

once_goes : (o : Outcome) (xs : Uses) → goes_on o ≡ true → uses_if o xs ≡ xs
once_goes (Ok number) xs on = rw on refl
once_goes (Err cause) xs on = absurd cc

-- a turn of which the condition holds: the condition, the body, and the step
pub once_noted : (home : Home) (old first second third : List Note) (body : Turned) (s after : Scopes) (head : Head) (o : Outcome) → first ≡ old ++ use_notes home s (Test head.condition) → second ≡ first ++ notes_in home (body s) → third ≡ second ++ use_notes home after (Count head.step) → after ≡ s → o ≡ number_in s head.condition → goes_on o ≡ true → third ≡ old ++ notes_in home (once_uses body s head)
once_noted home old first second third body s after head o tested made counted same is on =
    let test : Uses = (s, Test head.condition) ∷ [] in
    let count : Uses = (s, Count head.step) ∷ [] in
    counted
    ∙ ap (λ t. second ++ use_notes home t (Count head.step)) same
    ∙ ap (λ us. second ++ us) (sym (append-nil (use_notes home s (Count head.step))))
    ∙ then_noted home first second (body s) count made
    ∙ then_noted home old first test (body s ++ count) (tested ∙ ap (λ us. old ++ us) (sym (append-nil (use_notes home s (Test head.condition)))))
    ∙ ap (λ us. old ++ notes_in home ((s, Test head.condition) ∷ us)) (sym (once_goes (number_in s head.condition) (body s ++ count) (ap goes_on (sym is) ∙ on)))
