-- One line more of a file.
use Rattle.std.specs.Prelude.{ℕ, ◌+◌, ◌<◌, ◌≤◌, nat_lt, Bool, true, false, if◌then◌else◌, List, [], ◌∷◌, ◌++◌, None, Some, Result, Ok, Err}
use Rattle.std.proofs.Common.{◌≡◌, ◌∙◌, ap, sym, refl, append_assoc, append-nil, arith}
use Rattle.std.proofs.lemmas.Bool.Decides.{nat_tests}
use Rattle.desk_steps.specs.Files.{joined}
use Rattle.desk_steps.specs.Lines.{lines}
use Rattle.desk_steps.specs.Names.{Names}
use Rattle.desk_steps.specs.Steps.{Setting, step_of, steps_from, with_step}

pub joined_none : {A : Type 0} (reading : Result (List A) ℕ) → joined [] reading ≡ reading
joined_none (Ok steps) = refl
joined_none (Err number) = refl

-- a line among others
next_line : (names : Names) (number : ℕ) (line : List ℕ) (others : List (List ℕ)) → number < 10000 → steps_from names number (line ∷ others) ≡ with_step (number + 1) (step_of names line) (steps_from names (number + 1) others)
next_line names number line others less =
    let inside : nat_lt number 10000 ≡ true = grind (arith, nat_tests) in
    ap (λ (b : Bool). if b then with_step (number + 1) (step_of names line) (steps_from names (number + 1) others) else Err (number + 1)) inside

pub too_many : (names : Names) (number : ℕ) (rest line behind : List ℕ) (steps : List (List Setting)) (all : Result (List (List Setting)) ℕ) → lines rest ≡ line ∷ lines behind → 10000 ≤ number → joined steps (steps_from names number (lines rest)) ≡ all → all ≡ Err (number + 1)
too_many names number rest line behind steps all is many so_far =
    let outside : nat_lt number 10000 ≡ false = grind (arith, nat_tests) in
    sym so_far
    ∙ ap (λ ls. joined steps (steps_from names number ls)) is
    ∙ ap (λ (b : Bool). joined steps (if b then with_step (number + 1) (step_of names line) (steps_from names (number + 1) (lines behind)) else Err (number + 1))) outside

pub no_step : (names : Names) (number : ℕ) (rest line behind : List ℕ) (steps : List (List Setting)) (all : Result (List (List Setting)) ℕ) → lines rest ≡ line ∷ lines behind → number < 10000 → step_of names line ≡ None → joined steps (steps_from names number (lines rest)) ≡ all → all ≡ Err (number + 1)
no_step names number rest line behind steps all is less none so_far =
    sym so_far
    ∙ ap (λ ls. joined steps (steps_from names number ls)) is
    ∙ ap (joined steps) (next_line names number line (lines behind) less)
    ∙ ap (λ one. joined steps (with_step (number + 1) one (steps_from names (number + 1) (lines behind)))) none

with_one : (number : ℕ) (steps : List (List Setting)) (one : List Setting) (later : Result (List (List Setting)) ℕ) → joined (steps ++ one ∷ []) later ≡ joined steps (with_step number (Some one) later)
with_one number steps one (Ok others) = ap Ok (append_assoc steps (one ∷ []) others)
with_one number steps one (Err at) = refl

pub one_more : (names : Names) (number : ℕ) (rest line behind : List ℕ) (steps : List (List Setting)) (one : List Setting) (all : Result (List (List Setting)) ℕ) → lines rest ≡ line ∷ lines behind → number < 10000 → step_of names line ≡ Some one → joined steps (steps_from names number (lines rest)) ≡ all → joined (steps ++ one ∷ []) (steps_from names (number + 1) (lines behind)) ≡ all
one_more names number rest line behind steps one all is less some so_far =
    with_one (number + 1) steps one (steps_from names (number + 1) (lines behind))
    ∙ ap (λ found. joined steps (with_step (number + 1) found (steps_from names (number + 1) (lines behind)))) (sym some)
    ∙ ap (joined steps) (sym (next_line names number line (lines behind) less))
    ∙ ap (λ ls. joined steps (steps_from names number ls)) (sym is)
    ∙ so_far

pub at_end : (names : Names) (number : ℕ) (steps : List (List Setting)) (all : Result (List (List Setting)) ℕ) → joined steps (steps_from names number []) ≡ all → all ≡ Ok steps
at_end names number steps all so_far = sym so_far ∙ ap Ok (append-nil steps)
