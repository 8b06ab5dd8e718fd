use Rattle.std.proofs.Common.{◌≡◌, ℕ, ◌<◌, ◌++◌, List}
use Rattle.std.specs.Prelude.{codes, decimal}
use Rattle.demo_trials.proofs.demo.read_number.Given as goal

-- none of the numbers before stands there
abbrev pub invariant-loop-number : goal.invariant-loop-number
invariant-loop-number l =
    (n : ℕ) → n < l.number → (rest : List ℕ) → l.text ≡ decimal n ++ (codes " " ++ rest) → ⊥
