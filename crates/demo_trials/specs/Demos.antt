-- The text of a demonstration: the trial, the step and the signal at which a finding shows.
-- Worked examples: proofs/Examples.antt.
use Rattle.std.specs.Prelude.{◌≡◌, ℕ, ◌≤◌, ◌==◌, Bool, true, false, not, List, [], ◌∷◌, ◌++◌, codes}
use Rattle.std.specs.Fmt.{decimal}
use Rattle.std.specs.List.{list_any}

-- a path: some bytes, none of which is a line feed
abbrev pub is_path : List ℕ → Bool
is_path [] = false
is_path (byte ∷ path) = not (list_any (λ other. other == 10) (byte ∷ path))

-- the signal, and the end of the line
abbrev pub signal_text : List ℕ → List ℕ
signal_text path = codes "signal " ++ (path ++ codes "\n")

-- the step, and the signal
abbrev pub step_text : ℕ → List ℕ → List ℕ
step_text step path = codes "step " ++ (decimal step ++ (codes " " ++ signal_text path))

-- the one line of a demonstration
abbrev pub demo_text : ℕ → ℕ → List ℕ → List ℕ
demo_text trial step path = codes "trial " ++ (decimal trial ++ (codes " " ++ step_text step path))

-- a step from 1 to 16, and a path
pub record IsShown (step : ℕ) (path : List ℕ) : Type 0 where
  pub first : 1 ≤ step
  pub last : step ≤ 16
  pub spelled : is_path path ≡ true

-- a trial from 0 to 32, a step from 1 to 16, and a path
pub record IsDemo (trial step : ℕ) (path : List ℕ) : Type 0 where
  pub there : trial ≤ 32
  pub shown : IsShown step path
