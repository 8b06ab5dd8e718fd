-- It serves inner contracts and proofs; no answer of the program is stated by it.
-- The signals that targets of a body name.
use Rattle.std.specs.Prelude.{ℕ, Bool, List, [], ◌∷◌, ◌++◌, ◌==◌}
use Rattle.std.specs.List.{list_any}
use Rattle.rtl_flat.specs.Process.{Piece, Action, Set, If, Case, Block, Actions, Done, Then, Otherwise, Without, With, Branches, NoBranch, Branch}

abbrev pub target_signals : List Piece → List ℕ
target_signals [] = []
target_signals (piece ∷ others) = piece.signal ∷ target_signals others

abbrev mutual
  pub action_signals : Action → List ℕ
  action_signals (Set target value delayed spot) = target_signals target
  action_signals (If test taken other spot) = other_signals other ++ body_signals taken
  action_signals (Case kind full parallel selector branches fallback spot) =
      other_signals fallback ++ branch_signals branches
  action_signals (Block body) = body_signals body

  pub body_signals : Actions → List ℕ
  body_signals Done = []
  body_signals (Then first others) = action_signals first ++ body_signals others

  pub other_signals : Otherwise → List ℕ
  other_signals Without = []
  other_signals (With body) = body_signals body

  pub branch_signals : Branches → List ℕ
  branch_signals NoBranch = []
  branch_signals (Branch labels body others) = body_signals body ++ branch_signals others

-- whether a signal is one of some
abbrev pub is_among : ℕ → List ℕ → Bool
is_among i signals = list_any (λ signal. signal == i) signals
