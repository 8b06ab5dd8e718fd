-- It serves inner contracts and proofs; no answer of the program is stated by it.
-- The branches of an `if`, and the number of a loop's next turn, from what the code keeps of them.
use Rattle.std.specs.Prelude.{ℤ, if◌then◌else◌, [], ◌∷◌, ◌++◌, Option, None, Some, Ok, Err}
use Rattle.rtl_const.specs.Constant.{Outcome, is_true}
use Rattle.elab_body.specs.declared.branches.Chosen.{Chosen}
use Rattle.elab_body.specs.declared.branches.Chosen.TheVariants.{Taken, Otherwise, Both}
use Rattle.elab_body.specs.Bodies.{Head}
use Rattle.elab_standard.specs.Scopes.{Scopes}
use Rattle.elab_standard.specs.Uses.{Test, Count}
use Rattle.elab_uses.specs.Bodies.{Uses, number_in, uses_if}

-- what is used in the branches that are left
abbrev pub chosen_uses : Chosen → Uses → Uses → Uses
chosen_uses Taken taken otherwise = taken
chosen_uses Otherwise taken otherwise = otherwise
chosen_uses Both taken otherwise = taken ++ otherwise

-- what is used in a turn of a loop alone, in its scopes
abbrev pub once_uses : (Scopes → Uses) → Scopes → Head → Uses
once_uses body s head =
    (s, Test head.condition) ∷ uses_if (number_in s head.condition) (body s ++ (s, Count head.step) ∷ [])

-- a number, where there is one
abbrev pub number_or_none : Outcome → Option ℤ
number_or_none (Ok number) = Some number
number_or_none (Err cause) = None

-- the number of the next turn, by the condition and the step of this one
abbrev pub next_number : Outcome → Outcome → Option ℤ
next_number (Err cause) step = None
next_number (Ok number) step = if is_true number then number_or_none step else None
