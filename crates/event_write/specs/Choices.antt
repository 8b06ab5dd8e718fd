-- It serves inner contracts and proofs; no answer of the program is stated by it.
-- Which item of a case runs.
use Rattle.std.specs.Prelude.{◌≡◌, ℕ, if◌then◌else◌, List, [], ◌∷◌, Option, None, Some}
use Rattle.std.specs.List.{All}
use Rattle.rtl_bits.specs.declared.Bit.{Bit}
use Rattle.rtl_flat.specs.declared.act.CaseItem.{CaseItem}
use Rattle.rtl_flat.specs.declared.act.CaseKind.{CaseKind}
use Rattle.rtl_flat.specs.declared.signal.Signal.{Signal}
use Rattle.rtl_flat.specs.Expression.{tree}
use Rattle.rtl_flat.specs.Process.{Actions, Branches, NoBranch, Branch}
use Rattle.rtl_flat.specs.Signs.{IsExpression}
use Rattle.event_model.specs.Bodies.{some_matches}
use Rattle.event_model.specs.Writes.{Values}

-- the body of the first item with a label that matches
abbrev pub chosen_body : CaseKind → Values → List Bit → Branches → Option Actions
chosen_body kind v bits NoBranch = None
chosen_body kind v bits (Branch labels body others) =
    if some_matches kind v bits labels then Some body else chosen_body kind v bits others

-- whether the labels of items are expressions of so many bits
abbrev pub AreMatched : List Signal → ℕ → List CaseItem → Type 0
AreMatched signals width [] = Unit {0}
AreMatched signals width (item ∷ others) =
    All (λ label. IsExpression signals (tree label)) item.labels.items × All (λ label. label.width ≡ width) item.labels.items × AreMatched signals width others
