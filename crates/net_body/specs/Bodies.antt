-- It serves inner contracts and proofs; no answer of the program is stated by it.
-- Which body of a case runs, and what is filled where none does.
use Rattle.std.specs.Prelude.{ℕ, ◌≡◌, Bool, cond, if◌then◌else◌, List, [], ◌∷◌, Option, Some, None}
use Rattle.std.specs.List.{All}
use Rattle.rtl_bits.specs.declared.Bit.{Bit}
use Rattle.rtl_flat.specs.declared.act.CaseItem.{CaseItem}
use Rattle.rtl_flat.specs.declared.act.CaseKind.{CaseKind}
use Rattle.rtl_flat.specs.declared.signal.Signal.{Signal}
use Rattle.rtl_flat.specs.Expression.{tree}
use Rattle.rtl_flat.specs.Paths.{BitSet, may_write_late, may_write_now}
use Rattle.rtl_flat.specs.Process.{Actions, Otherwise, Without, With, Branches, NoBranch, Branch}
use Rattle.rtl_flat.specs.Signs.{IsExpression}
use Rattle.rtl_flat.specs.WellFormed.{IsBody}
use Rattle.rtl_scan.specs.Scan.{some_item}
use Rattle.event_model.specs.Writes.{Values}
use Rattle.net_model.specs.declared.fill.Fill.{Fill}
use Rattle.net_model.specs.Block.{Maps, acts, filled_case, some_meets}

-- the body of the first item with a label that matches
abbrev pub chosen_body : Fill → Values → CaseKind → List Bit → Branches → Option Actions
chosen_body f n kind bits NoBranch = None
chosen_body f n kind bits (Branch labels body others) =
    if some_meets f n kind bits labels then Some body else chosen_body f n kind bits others

-- labels that are as wide as their selector
abbrev pub AreMatched : List Signal → ℕ → List CaseItem → Type 0
AreMatched signals width [] = Unit {0}
AreMatched signals width (item ∷ items) =
    All (λ label. IsExpression signals (tree label)) item.labels.items × All (λ label. label.width ≡ width) item.labels.items × AreMatched signals width items

-- bodies of items
abbrev pub AreBodies : List Signal → Branches → Type 0
AreBodies signals NoBranch = Unit {0}
AreBodies signals (Branch labels body others) = IsBody signals body × AreBodies signals others

-- the bits that the items of a case may write, at once and later
abbrev pub items_now : (ℕ → ℕ) → Branches → BitSet
items_now ws branches i k = some_item (may_write_now i k) ws branches

abbrev pub items_late : (ℕ → ℕ) → Branches → BitSet
items_late ws branches i k = some_item (may_write_late i k) ws branches

-- a case of which no item matches
abbrev pub none_runs : (ℕ → ℕ) → Fill → Bool → Branches → Otherwise → Maps → Maps
none_runs ws f full branches Without m =
    cond full (filled_case f (items_now ws branches) (items_late ws branches) m) m
none_runs ws f full branches (With body) m = acts ws f m body
