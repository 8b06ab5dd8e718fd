-- It serves inner contracts and proofs; no answer of the program is stated by it.
-- The items of a case, from those of a vector.
use Rattle.std.specs.Prelude.{List, [], ◌∷◌, map, Vec, Option, Some, None}
use Rattle.std.specs.declared.alloc.Global.{Global}
use Rattle.rtl_flat.specs.declared.act.Act.{Act}
use Rattle.rtl_flat.specs.declared.act.CaseItem.{CaseItem}
use Rattle.rtl_flat.specs.Expression.{tree}
use Rattle.rtl_flat.specs.Process.{Branches, NoBranch, Branch, Otherwise, Without, With, action, body_of}

abbrev pub branches_of : List CaseItem → Branches
branches_of [] = NoBranch
branches_of (item ∷ others) =
    Branch (map tree item.labels.items) (body_of (map action item.body.items)) (branches_of others)

-- a body that may be left out
abbrev pub other_of : Option (Vec Act Global) → Otherwise
other_of None = Without
other_of (Some body) = With (body_of (map action body.items))
