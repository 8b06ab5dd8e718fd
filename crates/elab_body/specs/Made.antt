-- It serves inner contracts and proofs; no answer of the program is stated by it.
-- What the code makes of bodies, as plain lists and trees.
use Rattle.std.specs.Prelude.{List, [], ◌∷◌, map, Vec, Option, None, Some}
use Rattle.std.specs.declared.alloc.Global.{Global}
use Rattle.text_ground.specs.declared.text.Spot.{Spot}
use Rattle.rtl_flat.specs.declared.act.Act.{Act}
use Rattle.rtl_flat.specs.declared.act.CaseItem.{CaseItem}
use Rattle.rtl_flat.specs.Expression.{Tree, tree}
use Rattle.rtl_flat.specs.Process.{Action, If, Branches, Branch, Otherwise, Without, With, action, body_of}
use Rattle.elab_body.specs.declared.branches.Chosen.{Chosen}
use Rattle.elab_body.specs.declared.branches.Chosen.TheVariants as chosen

-- items of a case before further ones
abbrev pub items_before : List CaseItem → Branches → Branches
items_before [] others = others
items_before (item ∷ items) others =
    Branch (map tree item.labels.items) (body_of (map action item.body.items)) (items_before items others)

-- a body that may be left out
abbrev pub otherwise_of : Option (Vec Act Global) → Otherwise
otherwise_of None = Without
otherwise_of (Some body) = With (body_of (map action body.items))

-- the same as a list
abbrev pub listed_otherwise : Option (List Action) → Otherwise
listed_otherwise None = Without
listed_otherwise (Some acts) = With (body_of acts)

abbrev pub acts_or_none : Option (List Action) → List Action
acts_or_none None = []
acts_or_none (Some acts) = acts

-- the statements that an `if` is where these branches are left
abbrev pub decided_acts : Chosen → Spot → Tree → List Action → Option (List Action) → List Action
decided_acts chosen.Taken spot test taken otherwise = taken
decided_acts chosen.Otherwise spot test taken otherwise = acts_or_none otherwise
decided_acts chosen.Both spot test taken otherwise =
    If test (body_of taken) (listed_otherwise otherwise) spot ∷ []
