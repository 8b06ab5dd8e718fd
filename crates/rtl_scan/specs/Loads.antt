-- It serves inner contracts and proofs; no answer of the program is stated by it.
-- How many statements bodies have.
use Rattle.std.specs.Prelude.{ℕ, List, map, Vec, Option}
use Rattle.std.specs.declared.alloc.Global.{Global}
use Rattle.rtl_flat.specs.declared.act.Act.{Act}
use Rattle.rtl_flat.specs.declared.act.CaseItem.{CaseItem}
use Rattle.rtl_flat.specs.Process.{action, body_of}
use Rattle.rtl_flat.specs.WellFormed.{statements_of, other_statements, branch_statements}
use Rattle.rtl_scan.specs.Bodies.{branches_of, other_of}

abbrev pub load : List Act → ℕ
load acts = statements_of (body_of (map action acts))

abbrev pub other_load : Option (Vec Act Global) → ℕ
other_load body = other_statements (other_of body)

abbrev pub items_load : List CaseItem → ℕ
items_load items = branch_statements (branches_of items)
