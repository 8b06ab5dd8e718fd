-- It serves laws; no answer of the program is stated by it.
-- What the grammar asks of a tree and the builder doesn't test: how many items a case has.
use Rattle.std.specs.Prelude.{◌≤◌}
use Rattle.rtl_tree.specs.TreeStmt.{Action, Null, Delayed, Assign, If, IfElse, Case, For, Block, Actions, no_actions, more_actions, Branch, Labelled, Default, Branches, no_branches, more_branches}
use Rattle.text_grammar.specs.GrammarStmt.{defaults}

-- there is an item
abbrev pub HasItem : Branches → Type 0
HasItem no_branches = ⊥
HasItem (more_branches first others) = Unit {0}

abbrev mutual
  -- each case in a statement has an item, and at most one default
  pub IsProper : Action → Type 0
  IsProper (Null at) = Unit {0}
  IsProper (Delayed pause body) = IsProper body
  IsProper (Assign target kind pause value) = Unit {0}
  IsProper (If at condition taken) = IsProper taken
  IsProper (IfElse at condition taken otherwise) = IsProper taken × IsProper otherwise
  IsProper (Case at kind full parallel selector branches) = HasItem branches × (defaults branches ≤ 1) × AreProperBranches branches
  IsProper (For at index start condition stepped step body) = IsProper body
  IsProper (Block at label body) = AreProper body

  pub AreProper : Actions → Type 0
  AreProper no_actions = Unit {0}
  AreProper (more_actions first others) = IsProper first × AreProper others

  pub IsProperBranch : Branch → Type 0
  IsProperBranch (Labelled labels body) = IsProper body
  IsProperBranch (Default at body) = IsProper body

  pub AreProperBranches : Branches → Type 0
  AreProperBranches no_branches = Unit {0}
  AreProperBranches (more_branches first others) = IsProperBranch first × AreProperBranches others
