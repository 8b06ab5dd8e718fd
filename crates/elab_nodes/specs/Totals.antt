-- How many nodes the expressions of statements and items have in the design.
-- Worked examples: proofs/Examples.antt.
use Rattle.std.specs.Prelude.{ℕ, ◌+◌, List, [], ◌∷◌}
use Rattle.rtl_const.specs.Constant.{constant}
use Rattle.rtl_tree.specs.TreeExpr.{Formula}
use Rattle.rtl_tree.specs.TreeStmt.{Target, Whole, Bit, Part, Joined, Targets, no_targets, more_targets, Branch, Labelled, Default, Branches, no_branches, more_branches}
use Rattle.rtl_tree.specs.TreeItem.{Happening, Edge, Change, ChangeBit, ChangePart, Sensitivity, Star, StarInParens, Listed}
use Rattle.elab_scope.specs.Names.{Meanings, numbers_in}
use Rattle.elab_nodes.specs.Nodes.{index_count, node_count}

abbrev mutual
  -- the nodes of a target: those of the indices of its bits
  pub target_count : Meanings → Target → ℕ
  target_count scope (Whole name) = 0
  target_count scope (Bit name index) =
      index_count (constant (numbers_in scope) index) (node_count scope index)
  target_count scope (Part name kind first second) = 0
  target_count scope (Joined at parts) = targets_count scope parts

  pub targets_count : Meanings → Targets → ℕ
  targets_count scope no_targets = 0
  targets_count scope (more_targets first others) =
      target_count scope first + targets_count scope others

-- the nodes of an assignment
abbrev pub assignment_count : Meanings → Target → Formula → ℕ
assignment_count scope target value = target_count scope target + node_count scope value

-- the nodes of the labels of a case
abbrev pub labels_count : Meanings → List Formula → ℕ
labels_count scope [] = 0
labels_count scope (label ∷ labels) = node_count scope label + labels_count scope labels

abbrev pub branch_count : Meanings → Branch → ℕ
branch_count scope (Labelled labels body) = labels_count scope labels
branch_count scope (Default at body) = 0

abbrev pub branches_count : Meanings → Branches → ℕ
branches_count scope no_branches = 0
branches_count scope (more_branches first others) =
    branch_count scope first + branches_count scope others

-- the nodes of a case without its bodies: of its selector and its labels
abbrev pub case_count : Meanings → Formula → Branches → ℕ
case_count scope selector branches = node_count scope selector + branches_count scope branches

-- the nodes of an event: those of the index of a bit
abbrev pub event_count : Meanings → Happening → ℕ
event_count scope (Edge edge at name) = 0
event_count scope (Change name) = 0
event_count scope (ChangeBit name index) =
    index_count (constant (numbers_in scope) index) (node_count scope index)
event_count scope (ChangePart name msb lsb) = 0

abbrev pub events_count : Meanings → List Happening → ℕ
events_count scope [] = 0
events_count scope (event ∷ others) = event_count scope event + events_count scope others

-- the nodes of a sensitivity list
abbrev pub listing_count : Meanings → Sensitivity → ℕ
listing_count scope Star = 0
listing_count scope StarInParens = 0
listing_count scope (Listed events) = events_count scope events
