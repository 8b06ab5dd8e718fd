-- It serves inner contracts and proofs; no answer of the program is stated by it.
-- What the grammar asks of a module and the builder doesn't, as tests.
use Rattle.std.specs.Prelude.{Bool, true, false, ◌&&◌, not, nat_le, List, [], ◌∷◌, Option, None, Some}
use Rattle.std.specs.List.{list_all}
use Rattle.rtl_tree.specs.TreeExpr.{Formula}
use Rattle.rtl_tree.specs.TreeStmt.{Action, Null, Delayed, Assign, If, IfElse, Case, For, Block, Actions, no_actions, more_actions, Branch, Labelled, Default, Branches, no_branches, more_branches}
use Rattle.rtl_tree.specs.TreeItem.{Association, ByPosition, ByName, Variable, ModuleItem, Ports, Nets, Variables, Integers, Parameters, Drives, Gates, Always, Instances}
use Rattle.rtl_tree.specs.TreeGate.{Gate}
use Rattle.rtl_tree.specs.TreeWritten.{WrittenItem, Plain, Primitives, Genvars, Region}
use Rattle.rtl_tree.specs.TreeWritten as generate
use Rattle.rtl_tree.specs.TreeModule.{HeaderParameter, Heading, WrittenCircuit}
use Rattle.text_grammar.specs.GrammarStmt.{defaults}
use Rattle.text_grammar.specs.GrammarGate.{has_one_input, is_named}
use Rattle.text_grammar.specs.Depth.{depth}
use Rattle.text_grammar.specs.declared.nesting.TheConstants.{MAX_NESTING}

-- there is an item
abbrev pub has_item : Branches → Bool
has_item no_branches = false
has_item (more_branches first others) = true

abbrev mutual
  -- each case in a statement has an item, and at most one default
  pub is_proper : Action → Bool
  is_proper (Null at) = true
  is_proper (Delayed pause body) = is_proper body
  is_proper (Assign target kind pause value) = true
  is_proper (If at condition taken) = is_proper taken
  is_proper (IfElse at condition taken otherwise) = is_proper taken && is_proper otherwise
  is_proper (Case at kind full parallel selector branches) =
      (has_item branches && nat_le (defaults branches) 1) && are_proper_branches branches
  is_proper (For at index start condition stepped step body) = is_proper body
  is_proper (Block at label body) = are_proper body

  pub are_proper : Actions → Bool
  are_proper no_actions = true
  are_proper (more_actions first others) = is_proper first && are_proper others

  pub is_proper_branch : Branch → Bool
  is_proper_branch (Labelled labels body) = is_proper body
  is_proper_branch (Default at body) = is_proper body

  pub are_proper_branches : Branches → Bool
  are_proper_branches no_branches = true
  are_proper_branches (more_branches first others) = is_proper_branch first && are_proper_branches others

abbrev pub has_value : Option Formula → Bool
has_value None = false
has_value (Some value) = true

-- parameters that an instance sets by position are more than one that is empty
abbrev pub are_proper_arguments : Association → Bool
are_proper_arguments (ByPosition []) = true
are_proper_arguments (ByPosition (argument ∷ [])) = has_value argument.value
are_proper_arguments (ByPosition (argument ∷ next ∷ others)) = true
are_proper_arguments (ByName arguments) = true

-- no variable has an initial value
abbrev pub has_no_value : Variable → Bool
has_no_value v = not v.initial

abbrev pub is_proper_item : ModuleItem → Bool
is_proper_item (Ports head names) = true
is_proper_item (Nets at signed bounds nets) = true
is_proper_item (Variables at signed bounds variables) = list_all has_no_value variables
is_proper_item (Integers at names) = true
is_proper_item (Parameters at kind bounds values) = true
is_proper_item (Drives at pause drives) = true
is_proper_item (Gates at names pause drives) = false
is_proper_item (Always at sensitivity body) = is_proper body
is_proper_item (Instances child parameters instantiations) = are_proper_arguments parameters

-- all terminals but the last may be outputs, where there is one input
abbrev pub are_terminals : Bool → List Formula → Bool
are_terminals false terminals = true
are_terminals true [] = true
are_terminals true (last ∷ []) = true
are_terminals true (output ∷ next ∷ others) = is_named output && are_terminals true (next ∷ others)

abbrev pub is_proper_gate : Bool → Gate → Bool
is_proper_gate one gate = are_terminals one gate.terminals

-- no construct, as its parts aren't tested
abbrev pub is_proper_written : WrittenItem → Bool
is_proper_written (Plain item) = is_proper_item item
is_proper_written (Primitives at kind pause gates) = list_all (is_proper_gate (has_one_input kind)) gates
is_proper_written (Genvars at names) = true
is_proper_written (Region at items) = false
is_proper_written (generate.If at condition taken) = false
is_proper_written (generate.IfElse at condition taken otherwise) = false
is_proper_written (generate.Case at selector all) = false
is_proper_written (generate.For at index start condition stepped step body) = false

abbrev pub has_heading : Option Heading → Bool
has_heading None = false
has_heading (Some heading) = true

-- the first parameter in the head of a module stands after `parameter`
abbrev pub has_first_heading : List HeaderParameter → Bool
has_first_heading [] = true
has_first_heading (parameter ∷ parameters) = has_heading parameter.heading

-- and nothing in it is nested too deep
abbrev pub is_proper_circuit : WrittenCircuit → Bool
is_proper_circuit c =
    (nat_le (depth c) MAX_NESTING && has_first_heading c.parameters) && list_all is_proper_written c.items
