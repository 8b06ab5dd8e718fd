-- How many nodes an expression has in the design: one for each that has a width there, the indices that are worked out
-- among them. Parentheses have none, and what is worked out where the design is made is one, as a literal is.
-- Worked examples: proofs/Examples.antt.
use Rattle.std.specs.Prelude.{ℕ, ◌+◌, Ok, Err}
use Rattle.rtl_const.specs.Constant.{Outcome, constant}
use Rattle.rtl_tree.specs.declared.tree.operators.SystemFunction.{SystemFunction}
use Rattle.rtl_tree.specs.declared.tree.operators.SystemFunction.TheVariants.{Signed, Unsigned, Clog2}
use Rattle.rtl_tree.specs.TreeExpr.{Formula, Number, Read, ReadBit, ReadPart, Parens, Apply, Concat, Repeat, Unary, Binary, Choose, Formulas, no_formulas, more_formulas}
use Rattle.elab_scope.specs.declared.operators.Operation.{Operation}
use Rattle.elab_scope.specs.declared.operators.Operation.TheVariants.{Power}
use Rattle.elab_scope.specs.Names.{Meanings, numbers_in}
use Rattle.elab_scope.specs.Operators.{operation}

-- a constant index is its number, every other one is worked out
abbrev pub index_count : Outcome → ℕ → ℕ
index_count (Ok number) nodes = 0
index_count (Err fault) nodes = nodes

-- of an argument that stands in the tree
abbrev pub argument_count : SystemFunction → ℕ → ℕ
argument_count Signed nodes = nodes
argument_count Unsigned nodes = nodes
argument_count Clog2 nodes = 0

-- of operands that stand in the tree
abbrev pub operands_count : Operation → ℕ → ℕ
operands_count Power nodes = 0
operands_count _ nodes = nodes

abbrev mutual
  -- the nodes of an expression: those of its operands and itself; a replication is one, and so is what it repeats
  pub node_count : Meanings → Formula → ℕ
  node_count scope (Number value at) = 1
  node_count scope (Read name) = 1
  node_count scope (ReadBit name index) =
      1 + index_count (constant (numbers_in scope) index) (node_count scope index)
  node_count scope (ReadPart name kind first second) = 1
  node_count scope (Parens at inner) = node_count scope inner
  node_count scope (Apply function at inner) = 1 + argument_count function (node_count scope inner)
  node_count scope (Concat at parts) = 1 + row_count scope parts
  node_count scope (Repeat at times parts) = 2 + row_count scope parts
  node_count scope (Unary operator at operand) = 1 + node_count scope operand
  node_count scope (Binary operator at left right) =
      1 + operands_count (operation operator) (node_count scope left + node_count scope right)
  node_count scope (Choose at condition taken otherwise) =
      1 + (node_count scope condition + (node_count scope taken + node_count scope otherwise))

  -- of parts beside one another
  pub row_count : Meanings → Formulas → ℕ
  row_count scope no_formulas = 0
  row_count scope (more_formulas first others) = node_count scope first + row_count scope others
