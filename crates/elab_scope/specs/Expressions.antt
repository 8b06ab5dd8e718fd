-- The faults of expressions, in the order in which equals are told: those of the parts from left to right, and then
-- those of the whole.
-- Worked examples: crates/elab_body/proofs/Examples.antt.
use Rattle.std.specs.Prelude.{List, [], ◌++◌}
use Rattle.rtl_const.specs.Constant.{constant}
use Rattle.rtl_tree.specs.TreeExpr.{Formula, Number, Read, ReadBit, ReadPart, Parens, Apply, Concat, Repeat, Unary, Binary, Choose, Formulas, no_formulas, more_formulas}
use Rattle.elab_scope.specs.Faults.{Refusal}
use Rattle.elab_scope.specs.Names.{Meanings, numbers_in}
use Rattle.elab_scope.specs.Operators.{operation}
use Rattle.elab_scope.specs.Own.{breadth}
use Rattle.elab_scope.specs.Powers.{operation_faults, power_faults}
use Rattle.elab_scope.specs.Rules.{read_faults, select_faults, number_faults, function_faults, times_faults, run_faults, part_faults, width_faults}
use Rattle.elab_scope.specs.Selects.{msb_in, lsb_in}

abbrev mutual
  -- the faults of an expression: each name is declared and may be read, each part that has to be constant has a
  -- number, each part-select lies in its signal, and each expression has from 1 to 128 bits
  pub faults : Meanings → Formula → List Refusal
  faults scope (Number value at) = width_faults at (breadth scope (Number value at))
  faults scope (Read name) = read_faults name (scope name.text)
  faults scope (ReadBit name index) = select_faults name (scope name.text) ++ faults scope index
  faults scope (ReadPart name kind first second) =
      select_faults name (scope name.text)
      ++ (faults scope first ++ number_faults (constant (numbers_in scope) first))
      ++ (faults scope second ++ number_faults (constant (numbers_in scope) second))
      ++ run_faults name.at kind (constant (numbers_in scope) second)
      ++ part_faults name.at (scope name.text) (msb_in scope kind first second) (lsb_in scope kind first second)
  faults scope (Parens at inner) = faults scope inner ++ width_faults at (breadth scope inner)
  faults scope (Apply function at inner) =
      faults scope inner
      ++ width_faults at (breadth scope (Apply function at inner))
      ++ function_faults function (constant (numbers_in scope) (Apply function at inner))
  faults scope (Concat at parts) =
      row_faults scope parts ++ width_faults at (breadth scope (Concat at parts))
  faults scope (Repeat at times parts) =
      (faults scope times ++ times_faults at (constant (numbers_in scope) times))
      ++ row_faults scope parts
      ++ width_faults at (breadth scope (Repeat at times parts))
  faults scope (Unary operator at operand) =
      faults scope operand ++ width_faults at (breadth scope (Unary operator at operand))
  faults scope (Binary operator at left right) =
      faults scope left
      ++ faults scope right
      ++ width_faults at (breadth scope (Binary operator at left right))
      ++ operation_faults (operation operator) (power_faults scope at left (Binary operator at left right))
  faults scope (Choose at condition taken otherwise) =
      faults scope condition
      ++ faults scope taken
      ++ faults scope otherwise
      ++ width_faults at (breadth scope (Choose at condition taken otherwise))

  pub row_faults : Meanings → Formulas → List Refusal
  row_faults scope no_formulas = []
  row_faults scope (more_formulas first others) = faults scope first ++ row_faults scope others

-- the faults of an expression that has to be constant
abbrev pub constant_faults : Meanings → Formula → List Refusal
constant_faults scope e = faults scope e ++ number_faults (constant (numbers_in scope) e)
