-- Numbers without a written width where their width counts (IEEE 1364-2001 sections 2.5.1 and 4.1.14).
-- Worked examples: crates/tests_rows/stdin.
use Rattle.std.specs.Prelude.{ℕ, ◌==◌, Bool, true, false, not, ◌&&◌, ◌||◌, if◌then◌else◌, List, [], ◌∷◌, ◌++◌, Option, None, Some}
use Rattle.rtl_bits.specs.Bits.{is_one_at}
use Rattle.rtl_tree.specs.declared.literal.Literal.{Literal}
use Rattle.rtl_tree.specs.declared.tree.operators.SystemFunction.{SystemFunction}
use Rattle.rtl_tree.specs.declared.tree.operators.SystemFunction.TheVariants.{Signed, Unsigned, Clog2}
use Rattle.rtl_tree.specs.TreeExpr.{Formula, Number, Read, ReadBit, ReadPart, Parens, Apply, Concat, Repeat, Unary, Binary, Choose, Formulas, no_formulas, more_formulas}
use Rattle.rtl_flat.specs.declared.note.Note.{Note}
use Rattle.rtl_flat.specs.declared.note.Reading.TheVariants.{UnsizedNumber}
use Rattle.elab_walk.specs.elab_scope.declared.operators.Prefix.{Prefix}
use Rattle.elab_walk.specs.elab_scope.declared.operators.Prefix.TheVariants.{Turn, Fold}
use Rattle.elab_walk.specs.elab_scope.declared.operators.Operation.{Operation}
use Rattle.elab_walk.specs.elab_scope.declared.operators.Operation.TheVariants.{Join, Compare, Link, Shift, Power}
use Rattle.elab_walk.specs.elab_scope.Operators.{operation, prefix}
use Rattle.elab_standard.specs.declared.standard.Standard.{Standard}
use Rattle.elab_standard.specs.declared.uses.Home.{Home}
use Rattle.elab_standard.specs.Notes.{note_at, note_if, root_place}
use Rattle.elab_standard.specs.Scopes.{Scopes}

-- whether the width of a parameter is that of a number without one
abbrev pub is_standard_unsized : Option Standard → Bool
is_standard_unsized (Some standard) = not standard.sized
is_standard_unsized None = false

abbrev pub is_prefix_unsized : Prefix → Bool → Bool
is_prefix_unsized (Turn operator) a = a
is_prefix_unsized (Fold operator) a = false

abbrev pub is_operation_unsized : Operation → Bool → Bool → Bool
is_operation_unsized (Join operator) a b = a || b
is_operation_unsized (Compare operator) a b = false
is_operation_unsized (Link operator) a b = false
is_operation_unsized (Shift operator) a b = a
is_operation_unsized Power a b = a

-- `$clog2` has 32 bits, as if they were written
abbrev pub is_function_unsized : SystemFunction → Bool → Bool
is_function_unsized Signed a = a
is_function_unsized Unsigned a = a
is_function_unsized Clog2 a = false

-- whether the width of an expression is that of a number without one
abbrev pub is_unsized : Scopes → Formula → Bool
is_unsized s (Number value at) = not value.sized
is_unsized s (Read name) = is_standard_unsized (s.standards name.text)
is_unsized s (Parens at inner) = is_unsized s inner
is_unsized s (Apply function at inner) = is_function_unsized function (is_unsized s inner)
is_unsized s (Unary operator at a) = is_prefix_unsized (prefix operator) (is_unsized s a)
is_unsized s (Binary operator at a b) =
    is_operation_unsized (operation operator) (is_unsized s a) (is_unsized s b)
is_unsized s (Choose at condition taken otherwise) = is_unsized s taken || is_unsized s otherwise
is_unsized s _ = false

-- a number without a width that tools read otherwise: one of base 2, 8 or 16 with a sign, and one whose 32nd bit
-- isn't 0
abbrev pub is_misread : Literal → Bool
is_misread value =
    not value.sized
    && ((value.signed && not (value.radix == 10)) || is_one_at value.val 31 || is_one_at value.unk 31)

abbrev mutual
  -- the numbers in an expression that are misread, and the operands of its concatenations without a width
  pub unsized_notes : Home → Scopes → Formula → List Note
  unsized_notes home s (Number value at) = note_if (is_misread value) home UnsizedNumber at
  unsized_notes home s (Read name) = []
  unsized_notes home s (ReadBit name index) = unsized_notes home s index
  unsized_notes home s (ReadPart name kind first second) =
      unsized_notes home s first ++ unsized_notes home s second
  unsized_notes home s (Parens at inner) = unsized_notes home s inner
  unsized_notes home s (Apply function at inner) = unsized_notes home s inner
  unsized_notes home s (Concat at parts) = operand_notes home s parts
  unsized_notes home s (Repeat at times parts) = unsized_notes home s times ++ operand_notes home s parts
  unsized_notes home s (Unary operator at a) = unsized_notes home s a
  unsized_notes home s (Binary operator at a b) = unsized_notes home s a ++ unsized_notes home s b
  unsized_notes home s (Choose at condition taken otherwise) =
      unsized_notes home s condition ++ unsized_notes home s taken ++ unsized_notes home s otherwise

  pub operand_notes : Home → Scopes → Formulas → List Note
  operand_notes home s no_formulas = []
  operand_notes home s (more_formulas first others) =
      (note_if (is_unsized s first) home UnsizedNumber (root_place first) ++ unsized_notes home s first)
      ++ operand_notes home s others
