-- What other tools read otherwise in an expression that is worked out while the design runs, and in the constants and
-- the computed indices within it.
-- Worked examples: crates/tests_rows/stdin.
use Rattle.std.specs.Prelude.{ℕ, Bool, List, [], ◌∷◌, ◌++◌, Ok, Err}
use Rattle.rtl_const.specs.Constant.{Outcome}
use Rattle.rtl_tree.specs.declared.tree.operators.SystemFunction.{SystemFunction}
use Rattle.rtl_tree.specs.declared.tree.operators.SystemFunction.TheVariants.{Signed, Unsigned, Clog2}
use Rattle.rtl_tree.specs.TreeExpr.{Formula, Number, Read, ReadBit, ReadPart, Parens, Apply, Concat, Repeat, Unary, Binary, Choose, Formulas, no_formulas, more_formulas}
use Rattle.rtl_flat.specs.declared.note.Note.{Note}
use Rattle.rtl_flat.specs.declared.note.Reading.TheVariants.{ParameterFormat}
use Rattle.elab_walk.specs.elab_scope.declared.context.Context.{Context}
use Rattle.elab_walk.specs.elab_scope.declared.operators.Operation.{Operation}
use Rattle.elab_walk.specs.elab_scope.declared.operators.Operation.TheVariants.{Power}
use Rattle.elab_walk.specs.elab_scope.Operators.{operation}
use Rattle.elab_walk.specs.elab_scope.Trees.{own_context}
use Rattle.elab_standard.specs.declared.uses.Home.{Home}
use Rattle.elab_standard.specs.Differing.{differs}
use Rattle.elab_standard.specs.Notes.{note_if, root_place}
use Rattle.elab_standard.specs.Numbers.{desk_number, number_notes}
use Rattle.elab_standard.specs.Scopes.{Scopes, restated}
use Rattle.elab_standard.specs.Worth.{taken_context}

-- an expression in at least so many bits, the desk's and the standard's
abbrev pub format_notes : Home → Scopes → Formula → ℕ → List Note
format_notes home s e wanted =
    note_if (differs s e (taken_context wanted (own_context s.scope e)) (taken_context wanted (own_context (restated s) e))) home ParameterFormat (root_place e)

-- an index with a number is a constant, every other one is an expression of its own
abbrev pub index_notes : Outcome → List Note → List Note → List Note
index_notes (Ok n) constant computed = constant
index_notes (Err fault) constant computed = computed

-- the argument of `$clog2` is a constant, and so is a power
abbrev pub argument_notes : SystemFunction → List Note → List Note → List Note
argument_notes Signed constant computed = computed
argument_notes Unsigned constant computed = computed
argument_notes Clog2 constant computed = constant

abbrev pub operation_notes : Operation → List Note → List Note → List Note
operation_notes Power constant computed = constant
operation_notes _ constant computed = computed

abbrev mutual
  -- the constants and the computed indices in an expression
  pub nested_notes : Home → Scopes → Formula → List Note
  nested_notes home s (Number value at) = []
  nested_notes home s (Read name) = []
  nested_notes home s (ReadBit name index) =
      index_notes (desk_number s index) (number_notes home s index) (format_notes home s index 0 ++ nested_notes home s index)
  nested_notes home s (ReadPart name kind first second) = number_notes home s first ++ number_notes home s second
  nested_notes home s (Parens at inner) = nested_notes home s inner
  nested_notes home s (Apply function at inner) =
      argument_notes function (number_notes home s inner) (nested_notes home s inner)
  nested_notes home s (Concat at parts) = row_notes home s parts
  nested_notes home s (Repeat at times parts) = number_notes home s times ++ row_notes home s parts
  nested_notes home s (Unary operator at a) = nested_notes home s a
  nested_notes home s (Binary operator at a b) =
      operation_notes (operation operator) (number_notes home s (Binary operator at a b)) (nested_notes home s a ++ nested_notes home s b)
  nested_notes home s (Choose at condition taken otherwise) =
      nested_notes home s condition ++ nested_notes home s taken ++ nested_notes home s otherwise

  pub row_notes : Home → Scopes → Formulas → List Note
  row_notes home s no_formulas = []
  row_notes home s (more_formulas first others) = nested_notes home s first ++ row_notes home s others
