-- Expressions that are sized otherwise where parameters have their standard formats (IEEE 1364-2001 sections 4.4 and
-- 4.5).
-- Worked examples: crates/tests_rows/stdin.
use Rattle.std.specs.Prelude.{ℕ, ◌==◌, Bool, false, not, ◌&&◌, ◌||◌, if◌then◌else◌, List, Option}
use Rattle.rtl_bits.specs.Bits.{all_with, extended, same_bit}
use Rattle.rtl_tree.specs.declared.tree.operators.SystemFunction.{SystemFunction}
use Rattle.rtl_tree.specs.declared.tree.operators.SystemFunction.TheVariants.{Signed, Unsigned, Clog2}
use Rattle.rtl_tree.specs.TreeExpr.{Formula, Number, Read, ReadBit, ReadPart, Parens, Apply, Concat, Repeat, Unary, Binary, Choose, Formulas, no_formulas, more_formulas}
use Rattle.elab_walk.specs.elab_scope.declared.context.Context.{Context}
use Rattle.elab_walk.specs.elab_scope.declared.known.Known.{Known}
use Rattle.elab_walk.specs.elab_scope.declared.operators.Operation.{Operation}
use Rattle.elab_walk.specs.elab_scope.declared.operators.Operation.TheVariants.{Power}
use Rattle.elab_walk.specs.elab_scope.Operators.{operation, prefix}
use Rattle.elab_walk.specs.elab_scope.Trees.{left_context, named_bits, operand_context, own_context, right_context}
use Rattle.elab_standard.specs.declared.standard.Standard.{Standard}
use Rattle.elab_standard.specs.Scopes.{Scopes, read_bits, restated}

abbrev pub same_sign : Bool → Bool → Bool
same_sign a b = if a then b else not b

-- whether two contexts have another width or sign
abbrev pub context_differs : Context → Context → Bool
context_differs desk standard =
    not ((desk.width == standard.width) && same_sign desk.signed standard.signed)

-- whether a parameter has other bits in a context
abbrev pub literal_differs : Context → Option Known → Option Standard → Bool
literal_differs c known standard =
    not (all_with same_bit (extended c.width c.signed (named_bits known)) (extended c.width c.signed (read_bits known standard)))

-- the argument of `$clog2` and the operands of a power are constants: they have no width in the design
abbrev pub argument_differs : SystemFunction → Bool → Bool
argument_differs Signed argument = argument
argument_differs Unsigned argument = argument
argument_differs Clog2 argument = false

abbrev pub operands_differ : Operation → Bool → Bool
operands_differ Power operands = false
operands_differ _ operands = operands

abbrev mutual
  -- whether a node of an expression has another width, sign or literal in the desk's context than in the standard's
  pub differs : Scopes → Formula → Context → Context → Bool
  differs s (Number value at) d c = context_differs d c
  differs s (Read name) d c =
      context_differs d c || literal_differs d (s.scope name.text) (s.standards name.text)
  differs s (ReadBit name index) d c = context_differs d c
  differs s (ReadPart name kind first second) d c = context_differs d c
  differs s (Parens at inner) d c = differs s inner d c
  differs s (Apply function at inner) d c =
      context_differs d c
      || argument_differs function (differs s inner (own_context s.scope inner) (own_context (restated s) inner))
  differs s (Concat at parts) d c = context_differs d c || row_differs s parts
  differs s (Repeat at times parts) d c = context_differs d c || row_differs s parts
  differs s (Unary operator at a) d c =
      context_differs d c
      || differs s a (operand_context s.scope (prefix operator) a d) (operand_context (restated s) (prefix operator) a c)
  differs s (Binary operator at a b) d c =
      context_differs d c
      || operands_differ (operation operator)
      (differs s a (left_context s.scope (operation operator) a b d) (left_context (restated s) (operation operator) a b c)
      || differs s b (right_context s.scope (operation operator) a b d) (right_context (restated s) (operation operator) a b c))
  differs s (Choose at condition taken otherwise) d c =
      context_differs d c
      || differs s condition (own_context s.scope condition) (own_context (restated s) condition)
      || differs s taken d c
      || differs s otherwise d c

  -- of parts beside one another, each sized by itself
  pub row_differs : Scopes → Formulas → Bool
  row_differs s no_formulas = false
  row_differs s (more_formulas first others) =
      differs s first (own_context s.scope first) (own_context (restated s) first) || row_differs s others
