-- Cases whose selector and labels are extended by one sign or another (IEEE 1364-2001 section 9.5).
-- Worked examples: crates/tests_rows/stdin.
use Rattle.std.specs.Prelude.{ℕ, Bool, true, false, not, ◌&&◌, ◌||◌, nat_lt, List, [], ◌∷◌, ◌++◌}
use Rattle.std.specs.List.{list_all, list_any}
use Rattle.rtl_bits.specs.Bits.{same_bit, top_bit}
use Rattle.rtl_bits.specs.declared.Bit.TheVariants.{Zero}
use Rattle.rtl_tree.specs.declared.tree.operators.BinaryOperator.TheVariants.{Power}
use Rattle.rtl_tree.specs.declared.tree.operators.SystemFunction.TheVariants.{Signed, Unsigned, Clog2}
use Rattle.rtl_tree.specs.TreeExpr.{Formula, Number, Read, ReadBit, ReadPart, Parens, Apply, Concat, Repeat, Unary, Binary, Choose}
use Rattle.rtl_tree.specs.TreeStmt.{Branch, Labelled, Default, Branches, no_branches, more_branches}
use Rattle.elab_walk.specs.elab_parts.elab_body.Acts.{case_context}
use Rattle.elab_walk.specs.elab_scope.declared.context.Context.{Context}
use Rattle.elab_walk.specs.elab_scope.Names.{Meanings}
use Rattle.elab_walk.specs.elab_scope.Own.{sign}
use Rattle.elab_walk.specs.elab_scope.Trees.{literal_bits, own_context}
use Rattle.elab_standard.specs.Differing.{same_sign}
use Rattle.elab_standard.specs.Notes.{bare}

-- the labels of a case
abbrev pub branch_labels : Branch → List Formula
branch_labels (Labelled labels body) = labels
branch_labels (Default at body) = []

abbrev pub case_labels : Branches → List Formula
case_labels no_branches = []
case_labels (more_branches first others) = branch_labels first ++ case_labels others

-- what is worked out where the design is made: a literal that isn't negative stands for it
abbrev pub is_worked_out : Formula → Bool
is_worked_out (Apply Clog2 at inner) = true
is_worked_out (Binary Power at a b) = true
is_worked_out _ = false

-- a number whose highest bit is 0, which its own sign extends as no sign does
abbrev pub is_natural : Formula → Bool
is_natural (Number value at) = same_bit (top_bit (literal_bits value)) Zero
is_natural e = is_worked_out e

abbrev pub is_literal : Formula → Bool
is_literal (Number value at) = true
is_literal e = is_worked_out e

abbrev pub is_labelled_literal : Formula → Bool
is_labelled_literal label = is_literal (bare label)

-- whether its own sign extends a selector or a label otherwise than the case does, which isn't signed
abbrev pub is_extended_otherwise : Meanings → ℕ → Formula → Bool
is_extended_otherwise scope widest e =
    sign scope e && nat_lt (own_context scope e).width widest && not (is_natural (bare e))

-- an expression without its parentheses and conversions
abbrev pub unconverted : Formula → Formula
unconverted (Parens at inner) = unconverted inner
unconverted (Apply Signed at inner) = unconverted inner
unconverted (Apply Unsigned at inner) = unconverted inner
unconverted e = e

-- whether a case that isn't signed holds something signed that is extended
abbrev pub is_mixed : Meanings → Context → Formula → List Formula → Bool
is_mixed scope c selector labels =
    not c.signed && list_any (is_extended_otherwise scope c.width) (selector ∷ labels)

-- whether a selector is extended to labels that are numbers, by another sign than it has below its conversions
abbrev pub is_recast : Meanings → Context → Formula → List Formula → Bool
is_recast scope c selector labels =
    list_all is_labelled_literal labels
    && nat_lt (own_context scope selector).width c.width
    && not (same_sign (sign scope (unconverted selector)) c.signed)

-- whether the signs of a case hang on the reading
abbrev pub is_case_misread : Meanings → Formula → Branches → Bool
is_case_misread scope selector branches =
    is_mixed scope (case_context scope selector branches) selector (case_labels branches)
    || is_recast scope (case_context scope selector branches) selector (case_labels branches)
