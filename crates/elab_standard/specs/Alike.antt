-- It serves inner contracts and proofs; no answer of the program is stated by it.
-- Expressions whose parameters are by the standard what they are by the desk: no node of them is sized otherwise.
use Rattle.std.specs.Prelude.{◌==◌, Bool, true, ◌&&◌, List, ◌∷◌, Option, None, Some}
use Rattle.std.specs.List.{list_all}
use Rattle.rtl_bits.specs.Bits.{all_with, same_bit}
use Rattle.rtl_tree.specs.TreeExpr.{Formula, Number, Read, ReadBit, ReadPart, Parens, Apply, Concat, Repeat, Unary, Binary, Choose, Formulas, no_formulas, more_formulas}
use Rattle.rtl_tree.specs.TreeStmt.{Branches}
use Rattle.elab_walk.specs.elab_scope.declared.known.Known.{Known}
use Rattle.elab_walk.specs.elab_scope.declared.known.Known.TheVariants as known
use Rattle.elab_walk.specs.elab_scope.Trees.{named_bits}
use Rattle.elab_standard.specs.declared.standard.Standard.{Standard}
use Rattle.elab_standard.specs.Cases.{case_labels}
use Rattle.elab_standard.specs.Differing.{same_sign}
use Rattle.elab_standard.specs.Scopes.{Scopes, standard_bits}

-- what is no parameter, or has the width, the sign and the bits by the standard that it has by the desk
abbrev pub is_alike : Option Known → Option Standard → Bool
is_alike (Some (known.Parameter number width signed)) (Some standard) =
    (standard.width == width)
    && (same_sign standard.signed signed
    && all_with same_bit (named_bits (Some (known.Parameter number width signed))) (standard_bits standard))
is_alike known standard = true

abbrev mutual
  -- whether each name is so that an expression reads whole
  pub reads_alike : Scopes → Formula → Bool
  reads_alike s (Number value at) = true
  reads_alike s (Read name) = is_alike (s.scope name.text) (s.standards name.text)
  reads_alike s (ReadBit name index) = true
  reads_alike s (ReadPart name kind first second) = true
  reads_alike s (Parens at inner) = reads_alike s inner
  reads_alike s (Apply function at inner) = reads_alike s inner
  reads_alike s (Concat at parts) = row_alike s parts
  reads_alike s (Repeat at times parts) = row_alike s parts
  reads_alike s (Unary operator at a) = reads_alike s a
  reads_alike s (Binary operator at a b) = reads_alike s a && reads_alike s b
  reads_alike s (Choose at condition taken otherwise) =
      reads_alike s condition && (reads_alike s taken && reads_alike s otherwise)

  pub row_alike : Scopes → Formulas → Bool
  row_alike s no_formulas = true
  row_alike s (more_formulas first others) = reads_alike s first && row_alike s others

-- the same of the selector and the labels of a case
abbrev pub case_alike : Scopes → Formula → Branches → Bool
case_alike s selector branches = reads_alike s selector && list_all (reads_alike s) (case_labels branches)
