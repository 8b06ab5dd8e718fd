-- The parts of arguments that hold vectors, as contracts see them, and those of the targets that they are.
use Rattle.std.specs.Prelude.{ℕ, ◌++◌, map, Vec}
use Rattle.std.specs.declared.alloc.Global.{Global}
use Rattle.std.proofs.Common.{◌≡◌, ◌∙◌, ap, refl}
use Rattle.rtl_tree.specs.declared.tree.expr.Expr.{Expr}
use Rattle.rtl_tree.specs.declared.tree.expr.Expr.TheVariants as expr
use Rattle.rtl_tree.specs.TreeExpr.{Formula, Formulas, Read, ReadBit, ReadPart, Concat, no_formulas, more_formulas, formula, formula_row}
use Rattle.rtl_tree.specs.TreeStmt.{Target, Targets, Whole, Bit, Part, Joined, no_targets, more_targets}
use Rattle.rtl_tree.proofs.TreeViews.{concat_is}
use Rattle.elab_items.specs.elab_scope.Names.{Meanings}
use Rattle.elab_items.specs.elab_scope.Targets.{all_pieces_of, pieces_of}
use Rattle.elab_links.specs.Drivable.{all_link_pieces, link_pieces}

pub concat_pieces : (file base : ℕ) (scope : Meanings) (at : ℕ) (parts : Vec Expr Global) (e : Expr) → e ≡ expr.Concat at parts → link_pieces file base scope (formula e) ≡ all_link_pieces file base scope (formula_row (map formula parts.items))
concat_pieces file base scope at parts e is =
    ap (λ e. link_pieces file base scope (formula e)) is ∙ ap (link_pieces file base scope) (concat_is at parts)

abbrev mutual
  -- a target as an argument is written
  pub as_argument : Target → Formula
  as_argument (Whole name) = Read name
  as_argument (Bit name index) = ReadBit name index
  as_argument (Part name kind first second) = ReadPart name kind first second
  as_argument (Joined at parts) = Concat at (as_arguments parts)

  pub as_arguments : Targets → Formulas
  as_arguments no_targets = no_formulas
  as_arguments (more_targets first others) = more_formulas (as_argument first) (as_arguments others)

mutual
  -- an argument that is a target has the parts of the target
  pub pieces_agree : (file base : ℕ) (scope : Meanings) (t : Target) → link_pieces file base scope (as_argument t) ≡ pieces_of file base scope t
  pieces_agree file base scope (Whole name) = refl
  pieces_agree file base scope (Bit name index) = refl
  pieces_agree file base scope (Part name kind first second) = refl
  pieces_agree file base scope (Joined at parts) = all_pieces_agree file base scope parts

  pub all_pieces_agree : (file base : ℕ) (scope : Meanings) (ts : Targets) → all_link_pieces file base scope (as_arguments ts) ≡ all_pieces_of file base scope ts
  all_pieces_agree file base scope no_targets = refl
  all_pieces_agree file base scope (more_targets first others) =
      ap (λ pieces. pieces ++ all_link_pieces file base scope (as_arguments others)) (pieces_agree file base scope first)
      ∙ ap (λ pieces. pieces_of file base scope first ++ pieces) (all_pieces_agree file base scope others)
