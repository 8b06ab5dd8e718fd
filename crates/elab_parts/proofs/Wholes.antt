-- A net that is driven whole has no bit twice.
use Rattle.std.specs.Prelude.{List, [], ◌++◌, Option, None, Some}
use Rattle.std.proofs.Common.{◌≡◌, ◌∙◌, ap, refl, append-nil}
use Rattle.rtl_tree.specs.TreeExpr.{Identifier}
use Rattle.rtl_tree.specs.TreeStmt.{Whole}
use Rattle.elab_body.specs.elab_scope.declared.covers.Cover.{Cover}
use Rattle.elab_body.specs.elab_scope.declared.rules.Writer.TheVariants as writer
use Rattle.elab_body.specs.elab_scope.declared.widths.Breadth.{Breadth}
use Rattle.elab_body.specs.elab_scope.declared.widths.Breadth.TheVariants.{Bits, Unfit, Hidden}
use Rattle.elab_body.specs.elab_scope.Faults.{Refusal}
use Rattle.elab_body.specs.elab_scope.Names.{Meanings}
use Rattle.elab_body.specs.elab_scope.Own.{name_breadth}
use Rattle.elab_body.specs.elab_scope.Rules.{write_faults}
use Rattle.elab_body.specs.elab_scope.Targets.{cover_faults, target_faults, where_known, whole_cover}

no_cover : (name : Identifier) (cover : Option Cover) → cover_faults name [] cover ≡ []
no_cover name None = refl
no_cover name (Some cover) = refl

nothing_known : (breadth : Breadth) → where_known writer.Continuous breadth [] ≡ []
nothing_known (Bits n) = refl
nothing_known Unfit = refl
nothing_known Hidden = refl

pub whole_faults : (scope : Meanings) (name : Identifier) → target_faults writer.Continuous scope (Whole name) ≡ write_faults writer.Continuous name (scope name.text)
whole_faults scope name =
    let own : List Refusal = write_faults writer.Continuous name (scope name.text) in
    ap (λ xs. own ++ where_known writer.Continuous (name_breadth (scope name.text)) xs) (no_cover name (whole_cover (scope name.text)))
    ∙ ap (λ xs. own ++ xs) (nothing_known (name_breadth (scope name.text)))
    ∙ append-nil own
