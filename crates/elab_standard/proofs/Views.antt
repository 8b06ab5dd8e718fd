-- Concatenations that hold vectors.
use Rattle.std.specs.Prelude.{ℕ, false, ◌||◌, List, ◌++◌, map, Vec, Box}
use Rattle.std.specs.declared.alloc.Global.{Global}
use Rattle.std.proofs.Common.{◌≡◌, ◌∙◌, ap, sym}
use Rattle.std.proofs.lemmas.List.{append_assoc}
use Rattle.rtl_tree.specs.declared.tree.expr.Expr.{Expr}
use Rattle.rtl_tree.specs.declared.tree.expr.Expr.TheVariants as expr
use Rattle.rtl_tree.specs.TreeExpr.{formula, formula_row}
use Rattle.rtl_tree.proofs.TreeViews.{concat_is, repeat_is}
use Rattle.rtl_flat.specs.declared.note.Note.{Note}
use Rattle.elab_walk.specs.elab_scope.declared.context.Context.{Context}
use Rattle.elab_standard.specs.declared.uses.Home.{Home}
use Rattle.elab_standard.specs.Differing.{context_differs, differs, row_differs}
use Rattle.elab_standard.specs.Nested.{nested_notes, row_notes}
use Rattle.elab_standard.specs.Numbers.{number_notes}
use Rattle.elab_standard.specs.Scopes.{Scopes}
use Rattle.elab_standard.specs.Unsized.{operand_notes, unsized_notes}

pub concat_unsized : (home : Home) (s : Scopes) (at : ℕ) (parts : Vec Expr Global) (e : Expr) → e ≡ expr.Concat at parts → unsized_notes home s (formula e) ≡ operand_notes home s (formula_row (map formula parts.items))
concat_unsized home s at parts e is =
    ap (λ e. unsized_notes home s (formula e)) is ∙ ap (unsized_notes home s) (concat_is at parts)

pub repeat_unsized : (home : Home) (s : Scopes) (old : List Note) (at : ℕ) (times : Box Expr Global) (parts : Vec Expr Global) (e : Expr) → e ≡ expr.Repeat at times parts → old ++ unsized_notes home s (formula e) ≡ (old ++ unsized_notes home s (formula times.value)) ++ operand_notes home s (formula_row (map formula parts.items))
repeat_unsized home s old at times parts e is =
    ap (λ e. old ++ unsized_notes home s (formula e)) is
    ∙ ap (λ e. old ++ unsized_notes home s e) (repeat_is at times parts)
    ∙ sym (append_assoc old (unsized_notes home s (formula times.value)) (operand_notes home s (formula_row (map formula parts.items))))

pub concat_nested : (home : Home) (s : Scopes) (at : ℕ) (parts : Vec Expr Global) (e : Expr) → e ≡ expr.Concat at parts → nested_notes home s (formula e) ≡ row_notes home s (formula_row (map formula parts.items))
concat_nested home s at parts e is =
    ap (λ e. nested_notes home s (formula e)) is ∙ ap (nested_notes home s) (concat_is at parts)

pub repeat_nested : (home : Home) (s : Scopes) (at : ℕ) (times : Box Expr Global) (parts : Vec Expr Global) (e : Expr) → e ≡ expr.Repeat at times parts → nested_notes home s (formula e) ≡ number_notes home s (formula times.value) ++ row_notes home s (formula_row (map formula parts.items))
repeat_nested home s at times parts e is =
    ap (λ e. nested_notes home s (formula e)) is ∙ ap (nested_notes home s) (repeat_is at times parts)

pub concat_differs : (s : Scopes) (d c : Context) (at : ℕ) (parts : Vec Expr Global) (e : Expr) → e ≡ expr.Concat at parts → context_differs d c ≡ false → differs s (formula e) d c ≡ row_differs s (formula_row (map formula parts.items))
concat_differs s d c at parts e is same =
    ap (λ e. differs s (formula e) d c) is
    ∙ ap (λ e. differs s e d c) (concat_is at parts)
    ∙ ap (λ found. found || row_differs s (formula_row (map formula parts.items))) same

pub repeat_differs : (s : Scopes) (d c : Context) (at : ℕ) (times : Box Expr Global) (parts : Vec Expr Global) (e : Expr) → e ≡ expr.Repeat at times parts → context_differs d c ≡ false → differs s (formula e) d c ≡ row_differs s (formula_row (map formula parts.items))
repeat_differs s d c at times parts e is same =
    ap (λ e. differs s (formula e) d c) is
    ∙ ap (λ e. differs s e d c) (repeat_is at times parts)
    ∙ ap (λ found. found || row_differs s (formula_row (map formula parts.items))) same
