-- The plain form of a tree that holds a vector, from the vector's items.
use Rattle.std.specs.Prelude.{map, Vec}
use Rattle.std.specs.declared.alloc.Global.{Global}
use Rattle.std.proofs.Common.{◌≡◌, ◌∙◌, ap, refl}
use Rattle.rtl_flat.specs.declared.expr.SizedExpr.{SizedExpr}
use Rattle.rtl_flat.specs.declared.expr.Node.{Node, Row_of-SizedExpr, end_of-SizedExpr, more_of-SizedExpr, items-the_row-SizedExpr, items_hidden-the_row-SizedExpr-0}
use Rattle.rtl_flat.specs.declared.expr.Index.TheBlock.{hidden-the_row-SizedExpr-0}
use Rattle.rtl_flat.specs.declared.expr.Node.TheVariants as node
use Rattle.rtl_flat.specs.Expression.{Sized, Beside, form, row, tree, beside}

row_is : (n : _) (parts : Row_of-SizedExpr n) → row parts ≡ beside (map tree (items-the_row-SizedExpr n parts))
row_is _ end_of-SizedExpr = refl
row_is _ (more_of-SizedExpr w s a at others) = ap (Beside (Sized w s at (form a))) (row_is _ others)

pub concat_is : (parts : Vec SizedExpr Global) → form (node.Concat parts) ≡ beside (map tree parts.items)
concat_is parts =
    row_is _ (hidden-the_row-SizedExpr-0 parts) ∙ ap (λ items. beside (map tree items)) (items_hidden-the_row-SizedExpr-0 parts)

pub concat_at : (parts : Vec SizedExpr Global) (e : Node) → e ≡ node.Concat parts → form e ≡ beside (map tree parts.items)
concat_at parts e is = ap form is ∙ concat_is parts
