-- The parts of a concatenation.
use Rattle.std.specs.Prelude.{map, Vec, List}
use Rattle.std.specs.declared.alloc.Global.{Global}
use Rattle.std.proofs.Common.{◌≡◌, ◌∙◌, ap, sym}
use Rattle.rtl_flat.specs.declared.expr.SizedExpr.{SizedExpr}
use Rattle.rtl_flat.specs.declared.expr.Node.{Node}
use Rattle.rtl_flat.specs.declared.expr.Node.TheVariants as node
use Rattle.rtl_flat.specs.Expression.{form, tree, beside}
use Rattle.rtl_flat.proofs.Rows.{concat_at}

pub concat_parts : (parts : Vec SizedExpr Global) (e : Node) (items : List SizedExpr) → e ≡ node.Concat parts → items ≡ parts.items → form e ≡ beside (map tree items)
concat_parts parts e items is same =
    concat_at parts e is ∙ ap (λ all. beside (map tree all)) (sym same)
