-- Forms that are no literal.
use Rattle.std.proofs.Common.{◌≡◌, ℕ, Bool, false, List, refl}
use Rattle.rtl_bits.specs.declared.Bit.{Bit}
use Rattle.text_ground.specs.declared.text.Spot.{Spot}
use Rattle.rtl_flat.specs.declared.expr.Index.TheVariants as index
use Rattle.rtl_flat.specs.declared.expr.Select.TheVariants as select
use Rattle.rtl_flat.specs.declared.expr.Node.{Node, Row_of-SizedExpr, end_of-SizedExpr, more_of-SizedExpr}
use Rattle.rtl_flat.specs.declared.expr.Node.TheVariants as node
use Rattle.rtl_flat.specs.Expression.{Sized, form, row}
use Rattle.net_model.specs.Numbers.{is_literal}

no_row : (w : ℕ) (s : Bool) (at : Spot) (n : _) (parts : Row_of-SizedExpr n) → is_literal (Sized w s at (row parts)) ≡ false
no_row w s at _ end_of-SizedExpr = refl
no_row w s at _ (more_of-SizedExpr w' s' a at' others) = refl

pub no_literal : (w : ℕ) (s : Bool) (at : Spot) (e : Node) → ((bits : List Bit) → e ≡ node.Literal bits → ⊥) → is_literal (Sized w s at (form e)) ≡ false
no_literal w s at (node.Literal bits) other = absurd (other bits refl)
no_literal w s at (node.Read i select.Whole) other = refl
no_literal w s at (node.Read i (select.Bit low (index.Fixed k))) other = refl
no_literal w s at (node.Read i (select.Bit low (index.Computed' p w' s' a at'))) other = refl
no_literal w s at (node.Read i (select.Part low width)) other = refl
no_literal w s at (node.Concat' shape parts) other = no_row w s at _ parts
no_literal w s at _ other = refl
