-- What forms of expression aren't.
use Rattle.std.specs.Prelude.{Vec}
use Rattle.std.specs.declared.alloc.Global.{Global}
use Rattle.std.proofs.Common.{◌≡◌, ◌∙◌, ℕ, Bool, true, false, List, None, ap, sym, refl}
use Rattle.rtl_bits.specs.declared.Bit.{Bit}
use Rattle.text_ground.specs.declared.text.Spot.{Spot}
use Rattle.rtl_flat.specs.declared.expr.Index.TheVariants as index
use Rattle.rtl_flat.specs.declared.expr.Select.TheVariants as select
use Rattle.rtl_flat.specs.declared.expr.Node.{Node, Row_of-SizedExpr, end_of-SizedExpr, more_of-SizedExpr}
use Rattle.rtl_flat.specs.declared.expr.Node.TheVariants as node
use Rattle.rtl_flat.specs.declared.expr.Index.TheBlock.{hidden-the_row-SizedExpr-0}
use Rattle.rtl_flat.specs.declared.expr.SizedExpr.{SizedExpr}
use Rattle.rtl_flat.specs.declared.expr.Select.{Select}
use Rattle.rtl_flat.specs.declared.expr.SigId.{SigId}
use Rattle.rtl_flat.specs.Expression.{Sized, form, read, row}
use Rattle.rtl_flat.specs.Flats.{Flat}
use Rattle.check_chains.specs.Chains.{tested}
use Rattle.check_chains.specs.Inner.{literal_test, whole_of}

no_row_whole : (w : ℕ) (s : Bool) (at : Spot) (n : _) (parts : Row_of-SizedExpr n) → None ≡ whole_of (Sized w s at (row parts))
no_row_whole w s at _ end_of-SizedExpr = refl
no_row_whole w s at _ (more_of-SizedExpr w' s' a at' others) = refl

-- an expression that isn't read
pub no_whole : (w : ℕ) (s : Bool) (at : Spot) (e : Node) → ((signal : _) (what : _) → e ≡ node.Read signal what → ⊥) → None ≡ whole_of (Sized w s at (form e))
no_whole w s at (node.Read i what) other = absurd (other i what refl)
no_whole w s at (node.Concat' shape parts) other = no_row_whole w s at _ parts
no_whole w s at _ other = refl

no_row_literal : (d : Flat) (signed : Bool) (r w : ℕ) (s : Bool) (at : Spot) (n : _) (parts : Row_of-SizedExpr n) → None ≡ literal_test d signed r (Sized w s at (row parts))
no_row_literal d signed r w s at _ end_of-SizedExpr = refl
no_row_literal d signed r w s at _ (more_of-SizedExpr w' s' a at' others) = refl

-- an expression that is no literal
pub no_literal_test : (d : Flat) (signed : Bool) (r w : ℕ) (s : Bool) (at : Spot) (e : Node) → ((bits : List Bit) → e ≡ node.Literal bits → ⊥) → None ≡ literal_test d signed r (Sized w s at (form e))
no_literal_test d signed r w s at (node.Literal bits) other = absurd (other bits refl)
no_literal_test d signed r w s at (node.Read i select.Whole) other = refl
no_literal_test d signed r w s at (node.Read i (select.Bit low (index.Fixed k))) other = refl
no_literal_test d signed r w s at (node.Read i (select.Bit low (index.Computed' p w' s' a at'))) other = refl
no_literal_test d signed r w s at (node.Read i (select.Part low width)) other = refl
no_literal_test d signed r w s at (node.Concat' shape parts) other = no_row_literal d signed r w s at _ parts
no_literal_test d signed r w s at _ other = refl

no_row_tested : (d : Flat) (w : ℕ) (s : Bool) (at : Spot) (n : _) (parts : Row_of-SizedExpr n) → None ≡ tested d (Sized w s at (row parts))
no_row_tested d w s at _ end_of-SizedExpr = refl
no_row_tested d w s at _ (more_of-SizedExpr w' s' a at' others) = refl

-- a concatenation
pub concat_untested : (d : Flat) (w : ℕ) (s : Bool) (at : Spot) (e : Node) (parts : Vec SizedExpr Global) → e ≡ node.Concat parts → None ≡ tested d (Sized w s at (form e))
concat_untested d w s at e parts is =
    no_row_tested d w s at _ (hidden-the_row-SizedExpr-0 parts) ∙ sym (ap (λ (x : Node). tested d (Sized w s at (form x))) is)
