-- Tests of gates.
use Rattle.std.specs.Prelude.{Vec}
use Rattle.std.specs.declared.alloc.Global.{Global}
use Rattle.std.proofs.Common.{◌≡◌, ◌∙◌, ℕ, Bool, List, [], ◌∷◌, length, get_or, None, ap, sym, refl, arith}
use Rattle.rtl_bits.specs.declared.Bit.{Bit}
use Rattle.rtl_bits.specs.declared.Bit.TheVariants as bit
use Rattle.text_ground.specs.declared.text.Spot.{Spot}
use Rattle.rtl_flat.specs.declared.expr.Index.TheVariants as index
use Rattle.rtl_flat.specs.declared.expr.Select.TheVariants as select
use Rattle.rtl_flat.specs.declared.expr.Node.{Node, Row_of-SizedExpr, end_of-SizedExpr, more_of-SizedExpr}
use Rattle.rtl_flat.specs.declared.expr.Node.TheVariants as node
use Rattle.rtl_flat.specs.declared.expr.Index.TheBlock.{hidden-the_row-SizedExpr-0}
use Rattle.rtl_flat.specs.declared.expr.SizedExpr.{SizedExpr}
use Rattle.rtl_flat.specs.Expression.{Sized, form, row}
use Rattle.net_model.specs.Gates.{gate_compared, gate_test}
use Rattle.check_gates.specs.Forms.{literal_test}

-- ---- literals

pub compared_none : (g : ℕ) (bits : List Bit) → (length bits ≡ 1 → ⊥) → None ≡ gate_compared g bits
compared_none g [] h = refl
compared_none g (bit.One ∷ []) h = absurd (h refl)
compared_none g (bit.Zero ∷ []) h = absurd (h refl)
compared_none g (bit.X ∷ []) h = refl
compared_none g (bit.Z ∷ []) h = refl
compared_none g (bit.One ∷ b ∷ bits) h = refl
compared_none g (bit.Zero ∷ b ∷ bits) h = refl
compared_none g (bit.X ∷ b ∷ bits) h = refl
compared_none g (bit.Z ∷ b ∷ bits) h = refl

pub compared_one : (g : ℕ) (bits : List Bit) (b : Bit) → length bits ≡ 1 → b ≡ get_or bits 0 bit.X → gate_compared g (b ∷ []) ≡ gate_compared g bits
compared_one g [] b size is = absurd (omega (arith, size))
compared_one g (c ∷ []) b size is = ap (λ (x : Bit). gate_compared g (x ∷ [])) is
compared_one g (c ∷ e ∷ bits) b size is = absurd (omega (arith, size))

no_row_literal : (g w : ℕ) (s : Bool) (at : Spot) (n : _) (parts : Row_of-SizedExpr n) → None ≡ literal_test g (Sized w s at (row parts))
no_row_literal g w s at _ end_of-SizedExpr = refl
no_row_literal g w s at _ (more_of-SizedExpr w' s' a at' others) = refl

-- an expression that is no literal
pub no_literal : (g w : ℕ) (s : Bool) (at : Spot) (e : Node) → ((bits : List Bit) → e ≡ node.Literal bits → ⊥) → None ≡ literal_test g (Sized w s at (form e))
no_literal g w s at (node.Literal bits) other = absurd (other bits refl)
no_literal g w s at (node.Read i select.Whole) other = refl
no_literal g w s at (node.Read i (select.Bit low (index.Fixed k))) other = refl
no_literal g w s at (node.Read i (select.Bit low (index.Computed' p w' s' a at'))) other = refl
no_literal g w s at (node.Read i (select.Part low width)) other = refl
no_literal g w s at (node.Concat' shape parts) other = no_row_literal g w s at _ parts
no_literal g w s at _ other = refl

-- ---- concatenations

no_row_test : (w : ℕ) (s : Bool) (at : Spot) (n : _) (parts : Row_of-SizedExpr n) → None ≡ gate_test (Sized w s at (row parts))
no_row_test w s at _ end_of-SizedExpr = refl
no_row_test w s at _ (more_of-SizedExpr w' s' a at' others) = refl

pub concat_untested : (w : ℕ) (s : Bool) (at : Spot) (e : Node) (parts : Vec SizedExpr Global) → e ≡ node.Concat parts → None ≡ gate_test (Sized w s at (form e))
concat_untested w s at e parts is =
    no_row_test w s at _ (hidden-the_row-SizedExpr-0 parts) ∙ sym (ap (λ (x : Node). gate_test (Sized w s at (form x))) is)
