-- Expressions that aren't of one form.
use Rattle.std.specs.Prelude.{Box}
use Rattle.std.specs.declared.alloc.Global.{Global}
use Rattle.std.proofs.Common.{ℕ, ◌≡◌, Bool, false, None, refl, List}
use Rattle.rtl_bits.specs.declared.Bit.{Bit}
use Rattle.text_ground.specs.declared.text.Spot.{Spot}
use Rattle.rtl_flat.specs.declared.expr.Compare.{Compare}
use Rattle.rtl_flat.specs.declared.expr.Index.TheVariants as index
use Rattle.rtl_flat.specs.declared.expr.Join.{Join}
use Rattle.rtl_flat.specs.declared.expr.Node.{Node, Row_of-SizedExpr, end_of-SizedExpr, more_of-SizedExpr}
use Rattle.rtl_flat.specs.declared.expr.Node as whole
use Rattle.rtl_flat.specs.declared.expr.Node.TheVariants as node
use Rattle.rtl_flat.specs.declared.expr.Select.{Select}
use Rattle.rtl_flat.specs.declared.expr.Select.TheVariants as select
use Rattle.rtl_flat.specs.declared.expr.SigId.{SigId}
use Rattle.rtl_flat.specs.declared.expr.SizedExpr.{SizedExpr}
use Rattle.rtl_flat.specs.Flats.{Flat}
use Rattle.rtl_flat.specs.Expression.{Sized, form, row}
use Rattle.rtl_rule.specs.Parts.{is_literal_with}
use Rattle.check_unknown.specs.Unknowns.{divides_by_other, is_case_equality, pick_in}

abbrev boxed : Box (Unit {0}) Global → ℕ → Bool → Node → Spot → Box SizedExpr Global
boxed p w s a at =
    record { ptr = p.ptr; alloc = p.alloc; value = record { width = w; signed = s; node = a; spot = at } }

module _ (w : ℕ) (s : Bool) (at : Spot) where
  -- a concatenation
  row_no_literal : (test : Bit → Bool) {m : _} (parts : Row_of-SizedExpr m) → false ≡ is_literal_with test (Sized w s at (row parts))
  row_no_literal test end_of-SizedExpr = refl
  row_no_literal test (more_of-SizedExpr w' s' a at' others) = refl

  row_no_compared : {m : _} (parts : Row_of-SizedExpr m) → false ≡ is_case_equality (Sized w s at (row parts))
  row_no_compared end_of-SizedExpr = refl
  row_no_compared (more_of-SizedExpr w' s' a at' others) = refl

  row_no_joined : (d : Flat) {m : _} (parts : Row_of-SizedExpr m) → false ≡ divides_by_other d (Sized w s at (row parts))
  row_no_joined d end_of-SizedExpr = refl
  row_no_joined d (more_of-SizedExpr w' s' a at' others) = refl

  row_no_pick : {m : _} (parts : Row_of-SizedExpr m) → pick_in (Sized w s at (row parts)) ≡ None
  row_no_pick end_of-SizedExpr = refl
  row_no_pick (more_of-SizedExpr w' s' a at' others) = refl

  pub no_literal : (test : Bit → Bool) (n : Node) → ((bits : List Bit) → n ≡ node.Literal bits → ⊥) → false ≡ is_literal_with test (Sized w s at (form n))
  no_literal test (node.Literal bits) other = absurd (other bits refl)
  no_literal test (node.Read i select.Whole) other = refl
  no_literal test (node.Read i (select.Bit low (index.Fixed k))) other = refl
  no_literal test (node.Read i (select.Bit low (index.Computed' p w' s' a at'))) other = refl
  no_literal test (node.Read i (select.Part low width)) other = refl
  no_literal test (node.Concat' shape parts) other = row_no_literal test parts
  no_literal test _ other = refl

  pub no_compared : (n : Node) → ((operator : Compare) (a b : Box SizedExpr Global) → n ≡ whole.Compared operator a b → ⊥) → false ≡ is_case_equality (Sized w s at (form n))
  no_compared (node.Compared' operator p w1 s1 a at1 q w2 s2 b at2) other =
      absurd (other operator (boxed p w1 s1 a at1) (boxed q w2 s2 b at2) refl)
  no_compared (node.Read i select.Whole) other = refl
  no_compared (node.Read i (select.Bit low (index.Fixed k))) other = refl
  no_compared (node.Read i (select.Bit low (index.Computed' p w' s' a at'))) other = refl
  no_compared (node.Read i (select.Part low width)) other = refl
  no_compared (node.Concat' shape parts) other = row_no_compared parts
  no_compared _ other = refl

  pub no_joined : (d : Flat) (n : Node) → ((operator : Join) (a b : Box SizedExpr Global) → n ≡ whole.Joined operator a b → ⊥) → false ≡ divides_by_other d (Sized w s at (form n))
  no_joined d (node.Joined' operator p w1 s1 a at1 q w2 s2 b at2) other =
      absurd (other operator (boxed p w1 s1 a at1) (boxed q w2 s2 b at2) refl)
  no_joined d (node.Read i select.Whole) other = refl
  no_joined d (node.Read i (select.Bit low (index.Fixed k))) other = refl
  no_joined d (node.Read i (select.Bit low (index.Computed' p w' s' a at'))) other = refl
  no_joined d (node.Read i (select.Part low width)) other = refl
  no_joined d (node.Concat' shape parts) other = row_no_joined d parts
  no_joined d _ other = refl

  pub no_pick : (n : Node) → ((i : SigId) (part : Select) → n ≡ node.Read i part → ⊥) → pick_in (Sized w s at (form n)) ≡ None
  no_pick (node.Read i part) other = absurd (other i part refl)
  no_pick (node.Concat' shape parts) other = row_no_pick parts
  no_pick _ other = refl
