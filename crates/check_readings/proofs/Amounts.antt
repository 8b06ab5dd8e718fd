-- Expressions that have no amount and no index, and such that are no part-select.
use Rattle.std.specs.Prelude.{Box}
use Rattle.std.specs.declared.alloc.Global.{Global}
use Rattle.std.proofs.Common.{ℕ, ◌≡◌, Bool, [], None, refl}
use Rattle.text_ground.specs.declared.text.Spot.{Spot}
use Rattle.rtl_flat.specs.declared.expr.Index.TheVariants as index
use Rattle.rtl_flat.specs.declared.expr.Node.{Node, Row_of-SizedExpr, end_of-SizedExpr, more_of-SizedExpr}
use Rattle.rtl_flat.specs.declared.expr.Node as whole
use Rattle.rtl_flat.specs.declared.expr.Node.TheVariants as node
use Rattle.rtl_flat.specs.declared.expr.Select.{Select}
use Rattle.rtl_flat.specs.declared.expr.Select.TheVariants as select
use Rattle.rtl_flat.specs.declared.expr.Shift.{Shift}
use Rattle.rtl_flat.specs.declared.expr.SigId.{SigId}
use Rattle.rtl_flat.specs.declared.expr.SizedExpr.{SizedExpr}
use Rattle.rtl_flat.specs.Expression.{Sized, form, read, row}
use Rattle.rtl_flat.specs.Flats.{Flat}
use Rattle.rtl_flat.specs.Process.{selection}
use Rattle.rtl_rule.specs.Parts.{index_of}
use Rattle.check_readings.specs.Readings.{own_amount, whole_signal}

abbrev boxed : Box (Unit {0}) Global → ℕ → Bool → Node → Spot → Box SizedExpr Global
boxed p w s a at =
    record { ptr = p.ptr; alloc = p.alloc; value = record { width = w; signed = s; node = a; spot = at } }

module _ (w : ℕ) (s : Bool) (at : Spot) where
  -- a read has the index of its select
  pub read_amount : (i : ℕ) (part : Select) → own_amount (Sized w s at (read i part)) ≡ index_of (selection part)
  read_amount i select.Whole = refl
  read_amount i (select.Bit low (index.Fixed k)) = refl
  read_amount i (select.Bit low (index.Computed' p w' s' a at')) = refl
  read_amount i (select.Part low width) = refl

  row_no_amount : {m : _} (parts : Row_of-SizedExpr m) → own_amount (Sized w s at (row parts)) ≡ []
  row_no_amount end_of-SizedExpr = refl
  row_no_amount (more_of-SizedExpr w' s' a at' others) = refl

  pub no_amount : (n : Node) → ((operator : Shift) (a b : Box SizedExpr Global) → n ≡ whole.Shifted operator a b → ⊥) → ((i : SigId) (part : Select) → n ≡ node.Read i part → ⊥) → own_amount (Sized w s at (form n)) ≡ []
  no_amount (node.Shifted' operator p w1 s1 a at1 q w2 s2 b at2) shift read' =
      absurd (shift operator (boxed p w1 s1 a at1) (boxed q w2 s2 b at2) refl)
  no_amount (node.Read i part) shift read' = absurd (read' i part refl)
  no_amount (node.Concat' shape parts) shift read' = row_no_amount parts
  no_amount _ shift read' = refl

  row_no_whole : (d : Flat) {m : _} (parts : Row_of-SizedExpr m) → whole_signal d (Sized w s at (row parts)) ≡ None
  row_no_whole d end_of-SizedExpr = refl
  row_no_whole d (more_of-SizedExpr w' s' a at' others) = refl

  pub no_whole : (d : Flat) (n : Node) → ((i : SigId) (part : Select) → n ≡ node.Read i part → ⊥) → whole_signal d (Sized w s at (form n)) ≡ None
  no_whole d (node.Read i part) other = absurd (other i part refl)
  no_whole d (node.Concat' shape parts) other = row_no_whole d parts
  no_whole d _ other = refl
