-- The plain form of sized expressions: lists for vectors, a tree for boxes.
-- Worked examples: crates/event_laws/proofs/Example.antt.
use Rattle.std.specs.Prelude.{ℕ, ℤ, Bool, List, [], ◌∷◌, ◌++◌}
use Rattle.rtl_bits.specs.declared.Bit.{Bit}
use Rattle.text_ground.specs.declared.text.Spot.{Spot}
use Rattle.rtl_flat.specs.declared.expr.Turn.{Turn}
use Rattle.rtl_flat.specs.declared.expr.Join.{Join}
use Rattle.rtl_flat.specs.declared.expr.Compare.{Compare}
use Rattle.rtl_flat.specs.declared.expr.Link.{Link}
use Rattle.rtl_flat.specs.declared.expr.Fold.{Fold}
use Rattle.rtl_flat.specs.declared.expr.Shift.{Shift}
use Rattle.rtl_flat.specs.declared.expr.Index.{Index}
use Rattle.rtl_flat.specs.declared.expr.Index.TheVariants as index
use Rattle.rtl_flat.specs.declared.expr.Select.{Select}
use Rattle.rtl_flat.specs.declared.expr.Select.TheVariants as select
use Rattle.rtl_flat.specs.declared.expr.Node.{Node}
use Rattle.rtl_flat.specs.declared.expr.Node.TheVariants as node
use Rattle.rtl_flat.specs.declared.expr.SizedExpr.{SizedExpr}
use Rattle.rtl_flat.specs.declared.expr.Node.{Row_of-SizedExpr, end_of-SizedExpr, more_of-SizedExpr}

-- an expression: `Sized` gives the form in it a width and a sign; operators on signed numbers carry
-- the sign of their operands; a concatenation is its first part beside the others
pub data Tree : Type 0 where
  Sized : (width : ℕ) (signed : Bool) (spot : Spot) (form : Tree) → Tree
  Literal : (bits : List Bit) → Tree
  Whole : (signal : ℕ) → Tree
  BitAt : (signal low : ℕ) (index : ℤ) → Tree
  BitBy : (signal low : ℕ) (signed : Bool) (index : Tree) → Tree
  Part : (signal low width : ℕ) → Tree
  Turned : (operator : Turn) (operand : Tree) → Tree
  Joined : (operator : Join) (signed : Bool) (left right : Tree) → Tree
  Compared : (operator : Compare) (signed : Bool) (left right : Tree) → Tree
  Linked : (operator : Link) (left right : Tree) → Tree
  Folded : (operator : Fold) (operand : Tree) → Tree
  Shifted : (operator : Shift) (signed : Bool) (operand amount : Tree) → Tree
  Chosen : (condition taken otherwise : Tree) → Tree
  Empty : Tree
  Beside : (first others : Tree) → Tree
  Repeated : (times : ℕ) (operand : Tree) → Tree
  Recast : (operand : Tree) → Tree

abbrev mutual
  -- a form with its operands
  pub form : Node → Tree
  form (node.Literal bits) = Literal bits
  form (node.Read signal select) = read signal.0 select
  form (node.Turned' operator p w s a at) = Turned operator (Sized w s at (form a))
  form (node.Joined' operator p w s a at q w' s' b at') =
      Joined operator s (Sized w s at (form a)) (Sized w' s' at' (form b))
  form (node.Compared' operator p w s a at q w' s' b at') =
      Compared operator s (Sized w s at (form a)) (Sized w' s' at' (form b))
  form (node.Linked' operator p w s a at q w' s' b at') =
      Linked operator (Sized w s at (form a)) (Sized w' s' at' (form b))
  form (node.Folded' operator p w s a at) = Folded operator (Sized w s at (form a))
  form (node.Shifted' operator p w s a at q w' s' b at') =
      Shifted operator s (Sized w s at (form a)) (Sized w' s' at' (form b))
  form (node.Chosen' p w s c at q w' s' a at' r w'' s'' b at'') =
      Chosen (Sized w s at (form c)) (Sized w' s' at' (form a)) (Sized w'' s'' at'' (form b))
  form (node.Concat' shape parts) = row parts
  form (node.Repeated' times p w s a at) = Repeated times (Sized w s at (form a))
  form (node.Recast' p w s a at) = Recast (Sized w s at (form a))

  -- what is read of a signal
  pub read : ℕ → Select → Tree
  read signal select.Whole = Whole signal
  read signal (select.Bit low index) = bit signal low index
  read signal (select.Part low width) = Part signal low width

  -- a bit of a signal
  pub bit : ℕ → ℕ → Index → Tree
  bit signal low (index.Fixed k) = BitAt signal low k
  bit signal low (index.Computed' p w s a at) = BitBy signal low s (Sized w s at (form a))

  -- the parts of a concatenation
  pub row : {m : _} → Row_of-SizedExpr m → Tree
  row end_of-SizedExpr = Empty
  row (more_of-SizedExpr w s a at others) = Beside (Sized w s at (form a)) (row others)

abbrev pub tree : SizedExpr → Tree
tree e = Sized e.width e.signed e.spot (form e.node)

-- expressions beside one another
abbrev pub beside : List Tree → Tree
beside [] = Empty
beside (first ∷ others) = Beside first (beside others)

-- all sized expressions in an expression, itself and the indices of its selects among them
abbrev pub nodes : Tree → List Tree
nodes (Sized width signed spot e) = Sized width signed spot e ∷ nodes e
nodes (Literal bits) = []
nodes (Whole i) = []
nodes (BitAt i low index) = []
nodes (BitBy i low signed index) = nodes index
nodes (Part i low width) = []
nodes (Turned operator a) = nodes a
nodes (Joined operator signed a b) = nodes a ++ nodes b
nodes (Compared operator signed a b) = nodes a ++ nodes b
nodes (Linked operator a b) = nodes a ++ nodes b
nodes (Folded operator a) = nodes a
nodes (Shifted operator signed a amount) = nodes a ++ nodes amount
nodes (Chosen c a b) = nodes c ++ nodes a ++ nodes b
nodes Empty = []
nodes (Beside a others) = nodes a ++ nodes others
nodes (Repeated times a) = nodes a
nodes (Recast a) = nodes a
