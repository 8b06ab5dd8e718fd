-- The plain form of processes: lists for vectors, trees for what a body holds.
-- Worked examples: crates/event_laws/proofs/Example.antt, crates/event_laws/proofs/BodyExample.antt.
use Rattle.std.specs.Prelude.{ℕ, ℤ, Bool, List, [], ◌∷◌, map, Option, Some, None}
use Rattle.rtl_bits.specs.declared.Edge.{Edge}
use Rattle.text_ground.specs.declared.text.Spot.{Spot}
use Rattle.rtl_flat.specs.declared.expr.Index.{Index}
use Rattle.rtl_flat.specs.declared.expr.Index.TheVariants as index
use Rattle.rtl_flat.specs.declared.expr.Select.{Select}
use Rattle.rtl_flat.specs.declared.expr.Select.TheVariants as select
use Rattle.rtl_flat.specs.declared.act.TargetPart.{TargetPart}
use Rattle.rtl_flat.specs.declared.act.EventItem.{EventItem}
use Rattle.rtl_flat.specs.declared.act.Listed.{Listed}
use Rattle.rtl_flat.specs.declared.act.Listed.TheVariants as listed
use Rattle.rtl_flat.specs.declared.act.CaseKind.{CaseKind}
use Rattle.rtl_flat.specs.declared.act.Act.{Act, Row_of-Act, end_of-Act, more_of-Act, Row_of-CaseItem, end_of-CaseItem, more_of-CaseItem, Held-Act-If-2, None', Some'}
use Rattle.rtl_flat.specs.declared.act.Act.TheVariants as act
use Rattle.rtl_flat.specs.declared.act.Does.{Does}
use Rattle.rtl_flat.specs.declared.act.Does.TheVariants as does
use Rattle.rtl_flat.specs.declared.act.Process.{Process}
use Rattle.rtl_flat.specs.Expression.{Tree, Sized, tree, form}

-- what of a signal is meant
pub data Selection : Type 0 where
  Whole : Selection
  BitAt : (low : ℕ) (index : ℤ) → Selection
  BitBy : (low : ℕ) (index : Tree) → Selection
  Part : (low width : ℕ) → Selection

-- a signal, or a part of one, that is assigned
pub record Piece : Type 0 where
  pub signal : ℕ
  pub selection : Selection
  pub spot : Spot

-- an item of a sensitivity list
pub record Watched : Type 0 where
  pub signal : ℕ
  pub selection : Selection
  pub edge : Edge
  pub spot : Spot

mutual
  -- a statement
  pub data Action : Type 0 where
    Set : (target : List Piece) (value : Tree) (delayed : Bool) (spot : Spot) → Action
    If : (test : Tree) (taken : Actions) (otherwise : Otherwise) (spot : Spot) → Action
    Case : (kind : CaseKind) (full parallel : Bool) (selector : Tree) (branches : Branches) (fallback : Otherwise) (spot : Spot) → Action
    Block : (body : Actions) → Action

  -- statements in order
  pub data Actions : Type 0 where
    Done : Actions
    Then : (first : Action) (others : Actions) → Actions

  -- a body that may be left out
  pub data Otherwise : Type 0 where
    Without : Otherwise
    With : (body : Actions) → Otherwise

  -- the items of a case in order
  pub data Branches : Type 0 where
    NoBranch : Branches
    Branch : (labels : List Tree) (body : Actions) (others : Branches) → Branches

-- what a process does: an assignment; or a body with a list, or with none for `@*`; or a body with
-- events, one of them an edge
pub data Doing : Type 0 where
  Assign : (target : List Piece) (value : Tree) → Doing
  Comb : (list : Option (List Watched)) (body : Actions) → Doing
  Edge' : (events : List Watched) (body : Actions) → Doing

-- a process in its instance
pub record Task : Type 0 where
  pub does : Doing
  pub instance : ℕ
  pub spot : Spot

abbrev pub pointed : ℕ → Index → Selection
pointed low (index.Fixed k) = BitAt low k
pointed low (index.Computed' p w s a at) = BitBy low (Sized w s at (form a))

abbrev pub selection : Select → Selection
selection select.Whole = Whole
selection (select.Bit low index) = pointed low index
selection (select.Part low width) = Part low width

abbrev pub piece : TargetPart → Piece
piece part = record { signal = part.signal.0; selection = selection part.select; spot = part.spot }

abbrev pub watched : EventItem → Watched
watched item =
    record { signal = item.signal.0; selection = selection item.select; edge = item.edge; spot = item.spot }

abbrev mutual
  pub action : Act → Action
  action (act.Set target value delayed spot) = Set (map piece target.parts.items) (tree value) delayed spot
  action (act.If' test shape taken other spot) = If (tree test) (actions taken) (otherwise other) spot
  action (act.Case' kind full parallel selector shape items fallback spot) =
      Case kind full parallel (tree selector) (branches items) (otherwise fallback) spot
  action (act.Block' shape body) = Block (actions body)

  pub actions : {m : _} → Row_of-Act m → Actions
  actions end_of-Act = Done
  actions (more_of-Act first others) = Then (action first) (actions others)

  pub otherwise : Held-Act-If-2 → Otherwise
  otherwise None' = Without
  otherwise (Some' shape body) = With (actions body)

  pub branches : {m : _} → Row_of-CaseItem m → Branches
  branches end_of-CaseItem = NoBranch
  branches (more_of-CaseItem labels shape body others) =
      Branch (map tree labels.items) (actions body) (branches others)

-- the statements of a list
abbrev pub body_of : List Action → Actions
body_of [] = Done
body_of (first ∷ others) = Then first (body_of others)

abbrev pub listing : Listed → Option (List Watched)
listing listed.Star = None
listing (listed.Items items) = Some (map watched items.items)

abbrev pub doing : Does → Doing
doing (does.Assign target value) = Assign (map piece target.parts.items) (tree value)
doing (does.Comb list body) = Comb (listing list) (body_of (map action body.items))
doing (does.Edge events body) = Edge' (map watched events.items) (body_of (map action body.items))

abbrev pub task : Process → Task
task process = record { does = doing process.does; instance = process.instance; spot = process.spot }
