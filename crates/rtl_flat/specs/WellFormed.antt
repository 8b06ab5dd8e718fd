-- What holds of every flat design.
-- Worked examples: proofs/Examples.antt.
use Rattle.std.specs.Prelude.{ℕ, pos, ◌+◌, ◌≡◌, ◌<◌, ◌≤◌, Bool, true, false, IsTrue, List, [], ◌∷◌, length, sum_by, Option, Some, None}
use Rattle.std.specs.List.{All, list_any}
use Rattle.rtl_bits.specs.declared.Edge.{Edge}
use Rattle.rtl_bits.specs.declared.Edge.TheVariants.{No, Pos, Neg}
use Rattle.rtl_flat.specs.declared.signal.Kind.{Kind}
use Rattle.rtl_flat.specs.declared.signal.Kind.TheVariants.{Net, Var}
use Rattle.rtl_flat.specs.declared.signal.Signal.{Signal}
use Rattle.rtl_flat.specs.declared.instance.Instance.{Instance}
use Rattle.rtl_flat.specs.declared.instance.DroppedRegion.{DroppedRegion}
use Rattle.rtl_flat.specs.declared.instance.Delay.{Delay}
use Rattle.rtl_flat.specs.Expression.{Tree}
use Rattle.rtl_flat.specs.Sizes.{width_of}
use Rattle.rtl_flat.specs.Signs.{Has, width_in, sign_of, IsExpression}
use Rattle.rtl_flat.specs.Process.{Selection, Whole, BitAt, BitBy, Part, Piece, Watched, Action, Set, If, Case, Block, Actions, Done, Then, Otherwise, Without, With, Branches, NoBranch, Branch, Doing, Assign, Comb, Edge', Task}

-- ---- targets and events

-- whether what is selected of signal i can be
abbrev pub IsSelection : List Signal → ℕ → Selection → Type 0
IsSelection signals i Whole = i < length signals
IsSelection signals i (BitAt low index) = Has (λ s. s.low ≡ low) signals i
IsSelection signals i (BitBy low index) =
    Has (λ s. s.low ≡ low) signals i × IsExpression signals index
IsSelection signals i (Part low width) =
    (1 ≤ width) × Has (λ s. low + width ≤ s.width) signals i

-- how many bits are selected of signal i
abbrev pub selection_width : List Signal → ℕ → Selection → ℕ
selection_width signals i Whole = width_in signals i
selection_width signals i (BitAt low index) = 1
selection_width signals i (BitBy low index) = 1
selection_width signals i (Part low width) = width

-- how many bits a target has
abbrev pub target_width : List Signal → List Piece → ℕ
target_width signals target =
    sum_by (λ piece. selection_width signals piece.signal piece.selection) target

-- an assignment of a value to a target whose signals are of one kind: the value is sized with the
-- target, so it has at least as many bits (IEEE 1364-2001 section 4.4)
pub record IsAssignment (signals : List Signal) (kind : Kind) (target : List Piece) (value : Tree) : Type 0 where
  pub parts : All (λ piece. IsSelection signals piece.signal piece.selection) target
  pub kinds : All (λ piece. Has (λ s. s.kind ≡ kind) signals piece.signal) target
  pub not_empty : 1 ≤ target_width signals target
  pub at_most : target_width signals target ≤ 128
  pub sized : IsExpression signals value
  pub covered : target_width signals target ≤ width_of (width_in signals) value

-- whether an index is a number
abbrev pub IsFixed : Selection → Type 0
IsFixed (BitBy low index) = ⊥
IsFixed _ = Unit {0}

-- whether a selection of a signal of a width has bit k, counted from the least significant
abbrev pub Selects : ℕ → Selection → ℕ → Type 0
Selects width Whole k = k < width
Selects width (BitAt low index) k = (index ≡ pos (low + k)) × (k < width)
Selects width (BitBy low index) k = ⊥
Selects width (Part low count) k = (low ≤ k) × (k < low + count)

-- whether two parts of a target have no bit in common
abbrev pub AreApart : List Signal → Piece → Piece → Type 0
AreApart signals a b =
    a.signal ≡ b.signal → (k : ℕ) → Selects (width_in signals a.signal) a.selection k → Selects (width_in signals b.signal) b.selection k → ⊥

-- whether a target has no bit twice
abbrev pub HasNoneTwice : List Signal → List Piece → Type 0
HasNoneTwice signals [] = Unit {0}
HasNoneTwice signals (piece ∷ others) =
    All (AreApart signals piece) others × HasNoneTwice signals others

-- whether an event has an edge
abbrev pub has_edge : Edge → Bool
has_edge No = false
has_edge Pos = true
has_edge Neg = true

-- whether all of a signal is meant
abbrev pub IsWhole : Selection → Type 0
IsWhole Whole = Unit {0}
IsWhole _ = ⊥

-- an item of a list: with an edge it is a whole signal of one bit
pub record IsWatched (signals : List Signal) (item : Watched) : Type 0 where
  pub inside : IsSelection signals item.signal item.selection
  pub whole : IsTrue (has_edge item.edge) → IsWhole item.selection
  pub one_bit : IsTrue (has_edge item.edge) → Has (λ s. s.width ≡ 1) signals item.signal

-- ---- bodies

abbrev mutual
  -- a statement, whose targets are variables
  pub IsAction : List Signal → Action → Type 0
  IsAction signals (Set target value delayed spot) = IsAssignment signals Var target value
  IsAction signals (If test taken other spot) =
      IsExpression signals test × IsBody signals taken × IsOtherwise signals other
  IsAction signals (Case kind full parallel selector branches fallback spot) =
      IsExpression signals selector × AreBranches signals selector branches × IsOtherwise signals fallback
  IsAction signals (Block body) = IsBody signals body

  pub IsBody : List Signal → Actions → Type 0
  IsBody signals Done = Unit {0}
  IsBody signals (Then first others) = IsAction signals first × IsBody signals others

  pub IsOtherwise : List Signal → Otherwise → Type 0
  IsOtherwise signals Without = Unit {0}
  IsOtherwise signals (With body) = IsBody signals body

  -- items of a case: its selector and its labels have one width and one sign (IEEE 1364-2001
  -- section 9.5)
  pub AreBranches : List Signal → Tree → Branches → Type 0
  AreBranches signals selector NoBranch = Unit {0}
  AreBranches signals selector (Branch labels body others) =
      All (IsExpression signals) labels × All (λ label. width_of (width_in signals) label ≡ width_of (width_in signals) selector) labels × All (λ label. sign_of label ≡ sign_of selector) labels × IsBody signals body × AreBranches signals selector others

abbrev mutual
  -- how many statements a statement has with those in it
  pub statements : Action → ℕ
  statements (Set target value delayed spot) = 1
  statements (If test taken other spot) = 1 + statements_of taken + other_statements other
  statements (Case kind full parallel selector branches fallback spot) =
      1 + branch_statements branches + other_statements fallback
  statements (Block body) = 1 + statements_of body

  pub statements_of : Actions → ℕ
  statements_of Done = 0
  statements_of (Then first others) = statements first + statements_of others

  pub other_statements : Otherwise → ℕ
  other_statements Without = 0
  other_statements (With body) = statements_of body

  pub branch_statements : Branches → ℕ
  branch_statements NoBranch = 0
  branch_statements (Branch labels body others) = statements_of body + branch_statements others

-- ---- processes

-- a list without edges
abbrev pub IsList : List Signal → Option (List Watched) → Type 0
IsList signals None = Unit {0}
IsList signals (Some items) =
    All (IsWatched signals) items × All (λ item. has_edge item.edge ≡ false) items

-- a process: nets alone are assigned continuously, at places that are known, and no bit twice; a
-- body with events has an edge
abbrev pub IsProcess : List Signal → Doing → Type 0
IsProcess signals (Assign target value) =
    IsAssignment signals Net target value × All (λ piece. IsFixed piece.selection) target × HasNoneTwice signals target
IsProcess signals (Comb list body) = IsList signals list × IsBody signals body
IsProcess signals (Edge' events body) =
    All (IsWatched signals) events × (list_any (λ item. has_edge item.edge) events ≡ true) × IsBody signals body

-- how many statements a process has
abbrev pub process_statements : Doing → ℕ
process_statements (Assign target value) = 0
process_statements (Comb list body) = statements_of body
process_statements (Edge' events body) = statements_of body

-- ---- designs

-- whether instances are those under a holder in preorder, each at most one deeper than the one before
abbrev pub IsUnder : ℕ → List Instance → Type 0
IsUnder depth [] = Unit {0}
IsUnder depth (one ∷ others) =
    (2 ≤ one.depth) × (one.depth ≤ depth + 1) × (one.depth ≤ 32) × IsUnder one.depth others

-- whether instances are a tree in preorder from its top, at most 32 deep
abbrev pub IsHierarchy : List Instance → Type 0
IsHierarchy [] = ⊥
IsHierarchy (top ∷ others) = (top.depth ≡ 1) × IsUnder 1 others

-- a signal of 1 to 128 bits in an instance
abbrev pub IsSignal : List Instance → Signal → Type 0
IsSignal instances s = (1 ≤ s.width) × (s.width ≤ 128) × (s.instance < length instances)

-- what holds of every flat design
pub record IsDesign (signals : List Signal) (tasks : List Task) (instances : List Instance) (dropped : List DroppedRegion) (delays : List Delay) : Type 0 where
  pub hierarchy : IsHierarchy instances
  pub each_signal : All (IsSignal instances) signals
  pub each_process : All (λ one. IsProcess signals one.does) tasks
  pub in_instances : All (λ one. one.instance < length instances) tasks
  pub each_dropped : All (λ one. one.instance < length instances) dropped
  pub each_delay : All (λ one. one.process.0 < length tasks) delays
  pub signal_limit : length signals ≤ 20000
  pub process_limit : length tasks ≤ 20000
  pub instance_limit : length instances ≤ 20000
  pub statement_limit : sum_by (λ one. process_statements one.does) tasks ≤ 100000
  pub delay_limit : length delays ≤ 100000
