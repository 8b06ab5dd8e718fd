-- What the rules look at in a flat design, and the processes, statements and expressions in which they look.
-- Worked examples: crates/tests_rows/stdin.
use Rattle.std.specs.Prelude.{ℕ, zero, suc, ◌+◌, ◌==◌, nat_lt, Bool, true, false, not, ◌&&◌, ◌||◌, if◌then◌else◌, List, [], ◌∷◌, ◌++◌, length, map, replicate, Option, Some, None}
use Rattle.std.specs.List.{enumerate_from, filter, filter_map, flat_map, list_any}
use Rattle.rtl_bits.specs.declared.Bit.{Bit}
use Rattle.rtl_bits.specs.declared.Bit.TheVariants as bit
use Rattle.text_ground.specs.declared.text.Spot.{Spot}
use Rattle.rtl_flat.specs.declared.expr.SigId.{SigId}
use Rattle.rtl_flat.specs.declared.signal.Signal.{Signal}
use Rattle.rtl_flat.specs.Expression.{Tree, Sized, Literal, Whole, BitAt, BitBy, Part, Turned, Joined, Compared, Linked, Folded, Shifted, Chosen, Empty, Beside, Repeated, Recast}
-- `nodes` is passed on
pub use Rattle.rtl_flat.specs.Expression.{nodes}
use Rattle.rtl_flat.specs.Flats.{Flat, widths}
use Rattle.rtl_flat.specs.Flows.{all_bits, bit_at, flow_of, labels_of, reads, span}
use Rattle.rtl_flat.specs.Paths.{BitSet, may_write, no_bit}
use Rattle.rtl_flat.specs.Process.{Selection, Piece, Watched, Action, Set, If, Case, Block, Actions, Done, Then, Otherwise, Without, With, Branches, NoBranch, Branch, Doing, Assign, Comb, Edge', Task, task}
use Rattle.rtl_flat.specs.Process as part
use Rattle.rtl_flat.specs.Value.{value}
use Rattle.rtl_rule.specs.declared.finding.Finding.{Finding}
use Rattle.rtl_rule.specs.declared.rule.Rule.{Rule}

-- ---- sites: something in a process

pub record At (A : Type 0) : Type 0 where
  pub process : ℕ
  pub task : Task
  pub it : A

abbrev pub within : {A : Type 0} → (ℕ × Task) → A → At A
within (number, task) it = record { process = number; task = task; it = it }

-- all that a function lists of each process, in the order of processes
abbrev pub sites : {A : Type 0} → (Doing → List A) → Flat → List (At A)
sites list d =
    flat_map (λ (one : ℕ × Task). map (within one) (list one.1.does)) (enumerate_from 0 d.tasks)

-- each process with each signal
abbrev pub signal_sites : Flat → List (At ℕ)
signal_sites d =
    sites (λ does. map (λ (one : ℕ × Signal). one.0) (enumerate_from 0 d.signals)) d

-- each process
abbrev pub process_sites : Flat → List (At Doing)
process_sites d = sites (λ does. does ∷ []) d

-- whether a process waits for an edge
abbrev pub is_clocked : Doing → Bool
is_clocked (Edge' events body) = true
is_clocked _ = false

-- ---- findings at sites

-- in the site's instance, at a place
abbrev pub found_at : {A : Type 0} → Rule → At A → Option SigId → Spot → Finding
found_at rule site signal spot =
    record { rule = rule; signal = signal; instance = site.task.instance; spot = spot }

-- at the process
abbrev pub found : {A : Type 0} → Rule → At A → Option SigId → Finding
found rule site signal = found_at rule site signal site.task.spot

abbrev pub number : ℕ → Option SigId
number signal = Some (record { 0 = signal })

-- ---- numbers below a limit

-- whether a test holds of one of them
abbrev pub some_below : ℕ → (ℕ → Bool) → Bool
some_below zero test = false
some_below (suc n) test = some_below n test || test n

-- the least of which it holds
abbrev pub first_below : ℕ → (ℕ → Bool) → Option SigId
first_below zero test = None
first_below (suc n) test =
    if some_below n test then first_below n test else if test n then number n else None

-- ---- truth values

-- whether two truth values are the same
abbrev pub agree : Bool → Bool → Bool
agree true b = b
agree false b = not b

-- ---- what is written

-- whether a set has a bit of a signal
abbrev pub has_some : (ℕ → ℕ) → BitSet → ℕ → Bool
has_some ws bits s = some_below (ws s) (bits s)

-- whether it has a bit of some signal
abbrev pub has_any : Flat → BitSet → Bool
has_any d bits = some_below (length d.signals) (has_some (widths d) bits)

-- the least signal that a set has a bit of
abbrev pub first_of : Flat → BitSet → Option SigId
first_of d bits = first_below (length d.signals) (has_some (widths d) bits)

abbrev pub written : Flat → Doing → BitSet
written d does = may_write (flow_of (widths d) does)

-- the least signal that a process may write
abbrev pub first_written : {A : Type 0} → Flat → At A → Option SigId
first_written d site = first_of d (written d site.task.does)

-- ---- places

abbrev pub is_earlier : Spot → Spot → Bool
is_earlier one other =
    nat_lt one.file other.file || ((one.file == other.file) && nat_lt one.at other.at)

-- the least of some places; of none a place that is given
abbrev pub least_place : Spot → List Spot → Spot
least_place otherwise [] = otherwise
least_place otherwise (one ∷ []) = one
least_place otherwise (one ∷ next ∷ others) =
    let least = least_place otherwise (next ∷ others) in
    if is_earlier least one then least else one

-- ---- expressions

-- where an expression stands: an operator at its mark, anything else at its first token
abbrev pub place_of : Spot → Tree → Spot
place_of otherwise (Sized width signed spot e) = spot
place_of otherwise _ = otherwise

-- the bits that an expression reads itself, without its operands
abbrev pub own_reads : (ℕ → ℕ) → Tree → BitSet
own_reads ws (Sized width signed spot (Whole i)) = all_bits ws i
own_reads ws (Sized width signed spot (BitAt i low index)) = bit_at ws i low index
own_reads ws (Sized width signed spot (BitBy i low s index)) = all_bits ws i
own_reads ws (Sized width signed spot (Part i low w)) = span ws i low (low + w)
own_reads ws _ = no_bit

-- whether an expression reads a bit of a signal: `a[9]` of 8 bits reads none
abbrev pub reads_signal : Flat → Tree → Bool
reads_signal d e = has_any d (reads (widths d) e)

-- every bit of a signal as x
abbrev pub unknowns : Flat → ℕ → List Bit
unknowns d i = replicate (widths d i) bit.X

-- the value of an expression that reads no signal: over x in every bit it is what it is over any values
abbrev pub constant_of : Flat → Tree → Option (List Bit)
constant_of d e = if reads_signal d e then None else Some (value (unknowns d) e)

-- ---- statements

abbrev mutual
  -- a statement and all within it, without blocks
  pub all_in : Action → List Action
  all_in (Set target value delayed spot) = Set target value delayed spot ∷ []
  all_in (If test taken other spot) = If test taken other spot ∷ all_of taken ++ all_other other
  all_in (Case kind full parallel selector branches fallback spot) =
      Case kind full parallel selector branches fallback spot ∷ all_branches branches ++ all_other fallback
  all_in (Block body) = all_of body

  pub all_of : Actions → List Action
  all_of Done = []
  all_of (Then first others) = all_in first ++ all_of others

  pub all_other : Otherwise → List Action
  all_other Without = []
  all_other (With body) = all_of body

  pub all_branches : Branches → List Action
  all_branches NoBranch = []
  all_branches (Branch labels body others) = all_of body ++ all_branches others

-- the statements of a process
abbrev pub statements : Doing → List Action
statements (Assign target value) = []
statements (Comb list body) = all_of body
statements (Edge' events body) = all_of body

-- the computed index of a selection
abbrev pub index_of : Selection → List Tree
index_of (part.BitBy low index) = index ∷ []
index_of _ = []

abbrev pub indices : List Piece → List Tree
indices target = flat_map (λ piece. index_of piece.selection) target

-- the expressions that stand in a statement itself, without labels
abbrev pub own_trees : Action → List Tree
own_trees (Set target value delayed spot) = value ∷ indices target
own_trees (If test taken other spot) = test ∷ []
own_trees (Case kind full parallel selector branches fallback spot) = selector ∷ []
own_trees (Block body) = []

-- the labels of a statement
abbrev pub own_labels : Action → List Tree
own_labels (Case kind full parallel selector branches fallback spot) = labels_of branches
own_labels _ = []

-- the items of a sensitivity list
abbrev pub items_of : Doing → List Watched
items_of (Assign target value) = []
items_of (Comb None body) = []
items_of (Comb (Some items) body) = items
items_of (Edge' events body) = events

-- the targets of the assignments of a process
abbrev pub own_pieces : Action → List Piece
own_pieces (Set target value delayed spot) = target
own_pieces _ = []

abbrev pub pieces : Doing → List Piece
pieces (Assign target value) = target
pieces (Comb list body) = flat_map own_pieces (all_of body)
pieces (Edge' events body) = flat_map own_pieces (all_of body)

-- the expressions of a body outside labels
abbrev pub body_trees : Actions → List Tree
body_trees body = flat_map own_trees (all_of body)

-- the expressions of a process outside labels and its list
abbrev pub read_trees : Doing → List Tree
read_trees (Assign target value) = value ∷ indices target
read_trees (Comb list body) = body_trees body
read_trees (Edge' events body) = body_trees body

-- the expressions of a process outside labels
abbrev pub trees : Doing → List Tree
trees does =
    flat_map (λ item. index_of item.selection) (items_of does) ++ read_trees does

-- the labels of a process
abbrev pub labels : Doing → List Tree
labels does = flat_map own_labels (statements does)

-- ---- literals

abbrev pub spot_if : Bool → Spot → Option Spot
spot_if true spot = Some spot
spot_if false spot = None

abbrev pub is_x : Bit → Bool
is_x bit.Zero = false
is_x bit.One = false
is_x bit.X = true
is_x bit.Z = false

abbrev pub is_z : Bit → Bool
is_z bit.Zero = false
is_z bit.One = false
is_z bit.X = false
is_z bit.Z = true

-- whether an expression is a literal with a bit of which a test holds
abbrev pub is_literal_with : (Bit → Bool) → Tree → Bool
is_literal_with test (Sized width signed spot (Literal bits)) = list_any test bits
is_literal_with test _ = false

-- whether an expression is one literal
abbrev pub is_one_literal : Tree → Bool
is_one_literal (Sized width signed spot (Literal bits)) = true
is_one_literal _ = false

-- the expressions of a process whose literals stand for numbers: all but labels that are one literal each, which a case
-- compares in its own way
abbrev pub valued_trees : Doing → List Tree
valued_trees does = trees does ++ filter (λ label. not (is_one_literal label)) (labels does)

-- where such literals stand in a process, but for labels that are one
abbrev pub literal_places : (Bit → Bool) → At Doing → List Spot
literal_places test site =
    filter_map (λ node. spot_if (is_literal_with test node) (place_of site.task.spot node)) (flat_map nodes (valued_trees site.it))

-- whether a process has such a literal
abbrev pub has_literal : (Bit → Bool) → Doing → Bool
has_literal test does = list_any (is_literal_with test) (flat_map nodes (valued_trees does))
