-- The steps of processes: which bits each statement reads and writes, and where its control parts.
-- Worked examples: crates/tests_layers/stdin.
use Rattle.std.specs.Prelude.{ℕ, zero, suc, ℤ, pos, negsuc, ◌+◌, ◌^◌, Bool, true, false, ◌&&◌, ◌||◌, ◌==◌, nat_lt, nat_le, List, [], ◌∷◌, ◌++◌, length, Option, Some, None}
use Rattle.std.specs.List.{list_any, list_all}
use Rattle.rtl_bits.specs.declared.Bit.{Bit}
use Rattle.rtl_bits.specs.Bit.{is_unknown}
use Rattle.rtl_bits.specs.Bits.{same_bit, bits_of, extended}
use Rattle.rtl_bits.specs.declared.Bit.TheVariants as bit
use Rattle.rtl_flat.specs.declared.act.CaseKind.{CaseKind}
use Rattle.rtl_flat.specs.declared.act.CaseKind.TheVariants.{Plain, Z, X}
use Rattle.rtl_flat.specs.Expression.{Tree, Sized, Literal, Turned, Joined, Compared, Linked, Folded, Shifted, Chosen, Empty, Beside, Repeated, Recast}
use Rattle.rtl_flat.specs.Expression as tree
use Rattle.rtl_flat.specs.Sizes.{width_of}
use Rattle.rtl_flat.specs.Labels.{label_matches}
use Rattle.rtl_flat.specs.Process.{Selection, Piece, Watched, Action, Set, If, Case, Block, Actions, Done, Then, Otherwise, Without, With, Branches, NoBranch, Branch, Doing, Assign, Comb, Edge'}
use Rattle.rtl_flat.specs.Process as part
use Rattle.rtl_flat.specs.Paths.{BitSet, no_bit, either, Read, Write, Flow, End, Do, Fork, Ways, Last, More}

-- ---- bits of signals

-- the bits that a signal has from place `low` on and below `high`, counted from the least significant
abbrev pub span : (ℕ → ℕ) → ℕ → ℕ → ℕ → BitSet
span ws signal low high s k =
    (s == signal) && (nat_le low k && (nat_lt k high && nat_lt k (ws signal)))

-- whether an index means bit k where the declaration numbers the lowest bit `low`
abbrev pub is_place : ℕ → ℤ → ℕ → Bool
is_place low (pos index) k = low + k == index
is_place low (negsuc index) k = false

-- the bit that an index selects; none where the signal has no such bit (IEEE 1364-2001 section 4.2.1)
abbrev pub bit_at : (ℕ → ℕ) → ℕ → ℕ → ℤ → BitSet
bit_at ws signal low index s k =
    (s == signal) && (nat_lt k (ws signal) && is_place low index k)

abbrev pub all_bits : (ℕ → ℕ) → ℕ → BitSet
all_bits ws signal = span ws signal 0 (ws signal)

-- ---- expressions

-- the bits that an expression reads; where an index is computed, it may read all of its signal
abbrev pub reads : (ℕ → ℕ) → Tree → BitSet
reads ws (Sized width signed spot e) = reads ws e
reads ws (Literal bits) = no_bit
reads ws (tree.Whole signal) = all_bits ws signal
reads ws (tree.BitAt signal low index) = bit_at ws signal low index
reads ws (tree.BitBy signal low signed index) = either (reads ws index) (all_bits ws signal)
reads ws (tree.Part signal low width) = span ws signal low (low + width)
reads ws (Turned operator a) = reads ws a
reads ws (Joined operator signed a b) = either (reads ws a) (reads ws b)
reads ws (Compared operator signed a b) = either (reads ws a) (reads ws b)
reads ws (Linked operator a b) = either (reads ws a) (reads ws b)
reads ws (Folded operator a) = reads ws a
reads ws (Shifted operator signed a amount) = either (reads ws a) (reads ws amount)
reads ws (Chosen c a b) = either (reads ws c) (either (reads ws a) (reads ws b))
reads ws Empty = no_bit
reads ws (Beside a others) = either (reads ws a) (reads ws others)
reads ws (Repeated times a) = reads ws a
reads ws (Recast a) = reads ws a

-- the bits that some expressions read
abbrev pub reads_all : (ℕ → ℕ) → List Tree → BitSet
reads_all ws [] = no_bit
reads_all ws (e ∷ others) = either (reads ws e) (reads_all ws others)

-- ---- targets and lists

-- the bits that may be meant
abbrev pub may_select : (ℕ → ℕ) → ℕ → Selection → BitSet
may_select ws signal part.Whole = all_bits ws signal
may_select ws signal (part.BitAt low index) = bit_at ws signal low index
may_select ws signal (part.BitBy low index) = all_bits ws signal
may_select ws signal (part.Part low width) = span ws signal low (low + width)

-- the bits that are meant whatever an index is
abbrev pub selects : (ℕ → ℕ) → ℕ → Selection → BitSet
selects ws signal part.Whole = all_bits ws signal
selects ws signal (part.BitAt low index) = bit_at ws signal low index
selects ws signal (part.BitBy low index) = no_bit
selects ws signal (part.Part low width) = span ws signal low (low + width)

-- the bits that the index reads
abbrev pub index_reads : (ℕ → ℕ) → Selection → BitSet
index_reads ws part.Whole = no_bit
index_reads ws (part.BitAt low index) = no_bit
index_reads ws (part.BitBy low index) = reads ws index
index_reads ws (part.Part low width) = no_bit

-- the bits that an assignment may write
abbrev pub may_target : (ℕ → ℕ) → List Piece → BitSet
may_target ws [] = no_bit
may_target ws (piece ∷ others) =
    either (may_select ws piece.signal piece.selection) (may_target ws others)

-- the bits that it writes whatever its indices are
abbrev pub targets : (ℕ → ℕ) → List Piece → BitSet
targets ws [] = no_bit
targets ws (piece ∷ others) =
    either (selects ws piece.signal piece.selection) (targets ws others)

-- the bits that its indices read
abbrev pub target_reads : (ℕ → ℕ) → List Piece → BitSet
target_reads ws [] = no_bit
target_reads ws (piece ∷ others) =
    either (index_reads ws piece.selection) (target_reads ws others)

-- the bits that the indices of a sensitivity list read; `@*` has none
abbrev pub item_reads : (ℕ → ℕ) → List Watched → BitSet
item_reads ws [] = no_bit
item_reads ws (item ∷ others) = either (index_reads ws item.selection) (item_reads ws others)

abbrev pub list_reads : (ℕ → ℕ) → Option (List Watched) → BitSet
list_reads ws None = no_bit
list_reads ws (Some items) = item_reads ws items

-- ---- cases that are complete

-- whether a bit of a label matches any bit (IEEE 1364-2001 section 9.5.1)
abbrev pub is_wild : CaseKind → Bit → Bool
is_wild Plain b = false
is_wild Z b = same_bit b bit.Z
is_wild X b = is_unknown b

-- the bits of a label that is a literal
abbrev pub literal : Tree → List (List Bit)
literal (Sized width signed spot (Literal bits)) = bits ∷ []
literal _ = []

-- the literals among some labels
abbrev pub literals : List Tree → List (List Bit)
literals [] = []
literals (label ∷ others) = literal label ++ literals others

-- whether a literal matches a value of as many bits
abbrev pub literal_matches : CaseKind → List Bit → List Bit → Bool
literal_matches kind value bits = (length value == length bits) && label_matches kind value bits

-- whether a test holds of each number below a limit
unfoldable pub each_below : ℕ → (ℕ → Bool) → Bool
each_below zero test = true
each_below (suc n) test = test n && each_below n test

-- whether some literal matches each value of `own` bits, of which there are at most 16, extended to the width of the
-- widest label, which is that of some vector
abbrev pub cover : CaseKind → ℕ → ℕ → Bool → List (List Bit) → Bool
cover kind own width signed labels =
    nat_le 1 own
    && (nat_le own 16 && (nat_le own width && (nat_le width 128 && each_below (2 ^ own) (λ n. list_any (literal_matches kind (extended width signed (bits_of own n))) labels))))

-- whether some literal matches each value over which a selector ranges. An operand of an operator
-- that takes the width of its context ranges over that width; any other has its own bits, which the
-- widest label extends.
abbrev pub covers : (ℕ → ℕ) → CaseKind → Tree → List (List Bit) → Bool
covers ws kind (Sized width signed spot form) labels =
    cover kind (width_of ws form) width signed labels
covers ws kind _ labels = false

-- all labels of a case
abbrev pub labels_of : Branches → List Tree
labels_of NoBranch = []
labels_of (Branch labels body others) = labels ++ labels_of others

-- whether labels alone make a case complete: one is wild in every bit, or together they match every
-- value of a selector of few bits
abbrev pub complete_by_labels : (ℕ → ℕ) → CaseKind → Tree → Branches → Bool
complete_by_labels ws kind selector branches =
    list_any (list_all (is_wild kind)) (literals (labels_of branches)) || covers ws kind selector (literals (labels_of branches))

-- whether some item of a case without `default` surely runs: it says so by `full_case`, or by its
-- labels
abbrev pub is_complete : (ℕ → ℕ) → CaseKind → Bool → Tree → Branches → Bool
is_complete ws kind full selector branches =
    full || complete_by_labels ws kind selector branches

-- ---- statements

abbrev mutual
  -- a statement and what comes after it; the value and all indices are read before a bit is written,
  -- and the selector with all labels before an item runs
  pub action_then : (ℕ → ℕ) → Action → Flow → Flow
  action_then ws (Set target value delayed spot) rest =
      Do (Read (either (reads ws value) (target_reads ws target))) (Do (Write delayed (may_target ws target) (targets ws target)) rest)
  action_then ws (If test taken other spot) rest =
      Do (Read (reads ws test)) (Fork (More (other_flow ws other) (Last (actions_then ws taken End))) rest)
  action_then ws (Case kind full parallel selector branches fallback spot) rest =
      Do (Read (either (reads ws selector) (reads_all ws (labels_of branches)))) (Fork (ways ws (way_past ws (is_complete ws kind full selector branches) fallback) branches) rest)
  action_then ws (Block body) rest = actions_then ws body rest

  -- statements in order
  pub actions_then : (ℕ → ℕ) → Actions → Flow → Flow
  actions_then ws Done rest = rest
  actions_then ws (Then one others) rest = action_then ws one (actions_then ws others rest)

  -- a body that may be left out
  pub other_flow : (ℕ → ℕ) → Otherwise → Flow
  other_flow ws Without = End
  other_flow ws (With body) = actions_then ws body End

  -- the way of a case that takes none of its items, if there is one: its `default`, or where it isn't
  -- complete the way past all items
  pub way_past : (ℕ → ℕ) → Bool → Otherwise → Option Flow
  way_past ws complete (With body) = Some (actions_then ws body End)
  way_past ws false Without = Some End
  way_past ws true Without = None

  -- the ways of a case: one that takes no item, if there is one, and its items
  pub ways : (ℕ → ℕ) → Option Flow → Branches → Ways
  ways ws (Some way) NoBranch = Last way
  ways ws (Some way) (Branch labels body others) =
      More way (ways ws (Some (actions_then ws body End)) others)
  ways ws None NoBranch = Last End
  ways ws None (Branch labels body others) = ways ws (Some (actions_then ws body End)) others

-- the steps of a body
abbrev pub body_flow : (ℕ → ℕ) → Actions → Flow
body_flow ws body = actions_then ws body End

-- the steps of a process
abbrev pub flow_of : (ℕ → ℕ) → Doing → Flow
flow_of ws (Assign target value) =
    Do (Read (reads ws value)) (Do (Write false (may_target ws target) (targets ws target)) End)
flow_of ws (Comb list body) = body_flow ws body
flow_of ws (Edge' events body) = body_flow ws body
