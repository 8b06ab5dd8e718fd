-- It serves inner contracts and proofs; no answer of the program is stated by it.
-- The sets by which the findings of each rule are found.
use Rattle.std.specs.Prelude.{ℕ, zero, suc, ◌==◌, ◌≡◌, Bool, true, false, not, ◌&&◌, ◌||◌, cond, bit_and, bit_or, bit_xor, List, [], ◌∷◌, ◌++◌, Option, Some}
use Rattle.std.specs.List.{find, list_any}
use Rattle.std.specs.BTreeMap.{BTreeMap}
use Rattle.rtl_flat.specs.declared.signal.Signal.{Signal}
use Rattle.rtl_flat.specs.Paths.{BitSet}
use Rattle.rtl_flat.specs.Process.{Watched, Doing, Comb, Task}
use Rattle.rtl_flat.specs.WellFormed.{has_edge}
use Rattle.event_model.specs.Queue.{is_input_kind}
use Rattle.rtl_rule.specs.declared.finding.Finding.{Finding}
use Rattle.rtl_rule.specs.Parts.{within, written}
use Rattle.rtl_flat.specs.Flats.{Flat}
use Rattle.check_found.specs.rtl_scan.declared.bits.Row.{Row}
use Rattle.check_found.specs.rtl_scan.Sets.{mask_of}
use Rattle.check_found.specs.Masks.{has_in, mask_in}
use Rattle.check_sense.specs.declared.waking.Writers.{Writers}
use Rattle.check_sense.specs.Sense.{sense_missing_at}

-- a process as its only site
abbrev pub itself : Doing → List Doing
itself does = does ∷ []

-- ---- lists that leave bits out

-- whether a process has a written list without an edge
abbrev pub has_items : Doing → Bool
has_items (Comb (Some items) body) = true
has_items _ = false

-- the bits of a row that some masks lack
abbrev pub left_of : BTreeMap ℕ ℕ → Row → ℕ
left_of masks row = bit_and row.mask (bit_xor row.mask (mask_of masks row.signal.0))

abbrev pub lacks : BTreeMap ℕ ℕ → Row → Bool
lacks masks row = not (left_of masks row == 0)

-- the findings at the rows with such a bit
abbrev pub lacking_in : Task → BTreeMap ℕ ℕ → List Row → List Finding
lacking_in task masks [] = []
lacking_in task masks (row ∷ rows) =
    cond (lacks masks row) (sense_missing_at (within (0, task) row.signal.0) ∷ []) [] ++ lacking_in task masks rows

-- ---- lists that nothing wakes

abbrev pub has_level_list : Doing → Bool
has_level_list (Comb list body) = true
has_level_list _ = false

-- whether the signal with a number is an input of the top module
abbrev pub top_at : List Signal → ℕ → Bool
top_at [] i = false
top_at (signal ∷ signals) zero = is_input_kind signal.kind
top_at (signal ∷ signals) (suc i) = top_at signals i

-- the bits of a row that are of a top input, or may be written by a process beside one that may write its own
abbrev pub waking_of : List Signal → Writers → BTreeMap ℕ ℕ → Row → ℕ
waking_of signals writers own row =
    cond (top_at signals row.signal.0) row.mask (bit_and row.mask (bit_or (mask_in writers.twice row.signal.0) (bit_and (mask_in writers.once row.signal.0) (bit_xor (mask_in writers.once row.signal.0) (mask_of own row.signal.0)))))

abbrev pub row_wakes : List Signal → Writers → BTreeMap ℕ ℕ → Row → Bool
row_wakes signals writers own row = not (waking_of signals writers own row == 0)

-- a process more that may write some bits
pub record GetsWriter (bits : BitSet) (old new : Writers) : Type 0 where
  pub once : (s k : ℕ) → has_in new.once s k ≡ (has_in old.once s k || bits s k)
  pub twice : (s k : ℕ) → has_in new.twice s k ≡ (has_in old.twice s k || (bits s k && has_in old.once s k))

-- whether some task may write a bit, and whether two of them may
abbrev pub some_write : Flat → List Task → BitSet
some_write d tasks s k = list_any (λ task. written d task.does s k) tasks

abbrev pub two_write : Flat → List Task → BitSet
two_write d [] s k = false
two_write d (task ∷ others) s k =
    (written d task.does s k && some_write d others s k) || two_write d others s k

-- the bits that one of some tasks at least may write, and those that two may
pub record AreWriters (d : Flat) (tasks : List Task) (writers : Writers) : Type 0 where
  pub once : (s k : ℕ) → has_in writers.once s k ≡ some_write d tasks s k
  pub twice : (s k : ℕ) → has_in writers.twice s k ≡ two_write d tasks s k

-- ---- lists with an edge

-- the first item without an edge
abbrev pub level_in : List Watched → Option Watched
level_in = find (λ item. not (has_edge item.edge))
