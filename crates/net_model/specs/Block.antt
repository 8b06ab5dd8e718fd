-- The function that synthesis makes of a body (IEEE 1364.1-2002 sections 5.1 to 5.3 and 6.1.1). Sensitivity lists do not
-- occur in it.
-- Worked examples: proofs/Examples.antt.
use Rattle.std.specs.Prelude.{ℕ, pos, ◌-ℤ◌, ◌-◌, Bool, false, not, ◌&&◌, ◌||◌, cond, if◌then◌else◌, List, [], ◌∷◌, ◌++◌, map, length, Option, Some, None, unwrap_or}
use Rattle.std.specs.List.{list_any, slice_index_or}
use Rattle.rtl_bits.specs.declared.Bit.{Bit}
use Rattle.rtl_bits.specs.declared.Bit.TheVariants.{Zero, X}
use Rattle.rtl_bits.specs.Bit.{is_one, or_bit}
use Rattle.rtl_bits.specs.Bits.{reduced, selected, tabulate, truth_bit}
use Rattle.rtl_flat.specs.declared.act.CaseKind.{CaseKind}
use Rattle.rtl_flat.specs.Expression.{Tree}
use Rattle.rtl_flat.specs.Flows.{action_then}
use Rattle.rtl_flat.specs.Paths.{BitSet, End, either, may_write_blocking, may_write_delayed, no_bit}
use Rattle.rtl_flat.specs.Process.{Selection, Whole, BitAt, BitBy, Part, Piece, Action, Set, If, Case, Block, Actions, Done, Then, Otherwise, Without, With, Branches, NoBranch, Branch}
use Rattle.rtl_flat.specs.Signs.{sign_of}
use Rattle.rtl_flat.specs.Value.{index_number}
use Rattle.event_model.specs.Traces.{covers}
use Rattle.event_model.specs.Writes.{Values, Write, Span, bit_inside, count_of, counts, write_at, written}
use Rattle.net_model.specs.declared.fill.Fill.{Fill}
use Rattle.net_model.specs.Numbers.{bit, digits, fill_bit, label_meets}

-- ---- targets

-- the bits that are selected of a signal, where there are any: an index that is outside selects none
abbrev pub span_by : (ℕ → ℕ) → Fill → Values → ℕ → Selection → Option Span
span_by ws f n signal Whole = Some (record { at = 0; count = ws signal })
span_by ws f n signal (BitAt low index) = bit_inside (ws signal) (index -ℤ pos low)
span_by ws f n signal (BitBy low index) =
    bit_inside (ws signal) (index_number (sign_of index) (digits f n index) -ℤ pos low)
span_by ws f n signal (Part low width) = Some (record { at = low; count = width })

-- the writes of a number to a target, part by part from the left; all indices have their numbers from before the first
abbrev pub digit_writes : (ℕ → ℕ) → Fill → Values → List Piece → List Bit → List Write
digit_writes ws f n [] bits = []
digit_writes ws f n (piece ∷ others) bits =
    let part = selected (counts ws others) (count_of ws piece.signal piece.selection) bits in
    write_at piece.signal (span_by ws f n piece.signal piece.selection) part ++ digit_writes ws f n others bits

-- ---- the two maps

-- what a body works on
pub record Maps : Type 0 where
  -- the digits that reads take
  pub now : Values
  -- the digit that a nonblocking assignment gave to a bit, for the end
  pub next : ℕ → ℕ → Option Bit
  -- the bits that were written since the body began, or the arm of a case that runs
  pub wrote : BitSet
  -- those of them that were written by nonblocking assignments
  pub late : BitSet

-- with nothing written
abbrev pub fresh : Maps → Maps
fresh m = record m { wrote = no_bit; late = no_bit }

-- where a body begins
abbrev pub first_maps : Values → Maps
first_maps n = record { now = n; next = λ i k. None; wrote = no_bit; late = no_bit }

-- a bit's digit at the end
abbrev pub bit_after : Maps → ℕ → ℕ → Bit
bit_after m i k = unwrap_or (m.next i k) (bit m.now i k)

-- a write by a blocking assignment
abbrev pub write_now : Maps → Write → Maps
write_now m w =
    record m { now = written m.now w; wrote = either (λ i k. covers i k w) m.wrote }

-- a write by a nonblocking one
abbrev pub next_after : (ℕ → ℕ → Option Bit) → Write → ℕ → ℕ → Option Bit
next_after next w i k = cond (covers i k w) (Some (slice_index_or w.bits (k - w.at) X)) (next i k)

abbrev pub write_next : Maps → Write → Maps
write_next m w =
    record m {
      next = next_after m.next w;
      wrote = either (λ i k. covers i k w) m.wrote;
      late = either (λ i k. covers i k w) m.late;
    }

-- the writes of one assignment in their order
abbrev pub write_each : Bool → Maps → List Write → Maps
write_each delayed m [] = m
write_each delayed m (w ∷ others) =
    write_each delayed (cond delayed (write_next m w) (write_now m w)) others

-- ---- cases

-- values in which some bits have other digits
abbrev pub with_bits : Values → BitSet → (ℕ → ℕ → Bit) → Values
with_bits n bits new i = tabulate (length (n i)) (λ k. cond (bits i k) (new i k) (bit n i k))

-- a case without a matching item that says by `full_case` that there is one (section 6.1.1): what it may write has the
-- fill, in the way in which the case writes it
abbrev pub filled_case : Fill → BitSet → BitSet → Maps → Maps
filled_case f may_now may_late m =
    record {
      now = with_bits m.now may_now (λ i k. fill_bit f);
      next = λ i k. cond (may_late i k) (Some (fill_bit f)) (m.next i k);
      wrote = either (either may_now may_late) m.wrote;
      late = either may_late m.late;
    }

-- a bit after the arms that match, which run side by side: what they make of it, by OR
abbrev pub arm_bits : List Maps → ℕ → ℕ → Bit
arm_bits arms i k = reduced or_bit Zero (map (λ arm. bit_after arm i k) arms)

abbrev pub arms_write : List Maps → BitSet
arms_write arms i k = list_any (λ arm. arm.wrote i k) arms

abbrev pub arms_late : List Maps → BitSet
arms_late arms i k = list_any (λ arm. arm.late i k) arms

-- a case that says by `parallel_case` that one item matches (section 6.1.1): each bit that an arm writes has what they
-- make of it together, at the end where one of them writes it then
abbrev pub joined_arms : Maps → List Maps → Maps
joined_arms m arms =
    record {
      now = with_bits m.now (λ i k. arms_write arms i k && not (arms_late arms i k)) (arm_bits arms);
      next = λ i k. cond (arms_late arms i k) (Some (arm_bits arms i k)) (m.next i k);
      wrote = either (arms_write arms) m.wrote;
      late = either (arms_late arms) m.late;
    }

-- whether some label of an item matches
abbrev pub some_meets : Fill → Values → CaseKind → List Bit → List Tree → Bool
some_meets f n kind bits labels = list_any (label_meets f n kind bits) labels

-- whether some item has a label that matches
abbrev pub item_meets : Fill → Values → CaseKind → List Bit → Branches → Bool
item_meets f n kind bits NoBranch = false
item_meets f n kind bits (Branch labels body others) =
    some_meets f n kind bits labels || item_meets f n kind bits others

-- ---- statements

abbrev mutual
  -- what a statement makes of the maps. `if` takes its branch where the number of its condition isn't 0; a case takes the
  -- first item with a label that matches, or else its `default`
  pub act : (ℕ → ℕ) → Fill → Maps → Action → Maps
  act ws f m (Set target e delayed spot) =
      write_each delayed m (digit_writes ws f m.now target (digits f m.now e))
  act ws f m (If test taken other spot) =
      if is_one (truth_bit (digits f m.now test)) then acts ws f m taken
      else act_other ws f m m other
  act ws f m (Case kind full parallel selector branches fallback spot) =
      let bits = digits f m.now selector in
      let flow = action_then ws (Case kind full parallel selector branches fallback spot) End in
      let past = cond full (filled_case f (may_write_blocking flow) (may_write_delayed flow) m) m in
      if parallel && item_meets f m.now kind bits branches then joined_arms m (act_arms ws f m kind bits branches)
      else act_first ws f m kind bits (act_other ws f m past fallback) branches
  act ws f m (Block body) = acts ws f m body

  -- statements in order
  pub acts : (ℕ → ℕ) → Fill → Maps → Actions → Maps
  acts ws f m Done = m
  acts ws f m (Then first others) = acts ws f (act ws f m first) others

  -- a body that may be left out, where `past` is made without it
  pub act_other : (ℕ → ℕ) → Fill → Maps → Maps → Otherwise → Maps
  act_other ws f m past Without = past
  act_other ws f m past (With body) = acts ws f m body

  -- the items of a case, where `none` is made if none matches
  pub act_first : (ℕ → ℕ) → Fill → Maps → CaseKind → List Bit → Maps → Branches → Maps
  act_first ws f m kind bits none NoBranch = none
  act_first ws f m kind bits none (Branch labels body others) =
      if some_meets f m.now kind bits labels then acts ws f m body
      else act_first ws f m kind bits none others

  -- every item that matches, each from the maps before the case
  pub act_arms : (ℕ → ℕ) → Fill → Maps → CaseKind → List Bit → Branches → List Maps
  act_arms ws f m kind bits NoBranch = []
  act_arms ws f m kind bits (Branch labels body others) =
      if some_meets f m.now kind bits labels then acts ws f (fresh m) body ∷ act_arms ws f m kind bits others
      else act_arms ws f m kind bits others

-- the function of a body: the digit that it gives to a bit from given numbers
abbrev pub block_bit : (ℕ → ℕ) → Fill → Values → Actions → ℕ → ℕ → Bit
block_bit ws f n body i k = bit_after (acts ws f (first_maps n) body) i k
