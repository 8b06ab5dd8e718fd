-- The numbers with which a simulation of a netlist begins, before anything is worked out (IEEE 1364.1-2002 section 5.2).
-- Worked examples: crates/tests_rows/stdin.
use Rattle.std.specs.Prelude.{◌≡◌, ℕ, ◌<◌, true, false, cond, List, length, map, slice_index}
use Rattle.rtl_bits.specs.declared.Bit.{Bit}
use Rattle.rtl_bits.specs.Bits.{has_unknown}
use Rattle.rtl_flat.specs.Value.{store}
use Rattle.event_model.specs.Queue.{is_input}
use Rattle.rtl_flat.specs.Flats.{Flat, widths}
use Rattle.event_model.specs.Writes.{Values}
use Rattle.net_model.specs.declared.fill.Fill.{Fill}
use Rattle.net_model.specs.Numbers.{AreNumbers, bit, fill_bit}
use Rattle.check_found.specs.rtl_scan.Arrows.{Among}
use Rattle.net_start.specs.Stored.{is_kept}

-- a value of its width for each of some signals, where `Are` says which these are
pub record AreValues (d : Flat) (Are : List ℕ → Type 0) (values : List (List Bit)) : Type 0 where
  pub signals : List ℕ
  pub are : Are signals
  pub wide : map length values ≡ map (widths d) signals

-- ---- unknown bits

-- no value has one
abbrev pub AreKnown : List (List Bit) → Type 0
AreKnown values = (j : ℕ) → j < length values → has_unknown (store values j) ≡ false

-- the place of the first value that has one
pub record IsFirstUnknown (values : List (List Bit)) (place : ℕ) : Type 0 where
  pub there : place < length values
  pub unknown : has_unknown (store values place) ≡ true
  pub before : (j : ℕ) → j < place → has_unknown (store values j) ≡ false

-- ---- the start

-- registers, latches and inputs as they are given, all else with the fill. A bit that no process keeps takes nothing from
-- the value of its register or latch
pub record IsStart (d : Flat) (f : Fill) (stored : List ℕ) (registers : List (List Bit)) (tops : List ℕ) (inputs : List (List Bit)) (start : Values) : Type 0 where
  pub numbers : AreNumbers d start
  pub registers_are :
      (j : ℕ) → j < length stored → (k : ℕ) → k < widths d (slice_index stored j) →
      bit start (slice_index stored j) k ≡ cond (is_kept d (slice_index stored j) k) (bit (store registers) j k) (fill_bit f)
  pub inputs_are :
      (j : ℕ) → j < length tops → start (slice_index tops j) ≡ store inputs j
  pub others :
      (i k : ℕ) → k < widths d i → is_input d i ≡ false → (Among stored i → ⊥) →
      bit start i k ≡ fill_bit f
