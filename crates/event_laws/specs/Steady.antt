-- What every run of a lawful design keeps.
-- Worked examples: proofs/Example.antt.
use Rattle.std.specs.Prelude.{◌≡◌, ℕ, ◌+◌, ◌≤◌, false, List, length, Some, IsSome, IsTrue, unwrap_or}
use Rattle.std.specs.List.{slice_get, All}
use Rattle.rtl_bits.specs.declared.Bit.{Bit}
use Rattle.rtl_flat.specs.Expression.{Tree}
use Rattle.rtl_flat.specs.Process.{Piece, Doing, Assign}
use Rattle.rtl_flat.specs.Value.{value}
use Rattle.rtl_flat.specs.WellFormed.{IsProcess}
use Rattle.event_model.specs.Writes.{Values, Write}
use Rattle.event_model.specs.Queue.{State, doing_at, is_input}
use Rattle.rtl_flat.specs.Flats.{Flat, widths}

-- each process is lawful over the design's signals
abbrev pub AreLawful : Flat → Type 0
AreLawful d =
    (p : ℕ) (does : Doing) → doing_at d p ≡ Some does → IsProcess d.signals does

-- a write ends inside its signal
abbrev pub IsWithin : (ℕ → ℕ) → Write → Type 0
IsWithin ws w = w.at + length w.bits ≤ ws w.signal

-- what is still to be written ends inside its signal; what is offered to no input is never taken
pub record AreWithin (d : Flat) (s : State) : Type 0 where
  pub offered : (i : ℕ) (bits : List Bit) → IsTrue (is_input d i) → s.offered i ≡ Some bits → length bits ≤ widths d i
  pub activated : All (All (IsWithin (widths d))) s.activated
  pub delayed : All (All (IsWithin (widths d))) s.delayed

-- each signal's value has as many bits as the signal; where there is no signal there are no bits
abbrev pub HaveWidths : Flat → Values → Type 0
HaveWidths d v = (i : ℕ) → length (v i) ≡ widths d i

-- the same of signals alone, whatever values have where there is none
abbrev pub SignalsHaveWidths : Flat → Values → Type 0
SignalsHaveWidths d v = (i : ℕ) → IsSome (slice_get d.signals i) → length (v i) ≡ widths d i

-- each continuous assignment that waits has its value pending, or drives it with nothing pending
abbrev pub AreUpToDate : Flat → State → Type 0
AreUpToDate d s =
    (p : ℕ) (target : List Piece) (e : Tree) →
    doing_at d p ≡ Some (Assign target e) →
    s.woken p ≡ false → unwrap_or (s.pending p) (s.driver p) ≡ value s.value e

-- what every run keeps, of values with widths of one kind or the other
pub record IsSteadyIn (d : Flat) (Wide : Values → Type 0) (s : State) : Type 0 where
  pub within : AreWithin d s
  pub widths : Wide s.value
  pub up_to_date : AreUpToDate d s

-- what every run keeps
abbrev pub IsSteady : Flat → State → Type 0
IsSteady d s = IsSteadyIn d (HaveWidths d) s
