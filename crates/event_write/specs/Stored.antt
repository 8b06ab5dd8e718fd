-- It serves inner contracts and proofs; no answer of the program is stated by it.
-- How the simulator keeps values.
use Rattle.std.specs.Prelude.{◌≡◌, ℕ, List, length}
use Rattle.rtl_bits.specs.declared.Bit.{Bit}
use Rattle.rtl_flat.specs.declared.signal.Signal.{Signal}
use Rattle.rtl_flat.specs.Signs.{width_in}
use Rattle.rtl_flat.specs.Value.{widths}
use Rattle.event_model.specs.Writes as model
use Rattle.event_write.specs.declared.spans.Span.{Span}

-- a value of its width for each signal
pub record AreStored (signals : List Signal) (values : List (List Bit)) : Type 0 where
  pub count : length signals ≡ length values
  pub each : (i : ℕ) → width_in signals i ≡ widths values i

abbrev pub span : Span → model.Span
span bits = record { at = bits.at; count = bits.count }

-- one bit, at a place
abbrev pub bit_span : ℕ → model.Span
bit_span k = record { at = k; count = 1 }
