-- From known values to settled: wherever steps from power-up come to rest with every input, every register and every latch
-- known.
-- Worked examples: proofs/KnownExample.antt.
use Rattle.std.specs.Prelude.{◌≡◌, ◌≢◌, ℕ, false, List, [], IsTrue}
use Rattle.std.specs.List.{All}
use Rattle.rtl_bits.specs.Bit.{is_unknown}
use Rattle.rtl_bits.specs.Bits.{has_unknown}
use Rattle.event_model.specs.Queue.{State, is_input, power_up}
use Rattle.rtl_flat.specs.Flats.{Flat}
use Rattle.event_model.specs.Writes.{Values}
use Rattle.net_model.specs.declared.fill.Fill.{Fill}
use Rattle.net_model.specs.Cycle.{Chain, Setting}
use Rattle.net_model.specs.Gates.{IsLatchBit}
use Rattle.net_model.specs.Numbers.{bit}
use Rattle.net_model.specs.Solution.{IsRegisterBit}
use Rattle.sign_cycles.specs.PowerUp.{CanAllWake}
use Rattle.sign_cycles.specs.Agree.{AreRuns, IsSettledKnown}
use Rattle.sign_cycles.specs.BringUp.{SetsInput, last}
use Rattle.sign_cycles.specs.Formed.{IsCleanClocked}

-- no bit of an input and none of a register or a latch is x or z (IEEE 1364-2001 section 3.1). What nets and other variables
-- have isn't asked
pub record AreKnown (d : Flat) (v : Values) : Type 0 where
  pub inputs : (i : ℕ) → IsTrue (is_input d i) → has_unknown (v i) ≡ false
  pub registers : (i k : ℕ) → IsRegisterBit d i k → is_unknown (bit v i k) ≡ false
  pub latches : (i k : ℕ) → IsLatchBit d i k → is_unknown (bit v i k) ≡ false

-- steps from power-up set any inputs at once, clocks, resets and gates among them, at least one step. Where they come to rest
-- with inputs, registers and latches known the state is settled, in whichever order events were taken (section 5.4.2)
pub record KnownSettles (d : Flat) (chains : ℕ → Chain) (f : Fill) : Type 0 where
  pub settles :
      (steps : List (List Setting)) → steps ≢ [] → All (All (SetsInput d)) steps →
      (states : List State) → AreRuns d (power_up d) steps states →
      AreKnown d (last (power_up d) states).value →
      (n : Values) × IsSettledKnown d chains f (last (power_up d) states) n

-- so it is in a clean design in which each block without edges can be woken, whether its registers have resets or not
abbrev pub KnownSettlesClean : Flat → (ℕ → Chain) → (ℕ → ℕ) → Type 0
KnownSettlesClean d chains level =
    IsCleanClocked d chains level → CanAllWake d → (f : Fill) → KnownSettles d chains f
