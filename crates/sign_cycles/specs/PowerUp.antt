-- Bring-up: rounds from power-up that set every input.
use Rattle.std.specs.Prelude.{◌≡◌, ℕ, ◌<◌, true, false, List, [], ◌∷◌, Option, Some, IsTrue, ⊤}
use Rattle.rtl_bits.specs.Bit.{is_unknown}
use Rattle.rtl_bits.specs.Bits.{has_unknown}
use Rattle.rtl_flat.specs.PathSets.{listed}
use Rattle.rtl_flat.specs.Process.{Actions, Comb, Watched}
use Rattle.event_model.specs.Queue.{State, IsAtRest, doing_at, is_input, power_up}
use Rattle.rtl_flat.specs.Flats.{Flat, widths}
use Rattle.event_model.specs.Writes.{Values}
use Rattle.net_model.specs.Numbers.{bit}
use Rattle.net_model.specs.Solution.{IsRegisterBit}
use Rattle.net_rest.specs.event_runs.Nets.{given_with}
use Rattle.net_rest.specs.Rest.{IsFromOutside, IsHeldBit}
use Rattle.sign_cycles.specs.Round.{IsRound, Round, after_round}

-- a block that others can wake: it lists a bit that changes by an input or by another process
pub record CanWake (d : Flat) (p : ℕ) (list : Option (List Watched)) (body : Actions) : Type 0 where
  pub signal : ℕ
  pub place : ℕ
  pub inside : place < widths d signal
  pub listed : listed (widths d) (Comb list body) signal place ≡ true
  pub source : IsFromOutside d p signal place

-- whether each block without edges can be woken
abbrev pub CanAllWake : Flat → Type 0
CanAllWake d =
    (p : ℕ) (list : Option (List Watched)) (body : Actions) →
    doing_at d p ≡ Some (Comb list body) → CanWake d p list body

-- ---- rounds from power-up

abbrev pub after_rounds : Flat → State → List Round → State
after_rounds d s [] = s
after_rounds d s (round ∷ rounds) = after_rounds d (after_round d s round) rounds

-- rounds that can be, one after another; they need not come to rest
abbrev pub AreRounds : Flat → State → List Round → Type 0
AreRounds d s [] = ⊤
AreRounds d s (round ∷ rounds) = IsRound d s round × AreRounds d (after_round d s round) rounds

-- what inputs are given in all
abbrev pub given_by : Values → List Round → Values
given_by given [] = given
given_by given (round ∷ rounds) = given_by (given_with given round.step) rounds

-- rounds from power-up that come to rest, with every input set, and every register and closed latch known
pub record IsBroughtUp (d : Flat) (rounds : List Round) : Type 0 where
  pub can : AreRounds d (power_up d) rounds
  pub rest : IsAtRest d (after_rounds d (power_up d) rounds)
  pub inputs : (i : ℕ) → IsTrue (is_input d i) → has_unknown (given_by (power_up d).value rounds i) ≡ false
  pub registers : (i k : ℕ) → IsRegisterBit d i k → is_unknown (bit (after_rounds d (power_up d) rounds).value i k) ≡ false
  pub latches :
      (i k : ℕ) → IsHeldBit d (given_by (power_up d).value rounds) i k →
      is_unknown (bit (after_rounds d (power_up d) rounds).value i k) ≡ false
