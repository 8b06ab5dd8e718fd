-- Where a bring-up is lacking: one input is an asynchronous reset that is active at 1 for one process, and at 0 for another
-- (IEEE 1364.1-2002 section 5.2).
-- Worked examples: proofs/LackingExample.antt.
use Rattle.std.specs.Prelude.{◌≡◌, ◌⊎◌, ℕ, List, [], ◌∷◌, Some, IsTrue}
use Rattle.rtl_bits.specs.declared.Bit.{Bit}
use Rattle.rtl_bits.specs.declared.Bit.TheVariants.{Zero, One}
use Rattle.rtl_flat.specs.Process.{Watched, Actions, Edge'}
use Rattle.event_model.specs.Queue.{doing_at, is_input}
use Rattle.rtl_flat.specs.Flats.{Flat}
use Rattle.net_model.specs.Control.{IsReached}
use Rattle.net_model.specs.Cycle.{Chain, Guard, Setting, level}
use Rattle.net_model.specs.Gates.{IsGateInput}
use Rattle.sign_cycles.specs.BringUp.{IsBringUp}

-- an input is the one reset of a process, through the ports of instances, and active at a level
pub record IsResetAt (d : Flat) (chains : ℕ → Chain) (c : ℕ) (active : Bit) : Type 0 where
  pub process : ℕ
  pub events : List Watched
  pub body : Actions
  pub does : doing_at d process ≡ Some (Edge' events body)
  pub guard : Guard
  pub only : (chains process).resets ≡ guard ∷ []
  pub reached : IsReached d c guard.item.signal
  pub at : level guard.item.edge ≡ active

-- some input resets one process at 1 and another at 0, so that it never resets both
pub record ResetsApart (d : Flat) (chains : ℕ → Chain) : Type 0 where
  pub input : ℕ
  pub is : IsTrue (is_input d input)
  pub up : IsResetAt d chains input One
  pub down : IsResetAt d chains input Zero

-- it is decided which inputs are gates of latches
abbrev pub AreGatesDecided : Flat → Type 0
AreGatesDecided d = (c : ℕ) → IsGateInput d c ⊎ (IsGateInput d c → ⊥)

-- there is a bring-up or there is such an input, and not both
pub record BringUpsAre (d : Flat) (chains : ℕ → Chain) : Type 0 where
  pub one : ((steps : List (List Setting)) × IsBringUp d chains steps) ⊎ ResetsApart d chains
  pub not_both : ResetsApart d chains → (steps : List (List Setting)) → IsBringUp d chains steps → ⊥
