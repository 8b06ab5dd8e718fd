-- Numbers for a settled state whose registers and latches may be unknown: each choice of their digits has some.
use Rattle.std.specs.Prelude.{◌≡◌, ℕ, Bool, true, List, Some}
use Rattle.rtl_flat.specs.Flows.{body_flow}
use Rattle.rtl_flat.specs.Paths.{MayWrite}
use Rattle.rtl_flat.specs.Process.{Actions, Edge', Watched}
use Rattle.rtl_flat.specs.Flats.{Flat, widths}
use Rattle.event_model.specs.Queue.{State, doing_at}
use Rattle.event_model.specs.Traces.{Same}
use Rattle.event_model.specs.Writes.{Values}
use Rattle.net_model.specs.declared.fill.Fill.{Fill}
use Rattle.net_model.specs.Block.{block_bit}
use Rattle.net_model.specs.Cycle.{Chain, Guard, strongest}
use Rattle.net_model.specs.Numbers.{AreNumbers, bit}
use Rattle.net_model.specs.Solution.{IsLasting, IsRegisterBit}
use Rattle.sign_unknown.specs.net_covers.event_covers.Covers.{MayBe}
use Rattle.sign_unknown.specs.sign_cycles.net_rest.Rest.{IsHeldBit}
use Rattle.sign_unknown.specs.sign_cycles.Agree.{AreSame}
use Rattle.sign_unknown.specs.sign_cycles.Formed.{IsCleanClocked}
use Rattle.sign_unknown.specs.Laws.{AreStartMarks}
use Rattle.sign_unknown.specs.Unknown.{IsCompletion, IsSettledPartly}

-- digits that registers and closed latches of a state may have: what is known of them, any digits else, and the constants of
-- resets that are active
pub record IsChoice (d : Flat) (chains : ℕ → Chain) (f : Fill) (s : State) (r : Values) : Type 0 where
  pub numbers : AreNumbers d r
  pub registers : (i k : ℕ) → IsRegisterBit d i k → MayBe (bit s.value i k) (bit r i k)
  pub latches : (i k : ℕ) → IsHeldBit d s.value i k → MayBe (bit s.value i k) (bit r i k)
  pub resets :
      (p : ℕ) (events : List Watched) (body : Actions) → doing_at d p ≡ Some (Edge' events body) →
      (guard : Guard) → strongest s.value (chains p).resets ≡ Some guard →
      (i k : ℕ) → MayWrite (body_flow (widths d) body) i k → IsLasting d i →
      bit r i k ≡ block_bit (widths d) f r guard.branch i k

-- numbers of a state in which registers and closed latches have such digits. What a latch has that is open follows from them
pub record IsCompleted (d : Flat) (chains : ℕ → Chain) (f : Fill) (s : State) (r : Values) : Type 0 where
  pub numbers : Values
  pub completion : IsCompletion d chains f s numbers
  pub registers : (i k : ℕ) → IsRegisterBit d i k → Same numbers r i k
  pub latches : (i k : ℕ) → IsHeldBit d s.value i k → Same numbers r i k
  -- no others have these digits, but for temporaries
  pub alone :
      (other : Values) → IsCompletion d chains f s other →
      ((i k : ℕ) → IsRegisterBit d i k → Same other r i k) →
      ((i k : ℕ) → IsHeldBit d s.value i k → Same other r i k) →
      AreSame d numbers other

-- each choice for each settled state has numbers
abbrev pub Completes : Flat → (ℕ → Chain) → Fill → Type 0
Completes d chains f =
    (s : State) → IsSettledPartly d chains s → (r : Values) → IsChoice d chains f s r → IsCompleted d chains f s r

-- so it is in a clean design with marks
abbrev pub CompletesClean : Flat → (ℕ → Chain) → (ℕ → ℕ) → Type 0
CompletesClean d chains level =
    IsCleanClocked d chains level →
    (marked : ℕ → Bool) → AreStartMarks d chains (λ i. marked i ≡ true) → (f : Fill) → Completes d chains f

-- numbers of a settled state are such a choice themselves: what is asked of one is what they have
abbrev pub ChoicesAlone : Flat → (ℕ → Chain) → Type 0
ChoicesAlone d chains =
    (f : Fill) (s : State) → IsSettledPartly d chains s →
    (n : Values) → IsCompletion d chains f s n → IsChoice d chains f s n
