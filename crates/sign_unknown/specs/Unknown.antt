-- Soundness where values are unknown: from every settled state in which inputs and registers with a reset are known, and all
-- other registers and latches hold anything, each bit that is known after a step is the synthesised number's, whatever numbers
-- the unknown bits are taken for.
-- Worked examples: proofs/Example.antt.
use Rattle.std.specs.Prelude.{◌≡◌, ◌≢◌, ◌⊎◌, ℕ, ◌<◌, true, false, List, [], ◌∷◌, length, map, Option, Some, IsTrue}
use Rattle.rtl_bits.specs.Bit.{is_unknown}
use Rattle.rtl_bits.specs.Bits.{has_unknown}
use Rattle.rtl_flat.specs.Expression.{Tree}
use Rattle.rtl_flat.specs.Flows.{may_target}
use Rattle.rtl_flat.specs.Process.{Piece, Watched, Actions, Assign, Comb}
use Rattle.rtl_flat.specs.Value.{value}
use Rattle.event_model.specs.Queue.{State, IsAtRest, doing_at, is_input}
use Rattle.rtl_flat.specs.Flats.{Flat, widths}
use Rattle.event_model.specs.Writes.{Values, driven}
use Rattle.net_model.specs.declared.fill.Fill.{Fill}
use Rattle.net_model.specs.Cycle.{Chain, Step, settings}
use Rattle.net_model.specs.Gates.{IsLatchBit}
use Rattle.net_model.specs.Lawful.{AreLawfulSteps}
use Rattle.net_model.specs.Numbers.{bit}
use Rattle.net_model.specs.Solution.{IsLasting, IsRegisterBit, IsSolution}
use Rattle.sign_cycles.specs.net_rest.event_runs.Plain.{IsConsistent}
use Rattle.net_covers.specs.event_covers.Covers.{MayBe}
use Rattle.sign_cycles.specs.Agree.{AreCycles, AreReset, AreRuns, AreSameLists, IsOutput}

-- ---- settled states

-- each process that may write bits of a signal as a register has an asynchronous reset
abbrev pub HasReset : Flat → (ℕ → Chain) → ℕ → Type 0
HasReset d chains i = (k : ℕ) (register : IsRegisterBit d i k) → (chains register.process).resets ≢ []

-- a state at rest in which each assignment and each block is up to date, and inputs and registers with a reset are known
pub record IsSettledPartly (d : Flat) (chains : ℕ → Chain) (s : State) : Type 0 where
  pub rest : IsAtRest d s
  pub wide : (i : ℕ) → length (s.value i) ≡ widths d i
  pub inputs : (i : ℕ) → IsTrue (is_input d i) → has_unknown (s.value i) ≡ false
  pub registers : (i k : ℕ) → IsRegisterBit d i k → HasReset d chains i → is_unknown (bit s.value i k) ≡ false
  pub drivers :
      (p : ℕ) (target : List Piece) (e : Tree) → doing_at d p ≡ Some (Assign target e) → s.driver p ≡ value s.value e
  pub driven :
      (p : ℕ) (target : List Piece) (e : Tree) → doing_at d p ≡ Some (Assign target e) →
      (i k : ℕ) → may_target (widths d) target i k ≡ true →
      bit s.value i k ≡ bit (driven (widths d) target (value s.value e)) i k
  pub consistent :
      (p : ℕ) (list : Option (List Watched)) (body : Actions) → doing_at d p ≡ Some (Comb list body) →
      IsConsistent d s.value body

-- numbers that it may have: its inputs; for each register and each latch what it has, or any digit where that is unknown; and
-- for all else what synthesis makes of these
pub record IsCompletion (d : Flat) (chains : ℕ → Chain) (f : Fill) (s : State) (n : Values) : Type 0 where
  pub inputs : (i : ℕ) → IsTrue (is_input d i) → s.value i ≡ n i
  pub registers : (i k : ℕ) → IsRegisterBit d i k ⊎ IsLatchBit d i k → MayBe (bit s.value i k) (bit n i k)
  pub solution : IsSolution d f n n n
  pub resets : AreReset d chains f n

-- ---- soundness

-- each known bit of each output, and of each signal that is no temporary, is the number's
abbrev pub ShowsKnown : Flat → State → Values → Type 0
ShowsKnown d s n =
    (i k : ℕ) → k < widths d i → IsOutput d i ⊎ IsLasting d i → MayBe (bit s.value i k) (bit n i k)

-- so it is in each of the states
abbrev pub AllShowKnown : Flat → List State → List Values → Type 0
AllShowKnown d [] [] = Unit {0}
AllShowKnown d [] (n ∷ numbers) = ⊥
AllShowKnown d (s ∷ states) [] = ⊥
AllShowKnown d (s ∷ states) (n ∷ numbers) = ShowsKnown d s n × AllShowKnown d states numbers

-- how states follow numbers: steps give one list of them, and what is known in the states is theirs
pub record AreFollowedPartly (d : Flat) (chains : ℕ → Chain) (f : Fill) (n : Values) (steps : List Step) (states : List State) : Type 0 where
  pub numbers : List Values
  pub follow : AreCycles d chains f n steps numbers
  -- no others follow
  pub alone : (others : List Values) → AreCycles d chains f n steps others → AreSameLists d numbers others
  pub show : AllShowKnown d states numbers

-- simulation is sound for synthesis: from every settled state, whatever numbers its unknown bits are taken for, over every list
-- of lawful steps and all states to which they lead
pub record IsSound (d : Flat) (chains : ℕ → Chain) (f : Fill) : Type 0 where
  pub sound :
      (s : State) → IsSettledPartly d chains s → (n : Values) → IsCompletion d chains f s n →
      (steps : List Step) → AreLawfulSteps d n steps →
      (states : List State) → AreRuns d s (map settings steps) states →
      AreFollowedPartly d chains f n steps states
