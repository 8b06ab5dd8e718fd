-- Agreement: after each step of a clock, of a reset, of a latch's gate or of data, every run of the event queue that comes to
-- rest shows the synthesised numbers on outputs, and on all else that is no temporary.
-- Worked examples: proofs/Register.antt, proofs/LatchExample.antt, crates/sign_off/proofs/Example.antt.
use Rattle.std.specs.Prelude.{◌≡◌, ◌⊎◌, ℕ, ◌<◌, true, false, List, [], ◌∷◌, length, map, Some}
use Rattle.rtl_bits.specs.Bit.{is_unknown}
use Rattle.rtl_flat.specs.Expression.{Tree}
use Rattle.rtl_flat.specs.Flows.{body_flow}
use Rattle.rtl_flat.specs.Paths.{MayWrite}
use Rattle.rtl_flat.specs.Process.{Piece, Watched, Actions, Assign, Edge'}
use Rattle.rtl_flat.specs.Signs.{Has}
use Rattle.rtl_flat.specs.Value.{value}
use Rattle.event_model.specs.Queue.{State, IsAtRest, Reaches, doing_at, offer}
use Rattle.rtl_flat.specs.Flats.{Flat, widths}
use Rattle.event_model.specs.Writes.{Values}
use Rattle.net_model.specs.declared.fill.Fill.{Fill}
use Rattle.net_model.specs.Block.{block_bit}
use Rattle.net_model.specs.Cycle.{Chain, Guard, IsCycle, Setting, Step, settings, strongest}
use Rattle.net_model.specs.Lawful.{AreLawfulSteps}
use Rattle.net_model.specs.Numbers.{bit}
use Rattle.net_model.specs.Solution.{IsLasting, IsSolution}

-- ---- states beside numbers

-- a bit is known, and the number's
pub record Shows (s : State) (n : Values) (i k : ℕ) : Type 0 where
  pub known : is_unknown (bit s.value i k) ≡ false
  pub same : bit s.value i k ≡ bit n i k

-- a register whose reset is active has the constant of the strongest one (IEEE 1364.1-2002 section 5.2)
abbrev pub AreReset : Flat → (ℕ → Chain) → Fill → Values → Type 0
AreReset d chains f n =
    (p : ℕ) (events : List Watched) (body : Actions) → doing_at d p ≡ Some (Edge' events body) →
    (guard : Guard) → strongest n (chains p).resets ≡ Some guard →
    (i k : ℕ) → MayWrite (body_flow (widths d) body) i k → IsLasting d i →
    bit n i k ≡ block_bit (widths d) f n guard.branch i k

-- a settled state whose values are known, with its numbers, where `chains` are the resets and the clocks of processes.
-- Temporaries may have any values
pub record IsSettledKnown (d : Flat) (chains : ℕ → Chain) (f : Fill) (s : State) (n : Values) : Type 0 where
  -- no event is left
  pub rest : IsAtRest d s
  pub wide : (i : ℕ) → length (s.value i) ≡ widths d i
  pub shows : (i k : ℕ) → k < widths d i → IsLasting d i → Shows s n i k
  -- each driver has the value of its expression
  pub drivers :
      (p : ℕ) (target : List Piece) (e : Tree) → doing_at d p ≡ Some (Assign target e) → s.driver p ≡ value s.value e
  -- where nothing changes, latches and registers keep what they have
  pub solution : IsSolution d f n n n
  pub resets : AreReset d chains f n

-- ---- runs

-- the state in which inputs are offered what they are set to, all at once
abbrev pub after_offer : State → List Setting → State
after_offer s all = offer s (map (λ setting. (setting.input, setting.number)) all)

-- a state to which some run comes to rest after inputs were set, whichever event that is there is taken each time
pub record IsNext (d : Flat) (s : State) (all : List Setting) (t : State) : Type 0 where
  pub reaches : Reaches d (after_offer s all) t
  pub rest : IsAtRest d t

-- states each of which follows from the one before it
abbrev pub AreRuns : Flat → State → List (List Setting) → List State → Type 0
AreRuns d s [] [] = Unit {0}
AreRuns d s [] (t ∷ states) = ⊥
AreRuns d s (step ∷ steps) [] = ⊥
AreRuns d s (step ∷ steps) (t ∷ states) = IsNext d s step t × AreRuns d t steps states

-- ---- numbers

-- numbers that follow one another by steps
abbrev pub AreCycles : Flat → (ℕ → Chain) → Fill → Values → List Step → List Values → Type 0
AreCycles d chains f n [] [] = Unit {0}
AreCycles d chains f n [] (next ∷ numbers) = ⊥
AreCycles d chains f n (step ∷ steps) [] = ⊥
AreCycles d chains f n (step ∷ steps) (next ∷ numbers) =
    IsCycle d chains f n step next × AreCycles d chains f next steps numbers

-- whether numbers are the same, but for temporaries
abbrev pub AreSame : Flat → Values → Values → Type 0
AreSame d n m = (i k : ℕ) → IsLasting d i → bit n i k ≡ bit m i k

-- the same of lists of numbers
abbrev pub AreSameLists : Flat → List Values → List Values → Type 0
AreSameLists d [] [] = Unit {0}
AreSameLists d [] (m ∷ others) = ⊥
AreSameLists d (n ∷ numbers) [] = ⊥
AreSameLists d (n ∷ numbers) (m ∷ others) = AreSame d n m × AreSameLists d numbers others

-- ---- agreement

-- an output of the top module
abbrev pub IsOutput : Flat → ℕ → Type 0
IsOutput d i = Has (λ signal. signal.top_output ≡ true) d.signals i

-- a state shows numbers: each bit of each output does, and of each signal that is no temporary, registers, latches and
-- nets among them
abbrev pub ShowsAll : Flat → State → Values → Type 0
ShowsAll d s n = (i k : ℕ) → k < widths d i → IsOutput d i ⊎ IsLasting d i → Shows s n i k

-- each of the states shows its numbers
abbrev pub AllShow : Flat → List State → List Values → Type 0
AllShow d [] [] = Unit {0}
AllShow d [] (n ∷ numbers) = ⊥
AllShow d (s ∷ states) [] = ⊥
AllShow d (s ∷ states) (n ∷ numbers) = ShowsAll d s n × AllShow d states numbers

-- how states follow numbers: steps give one list of them, and the states show it
pub record AreFollowed (d : Flat) (chains : ℕ → Chain) (f : Fill) (n : Values) (steps : List Step) (states : List State) : Type 0 where
  pub numbers : List Values
  pub follow : AreCycles d chains f n steps numbers
  -- no others follow
  pub alone : (others : List Values) → AreCycles d chains f n steps others → AreSameLists d numbers others
  pub show : AllShow d states numbers

-- simulation agrees with synthesis: from every settled state of known values, over every list of lawful steps and all
-- states to which they lead
pub record Agree (d : Flat) (chains : ℕ → Chain) (f : Fill) : Type 0 where
  pub agrees :
      (s : State) (n : Values) → IsSettledKnown d chains f s n →
      (steps : List Step) → AreLawfulSteps d n steps →
      (states : List State) → AreRuns d s (map settings steps) states →
      AreFollowed d chains f n steps states
