-- It serves inner contracts and proofs; no answer of the program is stated by it.
-- What a turn makes of the numbers of signals, and what a simulation begins with.
use Rattle.std.specs.Prelude.{◌≡◌, ℕ, ◌<◌, false, List, Some, IsTrue}
use Rattle.rtl_flat.specs.Flows.{body_flow}
use Rattle.rtl_flat.specs.Paths.{MayWrite}
use Rattle.rtl_flat.specs.PathSets.{OfProcess}
use Rattle.rtl_flat.specs.Process.{Actions, Edge', Watched}
use Rattle.event_model.specs.Queue.{doing_at, is_input}
use Rattle.rtl_flat.specs.Flats.{Flat, widths}
use Rattle.event_model.specs.Writes.{Values}
use Rattle.net_model.specs.declared.fill.Fill.{Fill}
use Rattle.net_model.specs.Cycle.{Chain, IsCycle, Setting, Turn, reset_bit, strongest}
use Rattle.net_model.specs.Numbers.{bit, fill_bit}
use Rattle.net_model.specs.Solution.{IsSolution}
use Rattle.net_list.specs.declared.clocked.Clocked.{Clocked}
use Rattle.net_turn.specs.Sources.{AreSources}

-- from a solution to the numbers after the step, which are a solution again
pub record Turns (d : Flat) (f : Fill) (all : List Clocked) (old : Values) (setting : Setting) (new : Values) : Type 0 where
  pub cycle :
      (chains : ℕ → Chain) (held : Values) → AreSources d chains all → IsSolution d f held old old →
      IsCycle d chains f old (Turn setting) new

-- bits that no process may write have the fill
abbrev pub AreFilled : Flat → Fill → Values → Type 0
AreFilled d f n =
    (i k : ℕ) → k < widths d i → is_input d i ≡ false →
    ((p : ℕ) → OfProcess MayWrite d.signals d.tasks p i k → ⊥) → bit n i k ≡ fill_bit f

-- numbers that are given make a solution, in which a register under an active reset has that reset's constant
pub record IsBegun (d : Flat) (chains : ℕ → Chain) (f : Fill) (u new : Values) : Type 0 where
  pub given : Values
  pub solution : IsSolution d f u given new
  pub inputs : (i : ℕ) → IsTrue (is_input d i) → given i ≡ u i
  pub registers :
      (p : ℕ) (events : List Watched) (body : Actions) → doing_at d p ≡ Some (Edge' events body) →
      (i k : ℕ) → MayWrite (body_flow (widths d) body) i k →
      bit given i k ≡ reset_bit (widths d) f u (strongest new (chains p).resets) (bit u i k) i k

pub record Begins (d : Flat) (f : Fill) (all : List Clocked) (u new : Values) : Type 0 where
  pub begun : (chains : ℕ → Chain) → AreSources d chains all → AreFilled d f u → IsBegun d chains f u new
