-- Steps of a design, from solution to solution.
use Rattle.std.specs.Prelude.{◌≡◌, ℕ, IsTrue}
use Rattle.rtl_flat.specs.Flows.{body_flow}
use Rattle.rtl_flat.specs.Paths.{MayWrite}
use Rattle.rtl_flat.specs.Process.{Actions, Edge', Watched}
use Rattle.std.specs.Prelude.{List, Some}
use Rattle.event_model.specs.Queue.{doing_at, is_input}
use Rattle.rtl_flat.specs.Flats.{Flat, widths}
use Rattle.event_model.specs.Writes.{Values}
use Rattle.net_model.specs.declared.fill.Fill.{Fill}
use Rattle.net_model.specs.Control.{IsBehind}
use Rattle.net_model.specs.Cycle.{Chain, IsCycle, Step, given_after, settings, stepped_bit}
use Rattle.net_model.specs.Numbers.{bit}
use Rattle.net_model.specs.Solution.{IsLasting, IsSolution}

-- in a solution what is behind a signal by links has its number
abbrev pub AreCarried : Flat → Type 0
AreCarried d =
    (f : Fill) (held given n : Values) → IsSolution d f held given n →
    (start j : ℕ) → IsBehind d start j → bit n j 0 ≡ bit n start 0

-- what is given after a step: inputs as they are set, and to each register bit what its process gives
pub record IsTaken (d : Flat) (chains : ℕ → Chain) (f : Fill) (old : Values) (step : Step) (given new : Values) : Type 0 where
  pub inputs : (i : ℕ) → IsTrue (is_input d i) → given i ≡ given_after old (settings step) i
  pub registers :
      (p : ℕ) (events : List Watched) (body : Actions) →
      doing_at d p ≡ Some (Edge' events body) →
      (i k : ℕ) → MayWrite (body_flow (widths d) body) i k → IsLasting d i →
      bit given i k ≡ stepped_bit (widths d) f old new (chains p) step i k

-- a solution for that has the numbers after the step
abbrev pub MakeCycles : Flat → Type 0
MakeCycles d =
    (chains : ℕ → Chain) (f : Fill) (old : Values) (step : Step) (given new : Values) →
    IsTaken d chains f old step given new → IsSolution d f old given new → IsCycle d chains f old step new
