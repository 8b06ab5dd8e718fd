-- The registers of a design: each process that waits for edges, with its clock and its resets (IEEE 1364.1-2002 section
-- 5.2.2).
use Rattle.std.specs.Prelude.{◌≡◌, ℕ, List, [], length, map, Option, Some, None}
use Rattle.std.specs.List.{All, enumerate_from, filter_map, slice_get}
use Rattle.std.specs.Option.{IsSomeAnd, unwrap_or}
use Rattle.rtl_bits.specs.declared.Edge.TheVariants.{No}
use Rattle.rtl_flat.specs.declared.expr.SigId.{SigId}
use Rattle.rtl_flat.specs.Process.{Whole, Done, Doing, Assign, Comb, Edge', Task}
use Rattle.net_model.specs.Cycle.{Chain, Guard}
use Rattle.rtl_flat.specs.Flats.{Flat}
use Rattle.chain_laws.specs.check_chains.Chains.{chain_of}
use Rattle.chain_laws.specs.check_chains.Views.{chain_view}
use Rattle.net_model.specs.Gates.{ComesFrom}
use Rattle.net_list.specs.declared.clocked.Clocked.{Clocked}

-- ---- chains of processes

-- what stands for the chain of a process that has none
abbrev pub no_chain : Chain
no_chain =
    record {
      resets = [];
      clock = record { signal = 0; selection = Whole; edge = No; spot = record { file = 0; at = 0 } };
      part = Done;
    }

abbrev pub chain_in : Flat → Option Task → Option Chain
chain_in d None = None
chain_in d (Some task) = chain_of d task.does

-- the chain of each process
abbrev pub chains_of : Flat → ℕ → Chain
chains_of d p = unwrap_or (chain_in d (slice_get d.tasks p)) no_chain

-- ---- registers

-- the numbers of the processes that wait for edges
abbrev pub number_of : ℕ → Doing → Option ℕ
number_of p (Assign target value) = None
number_of p (Comb list body) = None
number_of p (Edge' events body) = Some p

abbrev pub waiting_numbers : Flat → List ℕ
waiting_numbers d = filter_map (λ (one : ℕ × Task). number_of one.0 one.1.does) (enumerate_from 0 d.tasks)

-- a process with its chain, and the top inputs that its clock and its resets come from by plain connections
pub record IsClocked (d : Flat) (clocked : Clocked) : Type 0 where
  pub chain : IsSomeAnd (slice_get d.tasks clocked.process.0) (λ task. chain_of d task.does ≡ Some (chain_view clocked.chain))
  pub clock : ComesFrom d clocked.clock.0 (chain_view clocked.chain).clock.signal
  pub as_many : length clocked.resets.items ≡ length (chain_view clocked.chain).resets
  pub resets :
      (k : ℕ) (guard : Guard) (top : SigId) →
      slice_get (chain_view clocked.chain).resets k ≡ Some guard → slice_get clocked.resets.items k ≡ Some top →
      ComesFrom d top.0 guard.item.signal

-- each process that waits for edges, in order
pub record AreClocked (d : Flat) (clocked : List Clocked) : Type 0 where
  pub numbers : map (λ (one : Clocked). one.process.0) clocked ≡ waiting_numbers d
  pub each : All (IsClocked d) clocked
