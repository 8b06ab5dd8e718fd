-- It serves inner contracts and proofs; no answer of the program is stated by it.
-- Where the clocks and the resets of processes come from.
use Rattle.std.specs.Prelude.{◌≡◌, ◌≢◌, ℕ, ◌<◌, List, [], ◌∷◌, length, map, Some, IsTrue}
use Rattle.std.specs.List.{All}
use Rattle.rtl_flat.specs.declared.design.Design.{Design}
use Rattle.rtl_flat.specs.declared.expr.SigId.{SigId}
use Rattle.rtl_flat.specs.Flows.{body_flow}
use Rattle.rtl_flat.specs.Paths.{MayWrite}
use Rattle.rtl_flat.specs.PathSets.{OfProcess}
use Rattle.rtl_flat.specs.Process.{Actions, Edge', Watched}
use Rattle.rtl_flat.specs.WellFormed.{IsBody}
use Rattle.event_model.specs.Queue.{doing_at, is_input}
use Rattle.rtl_flat.specs.Flats.{Flat, widths}
use Rattle.net_model.specs.Control.{IsBehind}
use Rattle.net_model.specs.Cycle.{Chain, Guard}
use Rattle.net_list.specs.check_chains.Views.{chain_view}
use Rattle.net_list.specs.declared.clocked.Clocked.{Clocked}
use Rattle.net_settle.specs.net_body.declared.maps.Maps.{Maps}
use Rattle.net_settle.specs.net_body.Ready.{HasRoom}
use Rattle.net_settle.specs.net_solve.Laws.{place}
use Rattle.net_settle.specs.Work.{IsAble}
use Rattle.net_turn.specs.Runs.{IsPartOf, numbers_of}

-- ---- what a run stands on

-- the top inputs are there, and each body that may run is lawful and has room
pub record CanRun (design : Design) (one : Clocked) : Type 0 where
  pub clock : one.clock.0 < length design.signals.items
  pub as_many : length one.resets.items ≡ length one.chain.resets.items
  pub tops : All (λ (top : SigId). top.0 < length design.signals.items) one.resets.items
  pub lawful : (body : Actions) → IsPartOf (chain_view one.chain) body → IsBody design.signals.items body
  pub room :
      (body : Actions) → IsPartOf (chain_view one.chain) body →
      (m : Maps) → IsAble m → m.design.now ≡ design → HasRoom m body

-- ---- what is known of chains

-- a signal has the number of a top input
pub record IsFrom (d : Flat) (top i : ℕ) : Type 0 where
  pub input : IsTrue (is_input d top)
  pub behind : IsBehind d top i

-- resets come from top inputs
abbrev pub AreFrom : Flat → List ℕ → List Guard → Type 0
AreFrom d [] [] = Unit {0}
AreFrom d [] (guard ∷ guards) = ⊥
AreFrom d (top ∷ tops) [] = ⊥
AreFrom d (top ∷ tops) (guard ∷ guards) =
    IsFrom d top guard.item.signal × AreFrom d tops guards

-- a process that waits for edges has a chain, whose clock and resets come from top inputs
pub record IsSource (d : Flat) (chains : ℕ → Chain) (one : Clocked) : Type 0 where
  pub events : List Watched
  pub body : Actions
  pub does : doing_at d one.process.0 ≡ Some (Edge' events body)
  pub chain : chains one.process.0 ≡ chain_view one.chain
  pub clock : IsFrom d one.clock.0 (chain_view one.chain).clock.signal
  pub resets : AreFrom d (numbers_of one.resets.items) (chain_view one.chain).resets
  -- it writes its own bits alone
  pub lawful : (part : Actions) → IsPartOf (chain_view one.chain) part → IsBody d.signals part
  pub own :
      (part : Actions) → IsPartOf (chain_view one.chain) part → (i k : ℕ) → MayWrite (body_flow (widths d) part) i k →
      OfProcess MayWrite d.signals d.tasks one.process.0 i k

-- the numbers of processes
abbrev pub processes_of : List Clocked → List ℕ
processes_of all = map (λ (one : Clocked). one.process.0) all

-- each process that waits for edges, once
pub record AreSources (d : Flat) (chains : ℕ → Chain) (all : List Clocked) : Type 0 where
  pub each : All (IsSource d chains) all
  pub once : (s t : ℕ) → s < t → t < length all → place (processes_of all) s ≢ place (processes_of all) t
  pub there :
      (p : ℕ) (events : List Watched) (body : Actions) → doing_at d p ≡ Some (Edge' events body) →
      (t : ℕ) × (t < length all) × (place (processes_of all) t ≡ p)
