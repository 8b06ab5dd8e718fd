-- In which order processes without edges are worked out, or a signal that has none.
use Rattle.std.specs.Prelude.{ℕ, ◌≤◌, map}
use Rattle.rtl_flat.specs.declared.act.ProcId.{ProcId}
use Rattle.rtl_flat.specs.Levels.{IsBehindCycle}
use Rattle.rtl_flat.specs.Paths.{MayWrite}
use Rattle.rtl_flat.specs.PathSets.{OfProcess}
use Rattle.rtl_flat.specs.Flats.{Flat}
use Rattle.net_solve.specs.Feeds.{IsFeed}
use Rattle.net_solve.specs.Laws.{IsOrder}
use Rattle.net_order.specs.declared.order.Ranking.{Ranking}
use Rattle.net_order.specs.declared.order.Ranking.TheVariants.{Order, Cyclic}

-- a signal that a process on or behind a cycle may write a bit of
pub record IsCyclic (d : Flat) (s : ℕ) : Type 0 where
  pub process : ℕ
  pub behind : IsBehindCycle (IsFeed d.signals d.tasks) process
  pub bit : ℕ
  pub written : OfProcess MayWrite d.signals d.tasks process s bit

pub record IsLeastCyclic (d : Flat) (s : ℕ) : Type 0 where
  pub cyclic : IsCyclic d s
  pub least : (t : ℕ) → IsCyclic d t → s ≤ t

-- each process without edges once, behind those that feed it; or, where one feeds itself over others, the least signal
-- that such a process or one behind it may write
abbrev pub IsRanking : Flat → Ranking → Type 0
IsRanking d (Order order) = IsOrder d (map (λ (p : ProcId). p.0) order.items)
IsRanking d (Cyclic signal) = IsLeastCyclic d signal.0
