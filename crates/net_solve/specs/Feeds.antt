-- Which processes feed which, as synthesis takes them: sensitivity lists count for nothing.
use Rattle.std.specs.Prelude.{ℕ, List}
use Rattle.rtl_flat.specs.declared.signal.Signal.{Signal}
use Rattle.rtl_flat.specs.Levels.{IsNode}
use Rattle.rtl_flat.specs.Paths.{MayWrite, ReadsOutside}
use Rattle.rtl_flat.specs.PathSets.{OfProcess}
use Rattle.rtl_flat.specs.Process.{Task}

-- an arrow between processes without edges: p may write a bit that q externally reads
pub record IsFeed (signals : List Signal) (tasks : List Task) (p q : ℕ) : Type 0 where
  pub «from» : IsNode tasks p
  pub to : IsNode tasks q
  pub signal : ℕ
  pub bit : ℕ
  pub written : OfProcess MayWrite signals tasks p signal bit
  pub read : OfProcess ReadsOutside signals tasks q signal bit
