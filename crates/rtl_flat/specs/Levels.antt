-- The level graph: which processes feed which, and how far each is from those that none feeds.
-- Worked examples: crates/tests_layers/stdin.
use Rattle.std.specs.Prelude.{ℕ, suc, ◌≡◌, ◌≤◌, ◌⊎◌, List, Option, Some, None}
use Rattle.rtl_flat.specs.declared.signal.Signal.{Signal}
use Rattle.std.specs.List.{slice_get}
use Rattle.std.specs.Option.{IsSomeAnd}
use Rattle.rtl_flat.specs.Process.{Doing, Assign, Comb, Edge', Task}
use Rattle.rtl_flat.specs.Paths.{MayWrite, ReadsOutside}
use Rattle.rtl_flat.specs.PathSets.{OfProcess, Lists}

-- whether a process has a place in the graph: one with an edge has none
abbrev pub HasNoEdge : Doing → Type 0
HasNoEdge (Assign target value) = Unit {0}
HasNoEdge (Comb list body) = Unit {0}
HasNoEdge (Edge' events body) = ⊥

abbrev pub IsNode : List Task → ℕ → Type 0
IsNode tasks p = IsSomeAnd (slice_get tasks p) (λ task. HasNoEdge task.does)

-- an arrow: p may write a bit that q externally reads, or that another process q lists
pub record IsArrow (signals : List Signal) (tasks : List Task) (p q : ℕ) : Type 0 where
  pub «from» : IsNode tasks p
  pub to : IsNode tasks q
  pub signal : ℕ
  pub bit : ℕ
  pub written : OfProcess MayWrite signals tasks p signal bit
  pub wanted : OfProcess ReadsOutside signals tasks q signal bit ⊎ ((p ≡ q → ⊥) × Lists signals tasks q signal bit)

-- ---- chains in any graph

-- arrows one after another, from one node to another
pub data Chain (Arrow : ℕ → ℕ → Type 0) : ℕ → ℕ → ℕ → Type 0 where
  Here : (p : ℕ) → Chain Arrow 0 p p
  Then : (n : ℕ) (p q r : ℕ) → Chain Arrow n p q → Arrow q r → Chain Arrow (suc n) p r

-- a node that is on a cycle or behind one
pub record IsBehindCycle (Arrow : ℕ → ℕ → Type 0) (p : ℕ) : Type 0 where
  pub node : ℕ
  pub round : ℕ
  pub cycle : Chain Arrow (suc round) node node
  pub length : ℕ
  pub chain : Chain Arrow length node p

-- the greatest number of arrows in a chain that ends at a node
pub record IsDepth (Arrow : ℕ → ℕ → Type 0) (p n : ℕ) : Type 0 where
  pub start : ℕ
  pub chain : Chain Arrow n start p
  pub most : (m q : ℕ) → Chain Arrow m q p → m ≤ n

-- the level of a node: its depth where it is neither on nor behind a cycle, and else none
abbrev pub IsLevelIn : (ℕ → ℕ → Type 0) → ℕ → Option ℕ → Type 0
IsLevelIn Arrow p (Some n) = (IsBehindCycle Arrow p → ⊥) × IsDepth Arrow p n
IsLevelIn Arrow p None = IsBehindCycle Arrow p

-- the level of a process; one with an edge has none
pub record IsLevel (signals : List Signal) (tasks : List Task) (p : ℕ) (level : Option ℕ) : Type 0 where
  pub of_node : IsNode tasks p → IsLevelIn (IsArrow signals tasks) p level
  pub of_edge : (IsNode tasks p → ⊥) → level ≡ None
