-- It serves inner contracts and proofs; no answer of the program is stated by it.
-- Processes by their depths, and the signals of those that have none.
use Rattle.std.specs.Prelude.{ℕ, ◌≡◌, ◌≢◌, ◌<◌, ◌≤◌, nat_lt, if◌then◌else◌, unwrap_or, ◌⊎◌, ◌↔◌, List, [], ◌∷◌, length, map, Option, Some, None, slice_index_or}
use Rattle.std.specs.List.{AllPairs}
use Rattle.rtl_flat.specs.declared.expr.SigId.{SigId}
use Rattle.rtl_flat.specs.declared.signal.Signal.{Signal}
use Rattle.rtl_flat.specs.Levels.{IsNode}
use Rattle.rtl_flat.specs.Paths.{MayWrite}
use Rattle.rtl_flat.specs.PathSets.{OfProcess}
use Rattle.rtl_flat.specs.Process.{Task}
use Rattle.net_order.specs.declared.rank.Placed.{Placed}
use Rattle.net_solve.specs.Laws.{place}

-- an element of a list
abbrev pub In : {A : Type 0} → A → List A → Type 0
In x [] = ⊥
In x (y ∷ others) = (x ≡ y) ⊎ In x others

-- nodes below a number, each once and with its depth
pub record ArePlaced (tasks : List Task) (depths : List (Option ℕ)) (n : ℕ) (placed : List Placed) : Type 0 where
  pub each :
      (x : Placed) →
      In x placed ↔ ((x.process < n) × IsNode tasks x.process × (slice_index_or depths x.process None ≡ Some x.depth))
  pub once : AllPairs (λ p q. p ≢ q) (map (λ (x : Placed). x.process) placed)

-- a signal that a node below a number writes which has no depth
pub record IsLost (signals : List Signal) (tasks : List Task) (depths : List (Option ℕ)) (n s : ℕ) : Type 0 where
  pub process : ℕ
  pub below : process < n
  pub node : IsNode tasks process
  pub none : slice_index_or depths process None ≡ None
  pub bit : ℕ
  pub written : OfProcess MayWrite signals tasks process s bit

-- the least signal of which something holds, where there is one
abbrev pub IsLeastOf : (ℕ → Type 0) → Option SigId → Type 0
IsLeastOf P None = (s : ℕ) → P s → ⊥
IsLeastOf P (Some first) = P first.0 × ((s : ℕ) → P s → first.0 ≤ s)

-- the lesser of two signals, where there are two
abbrev pub lesser_of : Option SigId → Option SigId → Option SigId
lesser_of None other = other
lesser_of (Some one) None = Some one
lesser_of (Some one) (Some other) = if nat_lt other.0 one.0 then Some other else Some one

-- the depth of a process
abbrev pub depth_at : List (Option ℕ) → ℕ → ℕ
depth_at depths p = unwrap_or (slice_index_or depths p None) 0

-- the nodes that have a depth, each once, and none behind one that is deeper
pub record IsRanked (tasks : List Task) (depths : List (Option ℕ)) (order : List ℕ) : Type 0 where
  pub nodes : (j : ℕ) → j < length order → IsNode tasks (place order j) × ((depth : ℕ) × (slice_index_or depths (place order j) None ≡ Some depth))
  pub all :
      (p depth : ℕ) → IsNode tasks p → slice_index_or depths p None ≡ Some depth →
      (j : ℕ) × (j < length order) × (place order j ≡ p)
  pub once : (i j : ℕ) → i < j → j < length order → place order i ≢ place order j
  pub rising :
      (i j : ℕ) → i ≤ j → j < length order →
      depth_at depths (place order i) ≤ depth_at depths (place order j)
