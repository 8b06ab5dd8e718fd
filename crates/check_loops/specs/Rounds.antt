-- Nodes on cycles, and how a search finds them.
use Rattle.std.specs.Prelude.{ℕ, suc, ◌≡◌, ◌<◌, ◌≤◌, ◌+◌, ◌⊎◌, ◌↔◌, ◌==◌, ◌||◌, Bool, true, false, List, [], ◌∷◌, ◌++◌, length, Vec, Option, Some, None, slice_index_or, slice_set}
use Rattle.std.specs.List.{list_any}
use Rattle.std.specs.declared.alloc.Global.{Global}
use Rattle.rtl_flat.specs.Levels.{Chain}
use Rattle.check_found.specs.rtl_scan.Graph.{row, ArrowIn}
use Rattle.check_loops.specs.declared.groups.Group.{Group}
use Rattle.check_loops.specs.declared.groups.Search.{Search}

-- a chain of one or more arrows leads from a node back to it
abbrev pub IsOnCycle : List (Vec ℕ Global) → ℕ → Type 0
IsOnCycle rows p = (round : ℕ) × Chain (ArrowIn rows) (suc round) p p

-- whether each node below a number is on a cycle
pub record AreLoops (rows : List (Vec ℕ Global)) (n : ℕ) (answers : List Bool) : Type 0 where
  pub same_length : length answers ≡ n
  pub each : (p : ℕ) → p < n → slice_index_or answers p false ≡ true ↔ IsOnCycle rows p

-- whether each node is on a cycle
abbrev pub AreOnCycles : List (Vec ℕ Global) → List Bool → Type 0
AreOnCycles rows answers = AreLoops rows (length rows) answers

-- ---- arrows in the other direction

-- an arrow more comes to a node
pub record Puts (node «from» : ℕ) (old new : List (Vec ℕ Global)) : Type 0 where
  pub each : (p q : ℕ) → ArrowIn new p q → ArrowIn old p q ⊎ ((p ≡ «from») × (q ≡ node))

-- an arrow more comes to each of the first of some nodes
pub record PutsAll (nodes : List ℕ) (n «from» : ℕ) (old new : List (Vec ℕ Global)) : Type 0 where
  pub each : (p q : ℕ) → ArrowIn new p q → ArrowIn old p q ⊎ ((p ≡ «from») × ((j : ℕ) × (j < n) × (slice_index_or nodes j 0 ≡ q)))

-- arrows that all stand in a graph the other way round
pub record TurnsBack (rows turned : List (Vec ℕ Global)) : Type 0 where
  pub each : (p q : ℕ) → ArrowIn turned p q → ArrowIn rows q p

-- ---- groups

-- a chain of arrows from one node to another
abbrev pub Leads : List (Vec ℕ Global) → ℕ → ℕ → Type 0
Leads rows p q = (n : ℕ) × Chain (ArrowIn rows) n p q

-- each node that is in a group leads to its root
pub record AreLed (rows : List (Vec ℕ Global)) (groups : List (Option Group)) : Type 0 where
  pub each : (p : ℕ) (group : Group) → slice_index_or groups p None ≡ Some group → Leads rows p group.root

-- and so does each node that is open lead to the root of a group that is searched
pub record IsSound (rows : List (Vec ℕ Global)) (root : ℕ) (search : Search) : Type 0 where
  pub led : AreLed rows search.groups.items
  pub open_nodes : (j : ℕ) → j < length search.open.items → Leads rows (slice_index_or search.open.items j 0) root

-- a node joins a group, or nothing changes
abbrev pub Takes : ℕ → Group → Search → Search → Type 0
Takes node group old new =
    ((new.groups.items ≡ old.groups.items) × (new.open.items ≡ old.open.items)) ⊎ ((new.groups.items ≡ slice_set old.groups.items node (Some group)) × (new.open.items ≡ old.open.items ++ node ∷ []) × (node < length old.groups.items))

-- ---- what groups show

-- a group by two searches
pub record IsAgreed (one other : Option Group) (group : Group) : Type 0 where
  pub there : one ≡ Some group
  pub twin : Group
  pub found : other ≡ Some twin
  pub same_root : twin.root ≡ group.root

-- the node with a number
abbrev pub group_at : List Group → ℕ → Group
group_at groups p = slice_index_or groups p (record { rank = 0; root = 0 })

-- the groups of the nodes below a number
pub record AreAgreed (one other : List (Option Group)) (n : ℕ) (groups : List Group) : Type 0 where
  pub same_length : length groups ≡ n
  pub each : (p : ℕ) → p < n → IsAgreed (slice_index_or one p None) (slice_index_or other p None) (group_at groups p)

abbrev pub IsSame : Group → Group → Type 0
IsSame one other = (one.rank ≡ other.rank) × (one.root ≡ other.root)

-- of the first arrows to a node, those from within its group were seen, and each other one comes from a later group
pub record IsLooked (groups : List Group) (row : List ℕ) (own : Group) (n : ℕ) (inside : Bool) : Type 0 where
  pub shown : inside ≡ true → (j : ℕ) × (j < n) × IsSame (group_at groups (slice_index_or row j 0)) own
  pub each : (j : ℕ) → j < n → ((inside ≡ true) × IsSame (group_at groups (slice_index_or row j 0)) own) ⊎ (own.rank < (group_at groups (slice_index_or row j 0)).rank)
  pub there : (j : ℕ) → j < n → slice_index_or row j 0 < length groups

pub record AreAnswered (rows : List (Vec ℕ Global)) (groups : List Group) (n : ℕ) (answers : List Bool) : Type 0 where
  pub same_length : length answers ≡ n
  pub fits : n ≤ length groups
  pub each : (q : ℕ) → q < n → IsLooked groups (row rows q) (group_at groups q) (length (row rows q)) (slice_index_or answers q false)

-- ---- a search from one node

-- whether an arrow comes from a start or from a node that is marked
abbrev pub is_fed : ℕ → List Bool → List ℕ → Bool
is_fed start marks nodes =
    list_any (λ (node : ℕ). node == start || slice_index_or marks node false) nodes

-- how many nodes are not marked
abbrev pub unmarked : List Bool → ℕ
unmarked [] = 0
unmarked (true ∷ marks) = unmarked marks
unmarked (false ∷ marks) = unmarked marks + 1

-- marks are of nodes to which arrows lead from a start
pub record AreMarked (rows : List (Vec ℕ Global)) (start : ℕ) (marks : List Bool) : Type 0 where
  pub each : (q : ℕ) → slice_index_or marks q false ≡ true → (n : ℕ) × Chain (ArrowIn rows) (suc n) start q

-- the nodes below a number that are fed are marked
abbrev pub AreClosed : List (Vec ℕ Global) → ℕ → List Bool → ℕ → Type 0
AreClosed rows start marks n =
    (q : ℕ) → q < n → is_fed start marks (row rows q) ≡ true → slice_index_or marks q false ≡ true

-- a node is marked if it is fed and wasn't marked
pub record Marks (fed : Bool) (node : ℕ) (old new : List Bool) (marked : Bool) : Type 0 where
  pub is_new : marked ≡ true → (fed ≡ true) × (slice_index_or old node false ≡ false) × (new ≡ slice_set old node true)
  pub is_old : marked ≡ false → (new ≡ old) × (fed ≡ true → slice_index_or old node false ≡ true)

-- marks spread along arrows, or there is no more to mark
pub record IsSpreading (rows : List (Vec ℕ Global)) (start n : ℕ) (old new : List Bool) (grown : Bool) : Type 0 where
  pub same_length : length new ≡ length old
  pub marked : AreMarked rows start old → AreMarked rows start new
  pub grows : grown ≡ true → unmarked new < unmarked old
  pub still : grown ≡ false → (new ≡ old) × AreClosed rows start old n

abbrev pub AreSpread : List (Vec ℕ Global) → ℕ → List Bool → List Bool → Bool → Type 0
AreSpread rows start old new grown = IsSpreading rows start (length rows) old new grown

-- the marked nodes are just those to which arrows lead from a start
pub record AreReached (rows : List (Vec ℕ Global)) (start : ℕ) (marks : List Bool) : Type 0 where
  pub each : (q : ℕ) → q < length rows → slice_index_or marks q false ≡ true ↔ ((n : ℕ) × Chain (ArrowIn rows) (suc n) start q)
