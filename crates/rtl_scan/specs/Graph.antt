-- It serves inner contracts and proofs; no answer of the program is stated by it.
-- A search of a graph against its arrows, depth first.
use Rattle.std.specs.Prelude.{ℕ, zero, suc, ◌≡◌, ◌<◌, ◌≤◌, ◌+◌, ◌^◌, List, [], ◌∷◌, length, Vec, Option, Some, None, slice_index_or}
use Rattle.std.specs.declared.alloc.Global.{Global}
use Rattle.rtl_flat.specs.Levels.{Chain, IsBehindCycle, IsDepth, IsLevelIn}
use Rattle.rtl_scan.specs.declared.graph.Mark.{Mark}
use Rattle.rtl_scan.specs.declared.graph.Mark.TheVariants.{New, Open, Done, Cyclic}
use Rattle.rtl_scan.specs.declared.graph.Vertex.{Vertex}
use Rattle.rtl_scan.specs.declared.graph.Search.{Search}

-- the nodes that have an arrow to a node
abbrev pub row : List (Vec ℕ Global) → ℕ → List ℕ
row [] q = []
row (nodes ∷ rows) zero = nodes.items
row (nodes ∷ rows) (suc q) = row rows q

-- an arrow that is in the rows
abbrev pub ArrowIn : List (Vec ℕ Global) → ℕ → ℕ → Type 0
ArrowIn rows p q = (j : ℕ) × (j < length (row rows q)) × (slice_index_or (row rows q) j 0 ≡ p)

-- the node with a number
abbrev pub at : List Vertex → ℕ → Vertex
at [] q = record { mark = New; left = 0; depth = 0 }
at (node ∷ nodes) zero = node
at (node ∷ nodes) (suc q) = at nodes q

-- what a node has still to be done
abbrev pub phase : Mark → ℕ
phase New = 2
phase Open = 1
phase Done = 0
phase Cyclic = 0

abbrev pub cost : Vertex → ℕ
cost node = phase node.mark + node.left

-- one for each node without an answer
abbrev pub pending : Mark → ℕ
pending New = 1
pending Open = 1
pending Done = 0
pending Cyclic = 0

abbrev pub is_pending : Vertex → ℕ
is_pending node = pending node.mark

-- a number of each node, added up
abbrev pub total : (Vertex → ℕ) → List Vertex → ℕ
total f [] = 0
total f (node ∷ nodes) = f node + total f nodes

-- what holds between the steps of a search: the stack is a trail of open nodes against the arrows;
-- what is done has its depth, which is below the number of those that are; what is cyclic is behind a
-- cycle; and the arrows that were followed come from nodes that are done and less deep
pub record IsSearch (rows : List (Vec ℕ Global)) (nodes : List Vertex) (stack : List ℕ) (finished : ℕ) : Type 0 where
  pub same_length : length nodes ≡ length rows
  pub inside : (i : ℕ) → i < length stack → slice_index_or stack i 0 < length nodes
  pub open_nodes : (i : ℕ) → i < length stack → (at nodes (slice_index_or stack i 0)).mark ≡ Open
  pub on_stack : (q : ℕ) → (at nodes q).mark ≡ Open → (i : ℕ) × (i < length stack) × (slice_index_or stack i 0 ≡ q)
  pub apart : (i j : ℕ) → i < j → j < length stack → slice_index_or stack i 0 ≡ slice_index_or stack j 0 → ⊥
  pub trail : (i : ℕ) → i + 1 < length stack → ArrowIn rows (slice_index_or stack (i + 1) 0) (slice_index_or stack i 0)
  pub done : (q : ℕ) → (at nodes q).mark ≡ Done → ((at nodes q).depth < finished) × IsDepth (ArrowIn rows) q (at nodes q).depth
  pub cyclic : (q : ℕ) → (at nodes q).mark ≡ Cyclic → IsBehindCycle (ArrowIn rows) q
  pub left_fits : (q : ℕ) → (at nodes q).left ≤ length (row rows q)
  pub seen : (q j : ℕ) → (at nodes q).left ≤ j → j < length (row rows q) → ((at nodes (slice_index_or (row rows q) j 0)).mark ≡ Done) × ((at nodes (slice_index_or (row rows q) j 0)).depth < (at nodes q).depth)
  pub reached : (q : ℕ) → (start : ℕ) × Chain (ArrowIn rows) (at nodes q).depth start q
  pub small : (q : ℕ) → (at nodes q).depth ≤ finished
  pub count : finished + total is_pending nodes ≤ length nodes

-- the nodes of rows have rows
pub record AreRows (rows : List (Vec ℕ Global)) : Type 0 where
  pub few : length rows < 2 ^ 32
  pub inside : (q j : ℕ) → j < length (row rows q) → slice_index_or (row rows q) j 0 < length rows

abbrev pub IsSearching : List (Vec ℕ Global) → Search → Type 0
IsSearching rows search =
    IsSearch rows search.nodes.items search.stack.items search.finished

-- no node is new again
abbrev pub StayOld : List Vertex → List Vertex → Type 0
StayOld old new =
    (q : ℕ) → ((at old q).mark ≡ New → ⊥) → (at new q).mark ≡ New → ⊥

pub record IsStep (rows : List (Vec ℕ Global)) (old new : Search) : Type 0 where
  pub search : IsSearching rows new
  pub less : total cost new.nodes.items < total cost old.nodes.items
  pub old_ones : StayOld old.nodes.items new.nodes.items

-- the stack is empty again
pub record IsVisit (rows : List (Vec ℕ Global)) (old new : Search) : Type 0 where
  pub search : IsSearching rows new
  pub empty : new.stack.items ≡ []
  pub old_ones : StayOld old.nodes.items new.nodes.items

-- and a node has an answer
pub record IsVisited (rows : List (Vec ℕ Global)) (start : ℕ) (old new : Search) : Type 0 where
  pub visit : IsVisit rows old new
  pub old_one : (at new.nodes.items start).mark ≡ New → ⊥

-- the nodes below a number have answers
pub record HasSearched (rows : List (Vec ℕ Global)) (n : ℕ) (search : Search) : Type 0 where
  pub searching : IsSearching rows search
  pub empty : search.stack.items ≡ []
  pub old_ones : (q : ℕ) → q < n → (at search.nodes.items q).mark ≡ New → ⊥

-- no arrow is followed yet
abbrev pub fresh : List (Vec ℕ Global) → List Vertex
fresh [] = []
fresh (nodes ∷ rows) = record { mark = New; left = length nodes.items; depth = 0 } ∷ fresh rows

-- the answer of a node
abbrev pub answer : Mark → ℕ → Option ℕ
answer New depth = None
answer Open depth = None
answer Done depth = Some depth
answer Cyclic depth = None

abbrev pub answer_of : Vertex → Option ℕ
answer_of node = answer node.mark node.depth

-- the answers of all nodes
pub record AreDepths (rows : List (Vec ℕ Global)) (answers : List (Option ℕ)) : Type 0 where
  pub same_length : length answers ≡ length rows
  pub each : (q : ℕ) → q < length rows → IsLevelIn (ArrowIn rows) q (slice_index_or answers q None)
