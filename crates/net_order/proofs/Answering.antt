-- The order of processes, from their depths.
use Rattle.std.specs.Prelude.{Vec, ◌↔◌, unwrap_or}
use Rattle.std.specs.declared.alloc.Global.{Global}
use Rattle.std.proofs.Common.{ℕ, zero, suc, ◌≡◌, ◌<◌, arith, List, length, get_or, Option, Some, None, refl, ap, subst, inl, inr}
use Rattle.std.specs.List.{slice_get}
use Rattle.std.proofs.lemmas.Bool.{cases_lt, false≢true}
use Rattle.std.proofs.lemmas.Option.{slice_get_within}
use Rattle.rtl_flat.specs.declared.expr.SigId.{SigId}
use Rattle.rtl_flat.specs.Levels.{Chain, HasNoEdge, Here, IsBehindCycle, IsDepth, IsLevelIn, IsNode, Then}
use Rattle.rtl_flat.specs.Flats.{Flat}
use Rattle.rtl_flat.specs.Paths.{ReadsOutside}
use Rattle.rtl_flat.specs.PathSets.{OfProcess}
use Rattle.check_found.specs.rtl_scan.declared.feeds.Waits.TheVariants.{Reads}
use Rattle.check_found.specs.rtl_scan.Arrows.{AreArrows}
use Rattle.check_found.specs.rtl_scan.Graph.{AreDepths, ArrowIn}
use Rattle.net_solve.specs.Feeds.{IsFeed}
use Rattle.net_solve.specs.Laws.{IsOrder, place}
use Rattle.net_order.specs.Ranks.{IsLeastOf, IsLost, IsRanked, depth_at}
use Rattle.net_order.specs.Order.{IsCyclic, IsLeastCyclic}
use Rattle.check_found.proofs.rtl_scan_proofs.Feeding.{level_map, out_of}

-- the last arrow of a chain
last_arrow : (A : ℕ → ℕ → Type 0) (n p q : ℕ) → Chain A (suc n) p q → (x : ℕ) × Chain A n p x × A x q
last_arrow A n p q (Then n' p' x q' chain arrow) = (x, chain, arrow)

module _ (d : Flat) (rows there : List (Vec ℕ Global)) (same : there ≡ rows) (feeds : AreArrows Reads d.signals d.tasks rows) (depths : List (Option ℕ)) (are : AreDepths there depths) where
  abbrev Feed : ℕ → ℕ → Type 0
  Feed = IsFeed d.signals d.tasks

  as_rows : AreDepths rows depths
  as_rows = subst (λ (all : List (Vec ℕ Global)). AreDepths all depths) same are

  inside : (p : ℕ) → IsNode d.tasks p → p < length rows
  inside p node =
      let (task, at, no_edge) = out_of (λ t. HasNoEdge t.does) (slice_get d.tasks p) node in
      let below = slice_get_within d.tasks p task at in
      let count = feeds.same_length in
      omega (arith, below, count)

  -- by a bit that one reads
  feeds_by : (p q : ℕ) → ArrowIn rows p q ↔ Feed p q
  feeds_by p q = (
    λ h.
        let a = (feeds.each p q).0 h in record {
          «from» = a.«from»;
          to = a.to;
          signal = a.signal;
          bit = a.bit;
          written = a.written;
          read = elim a.wanted as (λ _. OfProcess ReadsOutside d.signals d.tasks q a.signal a.bit) [
            | inl reads ↦ reads
            | inr (counts, other, lists) ↦ absurd (false≢true counts)
          ];
        },
    λ a. (feeds.each p q).1 (record {
      «from» = a.«from»;
      to = a.to;
      signal = a.signal;
      bit = a.bit;
      written = a.written;
      wanted = inl a.read;
    }),
  )

  -- a node without a depth is on or behind a cycle, and another is not
  level_in : (p : ℕ) → IsNode d.tasks p → IsLevelIn Feed p (get_or depths p None)
  level_in p node = level_map (ArrowIn rows) Feed feeds_by p (get_or depths p None) (as_rows.each p (inside p node))

  level_as : (p : ℕ) (o : Option ℕ) → IsNode d.tasks p → get_or depths p None ≡ o → IsLevelIn Feed p o
  level_as p o node is = subst (λ (x : Option ℕ). IsLevelIn Feed p x) is (level_in p node)

  lost_behind : (p : ℕ) → IsNode d.tasks p → get_or depths p None ≡ None → IsBehindCycle Feed p
  lost_behind p node none = level_as p None node none

  behind_lost : (p : ℕ) → IsNode d.tasks p → IsBehindCycle Feed p → get_or depths p None ≡ None
  behind_lost p node behind = by (get_or depths p None) refl
    where
      by : (o : Option ℕ) → get_or depths p None ≡ o → o ≡ None
      by None is = refl
      by (Some n) is = absurd ((level_as p (Some n) node is).0 behind)

  has_depth : (p n : ℕ) → IsNode d.tasks p → get_or depths p None ≡ Some n → IsDepth Feed p n
  has_depth p n node some = (level_as p (Some n) node some).1

  -- a process behind a cycle is a node
  chain_node : (n p q : ℕ) → Chain Feed n p q → IsNode d.tasks p → IsNode d.tasks q
  chain_node zero p q (Here p') node = node
  chain_node (suc n) p q (Then n' p' x q' chain arrow) node = arrow.to

  behind_node : (p : ℕ) → IsBehindCycle Feed p → IsNode d.tasks p
  behind_node p behind = chain_node behind.length behind.node p behind.chain of_cycle
    where
      of_cycle : IsNode d.tasks behind.node
      of_cycle = let (x, chain, arrow) = last_arrow Feed behind.round behind.node behind.node behind.cycle in arrow.to

  lost_as : (s : ℕ) → IsLost d.signals d.tasks depths (length d.tasks) s → IsCyclic d s
  lost_as s lost = record { process = lost.process; behind = lost_behind lost.process lost.node lost.none; bit = lost.bit; written = lost.written }

  as_lost : (s : ℕ) → IsCyclic d s → IsLost d.signals d.tasks depths (length d.tasks) s
  as_lost s cyclic =
      let node = behind_node cyclic.process cyclic.behind in
      record {
        process = cyclic.process;
        below = let below = inside cyclic.process node in let count = feeds.same_length in omega (arith, below, count);
        node = node;
        none = behind_lost cyclic.process node cyclic.behind;
        bit = cyclic.bit;
        written = cyclic.written;
      }

  pub least_cyclic : (first : SigId) → IsLeastOf (IsLost d.signals d.tasks depths (length d.tasks)) (Some first) → IsLeastCyclic d first.0
  least_cyclic first h = record {
    cyclic = lost_as first.0 h.0;
    least = λ t cyclic. h.1 t (as_lost t cyclic);
  }

  -- where no node without a depth writes, each has one
  all_deep : IsLeastOf (IsLost d.signals d.tasks depths (length d.tasks)) None → (p : ℕ) → IsNode d.tasks p → (n : ℕ) × (get_or depths p None ≡ Some n)
  all_deep none p node = by (get_or depths p None) refl
    where
      by : (o : Option ℕ) → get_or depths p None ≡ o → (n : ℕ) × (o ≡ Some n)
      by (Some n) is = (n, refl)
      by None is =
          let behind = lost_behind p node is in
          let (x, chain, arrow) = last_arrow Feed behind.round behind.node behind.node behind.cycle in
          absurd (none arrow.signal (as_lost arrow.signal (record {
            process = x;
            behind = record { node = behind.node; round = behind.round; cycle = behind.cycle; length = behind.round; chain = chain };
            bit = arrow.bit;
            written = arrow.written;
          })))

  pub ranked_order : IsLeastOf (IsLost d.signals d.tasks depths (length d.tasks)) None → (order : List ℕ) → IsRanked d.tasks depths order → IsOrder d order
  ranked_order none order ranked = record {
    nodes = λ j below. (ranked.nodes j below).0;
    all = λ p node. let (n, deep) = all_deep none p node in ranked.all p n node deep;
    once = ranked.once;
    behind = behind;
  }
    where
      deeper : (p q : ℕ) → Feed p q → depth_at depths p < depth_at depths q
      deeper p q arrow =
          let (m, deep) = all_deep none p arrow.«from» in
          let (n, deep') = all_deep none q arrow.to in
          let depth = has_depth p m arrow.«from» deep in
          let most = (has_depth q n arrow.to deep').most (suc m) depth.start (Then m depth.start p q depth.chain arrow) in
          let one : depth_at depths p ≡ m = ap (λ o. unwrap_or o 0) deep in
          let other : depth_at depths q ≡ n = ap (λ o. unwrap_or o 0) deep' in
          omega (arith, most, one, other)

      behind : (i j : ℕ) → i < length order → j < length order → Feed (place order i) (place order j) → i < j
      behind i j below below' arrow =
          elim (cases_lt i j) as (λ _. i < j) [
            | inl less ↦ less
            | inr over ↦
                let deep = deeper (place order i) (place order j) arrow in
                let rising = ranked.rising j i over below in
                absurd (omega (arith, deep, rising))
          ]
