-- An order of processes.
use Rattle.std.proofs.Common.{◌≡◌, ◌∙◌, ◌<◌, ◌≤◌, ◌+◌, ℕ, zero, suc, List, [], ◌∷◌, length, sym, subst, inl, inr, arith}
use Rattle.std.specs.Prelude.{◌⊎◌}
use Rattle.std.specs.List.{slice_get}
use Rattle.std.specs.Option.{IsSomeAnd-prop}
use Rattle.std.proofs.Math.Logic.{∥∥₁_elim}
use Rattle.std.proofs.Props.{props}
use Rattle.std.proofs.lemmas.Bool.{cases_eq, cases_lt}
use Rattle.rtl_flat.specs.Levels.{Chain, HasNoEdge, Here, IsNode, Then}
use Rattle.rtl_flat.specs.Process.{Assign, Comb, Edge', Doing, Task}
use Rattle.rtl_flat.specs.Flats.{Flat}
use Rattle.net_order.specs.Order.{IsCyclic}
use Rattle.net_order.specs.net_solve.Feeds.{IsFeed}
use Rattle.net_order.specs.net_solve.Laws.{IsOrder, place}

no_edge_one : (does : Doing) → IsProp (HasNoEdge does)
no_edge_one (Assign target value) = hlevel props
no_edge_one (Comb list body) = hlevel props
no_edge_one (Edge' events body) = hlevel props

node_one : (tasks : List Task) (p : ℕ) → IsProp (IsNode tasks p)
node_one tasks p =
    IsSomeAnd-prop (slice_get tasks p) (λ task. HasNoEdge task.does) (λ task. no_edge_one task.does)

none_one : IsProp ⊥
none_one = hlevel props

place_in : (order : List ℕ) (p : ℕ) → ((j : ℕ) × (j < length order) × (place order j ≡ p)) ⊎ ((j : ℕ) → j < length order → place order j ≡ p → ⊥)
place_in [] p = inr (λ j below is. absurd (omega (arith, below)))
place_in (x ∷ order) p = elim (cases_eq x p) [
  | inl same ↦ inl (0, omega arith, same)
  | inr other ↦ later (place_in order p) other
]
  where
    later : ((j : ℕ) × (j < length order) × (place order j ≡ p)) ⊎ ((j : ℕ) → j < length order → place order j ≡ p → ⊥) → (x ≡ p → ⊥) → ((j : ℕ) × (j < length (x ∷ order)) × (place (x ∷ order) j ≡ p)) ⊎ ((j : ℕ) → j < length (x ∷ order) → place (x ∷ order) j ≡ p → ⊥)
    later (inl (j, below, is)) other = inl (suc j, omega (arith, below), is)
    later (inr none) other = inr neither
      where
        neither : (j : ℕ) → j < length (x ∷ order) → place (x ∷ order) j ≡ p → ⊥
        neither zero below is = other is
        neither (suc j) below is = none j (omega (arith, below)) is

-- an order that is kept as a mere fact is one
pub order_back : (d : Flat) (order : List ℕ) → ∥ IsOrder d order ∥₁ → IsOrder d order
order_back d order kept = record {
  nodes = λ j below. ∥∥₁_elim kept (node_one d.tasks (place order j)) (λ o. o.nodes j below);
  all = λ p node. found p node (place_in order p);
  once = λ i j less below same. ∥∥₁_elim kept none_one (λ o. o.once i j less below same);
  behind = λ i j inside inside' feeds. ∥∥₁_elim kept (hlevel props) (λ o. o.behind i j inside inside' feeds);
}
  where
    found : (p : ℕ) → IsNode d.tasks p → ((j : ℕ) × (j < length order) × (place order j ≡ p)) ⊎ ((j : ℕ) → j < length order → place order j ≡ p → ⊥) → (j : ℕ) × (j < length order) × (place order j ≡ p)
    found p node (inl there) = there
    found p node (inr none) =
        absurd (∥∥₁_elim kept none_one (λ o. let (j, below, is) = o.all p node in none j below is))

-- where there is one, no process is on or behind a cycle
module _ (d : Flat) (order : List ℕ) (is_order : IsOrder d order) where
  abbrev Feed : ℕ → ℕ → Type 0
  Feed p q = IsFeed d.signals d.tasks p q

  step : (p q i j : ℕ) → place order i ≡ p → place order j ≡ q → Feed p q → Feed (place order i) (place order j)
  step p q i j is is' feeds =
      subst (λ r. Feed r (place order j)) (sym is) (subst (λ r. Feed p r) (sym is') feeds)

  -- a process with a place stands before those at the ends of chains from it
  stands : (n p q : ℕ) → Chain (IsFeed d.signals d.tasks) n p q → (i j : ℕ) → i < length order → place order i ≡ p → j < length order → place order j ≡ q → i + n ≤ j
  stands zero p q (Here p') i j inside is inside' is' = first_place i j inside inside' (is ∙ sym is')
    where
      first_place : (i j : ℕ) → i < length order → j < length order → place order i ≡ place order j → i + 0 ≤ j
      first_place i j inside inside' same = elim (cases_lt j i) as (λ _. i + 0 ≤ j) [
        | inl less ↦ absurd (is_order.once j i less inside (sym same))
        | inr past ↦ omega (arith, past)
      ]
  stands (suc n) p q (Then m start r end chain feeds) i j inside is inside' is' =
      let (k, below, there) = is_order.all r feeds.from in
      let first = stands n p r chain i k inside is below there in
      let second = is_order.behind k j below inside' (step r q k j there is' feeds) in
      omega (arith, first, second)

  from_there : (n p q : ℕ) → Chain (IsFeed d.signals d.tasks) (suc n) p q → IsNode d.tasks q
  from_there n p q (Then m start r end chain feeds) = feeds.to

  pub no_cycle : (s : ℕ) → IsCyclic d s → ⊥
  no_cycle s is =
      let behind = is.behind in
      let (k, below, there) = is_order.all behind.node (from_there behind.round behind.node behind.node behind.cycle) in
      let more = stands (suc behind.round) behind.node behind.node behind.cycle k k below there below there in
      absurd (omega (arith, more))
