-- Without loops each process without an edge has the level that the level graph gives to it.
use Rattle.std.proofs.Common.{◌≡◌, ◌<◌, ◌≤◌, ℕ, zero, suc, [], Option, None, Some, length, refl, subst, inl, inr, arith}
use Rattle.std.specs.List.{slice_get}
use Rattle.std.proofs.lemmas.Bool.{cases_eq}
use Rattle.rtl_flat.specs.Levels.{Chain, HasNoEdge, IsArrow, IsDepth, IsLevel, IsNode}
use Rattle.rtl_flat.specs.Levels as level
use Rattle.check_laws.specs.event_laws.Steady.{AreLawful}
use Rattle.rtl_flat.specs.Flats.{Flat}
use Rattle.check_all.specs.check_assign.Assigned.{AreCombLoop}
use Rattle.check_laws.proofs.Decisions.{Decided, both, some_of, there_decided}
use Rattle.check_laws.proofs.Designs.{comb_loop}
use Rattle.check_clean.proofs.Levels.{arrow_decided, ascends, level_of, node_below, node_decided}

module _ (d : Flat) (lawful : AreLawful d) (none : AreCombLoop d []) where
  abbrev Arrow : ℕ → ℕ → Type 0
  Arrow = IsArrow d.signals d.tasks

  -- ---- chains that end at a process

  abbrev HasChain : ℕ → ℕ → Type 0
  HasChain n p = (q : ℕ) × Chain Arrow n q p

  abbrev HasLast : ℕ → ℕ → Type 0
  HasLast n p = (q : ℕ) × (HasChain n q × Arrow q p)

  last_arrow : (n q p m : ℕ) → Chain Arrow n q p → n ≡ suc m → HasLast m p
  last_arrow n q p m (level.Here r) e = absurd (omega (arith, e))
  last_arrow n q p m (level.Then k a b r before arrow) e =
      let same : k ≡ m = omega (arith, e) in
      (b, ((a, subst (λ j. Chain Arrow j a b) same before), arrow))

  chain_decided : (n p : ℕ) → Decided (HasChain n p)
  chain_decided zero p = inl (p, level.Here p)
  chain_decided (suc n) p =
      by_last (some_of (λ q. HasChain n q × Arrow q p) (λ q. both (HasChain n q) (Arrow q p) (chain_decided n q) (arrow_decided d lawful q p)) (length d.tasks) (λ q h. node_below d lawful q h.1.from))
    where
      by_last : Decided (HasLast n p) → Decided (HasChain (suc n) p)
      by_last (inl (q, (h, arrow))) = inl (h.0, level.Then n h.0 q p h.1 arrow)
      by_last (inr not) = inr (λ h. not (last_arrow (suc n) h.0 p n h.1 refl))

  -- they aren't longer than levels are high
  rises : (n q p : ℕ) → Chain Arrow n q p → n ≤ level_of d lawful p
  rises n q p (level.Here r) = omega arith
  rises n q p (level.Then m a b r before arrow) =
      let more = ascends d lawful none b r arrow in
      let rest = rises m a b before in
      omega (arith, more, rest)

  -- ---- the longest of them

  depth_within : (limit p : ℕ) → ((n : ℕ) → HasChain n p → n ≤ limit) → (n : ℕ) × IsDepth Arrow p n
  depth_within zero p most =
      (0, record { start = p; chain = level.Here p; most = λ m q chain. most m (q, chain) })
  depth_within (suc limit) p most =
      by_longest (chain_decided (suc limit) p) (λ less. depth_within limit p less)
    where
      by_longest : Decided (HasChain (suc limit) p) → (((n : ℕ) → HasChain n p → n ≤ limit) → (n : ℕ) × IsDepth Arrow p n) → (n : ℕ) × IsDepth Arrow p n
      by_longest (inl h) again =
          (suc limit, record { start = h.0; chain = h.1; most = λ m q chain. most m (q, chain) })
      by_longest (inr not) again =
          again (λ m h.
          let within = most m h in
          elim (cases_eq m (suc limit)) [
            | inl same ↦ absurd (not (subst (λ j. HasChain j p) same h))
            | inr other ↦ omega (arith, within, other)
          ])

  depth : (p : ℕ) → (n : ℕ) × IsDepth Arrow p n
  depth p = depth_within (level_of d lawful p) p (λ n h. rises n h.0 p h.1)

  -- ---- levels

  is_node : (p : ℕ) → Decided (IsNode d.tasks p)
  is_node p = there_decided (λ task. HasNoEdge task.does) (slice_get d.tasks p) (λ task e. node_decided d lawful task.does)

  level_by : (p : ℕ) → Decided (IsNode d.tasks p) → Option ℕ
  level_by p (inl node) = Some (depth p).0
  level_by p (inr edge) = None

  level_is : (p : ℕ) (node : Decided (IsNode d.tasks p)) → IsLevel d.signals d.tasks p (level_by p node)
  unfolding level_by
  level_is p (inl node) =
      record { of_node = λ is. (comb_loop d none p, (depth p).1); of_edge = λ edge. absurd (edge node) }
  level_is p (inr edge) = record { of_node = λ node. absurd (edge node); of_edge = λ is. refl }

  pub levels : ℕ → Option ℕ
  levels p = level_by p (is_node p)

  pub are_levels : (p : ℕ) → p < length d.tasks → IsLevel d.signals d.tasks p (levels p)
  unfolding levels
  are_levels p inside = level_is p (is_node p)
