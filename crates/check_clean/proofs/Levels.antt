-- Without loops the processes have levels.
use Rattle.std.proofs.Common.{◌≡◌, ◌<◌, ◌⊎◌, ℕ, suc, true, [], Option, None, Some, length, refl, sym, ap, subst, inl, inr}
use Rattle.std.specs.List.{slice_get}
use Rattle.std.specs.Option.{IsSomeAnd}
use Rattle.std.proofs.lemmas.Bool.{cases_eq}
use Rattle.std.proofs.lemmas.Option.{slice_get_within}
use Rattle.rtl_flat.specs.Flows.{flow_of}
use Rattle.rtl_flat.specs.Levels.{Chain, HasNoEdge, IsArrow, IsNode}
use Rattle.rtl_flat.specs.Levels as level
use Rattle.rtl_flat.specs.Paths.{MayWrite, ReadsOutside, may_write, reads_outside}
use Rattle.rtl_flat.specs.PathSets.{listed}
use Rattle.rtl_flat.specs.Process.{Doing, Assign, Comb, Edge', Task}
use Rattle.rtl_flat.specs.Signs.{width_in}
use Rattle.rtl_flat.proofs.Paths.{decided}
use Rattle.event_model.specs.Queue.{doing_of}
use Rattle.check_laws.specs.event_laws.Steady.{AreLawful}
use Rattle.rtl_flat.specs.Flats.{Flat, widths}
use Rattle.check_all.specs.check_assign.Assigned.{AreCombLoop}
use Rattle.check_laws.proofs.Decisions.{Decided, both, by_test, either_of, neither, some_of, told, told_from, told_not, told_true}
use Rattle.check_laws.proofs.Designs.{comb_loop, process_inside}
use Rattle.check_laws.proofs.Sites.{signal_there}
use Rattle.check_clean.proofs.Closure.{Joins, at_once, count, count_less, joined, joins_decided, joins_in}

module _ (d : Flat) (lawful : AreLawful d) where
  abbrev Arrow : ℕ → ℕ → Type 0
  Arrow = IsArrow d.signals d.tasks

  -- ---- an arrow between two processes is decided by bits

  module _ (p q : ℕ) (one other : Task) where
    abbrev Wants : ℕ → ℕ → Type 0
    Wants s k =
        ReadsOutside (flow_of (width_in d.signals) other.does) s k ⊎ ((p ≡ q → ⊥) × (listed (width_in d.signals) other.does s k ≡ true))

    abbrev Meets : ℕ → ℕ → Type 0
    Meets s k = MayWrite (flow_of (width_in d.signals) one.does) s k × Wants s k

    meets_decided : (s k : ℕ) → Decided (Meets s k)
    meets_decided s k =
        both (MayWrite (flow_of (width_in d.signals) one.does) s k) (Wants s k)
        (by_test (MayWrite (flow_of (width_in d.signals) one.does) s k) (may_write (flow_of (width_in d.signals) one.does) s k) (decided (flow_of (width_in d.signals) one.does) s k).writes.0 (decided (flow_of (width_in d.signals) one.does) s k).writes.1)
        (either_of (ReadsOutside (flow_of (width_in d.signals) other.does) s k) ((p ≡ q → ⊥) × (listed (width_in d.signals) other.does s k ≡ true))
        (by_test (ReadsOutside (flow_of (width_in d.signals) other.does) s k) (reads_outside (flow_of (width_in d.signals) other.does) s k) (decided (flow_of (width_in d.signals) other.does) s k).outside.0 (decided (flow_of (width_in d.signals) other.does) s k).outside.1)
        (both (p ≡ q → ⊥) (listed (width_in d.signals) other.does s k ≡ true) (neither (p ≡ q) (cases_eq p q))
        (by_test (listed (width_in d.signals) other.does s k ≡ true) (listed (width_in d.signals) other.does s k) (λ h. h) (λ h. h))))

    abbrev MeetsIn : ℕ → Type 0
    MeetsIn s = (k : ℕ) × Meets s k

    some_decided : slice_get d.tasks p ≡ Some one → Decided ((s : ℕ) × MeetsIn s)
    some_decided there =
        some_of MeetsIn (λ s. some_of (Meets s) (meets_decided s) (widths d s) (λ k h. process_inside d lawful p one.does (ap doing_of there) s k h.0))
        (length d.signals) (λ s h. signal_there d.signals s h.0 (process_inside d lawful p one.does (ap doing_of there) s h.0 h.1.0))

  pub node_decided : (does : Doing) → Decided (HasNoEdge does)
  node_decided (Assign target value) = inl tt
  node_decided (Comb list body) = inl tt
  node_decided (Edge' events body) = inr (λ h. h)

  of_task : (P : Task → Type 0) (p : ℕ) (task : Task) → slice_get d.tasks p ≡ Some task → P task → IsSomeAnd (slice_get d.tasks p) P
  of_task P p task there h = subst (λ o. IsSomeAnd o P) (sym there) h

  at_task : (P : Task → Type 0) (p : ℕ) (task : Task) → slice_get d.tasks p ≡ Some task → IsSomeAnd (slice_get d.tasks p) P → P task
  at_task P p task there h = subst (λ o. IsSomeAnd o P) there h

  arrow_of : (p q : ℕ) (one other : Task) → slice_get d.tasks p ≡ Some one → slice_get d.tasks q ≡ Some other → HasNoEdge one.does → HasNoEdge other.does → (s k : ℕ) → Meets p q one other s k → Arrow p q
  arrow_of p q one other there there' node node' s k h =
      record {
        «from» = of_task (λ task. HasNoEdge task.does) p one there node;
        to = of_task (λ task. HasNoEdge task.does) q other there' node';
        signal = s;
        bit = k;
        written = of_task (λ task. MayWrite (flow_of (width_in d.signals) task.does) s k) p one there h.0;
        wanted = elim h.1 [
          | inl reads ↦ inl (of_task (λ task. ReadsOutside (flow_of (width_in d.signals) task.does) s k) q other there' reads)
          | inr lists ↦ inr (lists.0, of_task (λ task. listed (width_in d.signals) task.does s k ≡ true) q other there' lists.1)
        ];
      }

  arrow_meets : (p q : ℕ) (one other : Task) → slice_get d.tasks p ≡ Some one → slice_get d.tasks q ≡ Some other → (arrow : Arrow p q) → Meets p q one other arrow.signal arrow.bit
  arrow_meets p q one other there there' arrow = (
    at_task (λ task. MayWrite (flow_of (width_in d.signals) task.does) arrow.signal arrow.bit) p one there arrow.written,
    elim arrow.wanted [
      | inl reads ↦ inl (at_task (λ task. ReadsOutside (flow_of (width_in d.signals) task.does) arrow.signal arrow.bit) q other there' reads)
      | inr lists ↦ inr (lists.0, at_task (λ task. listed (width_in d.signals) task.does arrow.signal arrow.bit ≡ true) q other there' lists.1)
    ],
  )

  by_tasks : (p q : ℕ) (o o' : Option Task) → slice_get d.tasks p ≡ o → slice_get d.tasks q ≡ o' → Decided (Arrow p q)
  by_tasks p q None o' there there' =
      inr (λ arrow. subst (λ o. IsSomeAnd o (λ (task : Task). HasNoEdge task.does)) there arrow.from)
  by_tasks p q (Some one) None there there' =
      inr (λ arrow. subst (λ o. IsSomeAnd o (λ (task : Task). HasNoEdge task.does)) there' arrow.to)
  by_tasks p q (Some one) (Some other) there there' =
      by_parts (node_decided one.does) (node_decided other.does) (some_decided p q one other there)
    where
      by_parts : Decided (HasNoEdge one.does) → Decided (HasNoEdge other.does) → Decided ((s : ℕ) × MeetsIn p q one other s) → Decided (Arrow p q)
      by_parts (inl node) (inl node') (inl h) = inl (arrow_of p q one other there there' node node' h.0 h.1.0 h.1.1)
      by_parts (inl node) (inl node') (inr none) =
          inr (λ arrow. none (arrow.signal, (arrow.bit, arrow_meets p q one other there there' arrow)))
      by_parts (inl node) (inr no_node) h = inr (λ arrow. no_node (at_task (λ task. HasNoEdge task.does) q other there' arrow.to))
      by_parts (inr no_node) node' h = inr (λ arrow. no_node (at_task (λ task. HasNoEdge task.does) p one there arrow.from))

  pub arrow_decided : (p q : ℕ) → Decided (Arrow p q)
  arrow_decided p q = by_tasks p q (slice_get d.tasks p) (slice_get d.tasks q) refl refl

  -- ---- chains of arrows

  abbrev IsLinked : ℕ → ℕ → Type 0
  IsLinked p q = (n : ℕ) × Chain Arrow (suc n) p q

  after : (i j l n : ℕ) → IsLinked i j → Chain Arrow n j l → IsLinked i l
  after i j l n linked (level.Here p) = linked
  after i j l n linked (level.Then m p q r before arrow) =
      let whole = after i p q m linked before in (suc whole.0, level.Then (suc whole.0) i q r whole.1 arrow)

  linked : (p q : ℕ) → Joins Arrow (length d.tasks) p q → IsLinked p q
  linked =
      joins_in Arrow IsLinked (λ p q arrow. (0, level.Then 0 p p q (level.Here p) arrow))
      (λ p m q one other. after p m q (suc other.0) one other.1) (length d.tasks)

  pub node_below : (p : ℕ) → IsNode d.tasks p → p < length d.tasks
  node_below p node = by_task (slice_get d.tasks p) refl node
    where
      by_task : (o : Option Task) → slice_get d.tasks p ≡ o → IsSomeAnd o (λ task. HasNoEdge task.does) → p < length d.tasks
      by_task None e none = absurd none
      by_task (Some task) e is = slice_get_within d.tasks p task e

  -- ---- levels

  joins : (p q : ℕ) → Decided (Joins Arrow (length d.tasks) p q)
  joins = joins_decided Arrow arrow_decided (length d.tasks)

  -- how many processes feed one, straight or by others
  pub level_of : ℕ → ℕ
  level_of p = count (length d.tasks) (λ q. told (joins q p))

  pub ascends : AreCombLoop d [] → (p q : ℕ) → IsArrow d.signals d.tasks p q → level_of p < level_of q
  unfolding level_of
  ascends none p q arrow =
      let n = length d.tasks in
      let below = node_below p arrow.from in
      let here = at_once Arrow n p q arrow in
      count_less (λ r. told (joins r p)) (λ r. told (joins r q))
      (λ r is. told_from (joins r q) (joined Arrow n p r q below (told_true (joins r p) is) here)) p
      (told_not (joins p p) (λ cycle. let whole = linked p p cycle in comb_loop d none p (record { node = p; round = whole.0; cycle = whole.1; length = 0; chain = level.Here p })))
      (told_from (joins p q) here) n below
