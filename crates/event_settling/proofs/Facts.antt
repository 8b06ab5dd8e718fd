-- What a process writes wakes those of higher levels.
use Rattle.std.proofs.Common.{◌≡◌, ◌∙◌, ◌⊎◌, ◌<◌, ℕ, suc, true, false, List, [], ◌∷◌, length, Option, None, Some, refl, sym, ap, subst, inl, inr, arith}
use Rattle.std.specs.List.{slice_get}
use Rattle.std.specs.Option.{IsSomeAnd}
use Rattle.std.proofs.lemmas.Bool.{cases_eq, lt-ltb, or_left}
use Rattle.std.proofs.lemmas.Option.{slice_get_cases, slice_get_within}
use Rattle.rtl_flat.specs.Expression.{Tree}
use Rattle.rtl_flat.specs.Flows.{flow_of, may_target, reads, targets}
use Rattle.rtl_flat.specs.Levels.{HasNoEdge, IsNode, IsArrow, Then, IsLevelIn}
use Rattle.rtl_flat.specs.Paths.{Step, Read, Write, MayRead, MayWrite, ReadsOutside}
use Rattle.rtl_flat.specs.PathSets.{IsTemporaryOf, Uses, listed}
use Rattle.rtl_flat.specs.Process.{Piece, Watched, Actions, Doing, Assign, Comb, Edge', Task}
use Rattle.event_model.specs.Policies.{is_below}
use Rattle.event_model.specs.Queue.{doing_at, doing_of, is_assignment}
use Rattle.rtl_flat.specs.Flats.{Flat, widths}
use Rattle.event_runs.proofs.Writers.{to_process}
use Rattle.event_settling.specs.Settling.{IsSettling}
use Rattle.event_settling.proofs.Waking.{attends}

-- ---- from a process to its task and back

task_of : (P : Task → Type 0) (o : Option Task) (does : Doing) → doing_of o ≡ Some does → ((task : Task) → task.does ≡ does → P task) → IsSomeAnd o P
task_of P None does e make = absurd (let z : None ≡ Some does = e in cc)
task_of P (Some task) does e make = let same : task.does ≡ does = cc in make task same

pub at_task :
    (d : Flat) (p : ℕ) (does : Doing) → doing_at d p ≡ Some does → (P : Task → Type 0) → ((task : Task) → task.does ≡ does → P task) →
    IsSomeAnd (slice_get d.tasks p) P
at_task d p does e P make = task_of P (slice_get d.tasks p) does e make

-- what a condition on a process says of what it does
of_task : (P : Doing → Type 0) (o : Option Task) (does : Doing) → doing_of o ≡ Some does → IsSomeAnd o (λ task. P task.does) → P does
of_task P None does e h = absurd (let z : None ≡ Some does = e in cc)
of_task P (Some task) does e h = let same : task.does ≡ does = cc in subst P same h

some_task : (o : Option Task) (does : Doing) → doing_of o ≡ Some does → (task : Task) × (o ≡ Some task)
some_task None does e = absurd (let z : None ≡ Some does = e in cc)
some_task (Some task) does e = (task, refl)

pub inside : (d : Flat) (p : ℕ) (does : Doing) → doing_at d p ≡ Some does → p < length d.tasks
inside d p does e =
    let it = some_task (slice_get d.tasks p) does e in
    slice_get_within d.tasks p it.0 it.1

pub some_doing : (d : Flat) (q : ℕ) → q < length d.tasks → (does : Doing) × (doing_at d q ≡ Some does)
some_doing d q inside =
    elim (slice_get_cases d.tasks q).1 [
      | inl found ↦ (found.0.does, ap doing_of found.2)
      | inr past ↦ absurd (omega (arith, inside, past.0))
    ]

-- ---- what an assignment reads and writes

pub assign_reads : (ws : ℕ → ℕ) (target : List Piece) (e : Tree) (i k : ℕ) → reads ws e i k ≡ true → ReadsOutside (flow_of ws (Assign target e)) i k
assign_reads ws target e i k is =
    let after : List Step = Write false (may_target ws target) (targets ws target) ∷ [] in
    record {
      before = [];
      step = Read (reads ws e);
      after = after;
      is_path = (after, refl, ([], refl, refl));
      read = is;
      not_written = refl;
    }

assign_may_read : (ws : ℕ → ℕ) (target : List Piece) (e : Tree) (i k : ℕ) → reads ws e i k ≡ true → MayRead (flow_of ws (Assign target e)) i k
assign_may_read ws target e i k is =
    let after : List Step = Write false (may_target ws target) (targets ws target) ∷ [] in
    record {
      path = Read (reads ws e) ∷ after;
      is_path = (after, refl, ([], refl, refl));
      read = or_left (reads ws e i k) false is;
    }

-- ---- levels

below_at : (o o' : Option ℕ) (a b : ℕ) → o ≡ Some a → o' ≡ Some b → a < b → is_below o o' ≡ true
below_at o o' a b e f less =
    ap (λ x. is_below x o') e ∙ ap (is_below (Some a)) f ∙ lt-ltb a b less

below_last : (o o' : Option ℕ) (a : ℕ) → o ≡ Some a → o' ≡ None → is_below o o' ≡ true
below_last o o' a e f = ap (λ x. is_below x o') e ∙ ap (is_below (Some a)) f

module _ (d : Flat) (level : ℕ → Option ℕ) (cone : ℕ → Type 0) (h : IsSettling d level cone) where
  abbrev Arrow : ℕ → ℕ → Type 0
  Arrow = IsArrow d.signals d.tasks

  node : (p : ℕ) (does : Doing) → doing_at d p ≡ Some does → HasNoEdge does → IsNode d.tasks p
  node p does e none = at_task d p does e (λ task. HasNoEdge task.does) (λ task same. subst HasNoEdge (sym same) none)

  by_level : (p : ℕ) (o : Option ℕ) → level p ≡ o → IsLevelIn Arrow p o → (n : ℕ) × (level p ≡ Some n) × IsLevelIn Arrow p (Some n)
  by_level p None is at = absurd (h.no_cycle p at)
  by_level p (Some n) is at = (n, is, at)

  -- a process without an edge has a level
  has_level : (p : ℕ) (does : Doing) → doing_at d p ≡ Some does → HasNoEdge does → (n : ℕ) × (level p ≡ Some n) × IsLevelIn Arrow p (Some n)
  has_level p does e none =
      by_level p (level p) refl ((h.levels p (inside d p does e)).of_node (node p does e none))

  -- one with an edge has none
  no_level : (p : ℕ) (events : List Watched) (body : Actions) → doing_at d p ≡ Some (Edge' events body) → level p ≡ None
  no_level p events body e =
      (h.levels p (inside d p (Edge' events body) e)).of_edge (λ at. of_task HasNoEdge (slice_get d.tasks p) (Edge' events body) e at)

  -- q has a higher level than p
  abbrev pub IsAbove : ℕ → ℕ → Type 0
  IsAbove p q = is_below (level p) (level q) ≡ true

  -- an arrow leads to a higher level
  arrow_above :
      (p q : ℕ) (one other : Doing) → doing_at d p ≡ Some one → HasNoEdge one → doing_at d q ≡ Some other → HasNoEdge other → Arrow p q →
      IsAbove p q
  arrow_above p q one other e none f none' arrow =
      let a = has_level p one e none in
      let b = has_level q other f none' in
      let less = b.2.1.most (suc a.0) a.2.1.start (Then a.0 a.2.1.start p q a.2.1.chain arrow) in
      below_at (level p) (level q) a.0 b.0 a.1 b.1 (omega (arith, less))

  -- who listens to a bit that a process without an edge writes is above it, unless it is a block that wakes itself
  pub listener_above :
      (p q : ℕ) (one other : Doing) → doing_at d p ≡ Some one → HasNoEdge one → doing_at d q ≡ Some other → (i k : ℕ) →
      MayWrite (flow_of (widths d) one) i k → attends (widths d) other i k ≡ true → ((is_assignment (Some other) ≡ false) × (q ≡ p)) ⊎ IsAbove p q
  listener_above p q one (Assign target value) e none f i k written is =
      inr (arrow_above p q one (Assign target value) e none f tt (record {
        «from» = node p one e none;
        to = node q (Assign target value) f tt;
        signal = i;
        bit = k;
        written = to_process MayWrite d p i k one e written;
        wanted = inl (to_process ReadsOutside d q i k (Assign target value) f (assign_reads (widths d) target value i k is));
      }))
  listener_above p q one (Comb list body) e none f i k written is =
      elim (cases_eq q p) [
        | inl same ↦ inl (refl, same)
        | inr other ↦
            inr (arrow_above p q one (Comb list body) e none f tt (record {
              «from» = node p one e none;
              to = node q (Comb list body) f tt;
              signal = i;
              bit = k;
              written = to_process MayWrite d p i k one e written;
              wanted = inr ((λ s. other (sym s)), at_task d q (Comb list body) f (λ task. listed (widths d) task.does i k ≡ true) (λ task same. ap (λ (x : Doing). listed (widths d) x i k) same ∙ is));
            }))
      ]
  listener_above p q one (Edge' events body) e none f i k written is =
      let a = has_level p one e none in
      inr (below_last (level p) (level q) a.0 a.1 (no_level q events body f))

  -- who listens to a temporary is the process whose it is
  uses : (other : Doing) (i k : ℕ) → attends (widths d) other i k ≡ true → (task : Task) → task.does ≡ other → Uses (widths d) task i
  uses (Assign target value) i k is task same =
      record { bit = k; used = inr (inl (subst (λ (x : Doing). MayRead (flow_of (widths d) x) i k) (sym same) (assign_may_read (widths d) target value i k is))) }
  uses (Comb list body) i k is task same =
      record { bit = k; used = inr (inr (ap (λ (x : Doing). listed (widths d) x i k) same ∙ is)) }
  uses (Edge' events body) i k is task same =
      record { bit = k; used = inr (inr (ap (λ (x : Doing). listed (widths d) x i k) same ∙ is)) }

  pub temporary_own :
      (p q : ℕ) (other : Doing) → doing_at d q ≡ Some other → (i k : ℕ) → IsTemporaryOf d.signals d.tasks p i → attends (widths d) other i k ≡ true → q ≡ p
  temporary_own p q other f i k temporary is =
      elim (cases_eq q p) [
        | inl same ↦ same
        | inr apart ↦ absurd (temporary.alone q apart (at_task d q other f (λ task. Uses (widths d) task i) (uses other i k is)))
      ]
