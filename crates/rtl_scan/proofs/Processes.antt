-- What a scan of a process says of its path sets.
use Rattle.std.proofs.Common.{ℕ, zero, suc, ◌≡◌, ◌∙◌, ◌<◌, ◌≤◌, arith, Bool, true, false, not, ◌&&◌, ◌||◌, List, [], ◌∷◌, ◌++◌, map, length, get_or, Option, Some, refl, sym, ap, subst, inl, inr}
use Rattle.std.specs.Prelude.{◌⊎◌, ◌+◌, ◌↔◌}
use Rattle.std.specs.List.{All, slice_get}
use Rattle.std.specs.Option.{IsSomeAnd}
use Rattle.std.proofs.lemmas.Bool.{cases_lt}
use Rattle.std.proofs.lemmas.List.Elements.{All-head, All-tail}
use Rattle.rtl_flat.specs.declared.signal.Signal.{Signal}
use Rattle.rtl_flat.specs.declared.instance.Instance.{Instance}
use Rattle.rtl_flat.specs.declared.act.Process.{Process}
use Rattle.rtl_flat.specs.Signs.{width_in}
use Rattle.rtl_flat.specs.WellFormed.{IsSignal}
use Rattle.rtl_flat.specs.Process.{Task, task, doing}
use Rattle.rtl_flat.specs.Paths.{BitSet, Step, Flow, End, Do, Fork, Ways, Last, More, some, some_way, every, every_way, first, first_way}
use Rattle.rtl_flat.specs.Flows.{flow_of}
use Rattle.rtl_flat.specs.PathSets.{OfProcess}

pub widths_fit : (instances : List Instance) (signals : List Signal) → All (IsSignal instances) signals → (i : ℕ) → width_in signals i ≤ 128
widths_fit instances [] h i = omega arith
widths_fit instances (s ∷ signals) h zero = (All-head (IsSignal instances) s signals h).1
widths_fit instances (s ∷ signals) h (suc i) =
    widths_fit instances signals (All-tail (IsSignal instances) s signals h) i

-- where no write counts, each read is the first
never : Step → Bool
never x = false

mutual
  unfolding never

  every_never : (b : Flow) → every never b ≡ false
  every_never End = refl
  every_never (Do x rest) = every_never rest
  every_never (Fork ways rest) = ap (λ t. t || every never rest) (every_way_never ways) ∙ every_never rest

  every_way_never : (ways : Ways) → every_way never ways ≡ false
  every_way_never (Last a) = every_never a
  every_way_never (More a ways) = ap (λ t. t && every_way never ways) (every_never a)

mutual
  unfolding never

  first_never : (f : Step → Bool) (b : Flow) → first f never b ≡ some f b
  first_never f End = refl
  first_never f (Do x rest) = ap (λ t. f x || t) (first_never f rest)
  first_never f (Fork ways rest) =
      ap (λ t. first_way f never ways || (not t && first f never rest)) (every_way_never ways)
      ∙ ap (λ t. t || first f never rest) (first_way_never f ways) ∙ ap (λ t. some_way f ways || t) (first_never f rest)

  first_way_never : (f : Step → Bool) (ways : Ways) → first_way f never ways ≡ some_way f ways
  first_way_never f (Last a) = first_never f a
  first_way_never f (More a ways) =
      ap (λ t. t || first_way f never ways) (first_never f a) ∙ ap (λ t. some f a || t) (first_way_never f ways)

pub first_of_none : (f : Step → Bool) (b : Flow) → first f (λ x. false) b ≡ some f b
unfolding never
first_of_none f b = first_never f b

-- the process with a number
pub task_at : (processes : List Process) (p : ℕ) (one : Process) → p < length processes → one ≡ get_or processes p one → slice_get (map task processes) p ≡ Some (task one)
task_at [] p one h is = absurd (omega arith)
task_at (x ∷ processes) zero one h is = ap (λ y. Some (task y)) (sym is)
task_at (x ∷ processes) (suc p) one h is = task_at processes p one (omega arith) is

pub length-tasks : (processes : List Process) → length processes ≡ length (map task processes)
length-tasks [] = refl
length-tasks (x ∷ processes) = ap suc (length-tasks processes)

pub below_next : (q n : ℕ) → q < n + 1 → (q < n) ⊎ (q ≡ n)
below_next q n h =
    elim (cases_lt q n) [
      | inl below ↦ inl below
      | inr above ↦ inr (omega arith)
    ]

-- a fact of the task with a number
pub there : (P : Task → Type 0) (tasks : List Task) (n : ℕ) (task : Task) → slice_get tasks n ≡ Some task → P task → IsSomeAnd (slice_get tasks n) P
there P tasks n task at = subst (λ (o : Option Task). IsSomeAnd o P) (sym at)

pub back : (P : Task → Type 0) (tasks : List Task) (n q : ℕ) (task : Task) → slice_get tasks n ≡ Some task → q ≡ n → IsSomeAnd (slice_get tasks q) P → P task
back P tasks n q task at e h =
    subst (λ (o : Option Task). IsSomeAnd o P) at (subst (λ (i : ℕ). IsSomeAnd (slice_get tasks i) P) e h)

-- a set of bits that decides a set of paths
pub exact : (P : Flow → ℕ → ℕ → Type 0) (f : Flow → BitSet) → ((flow : Flow) (s k : ℕ) → f flow s k ≡ true ↔ P flow s k) → (signals there : List Signal) → there ≡ signals → (processes : List Process) (p : ℕ) (one : Process) → p < length processes → one ≡ get_or processes p one → (bits : BitSet) → ((s k : ℕ) → bits s k ≡ f (flow_of (width_in there) (doing one.does)) s k) → (s k : ℕ) → bits s k ≡ true ↔ OfProcess P signals (map task processes) p s k
exact P f decides signals there same processes p one h is bits are s k =
    let at = task_at processes p one h is in
    let flow = flow_of (width_in there) (doing one.does) in
    let moved : P flow s k → P (flow_of (width_in signals) (doing one.does)) s k
    = subst (λ (ss : List Signal). P (flow_of (width_in ss) (doing one.does)) s k) same in
    let back : P (flow_of (width_in signals) (doing one.does)) s k → P flow s k
    = subst (λ (ss : List Signal). P (flow_of (width_in ss) (doing one.does)) s k) (sym same) in (
      λ b. subst (λ (o : _). IsSomeAnd o (λ t. P (flow_of (width_in signals) t.does) s k)) (sym at) (moved ((decides flow s k).0 (sym (are s k) ∙ b))),
      λ q. are s k ∙ (decides flow s k).1 (back (subst (λ (o : _). IsSomeAnd o (λ t. P (flow_of (width_in signals) t.does) s k)) at q)),
    )

-- a signal more that isn't too wide
pub width_push : (signals : List Signal) (one : Signal) → ((i : ℕ) → width_in signals i ≤ 128) → one.width ≤ 128 → (i : ℕ) → width_in (signals ++ one ∷ []) i ≤ 128
width_push [] one h fits zero = fits
width_push [] one h fits (suc i) = omega arith
width_push (s ∷ signals) one h fits zero = h zero
width_push (s ∷ signals) one h fits (suc i) = width_push signals one (λ j. h (suc j)) fits i
