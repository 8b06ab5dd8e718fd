-- A process has one level, and events are chosen by the levels of a design's processes alone.
use Rattle.std.proofs.Common.{◌≡◌, ◌∙◌, ℕ, ◌<◌, Bool, true, false, cond, List, [], ◌∷◌, ◌++◌, map, length, Option, None, Some, refl, sym, ap, ◌⊎◌, inl, inr, arith}
use Rattle.std.specs.List.{slice_get}
use Rattle.std.specs.Option.{IsSomeAnd}
use Rattle.rtl_flat.specs.declared.signal.Signal.{Signal}
use Rattle.rtl_flat.specs.Process.{Doing, Assign, Comb, Edge', Task}
use Rattle.rtl_flat.specs.Levels.{HasNoEdge, IsArrow, IsLevel, IsLevelIn}
use Rattle.event_model.specs.declared.policy.Policy.{Policy}
use Rattle.event_model.specs.declared.policy.Policy.TheVariants.{Level, Ascending, Descending}
use Rattle.event_model.specs.Order.{first_delayed, inputs, updates, woken}
use Rattle.event_model.specs.Policies.{chosen, first_of, is_below, lower, lowest, lowest_event}
use Rattle.event_model.specs.Queue.{Input, State, Update}
use Rattle.rtl_flat.specs.Flats.{Flat}
use Rattle.event_model.proofs.Active.{Each, numbers_pass}

-- ---- one level

level_in_once : (Arrow : ℕ → ℕ → Type 0) (p : ℕ) (one other : Option ℕ) → IsLevelIn Arrow p one → IsLevelIn Arrow p other → one ≡ other
level_in_once Arrow p None None one other = refl
level_in_once Arrow p None (Some n) one other = absurd (other.0 one)
level_in_once Arrow p (Some m) None one other = absurd (one.0 other)
level_in_once Arrow p (Some m) (Some n) one other =
    ap (λ (k : ℕ). Some k) (omega (one.1.most n other.1.start other.1.chain, other.1.most m one.1.start one.1.chain, arith))

doing_or_not : (does : Doing) → HasNoEdge does ⊎ (HasNoEdge does → ⊥)
doing_or_not (Assign target value) = inl tt
doing_or_not (Comb list body) = inl tt
doing_or_not (Edge' events body) = inr (λ none. none)

task_or_not : (found : Option Task) → IsSomeAnd found (λ task. HasNoEdge task.does) ⊎ (IsSomeAnd found (λ task. HasNoEdge task.does) → ⊥)
task_or_not None = inr (λ none. none)
task_or_not (Some task) = doing_or_not task.does

pub level_once : (signals : List Signal) (tasks : List Task) (p : ℕ) (one other : Option ℕ) → IsLevel signals tasks p one → IsLevel signals tasks p other → one ≡ other
level_once signals tasks p one other first second =
    elim (task_or_not (slice_get tasks p)) [
      | inl node ↦ level_in_once (IsArrow signals tasks) p one other (first.of_node node) (second.of_node node)
      | inr edge ↦ first.of_edge edge ∙ sym (second.of_edge edge)
    ]

-- ---- one choice

either_number : (P : ℕ → Type 0) (b : Bool) (p q : ℕ) → P p → P q → P (cond b q p)
either_number P true p q a b = b
either_number P false p q a b = a

module _ (f g : ℕ → Option ℕ) where
  abbrev Alike : ℕ → Type 0
  Alike p = f p ≡ g p

  abbrev AlikeIn : Option ℕ → Type 0
  AlikeIn None = Unit {0}
  AlikeIn (Some p) = Alike p

  same_lower : (p : ℕ) (o : Option ℕ) → Alike p → AlikeIn o → (lower f p o ≡ lower g p o) × Alike (lower f p o)
  same_lower p None one others = (refl, one)
  same_lower p (Some q) one others = (
    ap (λ (level : Option ℕ). cond (is_below level (f p)) q p) others ∙ ap (λ (level : Option ℕ). cond (is_below (g q) level) q p) one,
    either_number Alike (is_below (f q) (f p)) p q one others,
  )

  same_lowest : (ps : List ℕ) → Each Alike ps → (lowest f ps ≡ lowest g ps) × AlikeIn (lowest f ps)
  same_lowest [] all = (refl, tt)
  same_lowest (p ∷ ps) all =
      let others = same_lowest ps all.1 in
      let same = same_lower p (lowest f ps) all.0 others.1 in
      (ap (λ (k : ℕ). Some k) same.0 ∙ ap (λ (o : Option ℕ). Some (lower g p o)) others.0, same.1)

  alike_below : (limit : ℕ) (test : ℕ → Bool) → ((p : ℕ) → p < limit → Alike p) → (ps : List ℕ) → Each (λ k. (k < limit) × (test k ≡ true)) ps → Each Alike ps
  alike_below limit test all [] each = tt
  alike_below limit test all (p ∷ ps) each = (all p each.0.0, alike_below limit test all ps each.1)

  pub same_choice : (policy : Policy) (d : Flat) (s : State) → ((p : ℕ) → p < length d.tasks → f p ≡ g p) → chosen policy f d s ≡ chosen policy g d s
  same_choice Level d s all =
      let numbered = alike_below (length d.tasks) s.woken all (woken d s) (numbers_pass (length d.tasks) s.woken) in
      ap (λ (o : Option ℕ). first_of ((map Input (inputs d s) ++ map Update (updates d s)) ++ first_delayed s.activated ++ lowest_event d o)) (same_lowest (woken d s) numbered).0
  same_choice Ascending d s all = refl
  same_choice Descending d s all = refl
