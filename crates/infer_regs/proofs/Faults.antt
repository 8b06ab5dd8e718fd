-- Which rules have findings on a process.
use Rattle.std.proofs.Common.{◌≡◌, ◌∙◌, ◌<◌, ◌||◌, ℕ, zero, suc, Bool, true, List, [], ◌∷◌, length, map, Some, refl, sym, ap, subst, inl, inr, arith}
use Rattle.std.specs.Prelude.{◌↔◌, Vec}
use Rattle.std.specs.declared.alloc.Global.{Global}
use Rattle.std.specs.List.{list_any, slice_get}
use Rattle.std.specs.Option.{IsSomeAnd}
use Rattle.std.proofs.lemmas.Bool.{false≢true, or_cases, or_left, or_right}
use Rattle.rtl_flat.specs.declared.act.EventItem.{EventItem}
use Rattle.rtl_flat.specs.declared.design.Design.{Design}
use Rattle.rtl_flat.specs.Process.{Watched, Actions, Doing, Assign, Comb, Edge', Task, watched}
use Rattle.rtl_rule.specs.declared.rule.Rule.{Rule}
use Rattle.rtl_rule.specs.declared.rule.Rule.TheVariants.{MixedEdges, SeveralDrivers, DerivedClock, ResetShape, ResetPolarity, ResetValue}
use Rattle.rtl_rule.specs.Parts.{is_clocked, items_of, within}
use Rattle.rtl_flat.specs.Flats.{Flat, flat}
use Rattle.net_list.proofs.check_found_proofs.Sites.{task_count}
use Rattle.net_list.specs.check_sense.Sense.{first_level}
use Rattle.net_list.specs.check_sense.Telling.{level_in}
use Rattle.net_list.specs.check_clocks.Clocks.{IsDerivedClock, events_of}
use Rattle.net_list.specs.check_clocks.Roles.{is_derived}
use Rattle.net_list.proofs.check_clocks_proofs.Derivations.{derived_is}
use Rattle.net_list.specs.Faults.{HasFault, IsFault, Waits}
use Rattle.infer_regs.specs.Facts.{AreFacts}
use Rattle.infer_regs.specs.Forms.{AreNone, IsFirstOf, form_rules}

-- ---- processes that wait for edges

pub edges_of : (does : Doing) → is_clocked does ≡ true → (events : List Watched) × (body : Actions) × (does ≡ Edge' events body)
edges_of (Assign target value) h = absurd (false≢true h)
edges_of (Comb list body) h = absurd (false≢true h)
edges_of (Edge' events body) h = (events, body, refl)

-- its items are its events
pub items_are : (does : Doing) → is_clocked does ≡ true → items_of does ≡ events_of does
items_are (Assign target value) h = refl
items_are (Comb list body) h = absurd (false≢true h)
items_are (Edge' events body) h = refl

-- ---- rules

module _ (d : Flat) (p : ℕ) (task : Task) where
  abbrev Has : Rule → Type 0
  Has = IsFault d p task

  pub has_fault : slice_get d.tasks p ≡ Some task → (rule : Rule) → Has rule → HasFault d p rule
  has_fault there rule fault = subst (λ o. IsSomeAnd o (λ one. IsFault d p one rule)) (sym there) fault

  pub fault_of : slice_get d.tasks p ≡ Some task → (rule : Rule) → HasFault d p rule → Has rule
  fault_of there rule fault = subst (λ o. IsSomeAnd o (λ one. IsFault d p one rule)) there fault

  pub waits_of : slice_get d.tasks p ≡ Some task → Waits d p → is_clocked task.does ≡ true
  waits_of there waits = subst (λ o. IsSomeAnd o (λ one. is_clocked one.does ≡ true)) there waits

  pub first_holds : (P : Rule → Type 0) (rules : List Rule) (rule : Rule) → IsFirstOf P rules rule → P rule
  first_holds P [] rule h = absurd h
  first_holds P (one ∷ others) rule (inl h) = subst P (sym h.1) h.0
  first_holds P (one ∷ others) rule (inr h) = first_holds P others rule h.1

  -- no rule has a finding where none of those that decide the form has one, nor A4
  pub no_rule : AreNone Has form_rules → (Has SeveralDrivers → ⊥) → (rule : Rule) → Has rule → ⊥
  no_rule none single MixedEdges h = none.0 h
  no_rule none single SeveralDrivers h = single h
  no_rule none single DerivedClock h = none.1.0 h
  no_rule none single ResetShape h = none.1.1.0 h
  no_rule none single ResetPolarity h = none.1.1.1.0 h
  no_rule none single ResetValue h = none.1.1.1.1.0 h
  no_rule none single _ h = h

-- ---- items

-- some item of a list
pub any_at : {A : Type 0} (test : A → Bool) (P : A → Type 0) → ((x : A) → test x ≡ true ↔ P x) → (xs : List A) → list_any test xs ≡ true ↔ ((n : ℕ) × IsSomeAnd (slice_get xs n) P)
any_at test P is xs = (any_to xs, λ (n, h). any_back xs n h)
  where
    any_to : (xs : List _) → list_any test xs ≡ true → (n : ℕ) × IsSomeAnd (slice_get xs n) P
    any_to [] h = absurd (false≢true h)
    any_to (x ∷ xs) h =
        elim (or_cases (test x) (list_any test xs) h) [
          | inl here ↦ (0, (is x).0 here)
          | inr later ↦ let (n, found) = any_to xs later in (suc n, found)
        ]

    any_back : (xs : List _) (n : ℕ) → IsSomeAnd (slice_get xs n) P → list_any test xs ≡ true
    any_back [] n h = absurd h
    any_back (x ∷ xs) zero h = or_left (test x) (list_any test xs) ((is x).1 h)
    any_back (x ∷ xs) (suc n) h = or_right (test x) (list_any test xs) (any_back xs n h)

pub any_watched : (test : Watched → Bool) (events : List EventItem) → list_any (λ (item : EventItem). test (watched item)) events ≡ list_any test (map watched events)
any_watched test [] = refl
any_watched test (item ∷ events) = ap (λ b. test (watched item) || b) (any_watched test events)

-- S3
pub level_is : (does : Doing) → level_in (events_of does) ≡ first_level does
level_is (Assign target value) = refl
level_is (Comb list body) = refl
level_is (Edge' events body) = refl

-- A7
module _ (d : Flat) (tops : List (Vec ℕ Global)) (clocks resets temporaries : List Bool) (facts : AreFacts d tops clocks resets temporaries) (p : ℕ) (task : Task) (waits : is_clocked task.does ≡ true) where
  abbrev Derives : List Watched → Watched → Bool
  Derives items item = is_derived tops clocks resets items item.signal

  derived_at : (item : Watched) → Derives (events_of task.does) item ≡ true ↔ IsDerivedClock d (within (p, task) item)
  derived_at item =
      subst (λ items. Derives items item ≡ true ↔ IsDerivedClock d (within (p, task) item)) (items_are task.does waits)
      (derived_is d tops facts.tops_are clocks resets facts.roles_are (within (p, task) item))

  pub derived_fault : (events : List EventItem) → map watched events ≡ events_of task.does → list_any (λ (item : EventItem). Derives (map watched events) (watched item)) events ≡ true ↔ IsFault d p task DerivedClock
  derived_fault events same =
      let whole : list_any (λ (item : EventItem). Derives (map watched events) (watched item)) events ≡ list_any (Derives (events_of task.does)) (events_of task.does) =
      any_watched (Derives (map watched events)) events ∙ ap (λ items. list_any (Derives items) items) same in
      subst (λ b. b ≡ true ↔ IsFault d p task DerivedClock) (sym whole)
      (any_at (Derives (events_of task.does)) (λ item. IsDerivedClock d (within (p, task) item)) derived_at (events_of task.does))

-- a process that waits is there
pub below_of : (design : Design) (p : ℕ) → Waits (flat design) p → p < length design.processes.items
below_of design p waits = let count = task_count design in let below = inside (flat design).tasks p waits in omega (arith, below, count)
  where
    inside : (tasks : List Task) (p : ℕ) → IsSomeAnd (slice_get tasks p) (λ task. is_clocked task.does ≡ true) → p < length tasks
    inside [] p h = absurd h
    inside (x ∷ tasks) zero h = omega arith
    inside (x ∷ tasks) (suc p) h = let below = inside tasks p h in omega (arith, below)
