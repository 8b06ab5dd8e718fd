-- Where a rule has no finding, none of its sites breaks it.
use Rattle.std.proofs.Common.{◌≡◌, ◌+◌, ◌<◌, ℕ, zero, suc, Bool, true, false, cond, List, [], ◌∷◌, ◌++◌, length, map, Option, None, Some, refl, subst, inl, inr, arith}
use Rattle.std.specs.List.{All, enumerate_from, filter, flat_map, list_any, slice_get}
use Rattle.std.proofs.lemmas.Bool.{cases_eq, false≢true, or_cases, or_left, or_right}
use Rattle.std.proofs.lemmas.List.Elements.{All-cons, All-head, All-nil, All-tail}
use Rattle.rtl_flat.specs.declared.signal.Signal.{Signal}
use Rattle.rtl_flat.specs.Process.{Doing, Task}
use Rattle.rtl_flat.specs.Signs.{width_in}
use Rattle.event_model.specs.Queue.{doing_at, doing_of}
use Rattle.rtl_flat.specs.Flats.{Flat}
use Rattle.rtl_rule.specs.declared.finding.Finding.{Finding}
use Rattle.rtl_rule.specs.Parts.{At, process_sites, signal_sites, sites, some_below, within}
use Rattle.rtl_rule.specs.Sites.{AreFindings, AreThose}
use Rattle.rtl_rule.proofs.Lists.{Each, each_flat, each_map, each_numbered}

-- ---- no finding

none_breaks : {A : Type 0} (P : A → Type 0) (all : List A) → AreThose P all [] → Each (λ x. P x → ⊥) all
none_breaks P [] h = tt
none_breaks P (x ∷ xs) (inl (breaks, rest, e, more)) = absurd (cc)
none_breaks P (x ∷ xs) (inr (keeps, more)) = (keeps, none_breaks P xs more)

pub refuted : {A : Type 0} (P : A → Type 0) (finding_at : A → Finding) (all : List A) → AreFindings P finding_at all [] → Each (λ x. P x → ⊥) all
refuted P finding_at all h = by_broken h.broken h.shown h.those
  where
    by_broken : (broken : List _) → [] ≡ map finding_at broken → AreThose P all broken → Each (λ x. P x → ⊥) all
    by_broken [] e those = none_breaks P all those
    by_broken (x ∷ xs) e those = absurd (cc)

-- what a function lists of a process
pub refuted_in : {A : Type 0} (P : At A → Type 0) (finding_at : At A → Finding) (list : Doing → List A) (d : Flat) → AreFindings P finding_at (sites list d) [] → (p : ℕ) (task : Task) → slice_get d.tasks p ≡ Some task → Each (λ it. P (within (p, task) it) → ⊥) (list task.does)
refuted_in P finding_at list d h p task there =
    let all = refuted P finding_at (sites list d) h in
    let of_tasks = each_flat (λ site. P site → ⊥) (λ (one : ℕ × Task). map (within one) (list one.1.does)) (enumerate_from 0 d.tasks) all in
    let of_task = each_numbered (λ (one : ℕ × Task). Each (λ site. P site → ⊥) (map (within one) (list one.1.does))) 0 d.tasks of_tasks p p task there (omega arith) in
    each_map (λ site. P site → ⊥) (within (p, task)) (list task.does) of_task

-- a process
pub process_refuted : (P : At Doing → Type 0) (finding_at : At Doing → Finding) (d : Flat) → AreFindings P finding_at (process_sites d) [] → (p : ℕ) (task : Task) → slice_get d.tasks p ≡ Some task → P (within (p, task) task.does) → ⊥
process_refuted P finding_at d h p task there =
    (refuted_in P finding_at (λ does. does ∷ []) d h p task there).0

pub slice_there : {A : Type 0} (xs : List A) (s : ℕ) → s < length xs → (x : A) × (slice_get xs s ≡ Some x)
slice_there [] s below = absurd (omega (arith, below))
slice_there (x ∷ xs) zero below = (x, refl)
slice_there (x ∷ xs) (suc s) below = slice_there xs s (omega (arith, below))

-- a process with a signal
pub signal_refuted : (P : At ℕ → Type 0) (finding_at : At ℕ → Finding) (d : Flat) → AreFindings P finding_at (signal_sites d) [] → (p : ℕ) (task : Task) → slice_get d.tasks p ≡ Some task → (s : ℕ) → s < length d.signals → P (within (p, task) s) → ⊥
signal_refuted P finding_at d h p task there s below =
    let all = refuted_in P finding_at (λ does. map (λ (one : ℕ × Signal). one.0) (enumerate_from 0 d.signals)) d h p task there in
    let numbered = each_map (λ (it : ℕ). P (within (p, task) it) → ⊥) (λ (one : ℕ × Signal). one.0) (enumerate_from 0 d.signals) all in
    let (signal, is) = slice_there d.signals s below in
    each_numbered (λ (one : ℕ × Signal). P (within (p, task) one.0) → ⊥) 0 d.signals numbered s s signal is (omega arith)

-- the process that does something
pub record IsTask (d : Flat) (p : ℕ) (does : Doing) : Type 0 where
  pub task : Task
  pub there : slice_get d.tasks p ≡ Some task
  pub is : task.does ≡ does

pub task_of : (d : Flat) (p : ℕ) (does : Doing) → doing_at d p ≡ Some does → IsTask d p does
task_of d p does e = by_task (slice_get d.tasks p) refl e
  where
    by_task : (o : Option Task) → slice_get d.tasks p ≡ o → doing_of o ≡ Some does → IsTask d p does
    by_task None there is = absurd (cc)
    by_task (Some task) there is = record { task = task; there = there; is = cc }

-- a signal with a bit is there
pub signal_there : (signals : List Signal) (i k : ℕ) → k < width_in signals i → i < length signals
signal_there [] i k below = absurd (omega (arith, below))
signal_there (s ∷ signals) zero k below = omega arith
signal_there (s ∷ signals) (suc i) k below =
    let there = signal_there signals i k below in omega (arith, there)

-- ---- an element that passes a test

pub record IsFound {A : Type 0} (xs : List A) (test : ℕ → A → Bool) : Type 0 where
  pub place : ℕ
  pub element : A
  pub there : slice_get xs place ≡ Some element
  pub passes : test place element ≡ true

pub any_found : {A : Type 0} (test : A → Bool) (xs : List A) → list_any test xs ≡ true → IsFound xs (λ n x. test x)
any_found test [] h = absurd (false≢true h)
any_found test (x ∷ xs) h =
    elim (or_cases (test x) (list_any test xs) h) [
      | inl here ↦ record { place = 0; element = x; there = refl; passes = here }
      | inr later ↦
          let found = any_found test xs later in
          record { place = suc found.place; element = found.element; there = found.there; passes = found.passes }
    ]

found_from : {A : Type 0} (test : (ℕ × A) → Bool) (n : ℕ) (xs : List A) → list_any test (enumerate_from n xs) ≡ true → IsFound xs (λ k x. test (n + k, x))
found_from test n [] h = absurd (false≢true h)
found_from test n (x ∷ xs) h =
    elim (or_cases (test (n, x)) (list_any test (enumerate_from (n + 1) xs)) h) [
      | inl here ↦
          let same : n ≡ n + 0 = omega arith in
          record { place = 0; element = x; there = refl; passes = subst (λ m. test (m, x) ≡ true) same here }
      | inr later ↦
          let found = found_from test (n + 1) xs later in
          let same : n + 1 + found.place ≡ n + suc found.place = omega arith in
          record {
            place = suc found.place;
            element = found.element;
            there = found.there;
            passes = subst (λ m. test (m, found.element) ≡ true) same found.passes;
          }
    ]

-- the same of a list with its numbers
pub numbered_found : {A : Type 0} (test : (ℕ × A) → Bool) (xs : List A) → list_any test (enumerate_from 0 xs) ≡ true → IsFound xs (λ k x. test (k, x))
numbered_found test xs h =
    let found = found_from test 0 xs h in
    let same : 0 + found.place ≡ found.place = omega arith in
    record {
      place = found.place;
      element = found.element;
      there = found.there;
      passes = subst (λ m. test (m, found.element) ≡ true) same found.passes;
    }
