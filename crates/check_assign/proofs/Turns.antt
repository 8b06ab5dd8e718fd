-- Processes one after another, and what those below a number may write.
use Rattle.std.proofs.Common.{ℕ, zero, suc, ◌≡◌, ◌∙◌, ◌<◌, ◌≤◌, ◌+◌, arith, Bool, false, ◌&&◌, ◌||◌, List, [], ◌∷◌, length, get_or, take, Some, refl, sym, ap, subst}
use Rattle.std.specs.Prelude.{nat_lt}
use Rattle.std.specs.List.{enumerate_from, list_any, slice_get}
use Rattle.std.proofs.lemmas.Bool.{le-ltb, lt-ltb}
use Rattle.std.proofs.lemmas.List.{take_all}
use Rattle.rtl_flat.specs.declared.act.Process.{Process}
use Rattle.rtl_flat.specs.declared.design.Design.{Design}
use Rattle.rtl_flat.specs.Process.{Task, task}
use Rattle.rtl_rule.specs.Parts.{written}
use Rattle.rtl_flat.specs.Flats.{Flat, flat}
use Rattle.check_loops.proofs.check_found_proofs.Gathering.{take_next}
use Rattle.check_loops.proofs.check_found_proofs.Sites.{task_at, task_count}
use Rattle.check_assign.specs.Assigned.{is_written, lower_writes}
use Rattle.check_assign.proofs.Unions.{any_append, or_false}

-- the process that a loop looks at
pub task_there : (design : Design) (processes : List Process) (k : ℕ) (one : Process) → processes ≡ design.processes.items → k < length processes → one ≡ get_or processes k one → slice_get (flat design).tasks k ≡ Some (task one)
task_there design processes k one same below is =
    task_at design k one (subst (λ (ps : List Process). k < length ps) same below) (subst (λ (ps : List Process). one ≡ get_or ps k one) same is)

there_is : {A : Type 0} (xs : List A) (k : ℕ) → k < length xs → (x : A) × (slice_get xs k ≡ Some x)
there_is [] k below = absurd (omega (arith, below))
there_is (x ∷ xs) zero below = (x, refl)
there_is (x ∷ xs) (suc k) below = there_is xs k (omega (arith, below))

pub task_of : (design : Design) (k : ℕ) → k < length design.processes.items → (one : Task) × (slice_get (flat design).tasks k ≡ Some one)
task_of design k below =
    let count = task_count design in
    there_is (flat design).tasks k (omega (arith, below, count))

-- ---- the processes below a number

abbrev pub below_writes : Flat → ℕ → ℕ → ℕ → Bool
below_writes d n s k = list_any (λ (one : Task). written d one.does s k) (take n d.tasks)

pub below_next : (d : Flat) (n : ℕ) (one : Task) → slice_get d.tasks n ≡ Some one → (s k : ℕ) → below_writes d (n + 1) s k ≡ (below_writes d n s k || written d one.does s k)
below_next d n one there s k =
    let test = λ (one : Task). written d one.does s k in
    ap (list_any test) (take_next d.tasks n one there) ∙ any_append test (take n d.tasks) (one ∷ [])
    ∙ ap (λ t. list_any test (take n d.tasks) || t) (or_false (test one))

pub below_all : (d : Flat) (n : ℕ) → length d.tasks ≤ n → (s k : ℕ) → below_writes d n s k ≡ is_written d s k
below_all d n past s k =
    ap (list_any (λ (one : Task). written d one.does s k)) (take_all n d.tasks past)

module _ (test : Task → Bool) (p : ℕ) where
  abbrev lower : (ℕ × Task) → Bool
  lower one = nat_lt one.0 p && test one.1

  none_past : (n : ℕ) (tasks : List Task) → p ≤ n → list_any lower (enumerate_from n tasks) ≡ false
  none_past n [] past = refl
  none_past n (x ∷ tasks) past =
      ap (λ t. (t && test x) || list_any lower (enumerate_from (n + 1) tasks)) (le-ltb n p past) ∙ none_past (n + 1) tasks (omega (arith, past))

  lower_take : (n m : ℕ) (tasks : List Task) → n + m ≡ p → list_any lower (enumerate_from n tasks) ≡ list_any test (take m tasks)
  lower_take n zero [] sum = refl
  lower_take n (suc m) [] sum = refl
  lower_take n zero (x ∷ tasks) sum = none_past n (x ∷ tasks) (omega (arith, sum))
  lower_take n (suc m) (x ∷ tasks) sum =
      ap (λ t. (t && test x) || list_any lower (enumerate_from (n + 1) tasks)) (lt-ltb n p (omega (arith, sum)))
      ∙ ap (λ t. test x || t) (lower_take (n + 1) m tasks (omega (arith, sum)))

pub lower_is : (d : Flat) (p s k : ℕ) → lower_writes d p s k ≡ below_writes d p s k
lower_is d p s k = lower_take (λ (one : Task). written d one.does s k) p 0 p d.tasks (omega arith)

pub lower_next : (d : Flat) (n : ℕ) (one : Task) → slice_get d.tasks n ≡ Some one → (s k : ℕ) → lower_writes d (n + 1) s k ≡ (lower_writes d n s k || written d one.does s k)
lower_next d n one there s k =
    lower_is d (n + 1) s k ∙ below_next d n one there s k ∙ ap (λ t. t || written d one.does s k) (sym (lower_is d n s k))

pub lower_none : (d : Flat) (s k : ℕ) → lower_writes d 0 s k ≡ false
lower_none d s k = lower_is d 0 s k
