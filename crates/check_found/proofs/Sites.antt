-- Sites process by process, and signal by signal.
use Rattle.std.proofs.Common.{◌≡◌, ◌∙◌, ℕ, zero, suc, ◌+◌, ◌<◌, ◌≤◌, List, [], ◌∷◌, ◌++◌, length, map, take, get_or, Some, refl, sym, ap, subst, arith, append-nil}
use Rattle.std.specs.List.{enumerate_from, flat_map, slice_get}
use Rattle.std.specs.Option.{option_map}
use Rattle.std.proofs.lemmas.List.{length-map, take_all}
use Rattle.std.proofs.lemmas.List.Concat.{flat_map-append}
use Rattle.std.proofs.lemmas.Option.{slice_get-get_or, slice_get-map}
use Rattle.rtl_flat.specs.declared.act.Process.{Process}
use Rattle.rtl_flat.specs.declared.design.Design.{Design}
use Rattle.rtl_flat.specs.Process.{Doing, Task, task}
use Rattle.rtl_rule.specs.declared.finding.Finding.{Finding}
use Rattle.rtl_rule.specs.Parts.{At, sites, within}
use Rattle.rtl_flat.specs.Flats.{Flat, flat}
use Rattle.rtl_rule.specs.Sites.{AreFindings}
use Rattle.check_found.specs.Gathered.{Gets, task_sites, sites_from, sites_below}
use Rattle.check_found.proofs.Gathering.{take_next, findings_more, no_findings}

-- ---- numbered lists

pub numbered_push : {X : Type 0} (n : ℕ) (xs : List X) (y : X) → enumerate_from n (xs ++ y ∷ []) ≡ enumerate_from n xs ++ (n + length xs, y) ∷ []
numbered_push n [] y = ap (λ k. (k, y) ∷ []) (omega arith)
numbered_push n (x ∷ xs) y =
    let same : n + 1 + length xs ≡ n + suc (length xs) = omega arith in
    ap (λ l. (n, x) ∷ l) (numbered_push (n + 1) xs y ∙ ap (λ k. enumerate_from (n + 1) xs ++ (k, y) ∷ []) same)

-- an element with its number
pub numbered_at : {X : Type 0} (n : ℕ) (xs : List X) (k m : ℕ) (x : X) → slice_get xs k ≡ Some x → n + k ≡ m → slice_get (enumerate_from n xs) k ≡ Some (m, x)
numbered_at n [] k m x there e = absurd (cc)
numbered_at n (y ∷ xs) zero m x there e =
    let same : y ≡ x = cc in
    let number : n ≡ m = omega (arith, e) in
    ap (λ k. Some (k, y)) number ∙ ap (λ z. Some (m, z)) same
numbered_at n (y ∷ xs) (suc k) m x there e =
    numbered_at (n + 1) xs k m x there (omega (arith, e))

-- the first elements with their numbers
pub numbered_take : {X : Type 0} (n k : ℕ) (xs : List X) → enumerate_from n (take k xs) ≡ take k (enumerate_from n xs)
numbered_take n zero xs = refl
numbered_take n (suc k) [] = refl
numbered_take n (suc k) (x ∷ xs) = ap (λ l. (n, x) ∷ l) (numbered_take (n + 1) k xs)

-- ---- elements that a loop looks at

pub read_at : {X : Type 0} (xs : List X) (k : ℕ) (x : X) → k < length xs → x ≡ get_or xs k x → slice_get xs k ≡ Some x
read_at xs k x below is = slice_get-get_or xs k x below ∙ ap Some (sym is)

-- the plain form of a process
pub task_at : (design : Design) (k : ℕ) (x : Process) → k < length design.processes.items → x ≡ get_or design.processes.items k x → slice_get (flat design).tasks k ≡ Some (task x)
task_at design k x below is =
    slice_get-map task design.processes.items k ∙ ap (option_map task) (read_at design.processes.items k x below is)

pub task_count : (design : Design) → length (flat design).tasks ≡ length design.processes.items
task_count design = length-map design.processes.items task

-- ---- processes

module _ {A : Type 0} (list : Doing → List A) where
  pub sites_push : (n : ℕ) (tasks : List Task) (task : Task) → sites_from list n (tasks ++ task ∷ []) ≡ sites_from list n tasks ++ task_sites list (n + length tasks) task
  sites_push n tasks task =
      let of_one = λ (one : ℕ × Task). map (within one) (list one.1.does) in
      ap (flat_map of_one) (numbered_push n tasks task)
      ∙ flat_map-append of_one (enumerate_from n tasks) ((n + length tasks, task) ∷ [])
      ∙ ap (λ l. sites_from list n tasks ++ l) (append-nil (task_sites list (n + length tasks) task))

  -- those of one process more
  pub sites_next : (d : Flat) (n : ℕ) (task : Task) → slice_get d.tasks n ≡ Some task → sites_below list d (n + 1) ≡ sites_below list d n ++ task_sites list n task
  sites_next d n task there =
      let count : 0 + length (take n d.tasks) ≡ n = number d.tasks n there in
      ap (sites_from list 0) (take_next d.tasks n task there)
      ∙ sites_push 0 (take n d.tasks) task
      ∙ ap (λ k. sites_below list d n ++ task_sites list k task) count
    where
      number : (tasks : List Task) (n : ℕ) → slice_get tasks n ≡ Some task → 0 + length (take n tasks) ≡ n
      number [] n there = absurd (cc)
      number (x ∷ tasks) zero there = refl
      number (x ∷ tasks) (suc n) there =
          let before = number tasks n there in omega (arith, before)

  -- those of all
  pub sites_all : (d : Flat) (n : ℕ) → length d.tasks ≤ n → sites_below list d n ≡ sites list d
  sites_all d n past = ap (sites_from list 0) (take_all n d.tasks past)

module _ {A : Type 0} (P : At A → Type 0) (finding_at : At A → Finding) (list : Doing → List A) (d : Flat) where
  -- before the first process
  pub none_below : AreFindings P finding_at (sites_below list d 0) []
  none_below = no_findings P finding_at

  -- the findings of one process more
  pub next_below : (n : ℕ) (task : Task) (old new : List Finding) → slice_get d.tasks n ≡ Some task → AreFindings P finding_at (sites_below list d n) old → Gets P finding_at (task_sites list n task) old new → AreFindings P finding_at (sites_below list d (n + 1)) new
  next_below n task old new there h more =
      subst (λ zs. AreFindings P finding_at zs new) (sym (sites_next list d n task there))
      (findings_more P finding_at (sites_below list d n) (task_sites list n task) old new h more)

  -- the findings of all
  pub all_below : (n : ℕ) (found : List Finding) → length d.tasks ≤ n → AreFindings P finding_at (sites_below list d n) found → AreFindings P finding_at (sites list d) found
  all_below n found past h =
      subst (λ zs. AreFindings P finding_at zs found) (sites_all list d n past) h
