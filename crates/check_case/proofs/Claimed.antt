-- Findings of statements, one after another.
use Rattle.std.proofs.Common.{◌≡◌, ◌∙◌, ℕ, suc, ◌+◌, ◌<◌, Bool, false, List, [], ◌∷◌, ◌++◌, length, get_or, map, take, Some, refl, sym, ap, subst, arith}
use Rattle.std.specs.List.{flat_map, slice_get}
use Rattle.std.proofs.lemmas.List.{append-nil, map-append}
use Rattle.std.proofs.lemmas.List.Concat.{flat_map-append}
use Rattle.rtl_flat.specs.declared.act.Process.{Process}
use Rattle.rtl_flat.specs.declared.design.Design.{Design}
use Rattle.rtl_flat.specs.Expression.{Tree}
use Rattle.rtl_flat.specs.Process.{Piece, Set, If, Block, Actions, Otherwise, Task, task}
use Rattle.rtl_rule.specs.declared.finding.Finding.{Finding}
use Rattle.rtl_flat.specs.Flats.{Flat, flat}
use Rattle.check_found.specs.Gathered.{Gets}
use Rattle.check_found.proofs.Gathering.{gets_both, take_next}
use Rattle.check_found.proofs.Sites.{read_at, task_at, task_count}
use Rattle.check_case.specs.declared.claims.Claim.{Claim}
use Rattle.check_case.specs.declared.claims.Claim.TheVariants.{Full, Parallel}
use Rattle.check_case.specs.Claims.{claims_falsely}

-- ---- processes

there : {A : Type 0} (xs : List A) (n : ℕ) → n < length xs → (x : A) × (slice_get xs n ≡ Some x)
there [] n below = absurd (omega (arith, below))
there (x ∷ xs) ℕ.zero below = (x, refl)
there (x ∷ xs) (suc n) below = there xs n (omega (arith, below))

pub process_there : (design : Design) (n : ℕ) → n < length design.processes.items → (task : Task) × (slice_get (flat design).tasks n ≡ Some task)
process_there design n below =
    there (flat design).tasks n (omega (arith, below, task_count design))

-- the plain form of the process with a number
pub task_is : (design : Design) (p : ℕ) (process : Process) → p < length design.processes.items → process ≡ get_or design.processes.items p process → (t : Task) → slice_get (flat design).tasks p ≡ Some t → task process ≡ t
task_is design p process below is t at =
    let here = task_at design p process below is in cc (here, at)

-- ---- sites that a loop makes of what it goes over

module _ {A B : Type 0} (P : A → Type 0) (finding_at : A → Finding) where
  -- each makes one
  pub gets_next : (g : B → A) (xs : List B) (i : ℕ) (x : B) → i < length xs → x ≡ get_or xs i x → (old mid new : List Finding) → Gets P finding_at (map g (take i xs)) old mid → Gets P finding_at (g x ∷ []) mid new → Gets P finding_at (map g (take (i + 1) xs)) old new
  gets_next g xs i x below is old mid new before here =
      subst (λ (sites : List A). Gets P finding_at sites old new) (sym (ap (map g) (take_next xs i x (read_at xs i x below is)) ∙ map-append g (take i xs) (x ∷ [])))
      (gets_both P finding_at (map g (take i xs)) (g x ∷ []) old mid new before here)

  -- each makes some
  pub gets_more : (g : B → List A) (xs : List B) (i : ℕ) (x : B) → i < length xs → x ≡ get_or xs i x → (old mid new : List Finding) → Gets P finding_at (flat_map g (take i xs)) old mid → Gets P finding_at (g x) mid new → Gets P finding_at (flat_map g (take (i + 1) xs)) old new
  gets_more g xs i x below is old mid new before here =
      subst (λ (sites : List A). Gets P finding_at sites old new) (sym (ap (flat_map g) (take_next xs i x (read_at xs i x below is)) ∙ flat_map-append g (take i xs) (x ∷ []) ∙ ap (λ l. flat_map g (take i xs) ++ l) (append-nil (g x))))
      (gets_both P finding_at (flat_map g (take i xs)) (g x) old mid new before here)

pub map_twice : {A B C : Type 0} (f : B → C) (g : A → B) (xs : List A) → map (λ x. f (g x)) xs ≡ map f (map g xs)
map_twice f g [] = refl
map_twice f g (x ∷ xs) = ap (λ l. f (g x) ∷ l) (map_twice f g xs)

pub flat_maps : {A B C D : Type 0} (f : C → D) (h : B → List C) (g : A → B) (xs : List A) → flat_map (λ x. map f (h (g x))) xs ≡ map f (flat_map h (map g xs))
flat_maps f h g [] = refl
flat_maps f h g (x ∷ xs) =
    ap (λ l. map f (h (g x)) ++ l) (flat_maps f h g xs) ∙ sym (map-append f (h (g x)) (flat_map h (map g xs)))

-- ---- statements that claim nothing

pub set_says : (d : Flat) (claim : Claim) (target : List Piece) (value : Tree) (delayed : Bool) (spot : _) → claims_falsely d claim (Set target value delayed spot) ≡ false
set_says d Full target value delayed spot = refl
set_says d Parallel target value delayed spot = refl

pub if_says : (d : Flat) (claim : Claim) (test : Tree) (taken : Actions) (other : Otherwise) (spot : _) → claims_falsely d claim (If test taken other spot) ≡ false
if_says d Full test taken other spot = refl
if_says d Parallel test taken other spot = refl

pub block_says : (d : Flat) (claim : Claim) (body : Actions) → claims_falsely d claim (Block body) ≡ false
block_says d Full body = refl
block_says d Parallel body = refl

-- a list without elements
pub no_elements : {A : Type 0} (xs : List A) → length xs ≡ 0 → xs ≡ []
no_elements [] none = refl
no_elements (x ∷ xs) none = absurd (omega (arith, none))
