-- Findings of rules with one site a process, and of processes where no site breaks a rule.
use Rattle.std.proofs.Common.{◌≡◌, ℕ, zero, suc, ◌<◌, true, false, List, [], ◌∷◌, length, get_or, Option, None, Some, refl, arith, inr}
use Rattle.std.specs.List.{slice_get}
use Rattle.rtl_flat.specs.declared.expr.SigId.{SigId}
use Rattle.rtl_flat.specs.declared.design.Design.{Design}
use Rattle.rtl_flat.specs.declared.act.Process.{Process}
use Rattle.rtl_flat.specs.Process.{Watched, Task, task}
use Rattle.rtl_flat.specs.Flats.{flat}
use Rattle.rtl_rule.specs.Sites.{AreThose}
use Rattle.check_found.proofs.Sites.{task_at, task_count}
use Rattle.check_sense.specs.Sense.{has_item, signal_of}

pub none_of : {A : Type 0} (P : A → Type 0) (xs : List A) → ((x : A) → P x → ⊥) → AreThose P xs []
none_of P [] fails = refl
none_of P (x ∷ xs) fails = inr (fails x, none_of P xs fails)

-- an element below a list's length
pub there : {A : Type 0} (xs : List A) (n : ℕ) → n < length xs → (x : A) × (slice_get xs n ≡ Some x)
there [] n below = absurd (omega (arith, below))
there (x ∷ xs) zero below = (x, refl)
there (x ∷ xs) (suc n) below = there xs n (omega (arith, below))

pub process_there : (design : Design) (n : ℕ) → n < length design.processes.items → (task : Task) × (slice_get (flat design).tasks n ≡ Some task)
process_there design n below =
    there (flat design).tasks n (omega (arith, below, task_count design))

-- the plain form of the process with a number
pub task_is : (design : Design) (p : ℕ) (process : Process) → p < length design.processes.items → process ≡ get_or design.processes.items p process → (t : Task) → slice_get (flat design).tasks p ≡ Some t → task process ≡ t
task_is design p process below is t at =
    let here = task_at design p process below is in cc (here, at)

-- ---- the first item without an edge

pub some_item : (item : Option Watched) (signal : SigId) → Some signal ≡ signal_of item → has_item item ≡ true
some_item None signal is = absurd (cc)
some_item (Some item) signal is = refl

pub no_item : (item : Option Watched) → None ≡ signal_of item → has_item item ≡ false
no_item None is = refl
no_item (Some item) is = absurd (cc)
