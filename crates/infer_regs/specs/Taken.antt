-- It serves inner contracts and proofs; no answer of the program is stated by it.
-- Processes that are taken as registers, one after another.
use Rattle.std.specs.Prelude.{◌≡◌, ◌<◌, ◌≤◌, ℕ, Bool, true, false, List, [], ◌∷◌, ◌++◌, length, map, take, Some, Vec}
use Rattle.std.specs.List.{All, enumerate_from, filter_map, slice_get}
use Rattle.std.specs.declared.alloc.Global.{Global}
use Rattle.rtl_flat.specs.declared.expr.SigId.{SigId}
use Rattle.rtl_flat.specs.Process.{Task}
use Rattle.net_model.specs.Cycle.{Guard}
use Rattle.rtl_rule.specs.declared.rule.Rule.{Rule}
use Rattle.rtl_flat.specs.Flats.{Flat}
use Rattle.net_list.specs.rtl_scan.Arrows.{Among}
use Rattle.net_list.specs.rtl_scan.Graph.{row}
use Rattle.net_list.specs.declared.clocked.Clocked.{Clocked}
use Rattle.net_list.specs.Chosen.{IsClocked, number_of}
use Rattle.net_list.specs.Faults.{HasFault, IsFault, IsShapeless}
use Rattle.infer_regs.specs.Forms.{AreNone, form_rules}

-- a signal comes from some top input
abbrev pub HasTop : List (Vec ℕ Global) → ℕ → Type 0
HasTop tops signal = 1 ≤ length (row tops signal)

-- of each reset a top input that it comes from
abbrev pub AreResetTops : List (Vec ℕ Global) → List Guard → List SigId → Type 0
AreResetTops tops [] [] = Unit {0}
AreResetTops tops (guard ∷ guards) (top ∷ found) =
    Among (row tops guard.item.signal) top.0 × AreResetTops tops guards found
AreResetTops tops [] (top ∷ found) = ⊥
AreResetTops tops (guard ∷ guards) [] = ⊥

-- the processes below a number that wait for edges
abbrev pub numbers_below : Flat → ℕ → List ℕ
numbers_below d n = filter_map (λ (one : ℕ × Task). number_of one.0 one.1.does) (enumerate_from 0 (take n d.tasks))

-- those that were taken so far, and no process so far has a fault
pub record AreTaken (d : Flat) (n : ℕ) (clocked : List Clocked) : Type 0 where
  pub numbers : map (λ (one : Clocked). one.process.0) clocked ≡ numbers_below d n
  pub each : All (IsClocked d) clocked
  pub formed : (p : ℕ) → p < n → IsShapeless d p → ⊥

-- ---- one process

-- some rule has a finding on it
abbrev pub IsBroken : Flat → ℕ → Type 0
IsBroken d p = (rule : Rule) × HasFault d p rule

-- none of the rules that decide the form has one
abbrev pub IsWhole : Flat → ℕ → Type 0
IsWhole d p = (task : Task) → slice_get d.tasks p ≡ Some task → AreNone (IsFault d p task) form_rules

-- the process with its chain
pub record IsOne (d : Flat) (p : ℕ) (one : Clocked) : Type 0 where
  pub process : one.process.0 ≡ p
  pub clocked : IsClocked d one
  pub whole : IsWhole d p

-- a process is put behind others, unless it is broken
abbrev pub Takes : Flat → ℕ → Bool → List Clocked → List Clocked → Type 0
Takes d p true old new = (one : Clocked) × (new ≡ old ++ one ∷ []) × IsOne d p one
Takes d p false old new = IsBroken d p
