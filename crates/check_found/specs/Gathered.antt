-- It serves inner contracts and proofs; no answer of the program is stated by it.
-- Findings that are gathered process by process.
use Rattle.std.specs.Prelude.{ℕ, ◌≡◌, List, [], ◌∷◌, ◌++◌, map, take, Option, Some, None}
use Rattle.std.specs.List.{enumerate_from, flat_map}
use Rattle.rtl_flat.specs.declared.expr.SigId.{SigId}
use Rattle.rtl_flat.specs.declared.signal.Signal.{Signal}
use Rattle.rtl_flat.specs.Process.{Doing, Task}
use Rattle.rtl_rule.specs.declared.finding.Finding.{Finding}
use Rattle.rtl_rule.specs.Parts.{At, within}
use Rattle.rtl_flat.specs.Flats.{Flat}
use Rattle.rtl_rule.specs.Sites.{AreFindings}
use Rattle.rtl_scan.specs.declared.bits.Row.{Row}

-- the sites of one process
abbrev pub task_sites : {A : Type 0} → (Doing → List A) → ℕ → Task → List (At A)
task_sites list number task = map (within (number, task)) (list task.does)

-- the sites of processes with numbers from one on
abbrev pub sites_from : {A : Type 0} → (Doing → List A) → ℕ → List Task → List (At A)
sites_from list number tasks =
    flat_map (λ (one : ℕ × Task). map (within one) (list one.1.does)) (enumerate_from number tasks)

-- the sites of the processes below a number
abbrev pub sites_below : {A : Type 0} → (Doing → List A) → Flat → ℕ → List (At A)
sites_below list d n = sites_from list 0 (take n d.tasks)

-- the numbers of all signals
abbrev pub signal_numbers : Flat → Doing → List ℕ
signal_numbers d does = map (λ (one : ℕ × Signal). one.0) (enumerate_from 0 d.signals)

-- one process with the signals of some rows
abbrev pub row_sites : ℕ → Task → List Row → List (At ℕ)
row_sites number task rows = map (λ (row : Row). within (number, task) row.signal.0) rows

-- the signal of the first row
abbrev pub first_signal : List Row → Option SigId
first_signal [] = None
first_signal (row ∷ others) = Some row.signal

-- the findings of some sites are added to others
pub record Gets {A : Type 0} (Breaks : A → Type 0) (finding_at : A → Finding) (sites : List A) (old new : List Finding) : Type 0 where
  pub more : List Finding
  pub added : new ≡ old ++ more
  pub are : AreFindings Breaks finding_at sites more
