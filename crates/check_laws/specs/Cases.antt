-- What the case statements of a design are in which a rule has no finding.
use Rattle.std.specs.Prelude.{◌≡◌, ℕ, [], Some}
use Rattle.std.specs.List.{slice_get}
use Rattle.rtl_flat.specs.Process.{Actions, Doing, Assign, Comb, Edge', Task}
use Rattle.net_laws.specs.Rules.{EachOf, HasDisjoint, IsFull}
use Rattle.rtl_flat.specs.Flats.{Flat}
use Rattle.check_case.specs.Cases.{AreFullCase, AreParallelCase}

-- whether a process does what a body says
abbrev pub Does : Doing → Actions → Type 0
Does (Assign target value) body = ⊥
Does (Comb list own) body = own ≡ body
Does (Edge' events own) body = own ≡ body

-- the body of a process
pub record IsBodyOf (d : Flat) (p : ℕ) (body : Actions) : Type 0 where
  pub task : Task
  pub there : slice_get d.tasks p ≡ Some task
  pub does : Does task.does body

-- C1: a case with `full_case` and no `default` is complete by its labels
abbrev pub FullCase : Flat → Type 0
FullCase d =
    AreFullCase d [] → (p : ℕ) (body : Actions) → IsBodyOf d p body → EachOf (IsFull d) body

-- C2: the items of a case with `parallel_case` are disjoint
abbrev pub ParallelCase : Flat → Type 0
ParallelCase d =
    AreParallelCase d [] → (p : ℕ) (body : Actions) → IsBodyOf d p body → EachOf HasDisjoint body
