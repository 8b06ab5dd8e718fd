-- What keeps inference from a process: findings about its list, its clock, its resets and its drivers (IEEE 1364.1-2002
-- sections 5.2 and 5.3).
-- Worked examples: crates/tests_rows/stdin.
use Rattle.std.specs.Prelude.{◌≡◌, ◌<◌, ℕ, true, false, length, Some}
use Rattle.std.specs.List.{slice_get}
use Rattle.std.specs.Option.{IsSomeAnd}
use Rattle.rtl_flat.specs.Process.{Task}
use Rattle.rtl_rule.specs.declared.rule.Rule.{Rule}
use Rattle.rtl_rule.specs.declared.rule.Rule.TheVariants.{MixedEdges, SeveralDrivers, DerivedClock, ResetShape, ResetPolarity, ResetValue}
use Rattle.rtl_rule.specs.Parts.{is_clocked, within, written}
use Rattle.rtl_flat.specs.Flats.{Flat}
use Rattle.chain_laws.specs.check_sense.Sense.{IsMixedEdges}
use Rattle.chain_laws.specs.check_chains.Chains.{IsResetPolarity, IsResetShape, IsResetValue}
use Rattle.check_clocks.specs.Clocks.{IsDerivedClock, events_of}
use Rattle.check_assign.specs.Assigned.{IsSeveralDrivers}

-- ---- findings on a process

-- a rule has a finding on a process; other rules than these keep inference from nothing
abbrev pub IsFault : Flat → ℕ → Task → Rule → Type 0
IsFault d p task MixedEdges = IsMixedEdges (within (p, task) task.does)
IsFault d p task SeveralDrivers = (s : ℕ) × (s < length d.signals) × IsSeveralDrivers d (within (p, task) s)
IsFault d p task DerivedClock =
    (n : ℕ) × IsSomeAnd (slice_get (events_of task.does) n) (λ item. IsDerivedClock d (within (p, task) item))
IsFault d p task ResetShape = IsResetShape d (within (p, task) task.does)
IsFault d p task ResetPolarity = IsResetPolarity d (within (p, task) task.does)
IsFault d p task ResetValue = IsResetValue d (within (p, task) task.does)
IsFault d p task _ = ⊥

-- the same of the process with a number
abbrev pub HasFault : Flat → ℕ → Rule → Type 0
HasFault d p rule = IsSomeAnd (slice_get d.tasks p) (λ task. IsFault d p task rule)

-- whether a process waits for edges
abbrev pub Waits : Flat → ℕ → Type 0
Waits d p = IsSomeAnd (slice_get d.tasks p) (λ task. is_clocked task.does ≡ true)

-- whether it is an assignment, or a body with a level list
abbrev pub Flows : Flat → ℕ → Type 0
Flows d p = IsSomeAnd (slice_get d.tasks p) (λ task. is_clocked task.does ≡ false)

-- ---- processes of which nothing is inferred

-- a process that waits for edges and makes no registers
pub record IsShapeless (d : Flat) (p : ℕ) : Type 0 where
  pub waits : Waits d p
  pub rule : Rule
  pub fault : HasFault d p rule

-- an assignment, or a body with a level list, that may write what a lower process may write
pub record IsContended (d : Flat) (p : ℕ) : Type 0 where
  pub flows : Flows d p
  pub fault : HasFault d p SeveralDrivers

-- no process is so
abbrev pub AreFormed : Flat → Type 0
AreFormed d = (p : ℕ) → IsShapeless d p → ⊥

abbrev pub AreAlone : Flat → Type 0
AreAlone d = (p : ℕ) → IsContended d p → ⊥

-- ---- what follows for drivers

-- no bit may be written by two processes
abbrev pub AreApart : Flat → Type 0
AreApart d =
    (p q : ℕ) (one other : Task) → slice_get d.tasks p ≡ Some one → slice_get d.tasks q ≡ Some other →
    (s k : ℕ) → written d one.does s k ≡ true → written d other.does s k ≡ true → p ≡ q
