-- The verdict on a dump is settled by the design, the scope and the dump.
-- Worked examples: crates/tests_departures/stdin.
use Rattle.std.specs.Prelude.{◌≡◌, ◌⊎◌, ℕ, List}
use Rattle.rtl_flat.specs.Flats.{Flat}
use Rattle.vcd_check.specs.vcd_signals.vcd_read.Reading.{Dump}
use Rattle.vcd_check.specs.declared.verdict.CompareFault.{CompareFault}
use Rattle.vcd_check.specs.declared.verdict.CompareFault.TheVariants.{Memory}
use Rattle.vcd_check.specs.declared.verdict.Verdict.{Verdict}
use Rattle.vcd_check.specs.Verdicts.{IsCompareFault, IsVerdict}
use Rattle.demo_laws.specs.Laws.{AreProcesses}

-- a dump of a design has one verdict
abbrev pub VerdictOnce : Flat → Type 0
VerdictOnce d =
    AreProcesses d →
    (scope : List ℕ) (text : Dump) (one other : Verdict) →
    IsVerdict d scope text one → IsVerdict d scope text other → one ≡ other

-- where it has one, nothing but memory can be wanting
abbrev pub VerdictOrFault : Flat → Type 0
VerdictOrFault d =
    AreProcesses d →
    (scope : List ℕ) (text : Dump) (verdict : Verdict) (fault : CompareFault) →
    IsVerdict d scope text verdict → IsCompareFault d scope text fault → fault ≡ Memory

-- it has none for one reason, unless memory runs out
abbrev pub FaultOnce : Flat → Type 0
FaultOnce d =
    AreProcesses d →
    (scope : List ℕ) (text : Dump) (one other : CompareFault) →
    IsCompareFault d scope text one → IsCompareFault d scope text other →
    (one ≡ other) ⊎ ((one ≡ Memory) ⊎ (other ≡ Memory))
