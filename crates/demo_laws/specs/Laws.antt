-- Demonstrations have one answer.
-- Worked examples: crates/tests_rows/stdin.
use Rattle.std.specs.Prelude.{◌≡◌, ◌⊎◌, Option}
use Rattle.std.specs.List.{All}
use Rattle.rtl_flat.specs.WellFormed.{IsProcess}
use Rattle.rtl_rule.specs.declared.finding.Finding.{Finding}
use Rattle.rtl_flat.specs.Flats.{Flat}
use Rattle.demo_told.specs.declared.demo.Demo.{Demo}
use Rattle.demo_told.specs.declared.demo.Shown.{Shown}
use Rattle.demo_clean.specs.demo_replay.declared.fault.ReplayFault.{ReplayFault}
use Rattle.demo_clean.specs.demo_replay.declared.fault.ReplayFault.TheVariants.{Memory}
use Rattle.demo_clean.specs.demo_replay.Firsts.{IsFirst, Told}
use Rattle.demo_clean.specs.demo_replay.Replays.{IsReplayFault, IsReplayed}

-- the processes of a design are what the processes of every one are
abbrev pub AreProcesses : Flat → Type 0
AreProcesses d = All (λ task. IsProcess d.signals task.does) d.tasks

-- trials show one first difference for a finding, or none
abbrev pub FirstOnce : Flat → Type 0
FirstOnce d =
    AreProcesses d →
    (finding : Finding) (one other : Option Told) →
    IsFirst d finding one → IsFirst d finding other → one ≡ other

-- a demonstration shows one pair of values
abbrev pub ReplayOnce : Flat → Type 0
ReplayOnce d =
    AreProcesses d →
    (demo : Demo) (one other : Shown) →
    IsReplayed d demo one → IsReplayed d demo other → one ≡ other

-- where it shows them, nothing but memory can be wanting
abbrev pub ReplayOrFault : Flat → Type 0
ReplayOrFault d =
    AreProcesses d →
    (demo : Demo) (shown : Shown) (fault : ReplayFault) →
    IsReplayed d demo shown → IsReplayFault d demo fault → fault ≡ Memory

-- it shows nothing for one reason, unless memory runs out
abbrev pub FaultOnce : Flat → Type 0
FaultOnce d =
    AreProcesses d →
    (demo : Demo) (one other : ReplayFault) →
    IsReplayFault d demo one → IsReplayFault d demo other →
    (one ≡ other) ⊎ ((one ≡ Memory) ⊎ (other ≡ Memory))
