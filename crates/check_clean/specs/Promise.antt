-- What is promised of a design without a finding of the first grade.
-- Worked examples: crates/tests_rows/stdin.
use Rattle.std.specs.Prelude.{ℕ, List, Option}
use Rattle.rtl_flat.specs.Flats.{Flat, Parts}
use Rattle.check_laws.specs.event_laws.Steady.{AreLawful}
use Rattle.check_laws.specs.event_settling.Conditions.{AreRulesKept}
use Rattle.check_laws.specs.event_settling.Ending.{RunsEnd}
use Rattle.net_model.specs.declared.fill.Fill.{Fill}
use Rattle.net_model.specs.Cycle.{AreChains, Chain}
use Rattle.sign_cycles.specs.Agree.{Agree}
use Rattle.sign_cycles.specs.BringUp.{BringsUp, HaveResets}
use Rattle.sign_cycles.specs.Known.{KnownSettles}
use Rattle.sign_cycles.specs.Lacking.{BringUpsAre}
use Rattle.rtl_rule.specs.declared.finding.Finding.{Finding}
use Rattle.check_all.specs.Findings.{AreAllFindings, IsClean}
use Rattle.check_laws.specs.Expressions.{AreMarked}
use Rattle.check_clean.specs.Benches.{ServesBenches}
use Rattle.check_clean.specs.Levelled.{AreLevels, RestsByLevel}

-- blocks that wait for edges have clocks and resets. Whichever are taken for them, simulation agrees with synthesis in every
-- order of events, latches with gates among what it shows. It does from wherever steps from power-up come to rest with inputs,
-- registers and latches known, and so after every bring-up where each register has a reset; there is one but where an input
-- resets one process at 1 and another at 0. From wherever a step starts, every run comes to rest, and by level within the budget
-- of a step. All this is so, too, where a test bench gives data beside a turn of a clock or a reset, by nonblocking assignments
pub record IsPromised (d : Flat) : Type 0 where
  pub chains : ℕ → Chain
  pub chained : AreChains d chains
  pub agrees : (choice : ℕ → Chain) → AreChains d choice → (fill : Fill) → Agree d choice fill
  pub known : (choice : ℕ → Chain) → AreChains d choice → (fill : Fill) → KnownSettles d choice fill
  pub brought_up : (choice : ℕ → Chain) → AreChains d choice → HaveResets d choice → (fill : Fill) → BringsUp d choice fill
  pub bring_ups : (choice : ℕ → Chain) → AreChains d choice → BringUpsAre d choice
  pub ends : RunsEnd d
  pub levelled : (level : ℕ → Option ℕ) → AreLevels d level → RestsByLevel d level
  pub benches : ServesBenches d

-- so it is where none of all findings of a lawful design is of the first grade
abbrev pub PromisedByRules : Parts → Type 0
PromisedByRules d =
    AreLawful d.flat → AreMarked d.flat →
    (findings : List Finding) → AreAllFindings d findings → IsClean findings → IsPromised d.flat

-- and it settles by the levels of its processes
abbrev pub SettlesByRules : Parts → Type 0
SettlesByRules d =
    AreLawful d.flat →
    (findings : List Finding) → AreAllFindings d findings → IsClean findings →
    (level : ℕ → Option ℕ) → AreLevels d.flat level → AreRulesKept d.flat level
