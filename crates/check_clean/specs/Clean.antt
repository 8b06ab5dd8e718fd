-- What a design without a finding of the first grade is.
use Rattle.std.specs.Prelude.{ℕ, List}
use Rattle.check_laws.specs.event_laws.Steady.{AreLawful}
use Rattle.net_model.specs.Cycle.{AreChains, Chain}
use Rattle.sign_cycles.specs.Formed.{IsCleanClocked}
use Rattle.sign_cycles.specs.PowerUp.{CanAllWake}
use Rattle.rtl_rule.specs.declared.finding.Finding.{Finding}
use Rattle.rtl_flat.specs.Flats.{Flat, Parts}
use Rattle.check_all.specs.Findings.{AreAllFindings, IsClean}
use Rattle.check_laws.specs.Expressions.{AreMarked}

-- its blocks that wait for edges are registers with a clock and resets, which is so whichever of their tests are taken for
-- those of resets; all else computes on levels, or is a latch with a gate from outside; and each block can be woken
pub record IsCleanDesign (d : Flat) : Type 0 where
  pub chains : ℕ → Chain
  pub chained : AreChains d chains
  pub level : ℕ → ℕ
  pub clean : (choice : ℕ → Chain) → AreChains d choice → IsCleanClocked d choice level
  pub wakes : CanAllWake d

-- where all findings of a lawful design are known, and none of them is of the first grade, it is so
abbrev pub CleanByRules : Parts → Type 0
CleanByRules d =
    AreLawful d.flat → AreMarked d.flat →
    (findings : List Finding) → AreAllFindings d findings → IsClean findings → IsCleanDesign d.flat
