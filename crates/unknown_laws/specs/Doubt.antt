-- What signals that may be x after power-up do in a design in which X4, U1 and U2 have no finding.
-- Worked examples: proofs/Example.antt.
use Rattle.std.specs.Prelude.{◌≡◌, ◌≢◌, ◌↔◌, ℕ, Bool, true, false, List, []}
use Rattle.std.specs.List.{list_any}
use Rattle.rtl_flat.specs.Flats.{Flat, Parts}
use Rattle.net_model.specs.Control.{IsFromTop}
use Rattle.net_model.specs.Cycle.{AreChains, Chain}
use Rattle.net_model.specs.Gates.{InCone}
use Rattle.net_model.specs.Solution.{IsRegisterBit}
use Rattle.rtl_rule.specs.declared.finding.Finding.{Finding}
use Rattle.rtl_rule.specs.declared.rule.Rule.{Rule}
use Rattle.rtl_rule.specs.declared.rule.Rule.TheVariants as rule
use Rattle.check_all.specs.Findings.{AreAllFindings}
use Rattle.check_laws.specs.event_laws.Steady.{AreLawful}
use Rattle.check_laws.specs.Expressions.{AreMarked}
use Rattle.check_unknown.specs.Unknowns.{AreCaseEquality, AreWildSelector, AreXOptimism, IsDoubtful}
use Rattle.check_assign.specs.Assigned.{AreSeveralDrivers}
use Rattle.net_covers.specs.Marks.{AreMarks}

-- nothing tells an unknown value from a known one: no `===` and no `!==`, and no choice that reads a doubtful signal
pub record TellsNoUnknown (d : Flat) : Type 0 where
  pub x4 : AreCaseEquality d []
  pub u1 : AreXOptimism d []
  pub u2 : AreWildSelector d []

-- it is so where rules among which X4, U1 and U2 are have no finding
abbrev pub FreeTellsNone : Parts → Type 0
FreeTellsNone d =
    (among : Rule → Bool) →
    among rule.CaseEquality ≡ true → among rule.XOptimism ≡ true → among rule.WildSelector ≡ true →
    (findings : List Finding) → AreAllFindings d findings →
    list_any (λ (one : Finding). among one.rule) findings ≡ false → TellsNoUnknown d.flat

-- doubtful signals are then marks: what reads one is doubtful itself, and none of them decides what is done
abbrev pub DoubtfulAreMarks : Flat → Type 0
DoubtfulAreMarks d = AreLawful d → AreMarked d → TellsNoUnknown d → AreMarks d (IsDoubtful d)

-- and so are all marks of just these signals
abbrev pub MarkedAreMarks : Flat → Type 0
MarkedAreMarks d =
    AreLawful d → AreMarked d → TellsNoUnknown d →
    (marked : ℕ → Bool) → ((i : ℕ) → marked i ≡ true ↔ IsDoubtful d i) → AreMarks d (λ i. marked i ≡ true)

-- a process that may write a register which isn't doubtful has a reset, whichever of its tests are taken for those of resets
abbrev pub RegistersAreReset : Flat → Type 0
RegistersAreReset d =
    AreLawful d → (chains : ℕ → Chain) → AreChains d chains →
    (i k : ℕ) (register : IsRegisterBit d i k) → (IsDoubtful d i → ⊥) → (chains register.process).resets ≢ []

-- A4: a top input isn't doubtful, nor is what is reached from one through input ports
abbrev pub InputsAreSure : Flat → Type 0
InputsAreSure d =
    AreLawful d → AreSeveralDrivers d [] → (i : ℕ) → IsFromTop d i → IsDoubtful d i → ⊥

-- nor is what clocks, resets and gates come to
abbrev pub ConeIsSure : Flat → Type 0
ConeIsSure d =
    AreLawful d → AreSeveralDrivers d [] → (i : ℕ) → InCone d i → IsDoubtful d i → ⊥
