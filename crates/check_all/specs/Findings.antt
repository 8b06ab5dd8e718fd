-- All findings of a design, over all rules.
use Rattle.std.specs.Prelude.{◌≡◌, ℕ, false, List, ◌++◌}
use Rattle.rtl_flat.specs.Flats.{Parts}
use Rattle.net_model.specs.Gates.{Gate, InCone}
use Rattle.rtl_rule.specs.declared.finding.Finding.{Finding}
use Rattle.rtl_rule.specs.Order.{ranked}
use Rattle.rtl_rule.specs.Rows.{has_first_grade}
use Rattle.check_sense.specs.Sense.{AreSenseFindings}
use Rattle.check_clocks.specs.check_gates.Admitted.{AreGates}
use Rattle.check_clocks.specs.check_chains.Findings.{AreResetFindings}
use Rattle.check_clocks.specs.Findings.{AreClockFindings}
use Rattle.check_assign.specs.Findings.{AreAssignFindings}
use Rattle.check_case.specs.Cases.{AreCaseFindings}
use Rattle.check_unknown.specs.Unknowns.{AreUnknownFindings}
use Rattle.check_readings.specs.Readings.{AreReadingFindings}

-- whether these are all findings of a design, in their order
pub record AreAllFindings (d : Parts) (findings : List Finding) : Type 0 where
  -- the latches with gates from outside, so that it is decided which processes these are
  pub gates : List (ℕ × Gate)
  pub sense : List Finding
  pub assigned : List Finding
  pub clocked : List Finding
  pub reset : List Finding
  pub cases : List Finding
  pub unknown : List Finding
  pub readings : List Finding
  pub are_gates : AreGates d.flat gates
  pub are_sense : AreSenseFindings d.flat sense
  pub are_assigned : AreAssignFindings d.flat assigned
  pub are_clocked : AreClockFindings (InCone d.flat) d.flat clocked
  pub are_reset : AreResetFindings d.flat reset
  pub are_cases : AreCaseFindings d.flat cases
  pub are_unknown : AreUnknownFindings d unknown
  pub are_readings : AreReadingFindings d readings
  pub in_order : findings ≡ ranked (sense ++ assigned ++ clocked ++ reset ++ cases ++ unknown ++ readings)

-- whether the design of these findings is clean: none of them is of the first grade
abbrev pub IsClean : List Finding → Type 0
IsClean findings = has_first_grade findings ≡ false
