-- What is said of a design.
-- Worked examples: examples/stored/several_drivers.out, examples/stored/half_adder.out.
use Rattle.std.specs.Prelude.{◌≡◌, Bool, true, false, not, List, [], ◌∷◌, Option, map, take}
use Rattle.rtl_rule.specs.declared.finding.Finding.{Finding}
use Rattle.rtl_flat.specs.Flats.{DesignParts}
use Rattle.rtl_rule.specs.Rows.{has_first_grade}
use Rattle.sign_off.specs.check_all.Findings.{AreAllFindings, IsClean}
use Rattle.sign_off.specs.check_clean.Promise.{IsPromised}
use Rattle.sign_off.specs.net_clean.Netlist.{HasHardware}
use Rattle.sign_off.specs.sign_firm.Firm.{IsFirm}
use Rattle.demo_told.specs.declared.demo.Demo.{Demo}
use Rattle.demo_told.specs.declared.demo.Shown.{Shown}
use Rattle.demo_clean.specs.demo_replay.Firsts.{AreFirsts, told}
use Rattle.desk_report.specs.Tellings.{tellings}
use Rattle.desk_verdict.specs.declared.verdict.Verdict.{Verdict}

-- whether no finding is of the first grade
abbrev pub is_clean : List Finding → Bool
is_clean found = not (has_first_grade found)

-- whether there is no finding
abbrev pub is_firm : List Finding → Bool
is_firm [] = true
is_firm (finding ∷ others) = false

-- where the first 64 findings show
abbrev pub AreShown : DesignParts → List Finding → List (Option (Demo × Shown)) → Type 0
AreShown design found shown = AreFirsts design.parts.flat (take 64 found) (map told shown)

-- all findings are told, the first of them with where they show; and where none of them is of the
-- first grade, simulation agrees with synthesis, which refuses nothing of the design; where there is none of either, it is
-- sound where values are unknown
pub record IsVerdict (design : DesignParts) (verdict : Verdict) : Type 0 where
  pub found : List Finding
  pub are_all : AreAllFindings design.parts found
  pub clean : verdict.clean ≡ is_clean found
  pub firm : verdict.firm ≡ is_firm found
  pub shown : List (Option (Demo × Shown))
  pub are_shown : AreShown design found shown
  pub told_is :
      verdict.rows.items ≡ tellings design.parts.flat.signals design.instances found shown
  pub promised : IsClean found → IsPromised design.parts.flat
  pub hardware : IsClean found → HasHardware design.parts.flat
  pub firmly : found ≡ [] → IsFirm design.parts.flat
