-- Where simulation agrees with synthesis no trial shows a difference, but for those from power-up on.
-- Worked examples: crates/tests_rows/stdin.
use Rattle.std.specs.Prelude.{◌≡◌, false, List, None}
use Rattle.rtl_flat.specs.declared.design.Design.{Design}
use Rattle.rtl_rule.specs.declared.finding.Finding.{Finding}
use Rattle.rtl_flat.specs.Flats.{flat, parts}
use Rattle.check_clean.specs.check_all.Findings.{AreAllFindings}
use Rattle.rtl_rule.specs.Rows.{has_needed, is_needed}
use Rattle.demo_replay.specs.Firsts.{IsFirst}

-- where none of all findings of a design is of a rule that agreement stands on, nothing is shown for any of another rule
abbrev pub NoneShown : Design → Type 0
NoneShown design =
    (findings : List Finding) → AreAllFindings (parts design) findings → has_needed findings ≡ false →
    (finding : Finding) → is_needed finding.rule ≡ false → IsFirst (flat design) finding None
