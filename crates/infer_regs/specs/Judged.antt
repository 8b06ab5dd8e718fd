-- It serves inner contracts and proofs; no answer of the program is stated by it.
-- The first rule that a process breaks.
use Rattle.std.specs.Prelude.{ℕ, Option, Some, None}
use Rattle.rtl_flat.specs.Process.{Task}
use Rattle.rtl_rule.specs.declared.rule.Rule.{Rule}
use Rattle.rtl_flat.specs.Flats.{Flat}
use Rattle.net_list.specs.Faults.{IsFault}
use Rattle.infer_regs.specs.Forms.{AreNone, IsFirstOf, form_rules}

-- the first rule of those that decide the form, or none where all hold
abbrev pub IsJudged : Flat → ℕ → Task → Option Rule → Type 0
IsJudged d p task None = AreNone (IsFault d p task) form_rules
IsJudged d p task (Some rule) = IsFirstOf (IsFault d p task) form_rules rule
