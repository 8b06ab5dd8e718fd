use Rattle.std.proofs.Common.{◌≡◌, ℕ, ◌<◌, false}
use Rattle.rtl_rule.specs.Rows.{rules}
use Rattle.rtl_rule.proofs.Codes.{has_code}
use Rattle.rtl_rule.proofs.rule.rule_of.Given as goal

abbrev pub invariant-loop-rule : goal.invariant-loop-rule
invariant-loop-rule l =
    (l.rule-items ≡ rules) × ((k : ℕ) → k < l.rule-index → has_code l.code k ≡ false)
