use Rattle.std.proofs.Common.{◌≡◌, ◌∙◌, true, false, refl, sym, ap, arith}
use Rattle.std.specs.Str.{bytes_eq}
use borrow.Author.Count.{below_more}
use Rattle.rtl_rule.proofs.Codes.{has_code, no_rule, rule_found}
use Rattle.rtl_rule.proofs.rule.rule_of.Goals as goal

-- src/rule.rt:260:13
pub returns-then-eq : goal.returns-then-eq
returns-then-eq c =
    let same : has_code c.args.code.now c.loop-rule.rule-index ≡ true =
    sym (c.eq.ensures ∙ ap (λ code. bytes_eq code c.args.code.now) (c.as_bytes.ensures.value ∙ c.row.ensures.code)) ∙ c.if-eq.true in
    sym (rule_found c.args.code.now c.loop-rule.rule-index (omega arith) c.loop-rule.invariant.1 same)

-- src/rule.rt:258:5
pub loop-rule-preserved : goal.loop-rule-preserved
loop-rule-preserved c =
    let other : has_code c.args.code.now c.loop-rule.rule-index ≡ false =
    sym (c.eq.ensures ∙ ap (λ code. bytes_eq code c.args.code.now) (c.as_bytes.ensures.value ∙ c.row.ensures.code)) ∙ c.if-eq.false in
    (refl, below_more (λ k. has_code c.args.code.now k ≡ false) c.loop-rule.rule-index c.loop-rule.invariant.1 other)

-- src/rule.rt:255:1
pub returns : goal.returns
returns c =
    sym (no_rule c.args.code.now (λ k under. c.loop-rule.invariant.1 k (omega arith)))
