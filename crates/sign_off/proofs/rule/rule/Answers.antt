use Rattle.std.proofs.Common.{◌≡◌, ◌∙◌, false, not, ap, sym}
use Rattle.std.proofs.lemmas.Bool.{false_from_ne_true, false≢true}
use Rattle.rtl_rule.specs.Rows.{has_first_grade}
use Rattle.sign_off.proofs.rule.rule.Goals as goal

pub returns-clause-bring_ups : goal.returns-clause-bring_ups
returns-clause-bring_ups c =
    λ clean chains are.
    let none : c.has_first_grade-clean.result ≡ false =
    false_from_ne_true c.has_first_grade-clean.result (λ is. false≢true (sym (ap not is) ∙ clean)) in
    let same : has_first_grade c.deref.result.now ≡ false =
    ap has_first_grade (c.deref.ensures.value ∙ sym c.deref-2.ensures.value) ∙ sym c.has_first_grade-clean.ensures ∙ none in
    (c.vouch.ensures.promised same).bring_ups chains are
