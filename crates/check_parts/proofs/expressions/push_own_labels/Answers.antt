use Rattle.std.proofs.Common.{◌++◌, ◌∙◌, ap, sym}
use Rattle.std.proofs.lemmas.Result.{on_ok_weaker}
use Rattle.check_parts.specs.Kept.{expressions}
use Rattle.check_parts.proofs.Within.{case_labels}
use Rattle.check_parts.proofs.expressions.push_own_labels.Goals as goal

pub returns-in-Case : goal.returns-in-Case
returns-in-Case c =
    on_ok_weaker c.push_labels.result
    (λ pushed. pushed ∙ ap (λ own. expressions c.args.found.now.items ++ own)
    (sym (case_labels c.args.one.now c.in-Case.kind c.in-Case.full c.in-Case.parallel c.in-Case.selector c.in-Case.items c.in-Case.fallback c.in-Case.spot c.in-Case.is c.deref.result.now c.deref.ensures.value)))
    c.push_labels.ensures
