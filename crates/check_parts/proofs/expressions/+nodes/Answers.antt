use Rattle.std.proofs.Common.{◌++◌, ◌∙◌, ap, sym}
use Rattle.std.proofs.lemmas.Result.{on_ok_weaker}
use Rattle.rtl_rule.specs.Parts.{nodes}
use Rattle.rtl_scan.proofs.Parts.{concat_parts}
use Rattle.check_parts.specs.Kept.{expressions}
use Rattle.check_parts.proofs.expressions.+nodes.Goals as goal

pub push_operands-returns-in-Concat : goal.push_operands-returns-in-Concat
push_operands-returns-in-Concat t c =
    on_ok_weaker c.push_row.result
    (λ pushed. pushed ∙ ap (λ parts. expressions c.args.found.now.items ++ nodes parts)
    (sym (concat_parts c.in-Concat.parts c.args.node.now c.deref-in-Concat.result.now c.in-Concat.is c.deref-in-Concat.ensures.value)))
    c.push_row.ensures
