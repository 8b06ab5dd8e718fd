use Rattle.std.specs.List.{list_any}
use Rattle.std.proofs.Common.{◌∙◌, sym, ap, arith}
use Rattle.rtl_tree.specs.declared.token.Token.{Token}
use Rattle.rtl_prep.specs.Macros.{is_directive}
use Rattle.rtl_prep.specs.Passes.{all_seen}
use Rattle.rtl_prep.specs.Prepares.{start}
use Rattle.rtl_prep.proofs.Kept.{no_directives}
use Rattle.rtl_prep.proofs.Noticed.{no_notices}
use Rattle.rtl_prep.proofs.whole.conditions.Goals as goal

pub returns-clause-kept : goal.returns-clause-kept
returns-clause-kept c =
    no_directives c.args.text.now c.args.tokens.items
    (ap (list_any (λ (t : Token). is_directive t.kind)) (sym c.as_slice.ensures.value) ∙ sym c.has_directives.ensures ∙ c.if-has_directives.false)
    (omega arith)

pub returns-clause-noted : goal.returns-clause-noted
returns-clause-noted c =
    ap all_seen c.new.ensures.items
    ∙ sym (no_notices c.args.text.now c.args.tokens.items start
    (ap (list_any (λ (t : Token). is_directive t.kind)) (sym c.as_slice.ensures.value) ∙ sym c.has_directives.ensures ∙ c.if-has_directives.false))
