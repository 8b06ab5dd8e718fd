use Rattle.std.proofs.Common.{◌∙◌, ap, sym, subst, [], ◌∷◌, ◌++◌, List, Option}
use Rattle.rtl_flat.specs.declared.expr.SigId.{SigId}
use Rattle.rtl_flat.specs.Expression.{tree}
use Rattle.rtl_flat.specs.Process.{task}
use Rattle.rtl_rule.specs.declared.finding.Finding.{Finding}
use Rattle.rtl_rule.specs.declared.rule.Rule.TheVariants.{UnknownItem}
use Rattle.rtl_rule.specs.Parts.{found_at, within}
use Rattle.check_found.specs.Gathered.{Gets}
use Rattle.check_found.proofs.Gathering.{gets_one}
use Rattle.check_case.specs.Cases.{IsUnknownItem, label_in, unknown_item_at}
use Rattle.check_case.proofs.unknown.push_label.Goals as goal

pub returns : goal.returns
returns c = λ d p first.
    let old = c.args.found.now.items in
    let site = within (p, task c.args.process.now) (label_in c.args.kind (tree c.args.label.now)) in
    let pushed = c.in_ok-push.ensures.items ∙ ap (λ (signal : Option SigId). old ++ found_at UnknownItem site signal c.args.label.now.spot ∷ []) first in
    subst (λ (new : List Finding). Gets IsUnknownItem (unknown_item_at d) (site ∷ []) old new) (sym pushed)
    (gets_one IsUnknownItem (unknown_item_at d) old site (sym c.is_unknown_item.ensures ∙ c.if-not-is_unknown_item.false))
