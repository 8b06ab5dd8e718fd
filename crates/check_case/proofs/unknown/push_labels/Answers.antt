use Rattle.std.proofs.Common.{◌∙◌, ap, subst, map, List}
use Rattle.std.proofs.lemmas.List.{take_all}
use Rattle.rtl_flat.specs.Expression.{tree}
use Rattle.rtl_flat.specs.Process.{task}
use Rattle.rtl_rule.specs.Parts.{At, within}
use Rattle.check_found.specs.Gathered.{Gets}
use Rattle.check_case.specs.Cases.{IsUnknownItem, Label, label_in, unknown_item_at}
use Rattle.check_case.proofs.Claimed.{gets_next, map_twice}
use Rattle.check_case.proofs.unknown.push_labels.Goals as goal

pub loop-label-preserved : goal.loop-label-preserved
loop-label-preserved c = λ d p first.
    gets_next IsUnknownItem (unknown_item_at d) (λ e. within (p, task c.args.process.now) (label_in c.args.kind (tree e.now))) c.args.labels.now c.loop-label.label-index c.label-item.result c.loop-label-test.true c.label-item.is c.args.found.now.items c.loop-label.found.items c.push_label.new.found.items (c.loop-label.invariant d p first) (c.in_ok-push_label.ensures d p first)

pub returns : goal.returns
returns c = λ d p first.
    let site = within (p, task c.args.process.now) in
    let labels = c.args.labels.now in
    subst (λ (sites : List (At Label)). Gets IsUnknownItem (unknown_item_at d) sites c.args.found.now.items c.loop-label.found.items)
    (ap (map (λ e. site (label_in c.args.kind (tree e.now)))) (take_all c.loop-label.label-index labels c.loop-label-test.false)
    ∙ map_twice site (λ e. label_in c.args.kind (tree e.now)) labels ∙ ap (map site) (map_twice (label_in c.args.kind) (λ e. tree e.now) labels))
    (c.loop-label.invariant d p first)
