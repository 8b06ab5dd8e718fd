use Rattle.std.proofs.Common.{◌∙◌, ap, sym, map, drop, ◌+◌}
use Rattle.std.specs.Option.{option_map}
use Rattle.rtl_tree.specs.TreeExpr.{formula}
use Rattle.rtl_tree.specs.TreeItem.{positional}
use Rattle.elab_items.specs.elab_scope.Faults.{Parameter, after, refusal}
use Rattle.elab_items.specs.elab_scope.Names.{meanings}
use Rattle.elab_links.specs.Parameters.{ordered_setting_faults, setting_faults, surplus_faults}
use Rattle.elab_links.proofs.Steps.{left_at, two_told}
use Rattle.elab_links.proofs.parameters.judge_ordered.Goals as goal

pub loop-place-preserved : goal.loop-place-preserved
loop-place-preserved c =
    two_told
    (option_map refusal c.loop-place.best)
    (option_map refusal c.judge_surplus-best.result)
    (option_map refusal c.judge_setting-best.result)
    (surplus_faults c.args.many c.loop-place.place c.index-arguments-place.result.at (Parameter c.args.child.now))
    (setting_faults (meanings c.args.names.now) (option_map formula c.index-arguments-place.result.value))
    (ordered_setting_faults c.args.child.now c.args.many (meanings c.args.names.now) (c.loop-place.place + 1) (map positional (drop (c.loop-place.place + 1) c.args.arguments.now)))
    c.judge_surplus-best.ensures c.judge_setting-best.ensures
    ∙ (ap
    (λ arguments. after (option_map refusal c.loop-place.best) (ordered_setting_faults c.args.child.now c.args.many (meanings c.args.names.now) c.loop-place.place (map positional arguments)))
    (sym (left_at c.args.arguments.now c.loop-place.place c.index-arguments-place.result c.loop-place-test.true c.index-arguments-place.is))
    ∙ c.loop-place.invariant)
