use Rattle.std.proofs.Common.{◌∙◌, ap, sym, map, drop, ◌+◌}
use Rattle.rtl_tree.specs.TreeExpr.{identifier}
use Rattle.rtl_tree.specs.TreeItem.{positional}
use Rattle.elab_items.specs.elab_scope.Names.{meanings, numbers_in}
use Rattle.elab_items.specs.Settings.{settings_of}
use Rattle.elab_links.specs.Parameters.{ordered_settings}
use Rattle.elab_links.proofs.Steps.{left_at}
use Rattle.elab_links.proofs.parameters.set_ordered.Goals as goal

pub loop-place-preserved : goal.loop-place-preserved
loop-place-preserved c =
    ap
    (λ settings. ordered_settings (numbers_in (meanings c.args.names.now)) (map (λ name. identifier name.now) c.args.settable.now) settings (c.loop-place.place + 1) (map positional (drop (c.loop-place.place + 1) c.args.arguments.now)))
    c.in_ok-set_place.ensures
    ∙ (ap
    (λ arguments. ordered_settings (numbers_in (meanings c.args.names.now)) (map (λ name. identifier name.now) c.args.settable.now) (settings_of c.loop-place.made) c.loop-place.place (map positional arguments))
    (sym (left_at c.args.arguments.now c.loop-place.place c.index-arguments-place.result c.loop-place-test.true c.index-arguments-place.is))
    ∙ c.loop-place.invariant)
