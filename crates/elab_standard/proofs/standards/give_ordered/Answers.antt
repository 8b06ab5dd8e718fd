use Rattle.std.proofs.Common.{◌∙◌, ap, sym, map, drop, ◌+◌}
use Rattle.name_map.specs.Values.{values_of}
use Rattle.rtl_tree.specs.TreeExpr.{identifier}
use Rattle.rtl_tree.specs.TreeItem.{positional}
use Rattle.elab_standard.proofs.Places.{left_at}
use Rattle.elab_standard.specs.Scopes.{scopes}
use Rattle.elab_standard.specs.Standards.{ordered_given}
use Rattle.elab_standard.proofs.standards.give_ordered.Goals as goal

pub loop-place-preserved : goal.loop-place-preserved
loop-place-preserved c =
    ap
    (λ given. ordered_given (scopes c.args.holder.now) (map (λ name. identifier name.now) c.args.settable.now) given (c.loop-place.place + 1) (map positional (drop (c.loop-place.place + 1) c.args.arguments.now)))
    c.in_ok-give_at.ensures
    ∙ (ap
    (λ arguments. ordered_given (scopes c.args.holder.now) (map (λ name. identifier name.now) c.args.settable.now) (values_of c.loop-place.given) c.loop-place.place (map positional arguments))
    (sym (left_at c.args.arguments.now c.loop-place.place c.index-arguments-place.result c.loop-place-test.true c.index-arguments-place.is))
    ∙ c.loop-place.invariant)
