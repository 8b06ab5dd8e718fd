use Rattle.std.specs.Prelude.{List}
use Rattle.std.specs.List.{slice_get}
use Rattle.std.specs.Option.{option_map}
use Rattle.std.proofs.Common.{◌∙◌, ◌++◌, ap, sym, map, drop, ◌+◌}
use Rattle.name_map.specs.Values.{values_of}
use Rattle.rtl_tree.specs.TreeExpr.{formula, identifier}
use Rattle.rtl_tree.specs.TreeItem.{positional}
use Rattle.elab_standard.specs.Declarations.{ordered_notes, set_notes, span_at}
use Rattle.elab_standard.specs.Scopes.{scopes}
use Rattle.elab_standard.proofs.Places.{joined_on, left_at}
use Rattle.elab_standard.proofs.declarations.push_ordered.Goals as goal

pub loop-place-preserved : goal.loop-place-preserved
loop-place-preserved c =
    joined_on
    c.loop-place.made.items
    _
    (set_notes c.args.home (scopes c.args.holder.now) (span_at (values_of c.args.spans.now) (slice_get (map (λ name. identifier name.now) c.args.names.now) c.loop-place.place)) (option_map formula c.index-arguments-place.result.value))
    (ordered_notes c.args.home (scopes c.args.holder.now) (values_of c.args.spans.now) (map (λ name. identifier name.now) c.args.names.now) (c.loop-place.place + 1) (map positional (drop (c.loop-place.place + 1) c.args.arguments.now)))
    (c.in_ok-push_set.ensures ∙ ap (λ span. c.loop-place.made.items ++ set_notes c.args.home (scopes c.args.holder.now) span (option_map formula c.index-arguments-place.result.value)) c.span_at-span.ensures)
    ∙ (ap
    (λ arguments. c.loop-place.made.items ++ ordered_notes c.args.home (scopes c.args.holder.now) (values_of c.args.spans.now) (map (λ name. identifier name.now) c.args.names.now) c.loop-place.place (map positional arguments))
    (sym (left_at c.args.arguments.now c.loop-place.place c.index-arguments-place.result c.loop-place-test.true c.index-arguments-place.is))
    ∙ c.loop-place.invariant)
