use Rattle.std.proofs.Common.{map, refl}
use Rattle.rtl_tree.specs.TreeItem.{happening}
use Rattle.elab_standard.specs.Scopes.{scopes}
use Rattle.elab_uses.specs.Items.{happening_uses, list_uses}
use Rattle.elab_uses.proofs.Rows.{more_noted}
use Rattle.elab_uses.proofs.items.push_events.Goals as goal

pub loop-event-preserved : goal.loop-event-preserved
loop-event-preserved c =
    let s = scopes c.args.scopes.now in
    more_noted c.args.home (λ one. happening_uses s (happening one)) (λ all. list_uses s (map happening all)) (λ one all. refl) c.loop-event.made.items _ c.args.events.now c.loop-event.event-index c.event-item.result _ c.loop-event-test.true c.event-item.is c.in_ok-push_event.ensures c.loop-event.invariant
