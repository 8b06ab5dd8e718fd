use Rattle.std.proofs.Common.{◌∙◌, ◌+◌, ◌∷◌, ◌&&◌, drop, ap, sym}
use Rattle.std.proofs.lemmas.List.{drop_all}
use Rattle.event_model.specs.Queue.{happens}
use Rattle.rtl_flat.specs.Flats.{flat, widths}
use Rattle.event_tables.proofs.Ears.{left}
use Rattle.event_tables.proofs.Hearing.{items_none, items_more}
use Rattle.event_tables.proofs.listeners.hear_items.Goals as goal

pub loop-item-preserved : goal.loop-item-preserved
loop-item-preserved c = λ new others.
    let items = c.args.items.now in
    let i = c.loop-item.item-index in
    let item = c.item-item.result in
    c.loop-item.invariant new
    (items_more (widths (flat c.args.design.now)) c.args.process.0 items i item c.selected-bits.result (left items i item c.loop-item-test.true ∙ ap (λ x. x ∷ drop (i + 1) items) (sym c.item-item.is)) (λ s k a b. ap (λ t. t && happens item.edge a b) (c.selected-bits.ensures s k)) c.loop-item.listeners.items c.hear_bits.new.listeners.items new c.in_ok-hear_bits.ensures others)

pub returns : goal.returns
returns c =
    c.loop-item.invariant c.loop-item.listeners.items (items_none (widths (flat c.args.design.now)) c.args.process.0 c.args.items.now c.loop-item.item-index c.loop-item.listeners.items (drop_all c.loop-item.item-index c.args.items.now c.loop-item-test.false))
