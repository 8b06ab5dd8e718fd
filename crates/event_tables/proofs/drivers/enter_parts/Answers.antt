use Rattle.std.proofs.Common.{◌∙◌, ◌+◌, ◌∷◌, drop, ap, sym}
use Rattle.std.proofs.lemmas.List.{drop_all}
use Rattle.event_tables.proofs.Ears.{left}
use Rattle.event_tables.proofs.Entering.{parts_none, parts_more}
use Rattle.event_tables.proofs.drivers.enter_parts.Goals as goal

pub loop-part-preserved : goal.loop-part-preserved
loop-part-preserved c = λ new others.
    let parts = c.args.parts.now in
    let i = c.loop-part.part-index in
    let part = c.part-item.result in
    c.loop-part.invariant new
    (parts_more c.args.process parts i part (left parts i part c.loop-part-test.true ∙ ap (λ x. x ∷ drop (i + 1) parts) (sym c.part-item.is)) c.loop-part.drivers.items c.enter.new.drivers.items new c.in_ok-enter.ensures others)

pub returns : goal.returns
returns c =
    c.loop-part.invariant c.loop-part.drivers.items (parts_none c.args.process c.args.parts.now c.loop-part.part-index c.loop-part.drivers.items (drop_all c.loop-part.part-index c.args.parts.now c.loop-part-test.false))
