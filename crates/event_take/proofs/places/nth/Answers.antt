use Rattle.std.proofs.Common.{◌∙◌, ◌-◌, Some, ap, sym, arith}
use Rattle.event_write.specs.QueueState.{design_of}
use Rattle.event_take.proofs.Marked.{input_at, late_at, late_next, update_at, woken_at}
use Rattle.event_take.proofs.places.nth.Goals as goal

pub returns-then-place-inputs-clause-event : goal.returns-then-place-inputs-clause-event
returns-then-place-inputs-clause-event c =
    input_at (design_of c.args.fanout.now) c.args.queue.now c.args.place c.nth-signal.result c.requires.queue c.requires.lawful c.nth-signal.ensures.nth

pub returns-then-behind-updates-clause-event : goal.returns-then-behind-updates-clause-event
returns-then-behind-updates-clause-event c =
    let inputs = c.count-inputs.ensures in
    let past = c.if-place-inputs.false in
    update_at (design_of c.args.fanout.now) c.args.queue.now c.args.place (c.args.place - c.count-inputs.result) c.nth-assignment.result c.requires.queue c.requires.lawful (omega (arith, inputs, past)) c.nth-assignment.ensures.nth

pub returns-then-rest-woken-clause-event : goal.returns-then-rest-woken-clause-event
returns-then-rest-woken-clause-event c =
    let inputs = c.count-inputs.ensures in
    let past = c.if-place-inputs.false in
    let updates = c.count-updates.ensures in
    let behind = c.if-behind-updates.false in
    woken_at (design_of c.args.fanout.now) c.args.queue.now c.args.place (c.args.place - c.count-inputs.result - c.count-updates.result) c.nth-process.result c.requires.queue c.requires.lawful (omega (arith, inputs, past, updates, behind)) c.nth-process.ensures.nth
    ∙ ap Some (sym c.woken_choice.ensures.event)

pub returns-clause-event : goal.returns-clause-event
returns-clause-event c =
    let inputs = c.count-inputs.ensures in
    let past = c.if-place-inputs.false in
    let updates = c.count-updates.ensures in
    let behind = c.if-behind-updates.false in
    let woken = c.count-woken.ensures in
    let rest = c.if-rest-woken.false in
    late_at (design_of c.args.fanout.now) c.args.queue.now c.args.place c.requires.queue c.requires.lawful c.requires.there (omega (arith, inputs, past, updates, behind, woken, rest))

pub returns-clause-able : goal.returns-clause-able
returns-clause-able c =
    let inputs = c.count-inputs.ensures in
    let past = c.if-place-inputs.false in
    let updates = c.count-updates.ensures in
    let behind = c.if-behind-updates.false in
    let woken = c.count-woken.ensures in
    let rest = c.if-rest-woken.false in
    late_next (design_of c.args.fanout.now) c.args.queue.now c.args.place c.requires.queue c.requires.lawful c.requires.there (omega (arith, inputs, past, updates, behind, woken, rest))
