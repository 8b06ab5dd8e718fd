use Rattle.std.proofs.Common.{◌≡◌, ◌∙◌, ◌<◌, length, get_or, ap, arith}
use Rattle.event_write.specs.Entries.{entry}
use Rattle.event_write.specs.QueueState.{IsInside}
use Rattle.event_write.proofs.Writing.{seen_at}
use Rattle.event_write.proofs.bodies.write_prepared.Goals as goal

pub write_entry-requires-clause-inside : goal.write_entry-requires-clause-inside
write_entry-requires-clause-inside c =
    let same = ap (λ v. v.items) c.loop-number.invariant.1 in
    let test = c.loop-number-test.true in
    let len = c.len-number-end.ensures in
    let fits = c.args.queue.now.scratch.ok.0 in
    let within : c.loop-number.number < length c.args.queue.now.scratch.items = omega (arith, test, len, fits) in
    let is : c.index-prepared.result.now ≡ get_or c.args.queue.now.scratch.items c.loop-number.number c.index-prepared.result.now =
    c.index-prepared.ensures ∙ ap (λ xs. get_or xs c.loop-number.number c.index-prepared.result.now) same in
    seen_at (λ e. IsInside c.args.fanout.now.design.now.signals.items e.signal e.span e.bits) entry c.args.queue.now.scratch.items c.loop-number.number c.index-prepared.result.now c.requires.inside within is
