use Rattle.std.proofs.Common.{◌<◌, ◌+◌, ◌∙◌, List, length, map, drop, Vec, ap, sym, subst, arith}
use Rattle.std.specs.declared.alloc.Global.{Global}
use Rattle.event_model.specs.Queue.{after_delayed}
use Rattle.event_write.specs.declared.entries.Entry.{Entry as Code}
use Rattle.event_write.specs.Entries.{Entry, IsClosed, entry, updates}
use Rattle.event_write.specs.QueueState.{IsInside, design_of, state}
use Rattle.event_write.proofs.Writing.{seen_at}
use Rattle.event_take.proofs.Delaying.{closed_behind, left_mapped, update_ends, update_goes, with_next}
use Rattle.event_take.proofs.events.make_update.Goals as goal

pub write_entry-requires-clause-queue : goal.write_entry-requires-clause-queue
write_entry-requires-clause-queue c =
    let inv = c.loop-number.invariant in
    let items = c.loop-number.queue.active.items in
    let number = c.loop-number.number in
    let test = c.loop-number-test.true in
    let len = c.len-end.ensures in
    let fits = c.args.queue.now.active.ok.0 in
    let same = ap (λ (v : Vec Code Global). length v.items) inv.2 in
    let within : number < length items = omega (arith, test, len, fits, same) in
    let left = left_mapped entry items number c.index-prepared.result.now within c.index-prepared.ensures in
    let closed = subst (λ n. IsClosed (drop n (map entry items))) inv.1 inv.0.active in
    with_next (design_of c.args.fanout.now) c.loop-number.queue (number + 1) inv.0 (omega (arith, within)) (closed_behind (entry c.index-prepared.result.now) (drop (number + 1) (map entry items)) (subst IsClosed left closed))

pub write_entry-requires-clause-inside : goal.write_entry-requires-clause-inside
write_entry-requires-clause-inside c =
    let inv = c.loop-number.invariant in
    let items = c.loop-number.queue.active.items in
    let test = c.loop-number-test.true in
    let len = c.len-end.ensures in
    let fits = c.args.queue.now.active.ok.0 in
    let same = ap (λ (v : Vec Code Global). length v.items) inv.2 in
    let within : c.loop-number.number < length items = omega (arith, test, len, fits, same) in
    seen_at (λ e. IsInside c.args.fanout.now.design.now.signals.items e.signal e.span e.bits) entry items c.loop-number.number c.index-prepared.result.now inv.0.active_inside within c.index-prepared.ensures

pub returns-then-is_last-clause-state : goal.returns-then-is_last-clause-state
returns-then-is_last-clause-state c =
    let d = design_of c.args.fanout.now in
    let inv = c.loop-number.invariant in
    let items = c.loop-number.queue.active.items in
    let number = c.loop-number.number in
    let test = c.loop-number-test.true in
    let len = c.len-end.ensures in
    let fits = c.args.queue.now.active.ok.0 in
    let same = ap (λ (v : Vec Code Global). length v.items) inv.2 in
    let within : number < length items = omega (arith, test, len, fits, same) in
    let left = left_mapped entry items number c.index-prepared.result.now within c.index-prepared.ensures in
    let s = state c.loop-number.queue in
    c.write_entry.ensures.state
    ∙ update_ends d s (entry c.index-prepared.result.now) (drop (number + 1) (map entry items)) c.if-is_last.true
    ∙ ap (λ (es : List Entry). after_delayed d s (updates es)) (sym left)
    ∙ ap (λ (v : Vec Code Global). after_delayed d s (updates (drop number (map entry v.items)))) inv.2
    ∙ inv.6

pub loop-number-preserved : goal.loop-number-preserved
loop-number-preserved c =
    let d = design_of c.args.fanout.now in
    let inv = c.loop-number.invariant in
    let items = c.loop-number.queue.active.items in
    let number = c.loop-number.number in
    let test = c.loop-number-test.true in
    let len = c.len-end.ensures in
    let fits = c.args.queue.now.active.ok.0 in
    let same = ap (λ (v : Vec Code Global). length v.items) inv.2 in
    let within : number < length items = omega (arith, test, len, fits, same) in
    let left = left_mapped entry items number c.index-prepared.result.now within c.index-prepared.ensures in
    let closed = subst (λ n. IsClosed (drop n (map entry items))) inv.1 inv.0.active in
    let s = state c.loop-number.queue in
    let t = state c.write_entry.new.queue in
    let e = entry c.index-prepared.result.now in
    let rest = drop (number + 1) (map entry items) in (
      c.write_entry.ensures.queue,
      c.write_entry.ensures.next,
      c.write_entry.ensures.active ∙ inv.2,
      c.write_entry.ensures.waiting ∙ inv.3,
      c.write_entry.ensures.scratch ∙ inv.4,
      c.write_entry.ensures.levels ∙ inv.5,
      ap (λ (v : Vec Code Global). after_delayed d t (updates (drop (number + 1) (map entry v.items)))) (sym inv.2)
          ∙ update_goes d s t e rest c.if-is_last.false (subst IsClosed left closed) c.write_entry.ensures.state
          ∙ ap (λ (es : List Entry). after_delayed d s (updates es)) (sym left)
          ∙ ap (λ (v : Vec Code Global). after_delayed d s (updates (drop number (map entry v.items)))) inv.2
          ∙ inv.6,
    )
