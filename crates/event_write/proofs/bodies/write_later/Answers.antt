use Rattle.std.proofs.Common.{◌≡◌, ◌∙◌, ◌++◌, List, length, map, ap, sym, subst, arith}
use Rattle.std.proofs.lemmas.List.{length-map, length-append}
use Rattle.rtl_bits.specs.declared.Bit.{Bit}
use Rattle.rtl_flat.specs.declared.signal.Signal.{Signal}
use Rattle.rtl_flat.specs.Process.{piece}
use Rattle.rtl_flat.specs.Signs.{width_in}
use Rattle.rtl_flat.specs.Value.{store}
use Rattle.event_model.specs.Writes.{Write}
use Rattle.event_write.specs.Entries.{IsClosed, entries, entry, updates}
use Rattle.event_write.specs.QueueState.{AreInside, design_of, state}
use Rattle.event_write.proofs.Entering.{all_inside, how_many, inside_append, later_update, still_closed, with_waiting}
use Rattle.event_write.proofs.bodies.write_later.Goals as goal

pub returns-clause-state : goal.returns-clause-state
returns-clause-state c =
    let signals = c.args.fanout.now.design.now.signals.items in
    let v = store c.args.queue.now.values.items in
    let parts = map piece c.args.parts.now in
    let before = map entry c.args.queue.now.waiting.items in
    let are : map entry c.prepare.new.prepared.items ≡ before ++ entries (width_in signals) v parts c.args.bits =
    c.prepare.ensures.entries
    ∙ ap (λ (ss : List Signal). before ++ entries (width_in ss) (store c.deref-2.result.now) parts c.args.bits) c.deref.ensures.value
    ∙ ap (λ (vs : List (List Bit)). before ++ entries (width_in signals) (store vs) parts c.args.bits) c.deref-2.ensures.value in
    let count = length-map c.args.parts.now piece in
    let some = c.requires.some in
    let s = state c.args.queue.now in
    ap (λ (us : List (List Write)). record s { delayed = us })
    (ap updates are ∙ later_update before (width_in signals) v parts c.args.bits (omega (arith, count, some)) c.requires.queue.waiting)

pub returns-clause-queue : goal.returns-clause-queue
returns-clause-queue c =
    let signals = c.args.fanout.now.design.now.signals.items in
    let v = store c.args.queue.now.values.items in
    let parts = map piece c.args.parts.now in
    let before = map entry c.args.queue.now.waiting.items in
    let are : map entry c.prepare.new.prepared.items ≡ before ++ entries (width_in signals) v parts c.args.bits =
    c.prepare.ensures.entries
    ∙ ap (λ (ss : List Signal). before ++ entries (width_in ss) (store c.deref-2.result.now) parts c.args.bits) c.deref.ensures.value
    ∙ ap (λ (vs : List (List Bit)). before ++ entries (width_in signals) (store vs) parts c.args.bits) c.deref-2.ensures.value in
    with_waiting (design_of c.args.fanout.now) c.args.queue.now c.prepare.new.prepared c.requires.queue
    (subst IsClosed (sym are) (still_closed before (width_in signals) v parts c.args.bits c.requires.queue.waiting))
    (subst (AreInside signals) (sym are) (inside_append signals before (entries (width_in signals) v parts c.args.bits) c.requires.queue.waiting_inside (all_inside signals v parts c.args.bits c.requires.selected)))

pub returns-clause-waiting : goal.returns-clause-waiting
returns-clause-waiting c =
    let ws = width_in c.deref.result.now in
    let v = store c.deref-2.result.now in
    let parts = map piece c.args.parts.now in
    let before = map entry c.args.queue.now.waiting.items in
    let lengths = ap length c.prepare.ensures.entries ∙ length-append before (entries ws v parts c.args.bits) in
    let new = length-map c.prepare.new.prepared.items entry in
    let old = length-map c.args.queue.now.waiting.items entry in
    let count = how_many ws v parts c.args.bits in
    let all = length-map c.args.parts.now piece in
    omega (arith, lengths, new, old, count, all)
