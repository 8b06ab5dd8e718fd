use Rattle.std.proofs.Common.{◌≡◌, ◌∙◌, ◌++◌, List, map, ap, sym, subst}
use Rattle.rtl_bits.specs.declared.Bit.{Bit}
use Rattle.rtl_flat.specs.declared.signal.Signal.{Signal}
use Rattle.rtl_flat.specs.Process.{piece}
use Rattle.rtl_flat.specs.Signs.{width_in}
use Rattle.rtl_flat.specs.Value.{store}
use Rattle.event_model.specs.Queue.{write_all}
use Rattle.event_write.specs.Entries.{Entry, entries, entry, all_writes}
use Rattle.event_write.specs.QueueState.{AreInside, design_of, state}
use Rattle.event_write.proofs.Entering.{all_of, all_inside}
use Rattle.event_write.proofs.bodies.write_now.Goals as goal

pub write_prepared-requires-clause-inside : goal.write_prepared-requires-clause-inside
write_prepared-requires-clause-inside c =
    let signals = c.args.fanout.now.design.now.signals.items in
    let v = store c.args.queue.now.values.items in
    let are : map entry c.prepare.new.prepared.items ≡ entries (width_in signals) v (map piece c.args.parts.now) c.args.bits =
    c.prepare.ensures.entries
    ∙ ap (λ xs. map entry xs ++ entries (width_in c.deref.result.now) (store c.deref-2.result.now) (map piece c.args.parts.now) c.args.bits) c.clear.ensures.items
    ∙ ap (λ (ss : List Signal). entries (width_in ss) (store c.deref-2.result.now) (map piece c.args.parts.now) c.args.bits) c.deref.ensures.value
    ∙ ap (λ (vs : List (List Bit)). entries (width_in signals) (store vs) (map piece c.args.parts.now) c.args.bits) c.deref-2.ensures.value in
    subst (AreInside signals) (sym are) (all_inside signals v (map piece c.args.parts.now) c.args.bits c.requires.selected)

pub returns-clause-state : goal.returns-clause-state
returns-clause-state c =
    let signals = c.args.fanout.now.design.now.signals.items in
    let v = store c.args.queue.now.values.items in
    let are : map entry c.prepare.new.prepared.items ≡ entries (width_in signals) v (map piece c.args.parts.now) c.args.bits =
    c.prepare.ensures.entries
    ∙ ap (λ xs. map entry xs ++ entries (width_in c.deref.result.now) (store c.deref-2.result.now) (map piece c.args.parts.now) c.args.bits) c.clear.ensures.items
    ∙ ap (λ (ss : List Signal). entries (width_in ss) (store c.deref-2.result.now) (map piece c.args.parts.now) c.args.bits) c.deref.ensures.value
    ∙ ap (λ (vs : List (List Bit)). entries (width_in signals) (store vs) (map piece c.args.parts.now) c.args.bits) c.deref-2.ensures.value in
    c.write_prepared.ensures.state
    ∙ ap (λ (es : List Entry). write_all (design_of c.args.fanout.now) (state c.args.queue.now) (all_writes es)) are
    ∙ ap (write_all (design_of c.args.fanout.now) (state c.args.queue.now)) (all_of (width_in signals) v (map piece c.args.parts.now) c.args.bits)
