use Rattle.std.proofs.Common.{◌≡◌, ◌∙◌, ◌<◌, ◌||◌, ℕ, List, [], length, ap, sym, subst, arith}
use Rattle.std.specs.Vec.{with_item}
use Rattle.std.specs.List.{All}
use Rattle.std.proofs.lemmas.List.{get_or_default}
use Rattle.rtl_bits.specs.Bits.{replaced}
use Rattle.rtl_flat.specs.Value.{store}
use Rattle.rank_set.specs.Ranks.{flag}
use Rattle.event_model.specs.Writes.{Write, put, written}
use Rattle.event_model.specs.Queue.{hears, doing_at}
use Rattle.rtl_flat.specs.Flats.{widths}
use Rattle.event_write.specs.declared.listener.Listener.{Listener}
use Rattle.event_write.specs.Listeners.{AreBelow, heard_by}
use Rattle.event_write.specs.QueueState.{design_of, row, state}
use Rattle.event_write.proofs.Writing.{row_at, store_set, put_at, write_is}
use Rattle.event_write.proofs.waking.write.Goals as goal

pub wake-requires : goal.wake-requires
wake-requires c =
    let there = c.requires.there in
    let listened = c.requires.fanout.listened in
    let within : c.args.signal.0 < length c.args.fanout.now.listeners.items = omega (arith, there, listened) in
    let is = row_at c.args.fanout.now.listeners.items c.args.signal.0 c.index-listeners.result.now within c.index-listeners.ensures in
    subst (λ (xs : List Listener). All (λ listener. AreBelow (length c.args.queue.now.woken.flags) listener) xs) (is ∙ sym c.deref.ensures.value)
    (subst (λ (n : ℕ). All (λ listener. AreBelow n listener) (row c.args.fanout.now.listeners.items c.args.signal.0)) (sym c.requires.queue.woken) (c.requires.fanout.inside c.args.signal.0))

pub returns-clause-state : goal.returns-clause-state
returns-clause-state c =
    let d = design_of c.args.fanout.now in
    let i = c.args.signal.0 in
    let values = c.args.queue.now.values.items in
    let there = c.requires.there in
    let listened = c.requires.fanout.listened in
    let stored = c.requires.queue.values.count in
    let within : i < length c.args.fanout.now.listeners.items = omega (arith, there, listened) in
    let kept : i < length values = omega (arith, there, stored) in
    let w : Write = record { signal = i; at = c.args.at; bits = c.args.bits } in
    let old_is : c.index-old.result.now ≡ store values i = c.index-old.ensures ∙ get_or_default values i c.index-old.result.now [] kept in
    let new_is : c.replace-new.result ≡ replaced c.args.at c.args.bits (store values i) = c.replace-new.ensures.bits ∙ ap (replaced c.args.at c.args.bits) old_is in
    let at_signal : written (store values) w i ≡ replaced c.args.at c.args.bits (store values i) = put_at (store values) i (replaced c.args.at c.args.bits (store values i)) in
    let is = row_at c.args.fanout.now.listeners.items i c.index-listeners.result.now within c.index-listeners.ensures in
    write_is d (state c.args.queue.now) w (store (with_item c.args.queue.now.values i c.replace-new.result).items) (flag c.wake.new.woken.flags)
    (λ j. store_set values i c.replace-new.result kept j ∙ ap (λ bits. put (store values) i bits j) new_is)
    (λ p. c.wake.ensures.woken c.index-old.result.now c.replace-new.result (sym c.replace-new.ensures.width) c.of.ensures p
    ∙ ap (λ b. flag c.args.queue.now.woken.flags p || b)
    (ap (λ xs. heard_by xs p c.index-old.result.now c.replace-new.result) (c.deref.ensures.value ∙ sym is)
    ∙ c.requires.fanout.hear i p c.index-old.result.now c.replace-new.result
    ∙ ap (λ bits. hears (widths d) i bits c.replace-new.result (doing_at d p)) old_is
    ∙ ap (λ bits. hears (widths d) i (store values i) bits (doing_at d p)) (new_is ∙ sym at_signal)))
