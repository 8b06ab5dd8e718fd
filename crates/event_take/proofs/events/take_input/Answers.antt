use Rattle.std.proofs.Common.{ℕ, ◌≡◌, ◌<◌, ◌∙◌, List, [], length, Option, None, ap, sym, arith}
use Rattle.std.proofs.lemmas.List.{get_or_default}
use mathlib.Core.Path.{fun_ext}
use Rattle.rtl_bits.specs.declared.Bit.{Bit}
use Rattle.rtl_flat.specs.Value.{store}
use Rattle.rank_set.proofs.Law.{member_within}
use Rattle.event_model.specs.Queue.{after_input, write}
use Rattle.event_model.specs.Writes.{put}
use Rattle.event_write.specs.QueueState.{design_of, flagged_value, state}
use Rattle.event_take.proofs.Taking.{held_here, held_less}
use Rattle.event_take.proofs.events.take_input.Goals as goal

pub returns-clause-state : goal.returns-clause-state
returns-clause-state c =
    let d = design_of c.args.fanout.now in
    let s = state c.args.queue.now in
    let i = c.args.signal.0 in
    let flags = c.args.queue.now.offered in
    let values = c.args.queue.now.offered_values.items in
    let within = member_within flags i c.requires.offered in
    let flagged = c.requires.queue.offered in
    let stored = c.requires.queue.offered_values.count in
    let there : i < length values = omega (arith, within, flagged, stored) in
    let bits : c.index-bits.result.now ≡ store values i = c.index-bits.ensures ∙ get_or_default values i c.index-bits.result.now [] there in
    let offered : flagged_value c.remove.new.self values ≡ put (flagged_value flags values) i None = ap (λ f. flagged_value f values) c.remove.ensures ∙ fun_ext (held_less flags values i within) in
    c.write.ensures.state
    ∙ ap (λ (o : ℕ → Option (List Bit)). write d (record s { offered = o }) (record { signal = i; at = 0; bits = c.index-bits.result.now })) offered
    ∙ ap (λ (bs : List Bit). write d (record s { offered = put s.offered i None }) (record { signal = i; at = 0; bits = bs })) bits
    ∙ sym (ap (after_input d s i) (held_here flags values i c.requires.offered))
