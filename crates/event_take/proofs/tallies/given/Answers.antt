use Rattle.std.proofs.Common.{◌<◌, ◌+◌, ◌∙◌, List, sym, subst, arith}
use Rattle.rtl_bits.specs.Bits.{selected}
use Rattle.event_write.proofs.rtl_scan_proofs.Processes.{widths_fit}
use Rattle.event_model.specs.Queue.{resolved}
use Rattle.rtl_flat.specs.Flats.{widths}
use Rattle.event_write.specs.event_tally.declared.tally.Tally.{Tally}
use Rattle.event_write.specs.event_tally.Given as tally
use Rattle.event_write.specs.event_tally.Tallies.{IsTalliedAt}
use Rattle.event_write.proofs.event_tally_proofs.Counting.{resolved_at}
use Rattle.event_write.proofs.event_tally_proofs.Lengths.{resolved_length}
use Rattle.event_write.specs.QueueState.{design_of, state}
use Rattle.event_write.proofs.Writing.{row_at}
use Rattle.event_take.proofs.Retallying.{same_places, selected_at, selected_length}
use Rattle.event_take.proofs.tallies.given.Goals as goal

pub bits_of-requires-clause-few : goal.bits_of-requires-clause-few
bits_of-requires-clause-few c =
    let design = c.args.fanout.now.design.now in
    let most = widths_fit design.instances.items design.signals.items design.is_design.each_signal c.args.net.0 in
    let inside = c.requires.inside in
    omega (arith, most, inside)

pub returns-clause-bits : goal.returns-clause-bits
returns-clause-bits c =
    let d = design_of c.args.fanout.now in
    let net = c.args.net.0 in
    let at = c.args.at in
    let count = c.args.count in
    let driver = (state c.args.queue.now).driver in
    let rows = c.args.queue.now.tallies.items in
    let there = c.requires.there in
    let counted = c.requires.queue.tallies in
    let inside = c.requires.inside in
    let is = row_at rows net c.index-row.result.now (omega (arith, there, counted)) c.index-row.ensures in
    let bits = resolved d driver net in
    let size = resolved_length (widths d) 0 d.tasks driver net in
    let width = c.bits_of.ensures.width in
    same_places c.bits_of.result (selected at count bits) (width ∙ sym (selected_length at count bits (omega (arith, size, inside))))
    (λ k within.
    let below : k < count = omega (arith, within, width) in
    c.bits_of.ensures.bits k (tally.given_bits d driver net (at + k)) below
    (subst (λ (xs : List Tally). IsTalliedAt xs (at + k) (tally.given_bits d driver net (at + k))) (is ∙ sym c.deref.ensures.value) ((c.requires.queue.tallied net).each (at + k)))
    ∙ sym (resolved_at d driver net (at + k) (omega (arith, below, inside)))
    ∙ sym (selected_at at count bits k below))
