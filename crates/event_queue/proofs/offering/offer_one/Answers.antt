use Rattle.std.proofs.Common.{◌≡◌, true, length, List, [], Bool, Some, refl, subst, sym}
use Rattle.std.specs.Vec.{with_item}
use Rattle.std.proofs.lemmas.List.Elements.{All-head}
use Rattle.event_model.specs.declared.setting.Setting.{Setting}
use Rattle.event_model.specs.Queue.{is_input}
use Rattle.rtl_flat.specs.Flats.{widths}
use Rattle.event_model.specs.Writes.{put}
use Rattle.event_tables.specs.event_write.QueueState.{IsQueueState, design_of, state}
use Rattle.event_queue.proofs.Offered.{input_within, offered_queue, offered_state}
use Rattle.event_queue.proofs.offering.offer_one.Goals as goal

-- src/offering.rt:14:1
pub returns-clause-state : goal.returns-clause-state
returns-clause-state c =
    let d = design_of c.args.fanout.now in
    let m = c.args.queue.now in
    let i = c.args.setting.signal.0 in
    let bits = c.args.setting.value in
    let values = with_item m.offered_values i bits in
    let allowed = All-head (λ (one : Setting). (is_input d one.signal.0 ≡ true) × (length one.value ≡ widths d one.signal.0)) c.args.setting [] c.requires.allowed in
    subst (λ (flags : List Bool). state (record m { offered = flags; offered_values = values }) ≡ record (state m) { offered = put (state m).offered i (Some bits) })
    (sym c.insert.ensures)
    (offered_state d m values i bits c.requires.queue (input_within d i allowed.0) refl)

-- src/offering.rt:14:1
pub returns-clause-queue : goal.returns-clause-queue
returns-clause-queue c =
    let d = design_of c.args.fanout.now in
    let m = c.args.queue.now in
    let i = c.args.setting.signal.0 in
    let bits = c.args.setting.value in
    let values = with_item m.offered_values i bits in
    let allowed = All-head (λ (one : Setting). (is_input d one.signal.0 ≡ true) × (length one.value ≡ widths d one.signal.0)) c.args.setting [] c.requires.allowed in
    subst (λ (flags : List Bool). IsQueueState d (record m { offered = flags; offered_values = values }))
    (sym c.insert.ensures)
    (offered_queue d m values i bits c.requires.queue (input_within d i allowed.0) allowed.1 refl)
