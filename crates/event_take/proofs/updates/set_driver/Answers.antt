use Rattle.std.proofs.Common.{ℕ, ◌<◌, ◌∙◌, List, length, Some, refl, ap, sym, subst, arith}
use Rattle.std.specs.List.{slice_get}
use Rattle.std.proofs.lemmas.List.{length-map, length-set}
use Rattle.std.proofs.lemmas.Option.{slice_get_read}
use mathlib.Core.Path.{fun_ext}
use Rattle.rtl_bits.specs.declared.Bit.{Bit}
use Rattle.rtl_flat.specs.Process.{task}
use Rattle.event_model.specs.Queue.{doing_at}
use Rattle.rtl_flat.specs.Flats.{widths}
use Rattle.event_write.specs.QueueState.{AreTallied, HasWidth, design_of, driver_of, state}
use Rattle.event_take.proofs.Driving.{driver_put, driver_widths_put}
use Rattle.event_take.proofs.updates.set_driver.Goals as goal

pub retally-requires-clause-old_width : goal.retally-requires-clause-old_width
retally-requires-clause-old_width c =
    let d = design_of c.args.fanout.now in
    let p = c.args.process.0 in
    let drivers = c.args.queue.now.drivers.items in
    let there = c.requires.there in
    let count = length-map c.args.fanout.now.design.now.processes.items task in
    let kept = c.requires.queue.drivers in
    let is = ap driver_of (slice_get_read drivers (length drivers) p c.index-old.result.now refl (omega (arith, there, count, kept)) c.index-old.ensures) in
    subst (λ (bs : List Bit). HasWidth (widths d) (doing_at d p) (length bs)) is (c.requires.queue.driver_widths p)

pub retally-requires-clause-tallied : goal.retally-requires-clause-tallied
retally-requires-clause-tallied c =
    let p = c.args.process.0 in
    let drivers = c.args.queue.now.drivers.items in
    let there = c.requires.there in
    let count = length-map c.args.fanout.now.design.now.processes.items task in
    let kept = c.requires.queue.drivers in
    record {
      driver = λ q. driver_of (slice_get drivers q);
      has = ap driver_of (slice_get_read drivers (length drivers) p c.index-old.result.now refl (omega (arith, there, count, kept)) c.index-old.ensures);
      tallied = c.requires.queue.tallied;
    }

pub returns-clause-state : goal.returns-clause-state
returns-clause-state c =
    let s = state c.args.queue.now in
    let drivers = c.args.queue.now.drivers.items in
    let there = c.requires.there in
    let count = length-map c.args.fanout.now.design.now.processes.items task in
    let kept = c.requires.queue.drivers in
    ap (λ (f : ℕ → List Bit). record s { driver = f }) (fun_ext (driver_put drivers c.args.process.0 c.args.bits (omega (arith, there, count, kept))))

pub returns-clause-queue : goal.returns-clause-queue
returns-clause-queue c =
    let d = design_of c.args.fanout.now in
    let is = c.requires.queue in
    let p = c.args.process.0 in
    let bits = c.args.bits in
    let drivers = c.args.queue.now.drivers.items in
    let there = c.requires.there in
    let count = length-map c.args.fanout.now.design.now.processes.items task in
    let kept = is.drivers in
    let within : p < length drivers = omega (arith, there, count, kept) in
    let has = ap driver_of (slice_get_read drivers (length drivers) p c.index-old.result.now refl within c.index-old.ensures) in
    record {
      values = is.values;
      woken = is.woken;
      drivers = length-set drivers p (Some bits) ∙ is.drivers;
      driver_widths = driver_widths_put (widths d) (doing_at d) drivers p bits within is.driver_widths c.requires.width;
      tallies = c.retally.ensures.size ∙ is.tallies;
      tallied = subst (λ (f : ℕ → List Bit). AreTallied d f c.retally.new.tallies.items) (sym (fun_ext (driver_put drivers p bits within))) (c.retally.ensures.tallied (λ q. driver_of (slice_get drivers q)) has is.tallied);
      pending = is.pending;
      pending_values = is.pending_values;
      pending_widths = is.pending_widths;
      offered = is.offered;
      offered_values = is.offered_values;
      next = is.next;
      active = is.active;
      active_inside = is.active_inside;
      waiting = is.waiting;
      waiting_inside = is.waiting_inside;
    }
