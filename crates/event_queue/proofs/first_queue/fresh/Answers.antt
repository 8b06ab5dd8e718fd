use Rattle.std.proofs.Common.{List, Option, refl, subst, arith}
use Rattle.rtl_bits.specs.declared.Bit.{Bit}
use Rattle.rtl_flat.specs.Flats.{flat}
use Rattle.event_queue.specs.First.{driver_in}
use Rattle.event_queue.specs.Tallying.{AreTallies}
use Rattle.event_queue.proofs.Freshness.{fresh_is}
use Rattle.event_queue.proofs.first_queue.fresh.Goals as goal

pub returns : goal.returns
returns c =
    let counted = c.len-processes.ensures in
    let fits = c.args.design.now.processes.ok.0 in
    let listed = c.len-signals.ensures in
    let fit = c.args.design.now.signals.ok.0 in
    let tallied = subst (λ (drivers : List (Option (List Bit))). AreTallies (flat c.args.design.now) (driver_in drivers) c.in_ok-tallies.tallies.items) c.deref-2.ensures.value c.in_ok-tallies.ensures in
    fresh_is c.args.design.now _ c.args.levels.items c.args.room c.len-processes.result c.len-signals.result c.requires.levels (omega (arith, counted, fits)) (omega (arith, listed, fit)) c.requires.stored c.requires.driven tallied
    c.in_ok-woken.ensures c.in_ok-pending.ensures c.in_ok-pending_values.ensures c.in_ok-offered.ensures c.in_ok-offered_values.ensures refl
    c.in_ok-active.ensures.items c.in_ok-waiting.ensures.items c.in_ok-active.ensures.capacity c.in_ok-waiting.ensures.capacity c.in_ok-scratch.ensures.capacity
