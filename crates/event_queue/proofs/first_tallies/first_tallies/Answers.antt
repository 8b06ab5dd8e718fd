use Rattle.std.proofs.Common.{ℕ, ◌<◌, ◌∙◌, List, length, replicate, refl, ap, sym, subst, arith}
use Rattle.std.proofs.lemmas.List.{length-map}
use Rattle.std.proofs.lemmas.Option.{slice_get_read}
use Rattle.rtl_bits.specs.declared.Bit.{Bit}
use Rattle.rtl_bits.specs.declared.Bit.TheVariants.{Z}
use Rattle.rtl_flat.specs.Process.{task}
use Rattle.event_model.specs.Queue.{doing_at}
use Rattle.rtl_flat.specs.Flats.{flat, widths}
use Rattle.event_model.specs.Writes.{put}
use Rattle.event_tables.specs.event_write.QueueState.{AreTallied, HasWidth, driver_of}
use Rattle.event_queue.specs.First.{driver_in}
use Rattle.event_queue.proofs.Counted.{all_so_far, no_driver, none_yet, not_yet, one_more, ready_tallied, so_far}
use Rattle.event_queue.proofs.first_tallies.first_tallies.Goals as goal

pub loop-number-init : goal.loop-number-init
loop-number-init c =
    let drives = driver_in c.args.drivers.now in
    (c.in_ok-tallies.ensures.count, ready_tallied (flat c.args.design.now) (so_far drives 0) c.in_ok-tallies.tallies.items (none_yet drives) c.in_ok-tallies.ensures)

pub tally_first-requires-clause-width : goal.tally_first-requires-clause-width
tally_first-requires-clause-width c =
    let d = flat c.args.design.now in
    let n = c.loop-number.number in
    let drivers = c.args.drivers.now in
    let test = c.loop-number-test.true in
    let len = c.len-number-end.ensures in
    let fits = c.args.design.now.processes.ok.0 in
    let count = length-map c.args.design.now.processes.items task in
    let all = c.requires.driven.count in
    let within : n < length drivers = omega (arith, test, len, fits, count, all) in
    subst (λ (bs : List Bit). HasWidth (widths d) (doing_at d n) (length bs)) (ap driver_of (slice_get_read drivers (length drivers) n c.index-drivers-number.result refl within c.index-drivers-number.is)) (c.requires.driven.each n)

pub tally_first-requires-clause-tallied : goal.tally_first-requires-clause-tallied
tally_first-requires-clause-tallied c =
    let n = c.loop-number.number in
    let drivers = c.args.drivers.now in
    let drives = driver_in drivers in
    let test = c.loop-number-test.true in
    let len = c.len-number-end.ensures in
    let fits = c.args.design.now.processes.ok.0 in
    let count = length-map c.args.design.now.processes.items task in
    let all = c.requires.driven.count in
    let within : n < length drivers = omega (arith, test, len, fits, count, all) in
    record {
      driver = so_far drives n;
      has = not_yet drives n ∙ ap (λ (bs : List Bit). replicate (length bs) Z) (ap driver_of (slice_get_read drivers (length drivers) n c.index-drivers-number.result refl within c.index-drivers-number.is));
      tallied = c.loop-number.invariant.1;
    }

pub loop-number-preserved : goal.loop-number-preserved
loop-number-preserved c =
    let d = flat c.args.design.now in
    let n = c.loop-number.number in
    let inv = c.loop-number.invariant in
    let drivers = c.args.drivers.now in
    let drives = driver_in drivers in
    let test = c.loop-number-test.true in
    let len = c.len-number-end.ensures in
    let fits = c.args.design.now.processes.ok.0 in
    let count = length-map c.args.design.now.processes.items task in
    let all = c.requires.driven.count in
    let within : n < length drivers = omega (arith, test, len, fits, count, all) in
    let bits = ap driver_of (slice_get_read drivers (length drivers) n c.index-drivers-number.result refl within c.index-drivers-number.is) in (
      c.tally_first.ensures.size ∙ inv.0,
      subst (λ (f : ℕ → List Bit). AreTallied d f c.tally_first.new.tallies.items) (ap (λ (bs : List Bit). put (so_far drives n) n bs) (sym bits) ∙ one_more drives n)
          (c.tally_first.ensures.tallied (so_far drives n) (not_yet drives n ∙ ap (λ (bs : List Bit). replicate (length bs) Z) bits) inv.1),
    )

pub returns : goal.returns
returns c =
    let d = flat c.args.design.now in
    let inv = c.loop-number.invariant in
    let drivers = c.args.drivers.now in
    let drives = driver_in drivers in
    let past = c.loop-number-test.false in
    let len = c.len-number-end.ensures in
    let fits = c.args.design.now.processes.ok.0 in
    let count = length-map c.args.design.now.processes.items task in
    let all = c.requires.driven.count in
    record {
      count = inv.0;
      tallied = subst (λ (f : ℕ → List Bit). AreTallied d f c.loop-number.tallies.items) (all_so_far drives c.loop-number.number (λ p more. no_driver drivers p (omega (arith, past, len, fits, count, all, more)))) inv.1;
    }
