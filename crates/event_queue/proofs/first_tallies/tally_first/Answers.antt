use Rattle.std.proofs.Common.{ℕ, ◌∙◌, List, [], length, replicate, Option, Some, ap, sym, subst}
use Rattle.rtl_bits.specs.declared.Bit.{Bit}
use Rattle.rtl_bits.specs.declared.Bit.TheVariants.{Z}
use Rattle.event_model.specs.Queue.{doing_at}
use Rattle.rtl_flat.specs.Flats.{flat, widths}
use Rattle.event_model.specs.Writes.{put}
use Rattle.event_tables.specs.event_write.QueueState.{AreTallied, HasWidth, driver_of}
use Rattle.event_queue.proofs.Counted.{put_same}
use Rattle.event_queue.proofs.first_tallies.tally_first.Goals as goal

pub retally-requires-clause-old_width : goal.retally-requires-clause-old_width
retally-requires-clause-old_width c =
    let d = flat c.args.design.now in
    let p = c.args.process.0 in
    subst (λ n. HasWidth (widths d) (doing_at d p) n) (sym (c.filled-none.ensures.width ∙ c.width.ensures.exact))
    (subst (λ (o : Option (List Bit)). HasWidth (widths d) (doing_at d p) (length (driver_of (Some o)))) c.in-Some.is c.requires.width)

pub retally-requires-clause-new_width : goal.retally-requires-clause-new_width
retally-requires-clause-new_width c =
    let d = flat c.args.design.now in
    let p = c.args.process.0 in
    subst (λ (o : Option (List Bit)). HasWidth (widths d) (doing_at d p) (length (driver_of (Some o)))) c.in-Some.is c.requires.width

pub retally-requires-clause-tallied : goal.retally-requires-clause-tallied
retally-requires-clause-tallied c =
    let some = c.requires.tallied in
    record {
      driver = some.driver;
      has = some.has ∙ ap (λ (o : Option (List Bit)). replicate (length (driver_of (Some o))) Z) c.in-Some.is ∙ sym (c.filled-none.ensures.bits ∙ ap (λ n. replicate n Z) c.width.ensures.exact);
      tallied = some.tallied;
    }

pub returns-in-Some-clause-tallied : goal.returns-in-Some-clause-tallied
returns-in-Some-clause-tallied c driver has tallied =
    let d = flat c.args.design.now in
    let p = c.args.process.0 in
    subst (λ (o : Option (List Bit)). AreTallied d (put driver p (driver_of (Some o))) c.retally.new.tallies.items) (sym c.in-Some.is)
    (c.retally.ensures.tallied driver (has ∙ ap (λ (o : Option (List Bit)). replicate (length (driver_of (Some o))) Z) c.in-Some.is ∙ sym (c.filled-none.ensures.bits ∙ ap (λ n. replicate n Z) c.width.ensures.exact)) tallied)

pub returns-in-None-clause-tallied : goal.returns-in-None-clause-tallied
returns-in-None-clause-tallied c driver has tallied =
    let d = flat c.args.design.now in
    let p = c.args.process.0 in
    subst (λ (o : Option (List Bit)). AreTallied d (put driver p (driver_of (Some o))) c.args.tallies.now.items) (sym c.in-None.is)
    (subst (λ (f : ℕ → List Bit). AreTallied d f c.args.tallies.now.items) (put_same driver p [] (has ∙ ap (λ (o : Option (List Bit)). replicate (length (driver_of (Some o))) Z) c.in-None.is)) tallied)
