use Rattle.rtl_flat.specs.Flats.{flat}
use Rattle.check_unknown.proofs.Worklist.{among_at, reader_there, reaches_more}
use Rattle.check_unknown.proofs.doubt.visit_all.Goals as goal

pub visit-requires-clause-there : goal.visit-requires-clause-there
visit-requires-clause-there c =
    reader_there c.args.scans.now.design.now _
    (c.requires.readers _ (among_at c.args.readers.now c.loop-p.p-index _ c.loop-p-test.true))

pub visit-requires-clause-reader : goal.visit-requires-clause-reader
visit-requires-clause-reader c =
    c.requires.readers _ (among_at c.args.readers.now c.loop-p.p-index _ c.loop-p-test.true)

pub loop-p-preserved : goal.loop-p-preserved
loop-p-preserved c =
    reaches_more (flat c.args.scans.now.design.now) c.args.readers.now c.loop-p.p-index _ c.loop-p-test.true c.args.seen.now c.args.spread.now c.loop-p.seen c.loop-p.spread c.visit.new.seen c.visit.new.spread c.loop-p.invariant c.in_ok-visit.ensures
