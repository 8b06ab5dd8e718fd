use Rattle.std.proofs.lemmas.List.{drop_all}
use Rattle.event_tables.proofs.Ears.{left}
use Rattle.event_tables.proofs.Hearing.{rows_none, rows_more}
use Rattle.event_tables.proofs.listeners.hear_rows.Goals as goal

pub loop-row-preserved : goal.loop-row-preserved
loop-row-preserved c = λ new others.
    c.loop-row.invariant new
    (rows_more c.args.process.0 c.args.rows.now c.loop-row.row-index _ (left c.args.rows.now c.loop-row.row-index _ c.loop-row-test.true) c.loop-row.listeners.items c.hear_bits.new.listeners.items new c.in_ok-hear_bits.ensures others)

pub returns : goal.returns
returns c =
    c.loop-row.invariant c.loop-row.listeners.items (rows_none c.args.process.0 c.args.rows.now c.loop-row.row-index c.loop-row.listeners.items (drop_all c.loop-row.row-index c.args.rows.now c.loop-row-test.false))
