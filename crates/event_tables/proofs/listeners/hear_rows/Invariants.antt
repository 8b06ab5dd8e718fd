use Rattle.std.proofs.Common.{List, drop}
use Rattle.std.specs.Prelude.{Vec}
use Rattle.std.specs.declared.alloc.Global.{Global}
use Rattle.event_write.specs.declared.listener.Listener.{Listener}
use Rattle.event_tables.specs.Hearing.{Hears}
use Rattle.event_tables.proofs.Hearing.{rows_ear}
use Rattle.event_tables.proofs.listeners.hear_rows.Given as goal

abbrev pub invariant-loop-row : goal.invariant-loop-row
invariant-loop-row l =
    (new : List (Vec Listener Global)) → Hears l.process.0 (rows_ear (drop l.row-index l.rows)) l.listeners.items new → Hears l.fn.process.0 (rows_ear l.fn.rows) l.fn.listeners.items new
