use Rattle.std.proofs.Common.{arith}
use Rattle.desk_tables.specs.Migrations.{with_first_edition}
use Rattle.desk_tables.proofs.Mapped.{mapped_more}
use Rattle.desk_tables.proofs.versions.set_editions.Goals as goal

pub loop-row-preserved : goal.loop-row-preserved
loop-row-preserved c =
    mapped_more with_first_edition c.args.rows.now c.loop-row.rows c.loop-row.row-index c.row-item.result (omega arith) c.loop-row.invariant
