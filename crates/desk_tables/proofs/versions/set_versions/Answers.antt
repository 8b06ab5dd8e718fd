use Rattle.std.proofs.Common.{arith}
use Rattle.desk_tables.specs.Migrations.{with_version}
use Rattle.desk_tables.proofs.Mapped.{mapped_more}
use Rattle.desk_tables.proofs.versions.set_versions.Goals as goal

pub loop-row-preserved : goal.loop-row-preserved
loop-row-preserved c =
    mapped_more with_version c.args.rows.now c.loop-row.rows c.loop-row.row-index (record { version = 0 }) (omega arith) c.loop-row.invariant
