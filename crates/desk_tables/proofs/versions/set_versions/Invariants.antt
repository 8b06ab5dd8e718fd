use Rattle.std.proofs.Common.{◌≡◌, ◌++◌, take, drop, map}
use Rattle.desk_tables.specs.Migrations.{with_version}
use Rattle.desk_tables.proofs.versions.set_versions.Given as goal

abbrev pub invariant-loop-row : goal.invariant-loop-row
invariant-loop-row l =
    l.rows ≡ map with_version (take l.row-index l.initial.rows) ++ drop l.row-index l.initial.rows
