use Rattle.std.proofs.Common.{take}
use Rattle.desk_core.specs.Files.{AreFilesOf}
use Rattle.desk_core.proofs.start.files_of.Given as goal

abbrev pub invariant-loop-row : goal.invariant-loop-row
invariant-loop-row l = AreFilesOf (take l.row-index l.tables.files.items) l.db.files
