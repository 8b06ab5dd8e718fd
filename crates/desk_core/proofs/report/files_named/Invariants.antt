use Rattle.std.proofs.Common.{◌≡◌, ◌++◌, map, drop}
use Rattle.desk_core.specs.Reports.{files_named}
use Rattle.desk_core.proofs.report.files_named.Given as goal

abbrev pub invariant-loop-name : goal.invariant-loop-name
invariant-loop-name l =
    map (λ file. file.now) l.found.items ++ files_named (drop l.name-index l.names) l.files
    ≡ files_named l.names l.files
