use Rattle.std.proofs.Common.{◌≡◌, ◌++◌, drop}
use Rattle.std.specs.List.{flat_map}
use Rattle.desk_rulings.specs.SignOffs.{reach_line, rows_of}
use Rattle.desk_rulings.proofs.signing.reach_of.Given as goal

abbrev pub invariant-loop-name : goal.invariant-loop-name
invariant-loop-name l =
    l.lines.items ++ flat_map reach_line (rows_of l.files (drop l.name-index l.reached)) ≡ flat_map reach_line (rows_of l.files l.reached)
