use Rattle.std.proofs.Common.{◌≡◌, drop}
use Rattle.desk_rulings.specs.SignOffs.{edited_by, rows_of}
use Rattle.desk_rulings.proofs.signing.edited_by.Given as goal

abbrev pub invariant-loop-name : goal.invariant-loop-name
invariant-loop-name l =
    edited_by l.who (rows_of l.files (drop l.name-index l.reached)) ≡ edited_by l.who (rows_of l.files l.reached)
