use Rattle.std.proofs.Common.{◌≡◌, ◌-◌, ◌^◌, ◌≤◌, length, take}
use Rattle.std.specs.Prelude.{min}
use Rattle.desk_tables.specs.Changes.{without_file}
use Rattle.desk_tables.specs.Rules.{all_bytes}
use Rattle.desk_records.proofs.limits.others_of.Given as goal

abbrev pub invariant-loop-row : goal.invariant-loop-row
invariant-loop-row l =
    (l.count ≡ length (without_file l.name (take l.row-index l.files))) × (l.bytes ≡ min (all_bytes (without_file l.name (take l.row-index l.files))) (2 ^ 64 - 1)) × (l.count ≤ l.row-index)
