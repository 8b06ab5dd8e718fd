use Rattle.std.proofs.Common.{◌≡◌, drop}
use Rattle.std.specs.Option.{option_or}
use Rattle.desk_rulings.specs.Reaches.{last_signed}
use Rattle.desk_rulings.proofs.reach.last_signed.Given as goal

-- the last of all is the last of those that are left, or else the one that was found
abbrev pub invariant-loop-row : goal.invariant-loop-row
invariant-loop-row l =
    option_or (last_signed l.top l.reach (drop l.row-index l.rows)) l.found ≡ last_signed l.top l.reach l.rows
