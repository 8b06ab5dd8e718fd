use Rattle.std.proofs.Common.{◌≡◌, map, take}
use Rattle.std.specs.Prelude.{find, None}
use Rattle.desk_memo.specs.Rulings.{is_current_of}
use Rattle.desk_memo.specs.Shown.{ruling_of}
use Rattle.desk_memo.specs.ShownReadings.{read_of}
use Rattle.desk_memo.proofs.memo.current_place.Given as goal

-- none before is of the top and holds
abbrev pub invariant-loop-place : goal.invariant-loop-place
invariant-loop-place g l =
    find (is_current_of l.files (read_of l.readings) l.top) (take l.place (map ruling_of l.rulings)) ≡ None
