use Rattle.std.proofs.Common.{◌≡◌, map, take}
use Rattle.std.specs.Prelude.{find, None}
use Rattle.desk_memo.specs.Rulings.{is_of}
use Rattle.desk_memo.specs.Shown.{ruling_of}
use Rattle.desk_memo.proofs.memo.place_of.Given as goal

-- none before is of the top
abbrev pub invariant-loop-place : goal.invariant-loop-place
invariant-loop-place g l = find (is_of l.top) (take l.place (map ruling_of l.rulings)) ≡ None
