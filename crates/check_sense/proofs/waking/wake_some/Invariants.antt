use Rattle.std.proofs.Common.{◌≡◌, drop}
use Rattle.std.specs.List.{list_any}
use Rattle.check_sense.specs.Telling.{row_wakes}
use Rattle.check_sense.proofs.waking.wake_some.Given as goal

abbrev pub invariant-loop-row : goal.invariant-loop-row
invariant-loop-row l =
    list_any (row_wakes l.signals l.writers l.own.masks) (drop l.row-index l.rows) ≡ list_any (row_wakes l.signals l.writers l.own.masks) l.rows
