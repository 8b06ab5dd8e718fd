use Rattle.std.proofs.Common.{◌≡◌, ◌++◌, drop, length, map}
use Rattle.tests_rows.proofs.Widths.{width}
use Rattle.tests_rows.proofs.beside.beside.Given as goal

abbrev pub invariant-loop-number : goal.invariant-loop-number
invariant-loop-number l =
    map length l.values.items ++ map width (drop l.number l.design.signals.items) ≡ map width l.design.signals.items
