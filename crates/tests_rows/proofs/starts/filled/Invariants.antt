use Rattle.std.proofs.Common.{◌≡◌, ◌++◌, drop, length, map}
use Rattle.rtl_flat.specs.Flats.{flat, widths}
use Rattle.tests_netlists.proofs.Widths.{wide}
use Rattle.tests_rows.proofs.starts.filled.Given as goal

abbrev pub invariant-loop-place : goal.invariant-loop-place
invariant-loop-place l =
    map length l.values.items ++ map (wide (widths (flat l.design))) (drop l.place l.signals) ≡ map (wide (widths (flat l.design))) l.signals
