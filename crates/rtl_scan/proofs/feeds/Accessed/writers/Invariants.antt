use Rattle.rtl_flat.specs.Flats.{flat, widths}
use Rattle.rtl_scan.specs.Arrows.{AreWriters}
use Rattle.rtl_scan.proofs.feeds.Accessed.writers.Given as goal

abbrev pub invariant-loop-number : goal.invariant-loop-number
invariant-loop-number l =
    AreWriters (widths (flat l.self.design.now)) (flat l.self.design.now).tasks l.number l.table.items
