use Rattle.std.proofs.Common.{ℕ, ◌≤◌, get_or}
use Rattle.rtl_flat.specs.Flats.{flat, widths}
use Rattle.rtl_scan.specs.Arrows.{AreFed}
use Rattle.rtl_scan.proofs.feeds.Accessed.feeds.Given as goal

abbrev pub invariant-loop-number : goal.invariant-loop-number
invariant-loop-number l =
    AreFed l.waits (widths (flat l.self.design.now)) (flat l.self.design.now).tasks l.table l.number l.rows.items × ((p : ℕ) → get_or l.seen.items p 0 ≤ l.number)
