use Rattle.std.proofs.Common.{◌≡◌, ℕ, ◌||◌, map, drop}
use Rattle.rtl_flat.specs.Signs.{width_in}
use Rattle.rtl_flat.specs.Process.{watched}
use Rattle.rtl_flat.specs.Flows.{item_reads}
use Rattle.rtl_scan.specs.Sets.{has_rows}
use Rattle.rtl_scan.proofs.branch.index_reads.Given as goal

abbrev pub invariant-loop-item : goal.invariant-loop-item
invariant-loop-item l =
    (s k : ℕ) → (has_rows l.rows.items s k || item_reads (width_in l.widths.signals.now) (map watched (drop l.item-index l.items)) s k) ≡ item_reads (width_in l.widths.signals.now) (map watched l.items) s k
