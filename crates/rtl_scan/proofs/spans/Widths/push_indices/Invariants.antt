use Rattle.std.proofs.Common.{◌≡◌, ℕ, ◌||◌, map, drop}
use Rattle.rtl_flat.specs.Signs.{width_in}
use Rattle.rtl_flat.specs.Process.{piece}
use Rattle.rtl_flat.specs.Flows.{target_reads}
use Rattle.rtl_scan.specs.Sets.{has_rows}
use Rattle.rtl_scan.proofs.spans.Widths.push_indices.Given as goal

abbrev pub invariant-loop-part : goal.invariant-loop-part
invariant-loop-part l =
    (s k : ℕ) → (has_rows l.rows.items s k || target_reads (width_in l.self.signals.now) (map piece (drop l.part-index l.parts)) s k) ≡ (has_rows l.fn.rows.items s k || target_reads (width_in l.self.signals.now) (map piece l.parts) s k)
