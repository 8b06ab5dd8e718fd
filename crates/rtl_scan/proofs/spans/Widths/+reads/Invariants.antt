use Rattle.std.proofs.Common.{◌≡◌, ℕ, ◌||◌, map, drop}
use Rattle.rtl_flat.specs.Signs.{width_in}
use Rattle.rtl_flat.specs.Expression.{tree, beside}
use Rattle.rtl_flat.specs.Flows.{reads}
use Rattle.rtl_scan.specs.Sets.{has_rows}
use Rattle.rtl_scan.proofs.spans.Widths.+reads.Given as goal

abbrev pub invariant-push_parts-loop-part : goal.invariant-push_parts-loop-part
invariant-push_parts-loop-part l =
    (s k : ℕ) → (has_rows l.rows.items s k || reads (width_in l.self.signals.now) (beside (map tree (drop l.part-index l.parts))) s k) ≡ (has_rows l.fn.rows.items s k || reads (width_in l.self.signals.now) (beside (map tree l.parts)) s k)
