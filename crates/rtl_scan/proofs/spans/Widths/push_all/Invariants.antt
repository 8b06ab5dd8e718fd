use Rattle.std.proofs.Common.{◌≡◌, ℕ, ◌||◌, map, drop}
use Rattle.rtl_flat.specs.Signs.{width_in}
use Rattle.rtl_flat.specs.Expression.{tree}
use Rattle.rtl_flat.specs.Flows.{reads_all}
use Rattle.rtl_scan.specs.Sets.{has_rows}
use Rattle.rtl_scan.proofs.spans.Widths.push_all.Given as goal

abbrev pub invariant-loop-label : goal.invariant-loop-label
invariant-loop-label l =
    (s k : ℕ) → (has_rows l.rows.items s k || reads_all (width_in l.self.signals.now) (map tree (drop l.label-index l.labels)) s k) ≡ (has_rows l.fn.rows.items s k || reads_all (width_in l.self.signals.now) (map tree l.labels) s k)
