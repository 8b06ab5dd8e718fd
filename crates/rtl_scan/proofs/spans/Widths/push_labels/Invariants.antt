use Rattle.std.proofs.Common.{◌≡◌, ℕ, ◌||◌, drop}
use Rattle.rtl_flat.specs.Signs.{width_in}
use Rattle.rtl_flat.specs.Flows.{reads_all, labels_of}
use Rattle.rtl_scan.specs.Bodies.{branches_of}
use Rattle.rtl_scan.specs.Sets.{has_rows}
use Rattle.rtl_scan.proofs.spans.Widths.push_labels.Given as goal

abbrev pub invariant-loop-item : goal.invariant-loop-item
invariant-loop-item l =
    (s k : ℕ) → (has_rows l.rows.items s k || reads_all (width_in l.self.signals.now) (labels_of (branches_of (drop l.item-index l.items))) s k) ≡ (has_rows l.fn.rows.items s k || reads_all (width_in l.self.signals.now) (labels_of (branches_of l.items)) s k)
