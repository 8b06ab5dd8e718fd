use Rattle.std.proofs.Common.{◌≡◌, ℕ, ◌||◌, ◌&&◌, not, map, drop}
use Rattle.rtl_flat.specs.Signs.{width_in}
use Rattle.rtl_flat.specs.Process.{piece}
use Rattle.rtl_flat.specs.Flows.{targets}
use Rattle.rtl_scan.specs.Sets.{has, has_rows}
use Rattle.rtl_scan.proofs.scan.add_sure.Given as goal

abbrev pub invariant-loop-part : goal.invariant-loop-part
invariant-loop-part l = (s k : ℕ) → ((has l.done.masks s k || targets (width_in l.widths.signals.now) (map piece (drop l.part-index l.parts)) s k) ≡ (has l.fn.done.masks s k || targets (width_in l.widths.signals.now) (map piece l.parts) s k)) × ((has_rows l.log.items s k || (not (has l.done.masks s k) && targets (width_in l.widths.signals.now) (map piece (drop l.part-index l.parts)) s k)) ≡ (has_rows l.fn.log.items s k || (not (has l.fn.done.masks s k) && targets (width_in l.widths.signals.now) (map piece l.parts) s k)))
