use Rattle.std.proofs.Common.{◌≡◌, ℕ, ◌||◌, map, drop}
use Rattle.rtl_flat.specs.Signs.{width_in}
use Rattle.rtl_flat.specs.Process.{piece}
use Rattle.rtl_flat.specs.Flows.{may_target}
use Rattle.rtl_scan.specs.Sets.{has}
use Rattle.rtl_scan.proofs.scan.add_writes.Given as goal

abbrev pub invariant-loop-part : goal.invariant-loop-part
invariant-loop-part l = (s k : ℕ) → (has l.writes.masks s k || may_target (width_in l.widths.signals.now) (map piece (drop l.part-index l.parts)) s k) ≡ (has l.fn.writes.masks s k || may_target (width_in l.widths.signals.now) (map piece l.parts) s k)
