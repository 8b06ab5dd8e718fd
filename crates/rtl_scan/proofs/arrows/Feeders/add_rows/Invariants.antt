use Rattle.std.proofs.Common.{◌≡◌, drop}
use Rattle.rtl_scan.specs.declared.arrows.Feeders.{Feeders}
use Rattle.rtl_scan.specs.Sets.{has_rows}
use Rattle.rtl_scan.specs.Arrows.{FedBy, Gathers}
use Rattle.rtl_scan.proofs.arrows.Feeders.add_rows.Given as goal

abbrev pub invariant-loop-row : goal.invariant-loop-row
invariant-loop-row l =
    (l.self.process ≡ l.fn.self.process) × ((new : Feeders) → Gathers (FedBy l.table (has_rows (drop l.row-index l.rows)) l.itself l.fn.self.process) l.self new → Gathers (FedBy l.fn.table (has_rows l.fn.rows) l.fn.itself l.fn.self.process) l.fn.self new)
