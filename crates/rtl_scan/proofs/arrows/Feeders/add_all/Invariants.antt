use Rattle.std.proofs.Common.{◌≡◌, drop}
use Rattle.rtl_scan.specs.declared.arrows.Feeders.{Feeders}
use Rattle.rtl_scan.specs.Arrows.{MeetsIn, Gathers}
use Rattle.rtl_scan.proofs.arrows.Feeders.add_all.Given as goal

abbrev pub invariant-loop-writer : goal.invariant-loop-writer
invariant-loop-writer l =
    (l.self.process ≡ l.fn.self.process) × ((new : Feeders) → Gathers (MeetsIn (drop l.writer-index l.writers) l.mask l.itself l.fn.self.process) l.self new → Gathers (MeetsIn l.fn.writers l.fn.mask l.fn.itself l.fn.self.process) l.fn.self new)
