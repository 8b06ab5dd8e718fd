use Rattle.std.proofs.Common.{map}
use Rattle.rtl_flat.specs.Process.{task}
use Rattle.rtl_scan.specs.Usage.{AreUsages}
use Rattle.rtl_scan.proofs.usages.usages_of.Given as goal

abbrev pub invariant-loop-number : goal.invariant-loop-number
invariant-loop-number l = AreUsages l.widths.signals.now (map task l.processes) l.number l.usages.items
