use Rattle.std.proofs.Common.{map}
use Rattle.rtl_flat.specs.Paths.{MayWrite, ReadsOutside}
use Rattle.rtl_flat.specs.PathSets.{Lists, OfProcess}
use Rattle.rtl_flat.specs.Process.{task}
use Rattle.rtl_scan.specs.Accesses.{AreOfEach}
use Rattle.rtl_scan.specs.Usage.{AreUsages}
use Rattle.rtl_scan.proofs.accesses.accesses_of.Given as goal

abbrev pub invariant-loop-number : goal.invariant-loop-number
invariant-loop-number l =
    AreOfEach (OfProcess ReadsOutside l.widths.signals.now (map task l.processes)) l.number l.reads.items
    × AreOfEach (OfProcess MayWrite l.widths.signals.now (map task l.processes)) l.number l.writes.items
    × AreOfEach (Lists l.widths.signals.now (map task l.processes)) l.number l.lists.items
    × AreUsages l.widths.signals.now (map task l.processes) l.number l.usages.items
