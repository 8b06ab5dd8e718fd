use Rattle.std.proofs.Common.{List, map, drop}
use Rattle.std.specs.Prelude.{Vec}
use Rattle.std.specs.declared.alloc.Global.{Global}
use Rattle.rtl_flat.specs.declared.act.ProcId.{ProcId}
use Rattle.rtl_flat.specs.Process.{piece}
use Rattle.event_write.specs.event_tally.Targets.{names}
use Rattle.event_tables.specs.Driving.{Enters}
use Rattle.event_tables.proofs.drivers.enter_parts.Given as goal

abbrev pub invariant-loop-part : goal.invariant-loop-part
invariant-loop-part l =
    (new : List (Vec ProcId Global)) → Enters l.process (names (map piece (drop l.part-index l.parts))) l.drivers.items new → Enters l.fn.process (names (map piece l.fn.parts)) l.fn.drivers.items new
