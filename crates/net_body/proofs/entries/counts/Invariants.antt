use Rattle.std.proofs.Common.{◌≡◌, ◌+◌, map, drop}
use Rattle.rtl_flat.specs.Process.{piece}
use Rattle.rtl_flat.specs.Signs.{width_in}
use Rattle.event_model.specs.Writes.{counts}
use Rattle.net_body.proofs.entries.counts.Given as goal

abbrev pub invariant-loop-part : goal.invariant-loop-part
invariant-loop-part l =
    l.count + counts (width_in l.signals) (map piece (drop l.part-index l.parts)) ≡ counts (width_in l.signals) (map piece l.parts)
