use Rattle.std.proofs.Common.{◌≡◌, ◌&&◌, not, map, drop}
use Rattle.rtl_flat.specs.Flows.{may_target}
use Rattle.rtl_flat.specs.Process.{piece}
use Rattle.rtl_flat.specs.Signs.{width_in}
use Rattle.net_model.specs.Block.{filled_case}
use Rattle.net_body.specs.Marks.{AreKept, maps}
use Rattle.net_body.proofs.fills.fill_parts.Given as goal

abbrev pub invariant-loop-part : goal.invariant-loop-part
invariant-loop-part l =
    AreKept l.design.signals.items l.numbers l.marks
    × (filled_case l.fill (λ i k. not l.delayed && may_target (width_in l.design.signals.items) (map piece (drop l.part-index l.parts)) i k) (λ i k. l.delayed && may_target (width_in l.design.signals.items) (map piece (drop l.part-index l.parts)) i k) (maps l.numbers l.marks)
    ≡ filled_case l.fill (λ i k. not l.delayed && may_target (width_in l.design.signals.items) (map piece l.parts) i k) (λ i k. l.delayed && may_target (width_in l.design.signals.items) (map piece l.parts) i k) (maps l.initial.numbers l.initial.marks))
