use Rattle.std.proofs.Common.{◌≡◌, ◌≤◌, ◌<◌, ◌∙◌, List, length, map, Option, Some, ap, sym, subst, arith}
use Rattle.std.specs.List.{All, slice_get}
use Rattle.std.proofs.lemmas.List.{length-map}
use Rattle.rtl_bits.specs.declared.Bit.{Bit}
use Rattle.rtl_bits.specs.Bit.{resolve_bit}
use Rattle.rtl_bits.specs.Bits.{zip_with}
use Rattle.rtl_flat.specs.declared.act.TargetPart.{TargetPart}
use Rattle.rtl_flat.specs.declared.signal.Signal.{Signal}
use Rattle.rtl_flat.specs.Expression.{tree}
use Rattle.rtl_flat.specs.Process.{Doing, Assign, Piece, doing, piece, task}
use Rattle.rtl_flat.specs.Signs.{width_in}
use Rattle.rtl_flat.specs.WellFormed.{IsFixed, IsProcess}
use Rattle.event_write.proofs.rtl_scan_proofs.Processes.{widths_fit}
use Rattle.event_model.specs.Queue.{doing_at}
use Rattle.event_model.specs.Writes.{counts, driven}
use Rattle.event_write.specs.Entries.{AreSelected}
use Rattle.event_write.specs.QueueState.{HasWidth, design_of, driven_with, driver_of}
use Rattle.event_write.proofs.Targets.{are_selected, counts_is, some_bits}
use Rattle.event_take.proofs.Driving.{driver_here}
use Rattle.event_take.proofs.Taking.{doing_here, task_has}
use Rattle.event_take.proofs.drives.drive_with.Goals as goal

pub driven-requires-clause-width : goal.driven-requires-clause-width
driven-requires-clause-width c =
    let design = c.args.fanout.now.design.now in
    subst (λ (ss : List Signal). (1 ≤ width_in ss c.args.net.0) × (width_in ss c.args.net.0 ≤ 128)) (sym c.deref.ensures.value)
    (some_bits design.instances.items design.signals.items design.is_design.each_signal c.args.net.0 c.requires.there, widths_fit design.instances.items design.signals.items design.is_design.each_signal c.args.net.0)

pub driven-requires-clause-selected : goal.driven-requires-clause-selected
driven-requires-clause-selected c =
    let design = c.args.fanout.now.design.now in
    let signals = design.signals.items in
    let one = task_has (λ one. IsProcess signals one.does) design.processes.items c.args.process.0 c.index.result.now design.is_design.each_process c.requires.inside c.index.ensures in
    let lawful = subst (IsProcess signals) (ap doing c.in-Assign.is) one in
    let parts = c.in-Assign.target.parts.items in
    subst (λ (ss : List Signal). AreSelected ss (map piece c.deref-3.result.now)) (sym c.deref.ensures.value)
    (subst (λ (ps : List TargetPart). AreSelected signals (map piece ps)) (sym c.deref-3.ensures.value)
    (are_selected signals (some_bits design.instances.items signals design.is_design.each_signal) (map piece parts) lawful.0.parts))

pub driven-requires-clause-fixed : goal.driven-requires-clause-fixed
driven-requires-clause-fixed c =
    let design = c.args.fanout.now.design.now in
    let one = task_has (λ one. IsProcess design.signals.items one.does) design.processes.items c.args.process.0 c.index.result.now design.is_design.each_process c.requires.inside c.index.ensures in
    let lawful = subst (IsProcess design.signals.items) (ap doing c.in-Assign.is) one in
    subst (λ (ps : List TargetPart). All (λ (p : Piece). IsFixed p.selection) (map piece ps)) (sym c.deref-3.ensures.value) lawful.1

pub driven-requires-clause-covered : goal.driven-requires-clause-covered
driven-requires-clause-covered c =
    let design = c.args.fanout.now.design.now in
    let signals = design.signals.items in
    let p = c.args.process.0 in
    let drivers = c.args.queue.now.drivers.items in
    let one = task_has (λ one. IsProcess signals one.does) design.processes.items p c.index.result.now design.is_design.each_process c.requires.inside c.index.ensures in
    let lawful = subst (IsProcess signals) (ap doing c.in-Assign.is) one in
    let parts = c.in-Assign.target.parts.items in
    let does : doing_at (design_of c.args.fanout.now) p ≡ Some (Assign (map piece parts) (tree c.in-Assign.value)) =
    doing_here design.processes.items p c.index.result.now c.requires.inside c.index.ensures ∙ ap (λ x. Some (doing x)) c.in-Assign.is in
    let there = c.requires.inside in
    let count = length-map design.processes.items task in
    let kept = c.requires.queue.drivers in
    let within : p < length drivers = omega (arith, there, count, kept) in
    let wide = subst (λ (o : Option Doing). HasWidth (width_in signals) o (length (driver_of (slice_get drivers p)))) does (c.requires.queue.driver_widths p) in
    let here = ap length (driver_here drivers p c.index-2.result.now c.in-Some.bits within c.index-2.ensures c.in-Some.is) in
    let all = counts_is signals (map piece parts) in
    let covered = lawful.0.covered in
    let same = ap (λ (ss : List Signal). counts (width_in ss) (map piece c.deref-3.result.now)) c.deref.ensures.value in
    let these = ap (λ (ps : List TargetPart). counts (width_in signals) (map piece ps)) c.deref-3.ensures.value in
    omega (arith, wide, here, all, covered, same, these)

pub returns-clause-bits : goal.returns-clause-bits
returns-clause-bits c =
    let design = c.args.fanout.now.design.now in
    let ws = width_in design.signals.items in
    let p = c.args.process.0 in
    let net = c.args.net.0 in
    let others = c.args.others in
    let drivers = c.args.queue.now.drivers.items in
    let parts = map piece c.in-Assign.target.parts.items in
    let e = tree c.in-Assign.value in
    let does : doing_at (design_of c.args.fanout.now) p ≡ Some (Assign parts e) =
    doing_here design.processes.items p c.index.result.now c.requires.inside c.index.ensures ∙ ap (λ x. Some (doing x)) c.in-Assign.is in
    let there = c.requires.inside in
    let count = length-map design.processes.items task in
    let kept = c.requires.queue.drivers in
    let within : p < length drivers = omega (arith, there, count, kept) in
    let here = driver_here drivers p c.index-2.result.now c.in-Some.bits within c.index-2.ensures c.in-Some.is in
    c.resolve.ensures.bits
    ∙ ap (λ (bs : List Bit). zip_with resolve_bit bs others) (c.driven.ensures.bits
    ∙ ap (λ (ss : List Signal). driven (width_in ss) (map piece c.deref-3.result.now) c.in-Some.bits net) c.deref.ensures.value
    ∙ ap (λ (ps : List TargetPart). driven ws (map piece ps) c.in-Some.bits net) c.deref-3.ensures.value)
    ∙ ap (λ (bs : List Bit). driven_with ws (Some (Assign parts e)) bs net others) (sym here)
    ∙ ap (λ (o : Option Doing). driven_with ws o (driver_of (slice_get drivers p)) net others) (sym does)
