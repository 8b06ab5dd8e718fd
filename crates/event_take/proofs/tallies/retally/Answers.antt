use Rattle.std.proofs.Common.{◌≡◌, ◌∙◌, false, List, length, map, Option, Some, ap, sym, subst, arith}
use Rattle.rtl_bits.specs.declared.Bit.{Bit}
use Rattle.rtl_flat.specs.declared.act.TargetPart.{TargetPart}
use Rattle.rtl_flat.specs.Expression.{tree}
use Rattle.rtl_flat.specs.Process.{Assign, Doing, doing, piece}
use Rattle.rtl_flat.specs.Signs.{width_in}
use Rattle.rtl_flat.specs.WellFormed.{IsProcess}
use Rattle.event_model.specs.Queue.{doing_at}
use Rattle.rtl_flat.specs.Flats.{flat}
use Rattle.event_model.specs.Writes.{counts}
use Rattle.event_write.specs.event_tally.Targets.{drives_of}
use Rattle.event_write.proofs.event_tally_proofs.Counting.{counted_apart}
use Rattle.event_write.specs.QueueState.{HasWidth, driver_of, row}
use Rattle.event_write.proofs.Targets.{are_selected, counts_is, some_bits}
use Rattle.event_take.specs.Tallied.{IsTarget}
use Rattle.event_take.proofs.Taking.{doing_here, task_has}
use Rattle.event_take.proofs.tallies.retally.Goals as goal

pub move_parts-requires-clause-target : goal.move_parts-requires-clause-target
move_parts-requires-clause-target c =
    let design = c.args.design.now in
    let signals = design.signals.items in
    let p = c.args.process.0 in
    let one = task_has (λ one. IsProcess signals one.does) design.processes.items p c.index.result.now design.is_design.each_process c.requires.there c.index.ensures in
    let lawful = subst (IsProcess signals) (ap doing c.in-Assign.is) one in
    let parts = map piece c.in-Assign.target.parts.items in
    let does : doing_at (flat design) p ≡ Some (Assign parts (tree c.in-Assign.value)) =
    doing_here design.processes.items p c.index.result.now c.requires.there c.index.ensures ∙ ap (λ x. Some (doing x)) c.in-Assign.is in
    subst (λ (ps : List TargetPart). IsTarget (flat design) p (map piece ps)) (sym c.deref.ensures.value)
    (record { value = tree c.in-Assign.value; does = does; selected = are_selected signals (some_bits design.instances.items signals design.is_design.each_signal) parts lawful.0.parts; fixed = lawful.1 })

pub move_parts-requires-clause-old_covered : goal.move_parts-requires-clause-old_covered
move_parts-requires-clause-old_covered c =
    let design = c.args.design.now in
    let signals = design.signals.items in
    let p = c.args.process.0 in
    let one = task_has (λ one. IsProcess signals one.does) design.processes.items p c.index.result.now design.is_design.each_process c.requires.there c.index.ensures in
    let lawful = subst (IsProcess signals) (ap doing c.in-Assign.is) one in
    let parts = map piece c.in-Assign.target.parts.items in
    let does : doing_at (flat design) p ≡ Some (Assign parts (tree c.in-Assign.value)) =
    doing_here design.processes.items p c.index.result.now c.requires.there c.index.ensures ∙ ap (λ x. Some (doing x)) c.in-Assign.is in
    let wide = subst (λ (o : Option Doing). HasWidth (width_in signals) o (length c.in-Some.old)) does
    (subst (λ (x : Option (List Bit)). HasWidth (width_in signals) (doing_at (flat design) p) (length (driver_of (Some x)))) c.in-Some.is c.requires.old_width) in
    let all = counts_is signals parts in
    let covered = lawful.0.covered in
    let these = ap (λ (ps : List TargetPart). counts (width_in signals) (map piece ps)) c.deref.ensures.value in
    omega (arith, wide, all, covered, these)

pub move_parts-requires-clause-new_covered : goal.move_parts-requires-clause-new_covered
move_parts-requires-clause-new_covered c =
    let design = c.args.design.now in
    let signals = design.signals.items in
    let p = c.args.process.0 in
    let one = task_has (λ one. IsProcess signals one.does) design.processes.items p c.index.result.now design.is_design.each_process c.requires.there c.index.ensures in
    let lawful = subst (IsProcess signals) (ap doing c.in-Assign.is) one in
    let parts = map piece c.in-Assign.target.parts.items in
    let does : doing_at (flat design) p ≡ Some (Assign parts (tree c.in-Assign.value)) =
    doing_here design.processes.items p c.index.result.now c.requires.there c.index.ensures ∙ ap (λ x. Some (doing x)) c.in-Assign.is in
    let wide = subst (λ (o : Option Doing). HasWidth (width_in signals) o (length c.args.new)) does c.requires.new_width in
    let all = counts_is signals parts in
    let covered = lawful.0.covered in
    let these = ap (λ (ps : List TargetPart). counts (width_in signals) (map piece ps)) c.deref.ensures.value in
    omega (arith, wide, all, covered, these)

pub returns-in-Some-clause-tallied : goal.returns-in-Some-clause-tallied
returns-in-Some-clause-tallied c driver has tallied =
    c.move_parts.ensures.tallied driver (has ∙ ap (λ (x : Option (List Bit)). driver_of (Some x)) c.in-Some.is) tallied

pub returns-in-Comb-clause-tallied : goal.returns-in-Comb-clause-tallied
returns-in-Comb-clause-tallied c driver has tallied net =
    let design = c.args.design.now in
    let p = c.args.process.0 in
    let apart : drives_of (Some (doing c.index.result.now.does)) net ≡ false = ap (λ x. drives_of (Some (doing x)) net) c.in-Comb.is in
    counted_apart (flat design) driver p (doing c.index.result.now.does) net c.args.new (row c.args.tallies.now.items net) (doing_here design.processes.items p c.index.result.now c.requires.there c.index.ensures) apart (tallied net)

pub returns-in-Edge-clause-tallied : goal.returns-in-Edge-clause-tallied
returns-in-Edge-clause-tallied c driver has tallied net =
    let design = c.args.design.now in
    let p = c.args.process.0 in
    let apart : drives_of (Some (doing c.index.result.now.does)) net ≡ false = ap (λ x. drives_of (Some (doing x)) net) c.in-Edge.is in
    counted_apart (flat design) driver p (doing c.index.result.now.does) net c.args.new (row c.args.tallies.now.items net) (doing_here design.processes.items p c.index.result.now c.requires.there c.index.ensures) apart (tallied net)
