use Rattle.std.proofs.Common.{ℕ, ◌≡◌, ◌<◌, ◌∙◌, List, [], length, map, Option, None, Some, ap, sym, subst, arith}
use Rattle.std.specs.List.{All}
use Rattle.std.proofs.lemmas.List.{get_or_default, length-map}
use mathlib.Core.Path.{fun_ext}
use Rattle.rtl_bits.specs.declared.Bit.{Bit}
use Rattle.rtl_flat.specs.declared.act.TargetPart.{TargetPart}
use Rattle.rtl_flat.specs.Expression.{tree}
use Rattle.rtl_flat.specs.Process.{Assign, Piece, doing, piece, task}
use Rattle.rtl_flat.specs.Signs.{width_in}
use Rattle.rtl_flat.specs.Value.{store}
use Rattle.rtl_flat.specs.WellFormed.{IsFixed, IsProcess}
use Rattle.rank_set.proofs.Law.{member_within}
use Rattle.event_model.specs.Queue.{State, after_update, doing_at, drive, net_writes, resolved, write_all}
use Rattle.rtl_flat.specs.Flats.{widths}
use Rattle.event_model.specs.Writes.{put}
use Rattle.event_write.specs.Entries.{AreSelected}
use Rattle.event_write.specs.QueueState.{HasWidth, design_of, flagged_value, state}
use Rattle.event_write.proofs.Targets.{are_selected, some_bits}
use Rattle.event_take.proofs.Taking.{doing_here, held_here, held_less, task_has}
use Rattle.event_take.proofs.updates.update_driver.Goals as goal

pub write_nets-requires-clause-selected : goal.write_nets-requires-clause-selected
write_nets-requires-clause-selected c =
    let design = c.args.fanout.now.design.now in
    let signals = design.signals.items in
    let flagged = member_within c.args.queue.now.pending c.args.process.0 c.requires.pending in
    let count = length-map design.processes.items task in
    let known = c.requires.queue.pending in
    let there : c.args.process.0 < length design.processes.items = omega (arith, flagged, count, known) in
    let one = task_has (λ one. IsProcess signals one.does) design.processes.items c.args.process.0 c.index.result.now design.is_design.each_process there c.index.ensures in
    let lawful = subst (IsProcess signals) (ap doing c.in-Assign.is) one in
    subst (λ (ps : List TargetPart). AreSelected signals (map piece ps)) (sym c.deref.ensures.value)
    (are_selected signals (some_bits design.instances.items signals design.is_design.each_signal) (map piece c.in-Assign.target.parts.items) lawful.0.parts)

pub write_nets-requires-clause-fixed : goal.write_nets-requires-clause-fixed
write_nets-requires-clause-fixed c =
    let design = c.args.fanout.now.design.now in
    let flagged = member_within c.args.queue.now.pending c.args.process.0 c.requires.pending in
    let count = length-map design.processes.items task in
    let known = c.requires.queue.pending in
    let there : c.args.process.0 < length design.processes.items = omega (arith, flagged, count, known) in
    let one = task_has (λ one. IsProcess design.signals.items one.does) design.processes.items c.args.process.0 c.index.result.now design.is_design.each_process there c.index.ensures in
    let lawful = subst (IsProcess design.signals.items) (ap doing c.in-Assign.is) one in
    subst (λ (ps : List TargetPart). All (λ (p : Piece). IsFixed p.selection) (map piece ps)) (sym c.deref.ensures.value) lawful.1

pub set_driver-requires-clause-there : goal.set_driver-requires-clause-there
set_driver-requires-clause-there c =
    let flagged = member_within c.args.queue.now.pending c.args.process.0 c.requires.pending in
    let count = length-map c.args.fanout.now.design.now.processes.items task in
    let known = c.requires.queue.pending in
    omega (arith, flagged, count, known)

pub set_driver-requires-clause-width : goal.set_driver-requires-clause-width
set_driver-requires-clause-width c =
    let d = design_of c.args.fanout.now in
    let p = c.args.process.0 in
    let values = c.args.queue.now.pending_values.items in
    let flagged = member_within c.args.queue.now.pending p c.requires.pending in
    let known = c.requires.queue.pending in
    let stored = c.requires.queue.pending_values in
    let kept : p < length values = omega (arith, flagged, known, stored) in
    let b = c.index-bits.result.now in
    let bits : b ≡ store values p = c.index-bits.ensures ∙ get_or_default values p b [] kept in
    subst (λ (bs : List Bit). HasWidth (widths d) (doing_at d p) (length bs)) (sym bits) (c.requires.queue.pending_widths p)

pub returns-in-Assign-clause-state : goal.returns-in-Assign-clause-state
returns-in-Assign-clause-state c =
    let design = c.args.fanout.now.design.now in
    let d = design_of c.args.fanout.now in
    let ws = width_in design.signals.items in
    let m = c.args.queue.now in
    let s = state m in
    let p = c.args.process.0 in
    let flags = m.pending in
    let values = m.pending_values.items in
    let flagged = member_within flags p c.requires.pending in
    let count = length-map design.processes.items task in
    let known = c.requires.queue.pending in
    let there : p < length design.processes.items = omega (arith, flagged, count, known) in
    let stored = c.requires.queue.pending_values in
    let kept : p < length values = omega (arith, flagged, known, stored) in
    let b = c.index-bits.result.now in
    let bits : b ≡ store values p = c.index-bits.ensures ∙ get_or_default values p b [] kept in
    let parts = map piece c.in-Assign.target.parts.items in
    let does : doing_at d p ≡ Some (Assign parts (tree c.in-Assign.value)) =
    doing_here design.processes.items p c.index.result.now there c.index.ensures ∙ ap (λ x. Some (doing x)) c.in-Assign.is in
    let pending : flagged_value c.remove.new.self values ≡ put (flagged_value flags values) p None = ap (λ f. flagged_value f values) c.remove.ensures ∙ fun_ext (held_less flags values p flagged) in
    let q2 = c.set_driver.new.queue in
    c.write_nets.ensures.state
    ∙ ap (λ (ps : List TargetPart). write_all d (state q2) (net_writes ws (resolved d (state q2).driver) (map piece ps))) c.deref.ensures.value
    ∙ ap (λ (x : State). write_all d x (net_writes ws (resolved d x.driver) parts)) c.set_driver.ensures.state
    ∙ ap (λ (q : ℕ → Option (List Bit)). write_all d (record s { driver = put s.driver p b; pending = q }) (net_writes ws (resolved d (put s.driver p b)) parts)) pending
    ∙ ap (λ (bs : List Bit). drive d s p parts (Some bs)) bits
    ∙ sym (ap (drive d s p parts) (held_here flags values p c.requires.pending))
    ∙ sym (ap (after_update d s p) does)

pub returns-in-Comb-clause-state : goal.returns-in-Comb-clause-state
returns-in-Comb-clause-state c =
    let processes = c.args.fanout.now.design.now.processes.items in
    let flagged = member_within c.args.queue.now.pending c.args.process.0 c.requires.pending in
    let count = length-map processes task in
    let known = c.requires.queue.pending in
    let there : c.args.process.0 < length processes = omega (arith, flagged, count, known) in
    sym (ap (after_update (design_of c.args.fanout.now) (state c.args.queue.now) c.args.process.0) (doing_here processes c.args.process.0 c.index.result.now there c.index.ensures ∙ ap (λ x. Some (doing x)) c.in-Comb.is))

pub returns-in-Edge-clause-state : goal.returns-in-Edge-clause-state
returns-in-Edge-clause-state c =
    let processes = c.args.fanout.now.design.now.processes.items in
    let flagged = member_within c.args.queue.now.pending c.args.process.0 c.requires.pending in
    let count = length-map processes task in
    let known = c.requires.queue.pending in
    let there : c.args.process.0 < length processes = omega (arith, flagged, count, known) in
    sym (ap (after_update (design_of c.args.fanout.now) (state c.args.queue.now) c.args.process.0) (doing_here processes c.args.process.0 c.index.result.now there c.index.ensures ∙ ap (λ x. Some (doing x)) c.in-Edge.is))
