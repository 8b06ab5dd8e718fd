use Rattle.std.proofs.Common.{◌≡◌, ◌∙◌, List, map, ap, sym, arith}
use Rattle.std.proofs.lemmas.List.{length-map}
use Rattle.rtl_bits.specs.declared.Bit.{Bit}
use Rattle.rtl_flat.specs.Expression.{tree}
use Rattle.rtl_flat.specs.Process.{piece}
use Rattle.rtl_flat.specs.Signs.{width_in}
use Rattle.rtl_flat.specs.Value.{store, value}
use Rattle.event_model.specs.Bodies.{assigned}
use Rattle.event_model.specs.Queue.{perform_all, write_all}
use Rattle.event_model.specs.Writes.{writes}
use Rattle.event_write.specs.QueueState.{design_of, state}
use Rattle.event_write.proofs.Making.{all_now}
use Rattle.event_write.proofs.Targets.{are_selected, counts_is, few_parts, some_bits}
use Rattle.event_write.proofs.statements.make_set.Goals as goal

pub write_later-requires-clause-selected : goal.write_later-requires-clause-selected
write_later-requires-clause-selected c =
    let design = c.args.fanout.now.design.now in
    are_selected design.signals.items (some_bits design.instances.items design.signals.items design.is_design.each_signal) (map piece c.args.parts.now) c.requires.assignment.parts

pub write_later-requires-clause-covered : goal.write_later-requires-clause-covered
write_later-requires-clause-covered c =
    let all = counts_is c.args.fanout.now.design.now.signals.items (map piece c.args.parts.now) in
    let covered = c.requires.assignment.covered in
    let width = c.evaluate-bits.ensures.width in
    omega (arith, all, covered, width)

pub write_now-requires-clause-selected : goal.write_now-requires-clause-selected
write_now-requires-clause-selected c =
    let design = c.args.fanout.now.design.now in
    are_selected design.signals.items (some_bits design.instances.items design.signals.items design.is_design.each_signal) (map piece c.args.parts.now) c.requires.assignment.parts

pub write_now-requires-clause-covered : goal.write_now-requires-clause-covered
write_now-requires-clause-covered c =
    let all = counts_is c.args.fanout.now.design.now.signals.items (map piece c.args.parts.now) in
    let covered = c.requires.assignment.covered in
    let width = c.evaluate-bits.ensures.width in
    omega (arith, all, covered, width)

pub write_now-requires-clause-room : goal.write_now-requires-clause-room
write_now-requires-clause-room c =
    let design = c.args.fanout.now.design.now in
    let parts = map piece c.args.parts.now in
    let count = length-map c.args.parts.now piece in
    let all = counts_is design.signals.items parts in
    let few = few_parts design.signals.items parts (are_selected design.signals.items (some_bits design.instances.items design.signals.items design.is_design.each_signal) parts c.requires.assignment.parts) in
    let most = c.requires.assignment.at_most in
    let room = c.requires.scratch in
    omega (arith, count, all, few, most, room)

pub returns-else-delayed-clause-state : goal.returns-else-delayed-clause-state
returns-else-delayed-clause-state c =
    let d = design_of c.args.fanout.now in
    let s = state c.args.queue.now in
    let ws = width_in c.args.fanout.now.design.now.signals.items in
    let v = store c.args.queue.now.values.items in
    let parts = map piece c.args.parts.now in
    let e = tree c.args.expression.now in
    let bits : c.evaluate-bits.result ≡ value v e = c.evaluate-bits.ensures.bits ∙ ap (λ (vs : List (List Bit)). value (store vs) e) c.deref-2.ensures.value in
    c.write_now.ensures.state
    ∙ ap (λ (bs : List Bit). write_all d s (writes ws v parts bs)) bits
    ∙ sym (all_now d s (writes ws v parts (value v e)))
    ∙ ap (λ b. perform_all d s (assigned b (writes ws v parts (value v e)))) (sym c.if-delayed.false)
