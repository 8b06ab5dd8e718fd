use Rattle.std.proofs.Common.{◌≤◌, ◌<◌, ◌∙◌, ℕ, List, length, map, ap, subst, sym, arith}
use Rattle.std.specs.List.{All}
use Rattle.rtl_bits.specs.declared.Bit.{Bit}
use Rattle.rtl_flat.specs.declared.signal.Signal.{Signal}
use Rattle.rtl_flat.specs.Process.{piece, selection}
use Rattle.rtl_flat.specs.Signs.{width_in}
use Rattle.rtl_flat.specs.Value.{store}
use Rattle.rtl_flat.specs.WellFormed.{IsSelection}
use Rattle.rtl_flat.proofs.Bits.{have_bits}
use Rattle.event_model.specs.Writes.{counts}
use Rattle.net_number.proofs.event_laws_proofs.Targets.{same_count}
use Rattle.net_model.specs.Block.{digit_writes, write_each}
use Rattle.net_body.specs.Marks.{maps}
use Rattle.net_body.proofs.Targets.{parts_selected}
use Rattle.net_body.proofs.statements.set.Goals as goal

pub assign-requires-clause-some : goal.assign-requires-clause-some
assign-requires-clause-some c =
    let design = c.args.design.now in
    subst (λ (ss : List Signal). (i : ℕ) → i < length ss → 1 ≤ width_in ss i) (sym c.deref.ensures.value) (have_bits design.instances.items design.signals.items design.is_design.each_signal)

pub assign-requires-clause-selected : goal.assign-requires-clause-selected
assign-requires-clause-selected c =
    subst (λ (ss : List Signal). All (λ part. IsSelection ss part.signal.0 (selection part.select)) c.args.parts.now) (sym c.deref.ensures.value)
    (parts_selected c.args.design.now.signals.items c.args.parts.now c.requires.assignment.parts)

pub assign-requires-clause-covered : goal.assign-requires-clause-covered
assign-requires-clause-covered c =
    let same = ap (λ (ss : List Signal). counts (width_in ss) (map piece c.args.parts.now)) c.deref.ensures.value in
    let all = same_count c.args.design.now.signals.items (map piece c.args.parts.now) in
    let covered = c.requires.assignment.covered in
    let width = c.evaluate-bits.ensures.width in
    omega (arith, same, all, covered, width)

pub returns-clause-maps : goal.returns-clause-maps
returns-clause-maps c =
    let m = maps c.args.numbers.now c.args.marks.now in
    let d = c.args.delayed in
    let f = c.args.fill in
    let n = store c.args.numbers.now in
    let parts = map piece c.args.parts.now in
    c.assign.ensures.maps
    ∙ ap (λ (ss : List Signal). write_each d m (digit_writes (width_in ss) f n parts c.evaluate-bits.result)) c.deref.ensures.value
    ∙ ap (λ (bits : List Bit). write_each d m (digit_writes (width_in c.args.design.now.signals.items) f n parts bits)) c.evaluate-bits.ensures.bits
