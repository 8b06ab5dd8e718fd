use Rattle.std.proofs.Common.{◌∙◌, length, ap, arith}
use Rattle.std.proofs.lemmas.List.{length-take}
use Rattle.net_model.specs.Block.{write_each}
use Rattle.net_body.specs.Marks.{maps}
use Rattle.net_body.proofs.Prepared.{few_parts}
use Rattle.net_body.proofs.entries.assign.Goals as goal

pub prepare-requires-clause-room : goal.prepare-requires-clause-room
prepare-requires-clause-room c =
    let few = few_parts c.args.signals.now c.requires.some c.args.parts.now c.requires.selected in
    let covered = c.requires.covered in
    let exact = c.width.ensures.exact in
    let most = c.width.ensures.at_most in
    let room = c.requires.room in
    omega (arith, few, covered, exact, most, room)

pub slice_bounds-write_entries-end : goal.slice_bounds-write_entries-end
slice_bounds-write_entries-end c =
    let few = few_parts c.args.signals.now c.requires.some c.args.parts.now c.requires.selected in
    let covered = c.requires.covered in
    let exact = c.width.ensures.exact in
    let most = c.width.ensures.at_most in
    let room = c.requires.room in
    let same = c.prepare.auto.entries in
    omega (arith, few, covered, exact, most, room, same)

pub returns-clause-maps : goal.returns-clause-maps
returns-clause-maps c =
    c.write_entries.ensures.maps ∙ ap (write_each c.args.delayed (maps c.args.numbers.now c.args.marks.now)) c.prepare.ensures.writes

pub slice_bounds-write_entries-end-2 : goal.slice_bounds-write_entries-end-2
slice_bounds-write_entries-end-2 c =
    let few = few_parts c.args.signals.now c.requires.some c.args.parts.now c.requires.selected in
    let covered = c.requires.covered in
    let exact = c.width.ensures.exact in
    let most = c.width.ensures.at_most in
    let room = c.requires.room in
    let same = c.prepare.auto.entries in
    let front = length-take (length c.args.parts.now) c.prepare.new.entries in
    omega (arith, few, covered, exact, most, room, same, front)
