use Rattle.std.proofs.Common.{◌≡◌, ◌∙◌, ◌<◌, ap, get_or, length, arith, sym}
use Rattle.std.proofs.lemmas.List.{get_or_read}
use Rattle.rtl_elab.specs.elab_links.declared.module_set.Lookup.{Lookup}
use Rattle.elab_lookups.specs.declared.look_up.LookUp.{LookUp}
use Rattle.elab_names.specs.Extracts.{place_in}
use Rattle.elab_names.specs.Moves.{moved_look_up}
use Rattle.elab_names.proofs.Mapping.{moved_more}
use Rattle.elab_names.proofs.moves.move_look_ups.Goals as goal

pub loop-place-preserved : goal.loop-place-preserved
loop-place-preserved c =
    let all = c.loop-place.look_ups in
    let i = c.loop-place.place in
    let one = c.index-look_ups-place.result in
    let move = moved_look_up (place_in c.args.numbers.now) in
    let written = c.index-look_ups-place-in-loop-place.result in
    let new : LookUp = record { name = (get_or all i written).name; meant = c.renumbered.result } in
    let size = c.loop-place.auto.look_ups in
    let inside : i < length all = omega (arith, size) in
    let same : get_or all i written ≡ get_or all i one
    = sym c.index-look_ups-place-in-loop-place.is ∙ get_or_read all i written inside c.index-look_ups-place-in-loop-place.is one in
    moved_more move c.args.look_ups.now all i one new c.loop-place-test.true c.loop-place.invariant
    (ap (λ (l : LookUp). let k : LookUp = record { name = l.name; meant = c.renumbered.result } in k) same
    ∙ ap (λ (m : Lookup). let k : LookUp = record { name = (get_or all i one).name; meant = m } in k) c.renumbered.ensures)
