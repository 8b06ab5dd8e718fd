-- The place of an output is among those of its gate, or among those of further gates.
use Rattle.std.proofs.Common.{arith, Some, ap, sym, drop, length, ◌+◌, ◌-◌, ◌≤◌, ◌∙◌, ◌≡◌, refl}
use Rattle.std.specs.List.{slice_get}
use Rattle.std.proofs.lemmas.Option.{slice_get_read}
use Rattle.elab_parts.proofs.Gates.{gate_places, place_further, place_here}
use Rattle.elab_parts.proofs.places.output_at.Goals as goal

pub returns-in-Some : goal.returns-in-Some
returns-in-Some c =
    let all = c.deref.result.now in
    let left = c.loop-drive.left in
    let output = c.in-Some.output.now in
    let found = c.in-Some.ensures.lookup in
    let got : slice_get all left ≡ Some output = slice_get_read all (length all) left output refl found.3.0 found.1 in
    let there : slice_get c.drive-item.result.outputs.items left ≡ Some output =
    ap (λ xs. slice_get xs left) (sym c.deref.ensures.value) ∙ got in
    ap Some c.place.ensures
    ∙ sym (place_here c.args.drives.now c.loop-drive.drive-index c.drive-item.result left output c.loop-drive-test.true c.drive-item.is there)
    ∙ c.loop-drive.invariant

pub loop-drive-preserved : goal.loop-drive-preserved
loop-drive-preserved c =
    let outputs = c.drive-item.result.outputs in
    let left = c.loop-drive.left in
    let next = c.loop-drive.drive-index + 1 in
    let past : length outputs.items ≤ left = omega (arith, outputs.ok.0, c.deref.ensures.len, c.in_default.ensures.lookup.3) in
    let count : c.len-left.result ≡ length outputs.items = omega (arith, outputs.ok.0, c.len-left.ensures) in
    ap (λ n. slice_get (gate_places (drop next c.args.drives.now)) (left - n)) count
    ∙ sym (place_further c.args.drives.now c.loop-drive.drive-index c.drive-item.result left c.loop-drive-test.true c.drive-item.is past)
    ∙ c.loop-drive.invariant
