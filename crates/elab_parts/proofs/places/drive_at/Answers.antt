use Rattle.std.proofs.Common.{◌≡◌, ◌∙◌, Some, ap, length, refl, sym}
use Rattle.std.specs.List.{slice_get}
use Rattle.std.specs.Option.{option_map}
use Rattle.std.proofs.lemmas.Option.{slice_get_read}
use Rattle.rtl_tree.specs.declared.tree.item.Assignment.{Assignment}
use Rattle.rtl_tree.specs.TreeStmt.{target, target_place}
use Rattle.elab_parts.proofs.Listing.{drive_got}
use Rattle.elab_parts.proofs.places.drive_at.Goals as goal

pub returns : goal.returns
returns c =
    let all = c.args.assignments.now in
    let found = c.in_ok-assignment.ensures.lookup in
    let item = c.in_ok-assignment.assignment.now in
    let got : slice_get all c.args.number ≡ Some item = slice_get_read all (length all) c.args.number item refl found.3.0 found.1 in
    ap Some c.place.ensures
    ∙ sym (drive_got all c.args.number ∙ ap (option_map (λ (one : Assignment). target_place (target one.target))) got)
