use Rattle.std.proofs.Common.{◌+◌, ◌∙◌, ap, sym, drop, map, [], ◌∷◌, List}
use Rattle.std.proofs.lemmas.List.{drop_all}
use Rattle.rtl_flat.specs.declared.act.TargetPart.{TargetPart}
use Rattle.rtl_flat.specs.Process.{piece}
use Rattle.rtl_flat.specs.Flats.{flat}
use Rattle.check_parts.proofs.rtl_scan_proofs.Labels.{left_at}
use Rattle.check_case.specs.Least.{first_of_pieces, lesser}
use Rattle.check_case.proofs.Firsts.{lesser-none, lesser_assoc, pieces_next, pieces_none}
use Rattle.check_case.proofs.first.first_of_target.Goals as goal

pub loop-part-preserved : goal.loop-part-preserved
loop-part-preserved c =
    let d = flat c.args.design.now in
    let target = c.args.target.now in
    let i = c.loop-part.part-index in
    let one = c.part-item.result in
    let first = c.loop-part.first in
    let rest = map piece (drop (i + 1) target) in
    ap (λ x. lesser x (first_of_pieces d rest)) (c.lesser-first.ensures ∙ ap (lesser first) c.first_of_part.ensures)
    ∙ lesser_assoc first (first_of_pieces d (piece one ∷ [])) (first_of_pieces d rest)
    ∙ ap (lesser first) (sym (pieces_next d (piece one) rest))
    ∙ ap (λ (xs : List TargetPart). lesser first (first_of_pieces d (map piece xs))) (sym (left_at target i one c.loop-part-test.true c.part-item.is))
    ∙ c.loop-part.invariant

pub returns : goal.returns
returns c =
    let d = flat c.args.design.now in
    let first = c.loop-part.first in
    sym (lesser-none first) ∙ ap (lesser first) (sym (pieces_none d))
    ∙ ap (λ (xs : List TargetPart). lesser first (first_of_pieces d (map piece xs))) (sym (drop_all c.loop-part.part-index c.args.target.now c.loop-part-test.false))
    ∙ c.loop-part.invariant
