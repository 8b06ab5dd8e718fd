use Rattle.std.proofs.Common.{◌∙◌, ◌+◌, ◌++◌, [], ◌∷◌, append_assoc, drop, map, sym, ap}
use Rattle.rtl_flat.specs.Expression.{tree}
use Rattle.check_loops.proofs.rtl_scan_proofs.Labels.{left_at}
use Rattle.check_assign.specs.Marks.{z_spots}
use Rattle.check_assign.proofs.Zeds.{z_append}
use Rattle.check_assign.proofs.literals.z_places.Goals as goal

pub loop-e-preserved : goal.loop-e-preserved
loop-e-preserved c = λ otherwise.
    let items = c.deref-e-items.result.now in
    let i = c.loop-e.e-index in
    let old = c.loop-e.spots.items in
    let one = tree c.e-item.result.now in
    let rest = map (λ e. tree e.now) (drop (i + 1) items) in
    ap (λ zs. zs ++ z_spots otherwise rest) (c.in_ok-push_place.ensures otherwise)
    ∙ append_assoc old (z_spots otherwise (one ∷ [])) (z_spots otherwise rest)
    ∙ ap (λ zs. old ++ zs) (sym (z_append otherwise (one ∷ []) rest))
    ∙ ap (λ es. old ++ z_spots otherwise (map (λ e. tree e.now) es)) (sym (left_at items i c.e-item.result c.loop-e-test.true c.e-item.is))
    ∙ c.loop-e.invariant otherwise
