use Rattle.std.specs.Prelude.{List}
use Rattle.std.proofs.Common.{◌∙◌, ◌∷◌, ◌+◌, ap, sym, drop}
use Rattle.std.proofs.lemmas.List.{drop_more}
use Rattle.text_ground.specs.declared.text.Spot.{Spot}
use Rattle.rtl_rule.specs.Parts.{least_place}
use Rattle.check_parts.proofs.Earlier.{least_more}
use Rattle.check_parts.proofs.places.least_place.Goals as goal

pub loop-place-preserved : goal.loop-place-preserved
loop-place-preserved c =
    let rest = drop (c.loop-place.place-index + 1) c.in-Some.others.now in
    ap (λ (least : Spot). least_place c.args.otherwise (least ∷ rest)) c.earlier-least.ensures
    ∙ (sym (least_more c.args.otherwise c.loop-place.least _ rest)
    ∙ (ap (λ (others : List Spot). least_place c.args.otherwise (c.loop-place.least ∷ others)) (sym (drop_more c.in-Some.others.now c.loop-place.place-index _ c.loop-place-test.true))
    ∙ c.loop-place.invariant))
