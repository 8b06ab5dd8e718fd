use Rattle.std.proofs.Common.{◌∙◌, ◌++◌, ap, map}
use Rattle.std.specs.List.{flat_map}
use Rattle.std.proofs.lemmas.List.{take_all}
use Rattle.rtl_flat.specs.Process.{piece}
use Rattle.rtl_flat.specs.Flats.{flat, widths}
use Rattle.check_unknown.specs.Doubts.{choice_spots}
use Rattle.check_unknown.specs.Unknowns.{index_choice}
use Rattle.check_unknown.proofs.Doubts.{choices_more}
use Rattle.check_unknown.proofs.choices.push_indices.Goals as goal

pub loop-part-preserved : goal.loop-part-preserved
loop-part-preserved c =
    choices_more (widths (flat c.args.design.now)) c.args.marks.now index_choice piece c.args.target.now c.loop-part.part-index c.part-item.result c.loop-part-test.true c.part-item.is c.args.spots.now.items c.loop-part.spots.items c.push_index.new.spots.items c.loop-part.invariant c.in_ok-push_index.ensures

pub returns : goal.returns
returns c =
    c.loop-part.invariant ∙ ap (λ xs. c.args.spots.now.items ++ choice_spots (widths (flat c.args.design.now)) c.args.marks.now (flat_map index_choice (map piece xs))) (take_all c.loop-part.part-index c.args.target.now c.loop-part-test.false)
