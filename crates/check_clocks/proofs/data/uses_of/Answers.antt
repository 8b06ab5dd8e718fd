use Rattle.std.proofs.Common.{◌≡◌, ◌∙◌, ◌++◌, ap, map}
use Rattle.std.specs.List.{flat_map}
use Rattle.rtl_flat.specs.Process.{doing, task, watched}
use Rattle.rtl_rule.specs.Parts.{items_of, nodes}
use Rattle.rtl_flat.specs.Flats.{flat, widths}
use Rattle.check_gates.specs.check_chains.check_parts.Kept.{expressions}
use Rattle.check_clocks.specs.Clocks.{data_trees}
use Rattle.check_clocks.specs.Uses.{level_places, places_of, read_places}
use Rattle.check_clocks.proofs.data.uses_of.Goals as goal

pub returns : goal.returns
returns c =
    let x = c.args.process.now in
    let all = c.deref-2.result.now in
    let trees : expressions all ≡ flat_map nodes (data_trees (flat c.args.design.now) (task x))
    = ap expressions c.deref-2.ensures.value ∙ c.in_ok-all.ensures ∙ ap (λ es. flat_map nodes (expressions es)) c.deref.ensures.value ∙ ap (flat_map nodes) c.in_ok-trees.ensures in
    let ws = widths (flat c.args.design.now) in
    λ p s.
    c.in_ok-push_reads.ensures x.spot s
    ∙ ap (λ l. l ++ read_places ws x.spot s (expressions all)) (c.in_ok-push_levels.ensures s ∙ ap (λ f. places_of s f ++ level_places ws s (map watched c.items.result.now)) c.new-found.ensures.items ∙ ap (level_places ws s) c.items.ensures)
    ∙ ap (λ es. level_places ws s (items_of (doing x.does)) ++ read_places ws x.spot s es) trees
