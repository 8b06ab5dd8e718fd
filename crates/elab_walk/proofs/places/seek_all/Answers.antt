use Rattle.std.proofs.Common.{◌∙◌, ◌++◌, ℕ, List, ap, map, refl, sym}
use Rattle.rtl_tree.specs.declared.tree.item.Item.{Item}
use Rattle.rtl_tree.specs.TreeItem.{module_item}
use Rattle.elab_parts.specs.Items.{item_places}
use Rattle.elab_walk.specs.Rooms.{link_places, process_places, sought_on}
use Rattle.elab_walk.proofs.Seeking.{more_sought, sought_append}
use Rattle.elab_walk.proofs.places.seek_all.Goals as goal

pub loop-item-preserved : goal.loop-item-preserved
loop-item-preserved c =
    let row : List Item → List ℕ = λ items. process_places (map module_item items) in
    let own : Item → List ℕ = λ item. item_places (module_item item) ++ link_places (module_item item) in
    more_sought row own (λ item items. refl) c.loop-item.seek c.seek_links-seek.result c.args.items.now c.loop-item.item-index c.item-item.result _ c.loop-item-test.true c.item-item.is
    (c.seek_links-seek.ensures
    ∙ ap (λ s. sought_on s (link_places (module_item c.item-item.result))) c.seek_item.ensures
    ∙ sym (sought_append c.loop-item.seek (item_places (module_item c.item-item.result)) (link_places (module_item c.item-item.result))))
    c.loop-item.invariant
