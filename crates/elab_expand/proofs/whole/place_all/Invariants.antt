use Rattle.std.proofs.Common.{◌≡◌, map, drop}
use Rattle.rtl_tree.specs.TreeItem.{module_item}
use Rattle.elab_items.specs.Settings.{settings_of}
use Rattle.elab_expand.specs.declared.tally.Tally.{Tally as Kept}
use Rattle.elab_expand.specs.Expansions.{all_placed}
use Rattle.elab_expand.specs.Openings.{opening, outers}
use Rattle.elab_expand.proofs.whole.place_all.Given as goal

abbrev pub invariant-loop-item : goal.invariant-loop-item
invariant-loop-item l =
    (kept : Kept) →
    all_placed (settings_of l.site.given.now) (map module_item (drop l.item-index l.items)) (opening (outers l.site.outer.now) l.block kept)
    ≡ all_placed (settings_of l.site.given.now) (map module_item l.items) (opening (outers l.site.outer.now) l.initial.block kept)
