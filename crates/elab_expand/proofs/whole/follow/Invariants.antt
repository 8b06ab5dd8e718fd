use Rattle.std.proofs.Common.{◌≡◌, map, drop}
use Rattle.rtl_tree.specs.TreeItem.{module_item}
use Rattle.rtl_tree.specs.TreeModule.{construct}
use Rattle.elab_items.specs.Settings.{settings_of}
use Rattle.elab_expand.specs.Expansions.{opened_module}
use Rattle.elab_expand.specs.Openings.{opening, outers}
use Rattle.elab_expand.proofs.whole.follow.Given as goal

abbrev pub invariant-loop-construct : goal.invariant-loop-construct
invariant-loop-construct l =
    opened_module (settings_of l.site.given.now) l.position (map module_item l.left) (map construct (drop l.construct-index l.constructs)) (opening (outers l.site.outer.now) l.block l.so_far)
    ≡ opened_module (settings_of l.site.given.now) 0 (map module_item l.items) (map construct l.constructs) (opening (outers l.site.outer.now) l.initial.block l.initial.so_far)
