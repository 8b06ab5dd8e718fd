use Rattle.std.proofs.Common.{◌≡◌, map, drop}
use Rattle.rtl_tree.specs.TreeModule.{circuit}
use Rattle.elab_links.specs.Modules.{lookups_of, placed_in}
use Rattle.elab_links.specs.Modules.{with_all}
use Rattle.elab_links.proofs.module_set.ModuleSet.add_file.Given as goal

abbrev pub invariant-loop-index : goal.invariant-loop-index
invariant-loop-index l =
    with_all (lookups_of l.self) (placed_in l.file l.index (map circuit (drop l.index l.modules)))
    ≡ with_all (lookups_of l.initial.self) (placed_in l.file 0 (map circuit l.modules))
