use Rattle.std.proofs.Common.{◌≡◌, ◌≤◌, List, ◌++◌, length, map, drop}
use Rattle.rtl_tree.specs.TreeModule.{circuit}
use Rattle.elab_links.specs.Modules.{Placed, found, placed_in}
use Rattle.elab_lookups.proofs.meaning.with_file.Given as goal

abbrev pub invariant-loop-index : goal.invariant-loop-index
invariant-loop-index l =
    record {
      inside : l.index ≤ length l.modules;
      meant : (others : List Placed) → l.fn.later ≡ found others l.name
          → l.meant ≡ found (placed_in l.file l.index (map circuit (drop l.index l.modules)) ++ others) l.name;
    }

abbrev pub decreases-loop-index : goal.decreases-loop-index
decreases-loop-index l = l.index
