use Rattle.std.specs.Prelude.{◌+◌, ◌*◌}
use Rattle.std.specs.List.{flat_map}
use Rattle.std.proofs.Common.{◌≡◌, map, drop}
use Rattle.rtl_tree.specs.TreeItem.{module_item, instantiation}
use Rattle.elab_links.specs.Groups.{group_of}
use Rattle.elab_walk.specs.Trails.{AreDeclared, Going, gone, trail}
use Rattle.elab_walk.specs.Visits.{children, holder, library, placed_children, visits}
use Rattle.elab_walk.proofs.walk.+visit.Given as goal

abbrev pub decreases-visit : goal.decreases-visit
decreases-visit l = 5 * l.levels

abbrev pub decreases-visit_items : goal.decreases-visit_items
decreases-visit_items l = 5 * l.levels + 4

abbrev pub decreases-visit_item : goal.decreases-visit_item
decreases-visit_item l = 5 * l.levels + 3

abbrev pub decreases-visit_instantiations : goal.decreases-visit_instantiations
decreases-visit_instantiations l = 5 * l.levels + 2

abbrev pub decreases-visit_instantiation : goal.decreases-visit_instantiation
decreases-visit_instantiation l = 5 * l.levels + 1

abbrev pub invariant-visit_items-loop-item : goal.invariant-visit_items-loop-item
invariant-visit_items-loop-item l = record {
  went : gone (library l.all) (Going (trail l.so_far)) (flat_map (visits (library l.all) l.levels) (children (library l.all) (holder l.within) (map module_item (drop l.item-index l.items))))
      ≡ gone (library l.all) (Going (trail l.initial.so_far)) (flat_map (visits (library l.all) l.levels) (children (library l.all) (holder l.within) (map module_item l.items)));
  declared : AreDeclared l.initial.so_far.placements.items → AreDeclared l.so_far.placements.items;
}

abbrev pub invariant-visit_instantiations-loop-instance : goal.invariant-visit_instantiations-loop-instance
invariant-visit_instantiations-loop-instance l = record {
  went : gone (library l.all) (Going (trail l.so_far)) (flat_map (visits (library l.all) l.levels) (placed_children (holder l.within) l.at (group_of (library l.all).lookups (library l.all).files (holder l.within).scope (module_item l.item)) (map instantiation (drop l.instance-index l.instances))))
      ≡ gone (library l.all) (Going (trail l.initial.so_far)) (flat_map (visits (library l.all) l.levels) (placed_children (holder l.within) l.at (group_of (library l.all).lookups (library l.all).files (holder l.within).scope (module_item l.item)) (map instantiation l.instances)));
  declared : AreDeclared l.initial.so_far.placements.items → AreDeclared l.so_far.placements.items;
}
