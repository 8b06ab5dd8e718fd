use Rattle.std.proofs.Common.{◌≡◌, map, drop}
use Rattle.rtl_tree.specs.TreeItem.{module_item}
use Rattle.elab_walk.specs.elab_scope.Names.{meanings}
use Rattle.elab_walk.specs.Trails.{placement}
use Rattle.elab_walk.specs.Visits.{library}
use Rattle.elab_flat.specs.Children.{bases_of}
use Rattle.elab_flat.specs.Views.{works}
use Rattle.elab_flat.specs.Works.{with_parts}
use Rattle.elab_flat.proofs.Items.{AreLeft}
use Rattle.elab_flat.proofs.works.Works.add_all.Given as goal

abbrev pub invariant-loop-item : goal.invariant-loop-item
invariant-loop-item l = record {
  made : with_parts (library l.all) (placement l.at) (bases_of l.held) (works l.self) (map module_item (drop l.item-index l.items)) ≡ with_parts (library l.all) (placement l.at) (bases_of l.initial.held) (works l.initial.self) (map module_item l.items);
  same : meanings l.names ≡ meanings l.initial.names;
  known : AreLeft (library l.all) (placement l.at) l.held l.items l.item-index;
}
