use Rattle.std.proofs.Common.{◌≡◌, ◌++◌, map, drop}
use Rattle.rtl_tree.specs.TreeItem.{instantiation}
use Rattle.elab_items.specs.Declarations.{declaration, declared_instance}
use Rattle.elab_items.proofs.entries.push_instances.Given as goal

abbrev pub invariant-loop-instance : goal.invariant-loop-instance
invariant-loop-instance l =
    map declaration l.entries.items ++ map declared_instance (map instantiation (drop l.instance-index l.instances))
    ≡ map declaration l.initial.entries.items ++ map declared_instance (map instantiation l.instances)
