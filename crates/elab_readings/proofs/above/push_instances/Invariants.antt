use Rattle.std.proofs.Common.{◌≡◌, ◌++◌, map, drop}
use Rattle.rtl_tree.specs.TreeItem.{association, instantiation}
use Rattle.elab_readings.specs.Readings.{below_one}
use Rattle.elab_readings.specs.Views.{below}
use Rattle.elab_readings.proofs.above.push_instances.Given as goal

abbrev pub invariant-loop-instance : goal.invariant-loop-instance
invariant-loop-instance l =
    map below l.made.items ++ map (below_one (association l.parameters)) (map instantiation (drop l.instance-index l.instances))
    ≡ map below l.initial.made.items ++ map (below_one (association l.parameters)) (map instantiation l.instances)
