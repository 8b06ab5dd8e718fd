use Rattle.std.proofs.Common.{◌≡◌, map, drop}
use Rattle.rtl_tree.specs.TreeItem.{instantiation}
use Rattle.elab_walk.specs.Rooms.{instantiation_places, sought_on}
use Rattle.elab_walk.proofs.places.seek_instantiations.Given as goal

abbrev pub invariant-loop-instance : goal.invariant-loop-instance
invariant-loop-instance l =
    sought_on l.seek (instantiation_places (map instantiation (drop l.instance-index l.instances)))
    ≡ sought_on l.initial.seek (instantiation_places (map instantiation l.instances))
