use Rattle.std.proofs.Common.{◌≡◌, map, drop}
use Rattle.rtl_tree.specs.TreeItem.{positional}
use Rattle.elab_walk.specs.Rooms.{ordered_places, sought_on}
use Rattle.elab_walk.proofs.places.seek_ordered.Given as goal

abbrev pub invariant-loop-argument : goal.invariant-loop-argument
invariant-loop-argument l =
    sought_on l.seek (ordered_places (map positional (drop l.argument-index l.arguments)))
    ≡ sought_on l.initial.seek (ordered_places (map positional l.arguments))
