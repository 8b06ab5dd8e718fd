use Rattle.std.proofs.Common.{◌≡◌, map, drop}
use Rattle.rtl_tree.specs.TreeItem.{associated}
use Rattle.elab_walk.specs.Rooms.{named_places, sought_on}
use Rattle.elab_walk.proofs.places.seek_named.Given as goal

abbrev pub invariant-loop-argument : goal.invariant-loop-argument
invariant-loop-argument l =
    sought_on l.seek (named_places (map associated (drop l.argument-index l.arguments)))
    ≡ sought_on l.initial.seek (named_places (map associated l.arguments))
