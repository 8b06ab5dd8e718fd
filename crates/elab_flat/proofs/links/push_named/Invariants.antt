use Rattle.std.proofs.Common.{◌≡◌, ◌++◌, map, drop}
use Rattle.rtl_flat.specs.Process.{task}
use Rattle.rtl_tree.specs.TreeItem.{associated}
use Rattle.elab_flat.specs.Links.{named_tasks, sides}
use Rattle.elab_walk.specs.elab_links.Ports.{sockets}
use Rattle.elab_flat.proofs.links.push_named.Given as goal

abbrev pub invariant-loop-argument : goal.invariant-loop-argument
invariant-loop-argument l =
    map task l.made.items ++ named_tasks (sockets l.ports) (sides l.ends) (map associated (drop l.argument-index l.arguments))
    ≡ map task l.initial.made.items ++ named_tasks (sockets l.ports) (sides l.ends) (map associated l.arguments)
