use Rattle.std.proofs.Common.{◌≡◌, ◌++◌, map, drop}
use Rattle.rtl_flat.specs.Process.{task}
use Rattle.rtl_tree.specs.TreeItem.{positional}
use Rattle.elab_flat.specs.Links.{ordered_tasks, sides}
use Rattle.elab_walk.specs.elab_links.Ports.{sockets}
use Rattle.elab_flat.proofs.links.push_ordered.Given as goal

abbrev pub invariant-loop-place : goal.invariant-loop-place
invariant-loop-place l =
    map task l.made.items ++ ordered_tasks (sockets l.ports) (sides l.ends) l.place (map positional (drop l.place l.arguments))
    ≡ map task l.initial.made.items ++ ordered_tasks (sockets l.ports) (sides l.ends) 0 (map positional l.arguments)
