use Rattle.std.proofs.Common.{◌≡◌, ◌++◌, map, drop, None}
use Rattle.std.specs.Option.{option_map}
use Rattle.rtl_tree.specs.TreeItem.{head}
use Rattle.rtl_tree.specs.TreeModule.{header_port}
use Rattle.elab_items.specs.Declarations.{declaration, head_ports}
use Rattle.elab_items.proofs.entries.push_ports.Given as goal

abbrev pub invariant-loop-port : goal.invariant-loop-port
invariant-loop-port l =
    map declaration l.entries.items ++ head_ports (option_map (λ written. head written.now) l.in_force) (map header_port (drop l.port-index l.ports))
    ≡ map declaration l.initial.entries.items ++ head_ports None (map header_port l.ports)
