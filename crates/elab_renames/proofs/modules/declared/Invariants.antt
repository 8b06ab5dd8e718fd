use Rattle.std.proofs.Common.{◌≡◌, ◌++◌, map, drop}
use Rattle.rtl_tree.specs.TreeModule.{header_port}
use Rattle.elab_renames.proofs.modules.declared.Given as goal

abbrev pub invariant-loop-port : goal.invariant-loop-port
invariant-loop-port l =
    map header_port l.made.items ++ map header_port (drop l.port-index l.ports) ≡ map header_port l.ports
