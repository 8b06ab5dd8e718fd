use Rattle.std.proofs.Common.{◌≡◌, ◌-◌, ◌^◌, map, max, min, drop}
use Rattle.text_grammar.specs.Depth.{header_port_depth, greatest}
use Rattle.rtl_tree.specs.TreeModule.{header_port}
use Rattle.text_grammar.proofs.nesting.head_ports_depth.Given as goal

abbrev pub invariant-loop-port : goal.invariant-loop-port
invariant-loop-port l =
    max l.most (min (greatest header_port_depth (map header_port (drop l.port-index l.all))) (2 ^ 32 - 1))
    ≡ min (greatest header_port_depth (map header_port l.all)) (2 ^ 32 - 1)
