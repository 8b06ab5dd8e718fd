use Rattle.std.proofs.Common.{◌≡◌, ◌-◌, ◌^◌, map, max, min, drop}
use Rattle.text_grammar.specs.Depth.{gate_depth, greatest}
use Rattle.rtl_tree.specs.TreeGate.{gate}
use Rattle.text_grammar.proofs.nesting.gates.gates_depth.Given as goal

abbrev pub invariant-loop-gate : goal.invariant-loop-gate
invariant-loop-gate l =
    max l.most (min (greatest gate_depth (map gate (drop l.gate-index l.all))) (2 ^ 32 - 1))
    ≡ min (greatest gate_depth (map gate l.all)) (2 ^ 32 - 1)
