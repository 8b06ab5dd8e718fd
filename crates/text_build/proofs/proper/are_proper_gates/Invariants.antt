use Rattle.std.proofs.Common.{◌≡◌, map, drop}
use Rattle.std.specs.List.{list_all}
use Rattle.rtl_tree.specs.TreeGate.{gate}
use Rattle.text_build.specs.Tests.{is_proper_gate}
use Rattle.text_build.proofs.proper.are_proper_gates.Given as goal

abbrev pub invariant-loop-written : goal.invariant-loop-written
invariant-loop-written l =
    list_all (is_proper_gate l.one) (map gate (drop l.written-index l.gates))
    ≡ list_all (is_proper_gate l.one) (map gate l.gates)
