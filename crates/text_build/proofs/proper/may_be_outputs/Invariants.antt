use Rattle.std.proofs.Common.{◌≡◌, ◌-◌, true, map, drop}
use Rattle.rtl_tree.specs.TreeExpr.{formula}
use Rattle.text_build.specs.Tests.{are_terminals}
use Rattle.text_build.proofs.proper.may_be_outputs.Given as goal

abbrev pub invariant-loop-index : goal.invariant-loop-index
invariant-loop-index l =
    are_terminals true (map formula (drop (l.index - 1) l.terminals)) ≡ are_terminals true (map formula l.terminals)
