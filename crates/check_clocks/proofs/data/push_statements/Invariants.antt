use Rattle.std.proofs.Common.{◌≡◌, ◌++◌, drop, map}
use Rattle.std.specs.List.{flat_map}
use Rattle.rtl_flat.specs.Process.{action}
use Rattle.check_gates.specs.check_chains.check_parts.Kept.{expressions}
use Rattle.check_clocks.specs.Clocks.{statement_trees}
use Rattle.check_clocks.proofs.data.push_statements.Given as goal

abbrev pub invariant-loop-one : goal.invariant-loop-one
invariant-loop-one l =
    expressions l.found.items ++ flat_map statement_trees (map (λ one. action one.now) (drop l.one-index l.all)) ≡ expressions l.fn.found.items ++ flat_map statement_trees (map (λ one. action one.now) l.all)
