use Rattle.std.proofs.Common.{◌≡◌, ◌++◌, drop, map}
use Rattle.std.specs.List.{flat_map}
use Rattle.rtl_rule.specs.Parts.{all_of}
use Rattle.check_gates.specs.check_chains.check_parts.Kept.{expressions}
use Rattle.check_gates.specs.check_chains.Views.{guard_view}
use Rattle.check_clocks.specs.Clocks.{statement_trees}
use Rattle.check_clocks.proofs.data.chain_trees.Given as goal

abbrev pub invariant-loop-guard : goal.invariant-loop-guard
invariant-loop-guard l =
    expressions l.found.items ++ flat_map (λ guard. flat_map statement_trees (all_of guard.branch)) (map guard_view (drop l.guard-index l.chain.resets.items)) ≡ flat_map (λ guard. flat_map statement_trees (all_of guard.branch)) (map guard_view l.chain.resets.items)
