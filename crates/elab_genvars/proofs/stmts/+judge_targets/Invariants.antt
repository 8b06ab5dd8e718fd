use Rattle.std.proofs.Common.{◌≡◌, map, drop}
use Rattle.std.specs.List.{flat_map}
use Rattle.std.specs.Option.{option_map}
use Rattle.rtl_tree.specs.TreeStmt.{target}
use Rattle.elab_scope.specs.Faults.{after}
use Rattle.elab_genvars.specs.Genvars.{told_of, target_genvars}
use Rattle.elab_genvars.proofs.stmts.+judge_targets.Given as goal

abbrev pub invariant-judge_targets-loop-lvalue : goal.invariant-judge_targets-loop-lvalue
invariant-judge_targets-loop-lvalue g l =
    let uses = target_genvars (g.S.Sorts.sorts l.names) in
    after (option_map told_of l.best) (flat_map uses (map target (drop l.lvalue-index l.all)))
    ≡ after (option_map told_of l.initial.best) (flat_map uses (map target l.all))
