use Rattle.std.proofs.Common.{◌≡◌, List, map, drop}
use Rattle.std.specs.Option.{option_map}
use Rattle.rtl_tree.specs.declared.tree.stmt.Lvalue.{Lvalue}
use Rattle.rtl_tree.specs.TreeStmt.{Targets, target, target_row}
use Rattle.elab_scope.specs.Faults.{after, refusal}
use Rattle.elab_scope.specs.Names.{meanings}
use Rattle.elab_scope.specs.Targets.{all_covered, all_twice_faults}
use Rattle.elab_scope.proofs.covers.+cover_target.Given as goal

abbrev pub invariant-cover_all-loop-part : goal.invariant-cover_all-loop-part
invariant-cover_all-loop-part l =
    let row : List Lvalue → Targets = λ parts. target_row (map target parts) in
    let rest : Targets = row (drop l.part-index l.parts) in
    (all_covered (meanings l.names) l.all.covers.items rest ≡ all_covered (meanings l.names) l.initial.all.covers.items (row l.parts))
    × (after (option_map refusal l.all.best) (all_twice_faults (meanings l.names) l.all.covers.items rest) ≡ after (option_map refusal l.initial.all.best) (all_twice_faults (meanings l.names) l.initial.all.covers.items (row l.parts)))
