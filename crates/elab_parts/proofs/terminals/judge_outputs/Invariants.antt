use Rattle.std.proofs.Common.{◌≡◌, map, drop}
use Rattle.std.specs.Option.{option_map}
use Rattle.rtl_tree.specs.TreeStmt.{target}
use Rattle.elab_body.specs.elab_scope.Faults.{after, refusal}
use Rattle.elab_body.specs.elab_scope.Names.{meanings}
use Rattle.elab_parts.specs.Gates.{output_faults}
use Rattle.elab_parts.proofs.terminals.judge_outputs.Given as goal

abbrev pub invariant-loop-output : goal.invariant-loop-output
invariant-loop-output l =
    after (option_map refusal l.best) (output_faults (meanings l.names) (map target (drop l.output-index l.outputs)))
    ≡ after (option_map refusal l.initial.best) (output_faults (meanings l.names) (map target l.outputs))
