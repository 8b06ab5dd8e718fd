use Rattle.std.proofs.Common.{◌≡◌, ◌++◌, map, drop}
use Rattle.rtl_tree.specs.TreeStmt.{target}
use Rattle.elab_standard.specs.Scopes.{scopes}
use Rattle.elab_uses.specs.Bodies.{notes_in}
use Rattle.elab_uses.specs.Items.{output_uses}
use Rattle.elab_uses.proofs.items.push_outputs.Given as goal

abbrev pub invariant-loop-output : goal.invariant-loop-output
invariant-loop-output l =
    l.made.items ++ notes_in l.home (output_uses (scopes l.scopes) (map target (drop l.output-index l.outputs)))
    ≡ l.initial.made.items ++ notes_in l.home (output_uses (scopes l.scopes) (map target l.outputs))
