use Rattle.std.proofs.Common.{◌≡◌, ◌++◌, map, drop}
use Rattle.rtl_tree.specs.TreeStmt.{target, target_row}
use Rattle.elab_standard.specs.Scopes.{scopes}
use Rattle.elab_uses.specs.Bodies.{notes_in, parts_uses}
use Rattle.elab_uses.proofs.targets.+push_target.Given as goal

abbrev pub invariant-push_parts-loop-part : goal.invariant-push_parts-loop-part
invariant-push_parts-loop-part l =
    l.made.items ++ notes_in l.home (parts_uses (scopes l.scopes) (target_row (map target (drop l.part-index l.parts))))
    ≡ l.initial.made.items ++ notes_in l.home (parts_uses (scopes l.scopes) (target_row (map target l.parts)))
