use Rattle.std.proofs.Common.{◌≡◌, ◌++◌, map, drop}
use Rattle.rtl_tree.specs.TreeStmt.{target, target_row}
use Rattle.rtl_flat.specs.Process.{piece}
use Rattle.elab_scope.specs.Names.{meanings}
use Rattle.elab_scope.specs.Targets.{all_pieces_of}
use Rattle.elab_scope.proofs.pieces.+push_parts.Given as goal

abbrev pub invariant-push_all-loop-part : goal.invariant-push_all-loop-part
invariant-push_all-loop-part l =
    map piece l.made.items ++ all_pieces_of l.site.file l.site.base (meanings l.names) (target_row (map target (drop l.part-index l.parts)))
    ≡ map piece l.initial.made.items ++ all_pieces_of l.site.file l.site.base (meanings l.names) (target_row (map target l.parts))
