use Rattle.std.proofs.Common.{◌≡◌, ◌++◌, map, drop}
use Rattle.rtl_flat.specs.Process.{piece}
use Rattle.rtl_tree.specs.TreeExpr.{formula, formula_row}
use Rattle.elab_walk.specs.elab_scope.Names.{meanings}
use Rattle.elab_walk.specs.elab_links.Drivable.{all_link_pieces}
use Rattle.elab_flat.proofs.links.+push_pieces.Given as goal

abbrev pub invariant-push_all_pieces-loop-part : goal.invariant-push_all_pieces-loop-part
invariant-push_all_pieces-loop-part l =
    map piece l.made.items ++ all_link_pieces l.site.file l.site.base (meanings l.names) (formula_row (map formula (drop l.part-index l.parts)))
    ≡ map piece l.initial.made.items ++ all_link_pieces l.site.file l.site.base (meanings l.names) (formula_row (map formula l.parts))
