use Rattle.std.proofs.Common.{◌≡◌, map, drop}
use Rattle.rtl_tree.specs.TreeExpr.{identifier}
use Rattle.elab_links.specs.Marks.{marks_of, no_marks, with_marks}
use Rattle.elab_links.proofs.ports.set_of.Given as goal

abbrev pub invariant-loop-name : goal.invariant-loop-name
invariant-loop-name l =
    with_marks (marks_of l.set) (map (λ name. identifier name.now) (drop l.name-index l.names))
    ≡ with_marks no_marks (map (λ name. identifier name.now) l.names)
