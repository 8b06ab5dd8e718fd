use Rattle.std.proofs.Common.{◌≡◌, ◌∙◌, map, sym}
use Rattle.rtl_tree.specs.TreeExpr.{formula}
use Rattle.rtl_tree.specs.TreeStmt.{branch, branch_row}
use Rattle.elab_standard.specs.Scopes.{scopes}
use Rattle.elab_standard.proofs.Likeness.{alike_case}
use Rattle.elab_standard.proofs.uses.is_case_differing.Goals as goal

pub returns-then-case_alike : goal.returns-then-case_alike
returns-then-case_alike c =
    sym (alike_case (scopes c.args.kept.now) (formula c.args.selector.now) (branch_row (map branch c.args.items.now)) (sym c.case_alike.ensures ∙ c.if-case_alike.true))
