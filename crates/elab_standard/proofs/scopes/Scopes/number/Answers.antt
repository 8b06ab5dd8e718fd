use Rattle.std.proofs.Common.{◌∙◌, ap, sym}
use Rattle.rtl_const.specs.Constant.{constant}
use Rattle.rtl_tree.specs.TreeExpr.{formula}
use Rattle.elab_standard.specs.Scopes.{scopes}
use Rattle.elab_standard.proofs.Readers.{same_numbers}
use Rattle.elab_standard.proofs.scopes.Scopes.number.Goals as goal

pub returns : goal.returns
returns c =
    c.constant.ensures
    ∙ ap (λ numbers. constant numbers (formula c.args.e.now)) (sym (same_numbers c.args._by (scopes c.args.self.now)))
