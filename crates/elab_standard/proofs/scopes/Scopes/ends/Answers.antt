use Rattle.std.proofs.Common.{◌∙◌, ap, sym}
use Rattle.rtl_const.specs.Constant.{constant}
use Rattle.rtl_tree.specs.TreeExpr.{formula}
use Rattle.elab_walk.specs.elab_scope.Selects.{lsb_of, msb_of}
use Rattle.elab_standard.specs.Scopes.{scopes}
use Rattle.elab_standard.proofs.Readers.{same_numbers}
use Rattle.elab_standard.proofs.scopes.Scopes.ends.Goals as goal

pub returns-clause-msb : goal.returns-clause-msb
returns-clause-msb c =
    c.ends_of.ensures.msb
    ∙ ap (λ numbers. msb_of c.args.kind (constant numbers (formula c.args.first.now)) (constant numbers (formula c.args.second.now))) (sym (same_numbers c.args._by (scopes c.args.self.now)))

pub returns-clause-lsb : goal.returns-clause-lsb
returns-clause-lsb c =
    c.ends_of.ensures.lsb
    ∙ ap (λ numbers. lsb_of c.args.kind (constant numbers (formula c.args.first.now)) (constant numbers (formula c.args.second.now))) (sym (same_numbers c.args._by (scopes c.args.self.now)))
