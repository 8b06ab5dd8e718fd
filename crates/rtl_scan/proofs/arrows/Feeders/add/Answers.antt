use Rattle.std.proofs.Common.{◌∙◌, [], ◌∷◌, ◌++◌, ap}
use Rattle.rtl_scan.proofs.Tables.{add_known, add_new}
use Rattle.rtl_scan.proofs.arrows.Feeders.add.Goals as goal

pub returns-then-has : goal.returns-then-has
returns-then-has c = add_known c.args.self.now c.args.p c.has.result c.has.ensures c.if-has.true

pub returns : goal.returns
returns c =
    add_new c.args.self.now _ c.args.p c.see.ensures.process c.see.ensures.seen (c.in_ok-push.ensures.items ∙ ap (λ xs. xs ++ c.args.p ∷ []) c.see.ensures.row)
