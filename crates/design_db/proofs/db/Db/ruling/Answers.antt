use Rattle.design_db.specs.Stores.{answer_of}
use Rattle.design_db.proofs.Kept.{lasts, not_known}
use Rattle.design_db.proofs.db.Db.ruling.Goals as goal

pub returns-then-changed-eq0-clause-lasting : goal.returns-then-changed-eq0-clause-lasting
returns-then-changed-eq0-clause-lasting g c =
    λ other some. lasts c.args.self.now c.rule_again.new.self c.args.top.now other c.rule_again.result
    c.rule_again.ensures.files c.rule_again.ensures.readings c.rule_again.ensures.modules c.rule_again.ensures.conditions c.rule_again.ensures.others c.rule_again.ensures.same
    (not_known c.is_some.result c.answer.result (answer_of c.args.self.now c.args.top.now) c.answer.ensures.is c.is_some.ensures c.if-is_some.false) some
