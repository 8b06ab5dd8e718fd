use Rattle.std.proofs.Common.{sym, ◌∙◌, arith}
use Rattle.text_build.proofs.Ahead.{starts_none, starts_some, after_some, after_other, after_none}
use Rattle.text_build.proofs.cursor.Cursor.take_if.Goals as goal

pub returns-in_default-clause-answer : goal.returns-in_default-clause-answer
returns-in_default-clause-answer c = sym (starts_none c.args.symbol c.args.self.now.rest.now (omega arith))

pub returns-in_default-clause-left : goal.returns-in_default-clause-left
returns-in_default-clause-left c = after_none c.args.symbol c.args.self.now.rest.now (omega arith)

pub returns-then-not-same_symbol-clause-answer : goal.returns-then-not-same_symbol-clause-answer
returns-then-not-same_symbol-clause-answer c =
    sym (starts_some c.args.symbol c.args.self.now.rest.now _ (omega arith) ∙ sym c.same_symbol.ensures ∙ c.if-not-same_symbol.true)

pub returns-then-not-same_symbol-clause-left : goal.returns-then-not-same_symbol-clause-left
returns-then-not-same_symbol-clause-left c = after_other c.args.symbol c.args.self.now.rest.now _ (omega arith) (sym c.same_symbol.ensures ∙ c.if-not-same_symbol.true)

pub returns-clause-answer : goal.returns-clause-answer
returns-clause-answer c = sym (starts_some c.args.symbol c.args.self.now.rest.now _ (omega arith) ∙ sym c.same_symbol.ensures ∙ c.if-not-same_symbol.false)

pub returns-clause-left : goal.returns-clause-left
returns-clause-left c = after_some c.args.symbol c.args.self.now.rest.now _ (omega arith) (sym c.same_symbol.ensures ∙ c.if-not-same_symbol.false)
