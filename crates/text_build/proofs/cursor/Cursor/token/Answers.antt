use Rattle.std.proofs.Common.{sym, ◌∙◌, arith}
use Rattle.text_build.proofs.Ahead.{token_some, token_other, token_none}
use Rattle.text_build.proofs.cursor.Cursor.token.Goals as goal

pub returns-in_default : goal.returns-in_default
returns-in_default c = token_none c.args.symbol c.args.self.now.rest.now (omega arith)

pub returns-then-not-same_symbol : goal.returns-then-not-same_symbol
returns-then-not-same_symbol c = token_other c.args.symbol c.args.self.now.rest.now _ (omega arith) (sym c.same_symbol.ensures ∙ c.if-not-same_symbol.true)

pub returns : goal.returns
returns c = token_some c.args.symbol c.args.self.now.rest.now _ (omega arith) (sym c.same_symbol.ensures ∙ c.if-not-same_symbol.false)
