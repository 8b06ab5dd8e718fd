use Rattle.std.proofs.Common.{sym, ◌∙◌, arith}
use Rattle.text_build.proofs.Ahead.{starts_none, starts_some}
use Rattle.text_build.proofs.cursor.Cursor.is_next.Goals as goal

pub returns-in-empty : goal.returns-in-empty
returns-in-empty c = sym (starts_none c.args.symbol c.args.self.now.rest.now (omega arith))

pub returns-in-len1-up : goal.returns-in-len1-up
returns-in-len1-up c = c.same_symbol.ensures ∙ sym (starts_some c.args.symbol c.args.self.now.rest.now _ (omega arith))
