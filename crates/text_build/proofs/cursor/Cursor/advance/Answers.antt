use Rattle.std.proofs.Common.{arith}
use Rattle.text_build.proofs.Ahead.{advance_some, advance_none}
use Rattle.text_build.proofs.cursor.Cursor.advance.Goals as goal

pub returns-in_default : goal.returns-in_default
returns-in_default c = advance_none c.args.self.now.rest.now (omega arith)

pub returns : goal.returns
returns c = advance_some c.args.self.now.rest.now _ (omega arith)
