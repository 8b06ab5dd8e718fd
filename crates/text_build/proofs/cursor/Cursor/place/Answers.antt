use Rattle.std.proofs.Common.{arith}
use Rattle.text_build.proofs.Ahead.{place_some, place_none}
use Rattle.text_build.proofs.cursor.Cursor.place.Goals as goal

pub returns-in-empty : goal.returns-in-empty
returns-in-empty c = place_none c.args.self.now.rest.now (omega arith)

pub returns-in-len1-up : goal.returns-in-len1-up
returns-in-len1-up c = place_some c.args.self.now.rest.now _ (omega arith)
