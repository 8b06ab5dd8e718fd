use Rattle.std.proofs.Common.{arith, inr}
use Rattle.desk_http.proofs.head.unfinished.Goals as goal

pub returns-else-bytes-lt-MAX_HEAD_BYTES : goal.returns-else-bytes-lt-MAX_HEAD_BYTES
returns-else-bytes-lt-MAX_HEAD_BYTES c = inr (c.requires.later (omega arith))
