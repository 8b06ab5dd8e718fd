use Rattle.std.proofs.Common.{◌≡◌, length}
use Rattle.check_loops.specs.Rounds.{AreMarked, unmarked}
use Rattle.check_loops.proofs.spread.reached.Given as goal

abbrev pub invariant-loop : goal.invariant-loop
invariant-loop l = (length l.marks.items ≡ length l.fn.rows) × AreMarked l.fn.rows l.fn.start l.marks.items

abbrev pub decreases-loop : goal.decreases-loop
decreases-loop l = unmarked l.marks.items
