use Rattle.std.proofs.Common.{take}
use Rattle.check_gates.specs.Links.{AreRows}
use Rattle.check_gates.proofs.links.rows_of.Given as goal

abbrev pub invariant-loop-link : goal.invariant-loop-link
invariant-loop-link l = AreRows l.count (take l.link-index l.links) l.rows.items
