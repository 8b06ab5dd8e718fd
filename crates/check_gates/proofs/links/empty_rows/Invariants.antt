use Rattle.std.proofs.Common.{[]}
use Rattle.check_gates.specs.Links.{AreRows}
use Rattle.check_gates.proofs.links.empty_rows.Given as goal

abbrev pub invariant-loop : goal.invariant-loop
invariant-loop l = AreRows l.counter [] l.rows.items
