use Rattle.std.proofs.Common.{◌≡◌, length}
use Rattle.vcd_read.specs.Changes.{body_of, written}
use Rattle.vcd_read.proofs.body.Body.write.Given as goal

abbrev pub invariant-loop-digit : goal.invariant-loop-digit
invariant-loop-digit l = written (body_of l.self) l.at l.rest ≡ written (body_of l.initial.self) l.at l.digits

abbrev pub decreases-loop-digit : goal.decreases-loop-digit
decreases-loop-digit l = length l.rest
