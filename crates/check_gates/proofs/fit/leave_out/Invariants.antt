use Rattle.std.proofs.Common.{take}
use Rattle.check_gates.proofs.Fitting.{AllBits, IsOther}
use Rattle.check_gates.proofs.fit.leave_out.Given as goal

abbrev pub invariant-loop-row : goal.invariant-loop-row
invariant-loop-row l = AllBits (take l.row-index l.rows) (IsOther l.signal.0)
