use Rattle.std.proofs.Common.{take}
use Rattle.check_gates.proofs.Fitting.{AllBits, IsMarked}
use Rattle.check_gates.proofs.fit.have_other.Given as goal

abbrev pub invariant-loop-row : goal.invariant-loop-row
invariant-loop-row l = AllBits (take l.row-index l.rows) (IsMarked l.marks)
