-- It serves inner contracts and proofs; no answer of the program is stated by it.
-- Designs in which no rule of the first grade that the theorem stands on has a finding.
use Rattle.std.specs.Prelude.{[]}
use Rattle.net_model.specs.Gates.{InCone}
use Rattle.rtl_flat.specs.Flats.{Flat}
use Rattle.check_sense.specs.Sense.{AreMixedEdges, AreNeverWakes, AreSenseMissing}
use Rattle.check_assign.specs.Assigned.{AreBlockingState, AreCombLoop, AreLatchInferred, AreMixedAssign, AreNonblockingComb, AreSeveralDrivers, AreTristate, AreUndriven}
use Rattle.check_clocks.specs.check_chains.Chains.{AreAsyncPair, AreResetPolarity, AreResetShape, AreResetValue}
use Rattle.check_clocks.specs.Clocks.{AreClockAsData, AreDerivedClock}
use Rattle.check_case.specs.Cases.{AreFullCase, AreParallelCase}
use Rattle.check_unknown.specs.Unknowns.{AreDivideVariable, AreSelectRange, AreUnknownLiteral}

-- no finding of each of them
pub record HasNoFinding (d : Flat) : Type 0 where
  pub s1 : AreSenseMissing d []
  pub s2 : AreNeverWakes d []
  pub s3 : AreMixedEdges d []
  pub a1 : AreBlockingState d []
  pub a2 : AreNonblockingComb d []
  pub a3 : AreMixedAssign d []
  pub a4 : AreSeveralDrivers d []
  pub a5 : AreUndriven d []
  pub a6 : AreCombLoop d []
  pub a7 : AreDerivedClock d []
  pub a8 : AreClockAsData (InCone d) d []
  pub l1 : AreLatchInferred d []
  pub z1 : AreTristate d []
  pub r1 : AreResetShape d []
  pub r2 : AreResetPolarity d []
  pub r3 : AreAsyncPair d []
  pub r4 : AreResetValue d []
  pub c1 : AreFullCase d []
  pub c2 : AreParallelCase d []
  pub x1 : AreUnknownLiteral d []
  pub x2 : AreSelectRange d []
  pub x3 : AreDivideVariable d []
