-- It serves inner contracts and proofs; no answer of the program is stated by it.
-- Lists of findings, one behind another.
use Rattle.std.specs.Prelude.{◌≡◌, List, ◌++◌}
use Rattle.rtl_rule.specs.declared.finding.Finding.{Finding}
use Rattle.rtl_flat.specs.Flats.{Flat}
use Rattle.check_assign.specs.Assigned.{AreBlockingState, AreNonblockingComb, AreMixedAssign, AreSeveralDrivers, AreUndriven, AreCombLoop, AreLatchInferred, AreTristate}

-- findings of one kind, and behind them those of another
pub record Both (First Second : List Finding → Type 0) (found : List Finding) : Type 0 where
  pub first : List Finding
  pub second : List Finding
  pub in_order : found ≡ first ++ second
  pub are_first : First first
  pub are_second : Second second

abbrev pub AreAssigned : Flat → List Finding → Type 0
AreAssigned d = Both (Both (AreBlockingState d) (AreNonblockingComb d)) (AreMixedAssign d)

abbrev pub AreDriven : Flat → List Finding → Type 0
AreDriven d = Both (Both (AreSeveralDrivers d) (AreUndriven d)) (AreCombLoop d)

abbrev pub AreHeld : Flat → List Finding → Type 0
AreHeld d = Both (AreLatchInferred d) (AreTristate d)
