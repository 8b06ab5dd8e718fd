-- All findings about assignments and drivers.
-- Worked examples: crates/tests_rows/stdin.
use Rattle.std.specs.Prelude.{◌≡◌, List, ◌++◌}
use Rattle.rtl_flat.specs.Flats.{Flat}
use Rattle.rtl_rule.specs.declared.finding.Finding.{Finding}
use Rattle.rtl_rule.specs.Order.{ranked}
use Rattle.check_assign.specs.Assigned.{AreBlockingState, AreNonblockingComb, AreMixedAssign, AreSeveralDrivers, AreUndriven, AreCombLoop, AreLatchInferred, AreTristate}

-- whether these are all of them, in their order
pub record AreAssignFindings (d : Flat) (findings : List Finding) : Type 0 where
  pub blocking : List Finding
  pub nonblocking : List Finding
  pub mixed : List Finding
  pub several : List Finding
  pub undriven : List Finding
  pub loop : List Finding
  pub latch : List Finding
  pub tristate : List Finding
  pub are_blocking : AreBlockingState d blocking
  pub are_nonblocking : AreNonblockingComb d nonblocking
  pub are_mixed : AreMixedAssign d mixed
  pub are_several : AreSeveralDrivers d several
  pub are_undriven : AreUndriven d undriven
  pub are_loop : AreCombLoop d loop
  pub are_latch : AreLatchInferred d latch
  pub are_tristate : AreTristate d tristate
  pub in_order : findings ≡ ranked (blocking ++ nonblocking ++ mixed ++ several ++ undriven ++ loop ++ latch ++ tristate)
