-- All findings about clocks.
-- Worked examples: crates/tests_rows/stdin.
use Rattle.std.specs.Prelude.{ℕ, ◌≡◌, List, ◌++◌}
use Rattle.rtl_flat.specs.Flats.{Flat}
use Rattle.rtl_rule.specs.declared.finding.Finding.{Finding}
use Rattle.rtl_rule.specs.Order.{ranked}
use Rattle.check_clocks.specs.Clocks.{AreClockAsData, AreDerivedClock}

-- whether these are all of them, in their order; the cone is what clocks, resets and gates reach through input
-- ports
pub record AreClockFindings (InCone : ℕ → Type 0) (d : Flat) (findings : List Finding) : Type 0 where
  pub derived : List Finding
  pub as_data : List Finding
  pub are_derived : AreDerivedClock d derived
  pub are_data : AreClockAsData InCone d as_data
  pub in_order : findings ≡ ranked (derived ++ as_data)
