-- All findings about resets.
-- Worked examples: crates/tests_rows/stdin.
use Rattle.std.specs.Prelude.{◌≡◌, List, ◌++◌}
use Rattle.rtl_flat.specs.Flats.{Flat}
use Rattle.rtl_rule.specs.declared.finding.Finding.{Finding}
use Rattle.rtl_rule.specs.Order.{ranked}
use Rattle.check_chains.specs.Chains.{AreAsyncPair, AreResetPolarity, AreResetShape, AreResetValue}

-- whether these are all of them, in their order
pub record AreResetFindings (d : Flat) (findings : List Finding) : Type 0 where
  pub shape : List Finding
  pub polarity : List Finding
  pub pair : List Finding
  pub reset : List Finding
  pub are_shape : AreResetShape d shape
  pub are_polarity : AreResetPolarity d polarity
  pub are_pair : AreAsyncPair d pair
  pub are_value : AreResetValue d reset
  pub in_order : findings ≡ ranked (shape ++ polarity ++ pair ++ reset)
