-- A prepared text: the tokens that the grammar is asked of, the regions that were dropped, and the text itself.
-- Worked examples: crates/tests_layers/stdin.
use Rattle.std.specs.Prelude.{ℕ, List}
use Rattle.rtl_tree.specs.declared.token.Token.{Token}
use Rattle.text_ground.specs.declared.dropped.Dropped.{Dropped}

pub record Ready : Type 0 where
  pub tokens : List Token
  pub dropped : List Dropped
  pub text : List ℕ
