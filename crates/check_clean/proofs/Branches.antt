-- What holds of each statement of a body holds of those of its resets, and of what is done at the clock's edge.
use Rattle.std.proofs.Common.{List, [], ◌∷◌, ◌++◌, subst}
use Rattle.text_ground.specs.declared.text.Spot.{Spot}
use Rattle.rtl_flat.specs.Expression.{Tree}
use Rattle.rtl_flat.specs.Process.{Action, Set, If, Case, Block, Actions, Done, Then, Otherwise, With}
use Rattle.net_model.specs.Cycle.{Guard, IsChained, opened}
use Rattle.rtl_rule.specs.Parts.{all_of}
use Rattle.rtl_rule.proofs.Lists.{Each, each_left, each_right}

module _ (P : Action → Type 0) (T : Tree → Type 0) (of_test : (test : Tree) (taken : Actions) (other : Otherwise) (spot : Spot) → P (If test taken other spot) → T test) where
  opened_each : (body : Actions) → Each P (all_of body) → Each P (all_of (opened body))
  opened_each Done h = h
  opened_each (Then (Set target e delayed spot) others) h = h
  opened_each (Then (If test taken other spot) others) h = h
  opened_each (Then (Case kind full parallel selector branches fallback spot) others) h = h
  opened_each (Then (Block body) Done) h = opened_each body (each_left P (all_of body) [] h)
  opened_each (Then (Block body) (Then one others)) h = h

  -- a reset whose statements are so
  abbrev pub OfGuard : Guard → Type 0
  OfGuard guard = T guard.test × Each P (all_of guard.branch)

  pub chain_each : (resets : List Guard) (part body : Actions) → IsChained resets part body → Each P (all_of body) → Each OfGuard resets × Each P (all_of part)
  chain_each [] part body chained h = (tt, subst (λ b. Each P (all_of b)) chained h)
  chain_each (guard ∷ others) part body (other, spot, is, rest) h =
      let whole = Then (If guard.test guard.branch (With other) spot) Done in
      let own = subst (λ b. Each P (all_of b)) is (opened_each body h) in
      let both = each_left P (all_of guard.branch) (all_of other) (each_left P (all_of guard.branch ++ all_of other) [] own.1) in
      let behind = each_right P (all_of guard.branch) (all_of other) (each_left P (all_of guard.branch ++ all_of other) [] own.1) in
      let more = chain_each others part other rest behind in
      (((of_test guard.test guard.branch (With other) spot own.0, both), more.0), more.1)
