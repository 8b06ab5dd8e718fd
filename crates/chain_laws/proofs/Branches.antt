-- The tests, the branches and the last part of a lawful body are lawful.
use Rattle.std.proofs.Common.{List, [], ◌∷◌, subst}
use Rattle.rtl_flat.specs.declared.signal.Signal.{Signal}
use Rattle.rtl_flat.specs.Process.{Set, If, Case, Block, Actions, Done, Then}
use Rattle.rtl_flat.specs.Signs.{IsExpression}
use Rattle.rtl_flat.specs.WellFormed.{IsBody}
use Rattle.net_model.specs.Cycle.{Guard, IsChained, opened}
use Rattle.rtl_rule.proofs.Lists.{Each}

module _ (signals : List Signal) where
  pub opened_lawful : (body : Actions) → IsBody signals body → IsBody signals (opened body)
  opened_lawful Done h = h
  opened_lawful (Then (Set target e delayed spot) others) h = h
  opened_lawful (Then (If test taken other spot) others) h = h
  opened_lawful (Then (Case kind full parallel selector branches fallback spot) others) h = h
  opened_lawful (Then (Block body) Done) h = opened_lawful body h.0
  opened_lawful (Then (Block body) (Then one others)) h = h

  abbrev pub IsLawfulGuard : Guard → Type 0
  IsLawfulGuard guard = IsExpression signals guard.test × IsBody signals guard.branch

  pub chain_lawful : (resets : List Guard) (part body : Actions) → IsChained resets part body → IsBody signals body → Each IsLawfulGuard resets × IsBody signals part
  chain_lawful [] part body chained h = (tt, subst (IsBody signals) chained h)
  chain_lawful (guard ∷ others) part body (other, spot, is, rest) h =
      let own = subst (IsBody signals) is (opened_lawful body h) in
      let more = chain_lawful others part other rest own.0.2 in
      (((own.0.0, own.0.1), more.0), more.1)
