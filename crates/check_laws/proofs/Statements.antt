-- What holds of the statements that are listed of a body holds of each of its statements.
use Rattle.rtl_flat.specs.Process.{Action, Set, If, Case, Block, Actions, Done, Then, Otherwise, Without, With, Branches, NoBranch, Branch}
use Rattle.net_laws.specs.Rules.{EachIn, EachItem, EachOf, EachOther}
use Rattle.rtl_rule.specs.Parts.{all_branches, all_in, all_of, all_other}
use Rattle.rtl_rule.proofs.Lists.{Each, each_left, each_right}

module _ (P Q : Action → Type 0) (block : (body : Actions) → P (Block body)) (from : (a : Action) → Q a → P a) where
  mutual
    pub each_in : (a : Action) → Each Q (all_in a) → EachIn P a
    each_in (Set target value delayed spot) h = from (Set target value delayed spot) h.0
    each_in (If test taken other spot) h = (
      from (If test taken other spot) h.0,
      each_of taken (each_left Q (all_of taken) (all_other other) h.1),
      each_other other (each_right Q (all_of taken) (all_other other) h.1),
    )
    each_in (Case kind full parallel selector branches fallback spot) h = (
      from (Case kind full parallel selector branches fallback spot) h.0,
      each_item branches (each_left Q (all_branches branches) (all_other fallback) h.1),
      each_other fallback (each_right Q (all_branches branches) (all_other fallback) h.1),
    )
    each_in (Block body) h = (block body, each_of body h)

    pub each_of : (body : Actions) → Each Q (all_of body) → EachOf P body
    each_of Done h = tt
    each_of (Then first others) h =
        (each_in first (each_left Q (all_in first) (all_of others) h), each_of others (each_right Q (all_in first) (all_of others) h))

    pub each_other : (other : Otherwise) → Each Q (all_other other) → EachOther P other
    each_other Without h = tt
    each_other (With body) h = each_of body h

    pub each_item : (branches : Branches) → Each Q (all_branches branches) → EachItem P branches
    each_item NoBranch h = tt
    each_item (Branch labels body others) h =
        (each_of body (each_left Q (all_of body) (all_branches others) h), each_item others (each_right Q (all_of body) (all_branches others) h))
