-- Without findings of X4 what is assigned has no `===` and no `!==`.
use Rattle.std.proofs.Common.{◌≡◌, ◌++◌, ℕ, Bool, true, [], Some, refl}
use Rattle.std.specs.List.{flat_map, slice_get}
use Rattle.text_ground.specs.declared.text.Spot.{Spot}
use Rattle.rtl_flat.specs.declared.expr.Compare.{Compare}
use Rattle.rtl_flat.specs.declared.expr.Compare.TheVariants as compare
use Rattle.rtl_flat.specs.Expression.{Tree, Sized, Literal, Whole, BitAt, BitBy, Part, Turned, Joined, Compared, Linked, Folded, Shifted, Chosen, Empty, Beside, Repeated, Recast}
use Rattle.rtl_flat.specs.Flats.{Flat}
use Rattle.rtl_flat.specs.Process.{Action, Set, If, Case, Block, Actions, Done, Then, Otherwise, Without, With, Branches, NoBranch, Branch, Task}
use Rattle.rtl_rule.specs.declared.rule.Rule.TheVariants as rule
use Rattle.rtl_rule.specs.Parts.{all_branches, all_in, all_of, all_other, labels, nodes, own_trees, trees}
use Rattle.rtl_rule.proofs.Lists.{Each, each_both, each_flat, each_from, each_left, each_right}
use Rattle.check_unknown.specs.Unknowns.{AreCaseEquality, IsCaseEquality, all_nodes, at_node, is_case_equality}
use Rattle.check_laws.specs.Expressions.{AreMarked, IsForm, IsMarked}
use Rattle.check_laws.specs.net_laws.Rules.{EachPart}
use Rattle.check_laws.proofs.Operands.{each_part}
use Rattle.check_laws.proofs.Sites.{refuted_in}
use Rattle.net_covers.specs.event_covers.Covers.{ArePlainActions, ArePlainBranches, ArePlainOtherwise, IsPlainAction, IsPlainCompare, IsPlainTree}

-- ---- expressions

-- an operator that isn't exact
abbrev IsPlainForm : Tree → Type 0
IsPlainForm (Compared operator signed a b) = IsPlainCompare operator
IsPlainForm _ = Unit {0}

abbrev NotExact : Tree → Type 0
NotExact node = is_case_equality node ≡ true → ⊥

plain_compare : (w : ℕ) (s : Bool) (at : Spot) (operator : Compare) (signed : Bool) (a b : Tree) → NotExact (Sized w s at (Compared operator signed a b)) → IsPlainCompare operator
plain_compare w s at compare.Equal signed a b h = tt
plain_compare w s at compare.NotEqual signed a b h = tt
plain_compare w s at compare.CaseEqual signed a b h = h refl
plain_compare w s at compare.CaseNotEqual signed a b h = h refl
plain_compare w s at compare.Less signed a b h = tt
plain_compare w s at compare.LessOrEqual signed a b h = tt
plain_compare w s at compare.Greater signed a b h = tt
plain_compare w s at compare.GreaterOrEqual signed a b h = tt

plain_form : (w : ℕ) (s : Bool) (at : Spot) (e : Tree) → IsForm e → NotExact (Sized w s at e) → IsPlainForm e
plain_form w s at (Compared operator signed a b) marked h = plain_compare w s at operator signed a b h
plain_form w s at _ marked h = tt

plain_tree : (e : Tree) → EachPart IsPlainForm e → IsPlainTree e
plain_tree (Sized width signed spot e) h = plain_tree e h.1
plain_tree (Literal bits) h = tt
plain_tree (Whole i) h = tt
plain_tree (BitAt i low index) h = tt
plain_tree (BitBy i low signed index) h = plain_tree index h.1
plain_tree (Part i low width) h = tt
plain_tree (Turned operator a) h = plain_tree a h.1
plain_tree (Joined operator signed a b) h = (plain_tree a h.1, plain_tree b h.2)
plain_tree (Compared operator signed a b) h = (h.0, plain_tree a h.1, plain_tree b h.2)
plain_tree (Linked operator a b) h = (plain_tree a h.1, plain_tree b h.2)
plain_tree (Folded operator a) h = plain_tree a h.1
plain_tree (Shifted operator signed a amount) h = (plain_tree a h.1, plain_tree amount h.2)
plain_tree (Chosen c a b) h = (plain_tree c h.1, plain_tree a h.2, plain_tree b h.3)
plain_tree Empty h = tt
plain_tree (Beside a others) h = (plain_tree a h.1, plain_tree others h.2)
plain_tree (Repeated times a) h = plain_tree a h.1
plain_tree (Recast a) h = plain_tree a h.1

plain_marked : (e : Tree) → IsMarked e → Each NotExact (nodes e) → IsPlainTree e
plain_marked e marked h =
    plain_tree e (each_part IsPlainForm NotExact (λ w s at f. tt) tt (λ a others. tt) plain_form e marked h)

-- the expressions of a process outside labels
pub plain_trees : (d : Flat) → AreMarked d → AreCaseEquality d [] → (p : ℕ) (task : Task) → slice_get d.tasks p ≡ Some task → Each IsPlainTree (trees task.does)
plain_trees d marked none p task there =
    let does = task.does in
    let here = λ (e : Tree). Each NotExact (nodes e) in
    let all = refuted_in IsCaseEquality (at_node rule.CaseEquality d) all_nodes d none p task there in
    let of_all = each_flat NotExact nodes (trees does ++ labels does) all in
    each_both IsMarked here IsPlainTree plain_marked (trees does)
    (each_from IsMarked (trees does) (marked p task there).0) (each_left here (trees does) (labels does) of_all)

-- ---- statements

abbrev HasPlain : Action → Type 0
HasPlain one = Each IsPlainTree (own_trees one)

mutual
  plain_action : (a : Action) → Each HasPlain (all_in a) → IsPlainAction a
  plain_action (Set target e delayed spot) h = h.0.0
  plain_action (If test taken other spot) h = (
    plain_actions taken (each_left HasPlain (all_of taken) (all_other other) h.1),
    plain_other other (each_right HasPlain (all_of taken) (all_other other) h.1),
  )
  plain_action (Case kind full parallel selector branches fallback spot) h = (
    plain_branches branches (each_left HasPlain (all_branches branches) (all_other fallback) h.1),
    plain_other fallback (each_right HasPlain (all_branches branches) (all_other fallback) h.1),
  )
  plain_action (Block body) h = plain_actions body h

  plain_actions : (body : Actions) → Each HasPlain (all_of body) → ArePlainActions body
  plain_actions Done h = tt
  plain_actions (Then first others) h =
      (plain_action first (each_left HasPlain (all_in first) (all_of others) h), plain_actions others (each_right HasPlain (all_in first) (all_of others) h))

  plain_other : (other : Otherwise) → Each HasPlain (all_other other) → ArePlainOtherwise other
  plain_other Without h = tt
  plain_other (With body) h = plain_actions body h

  plain_branches : (branches : Branches) → Each HasPlain (all_branches branches) → ArePlainBranches branches
  plain_branches NoBranch h = tt
  plain_branches (Branch labels body others) h =
      (plain_actions body (each_left HasPlain (all_of body) (all_branches others) h), plain_branches others (each_right HasPlain (all_of body) (all_branches others) h))

pub plain_body : (body : Actions) → Each IsPlainTree (flat_map own_trees (all_of body)) → ArePlainActions body
plain_body body h = plain_actions body (each_flat IsPlainTree own_trees (all_of body) h)
