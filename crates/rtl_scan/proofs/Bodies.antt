-- The plain form of a case, from the items of its vectors.
use Rattle.std.specs.Prelude.{Bool, map, Vec, Option, Some, None}
use Rattle.std.specs.declared.alloc.Global.{Global}
use Rattle.std.proofs.Common.{◌≡◌, ◌∙◌, ap, sym, refl}
use Rattle.text_ground.specs.declared.text.Spot.{Spot}
use Rattle.rtl_flat.specs.declared.expr.SizedExpr.{SizedExpr}
use Rattle.rtl_flat.specs.declared.act.CaseKind.{CaseKind}
use Rattle.rtl_flat.specs.declared.act.CaseItem.{CaseItem}
use Rattle.rtl_flat.specs.declared.act.Act.TheBlock.{hidden-the_row-Act-0, hidden-the_row-CaseItem-1, shown-the_row-Act-0}
use Rattle.rtl_flat.specs.declared.act.Act.{Act, Row_of-Act, end_of-Act, more_of-Act, Row_of-CaseItem, end_of-CaseItem, more_of-CaseItem, items-the_row-Act, items_hidden-the_row-Act-0, items_shown-the_row-Act-0, items-the_row-CaseItem, items_hidden-the_row-CaseItem-1}
use Rattle.rtl_flat.specs.declared.act.Act.TheVariants as act
use Rattle.rtl_flat.specs.Expression.{tree}
use Rattle.rtl_flat.specs.Process.{Case, If, Then, Branch, Without, With, action, actions, branches, body_of}
use Rattle.rtl_flat.proofs.ActViews.{if_is, if_else_is}
use Rattle.rtl_scan.specs.Bodies.{branches_of, other_of}

actions_is : (n : _) (row : Row_of-Act n) → actions row ≡ body_of (map action (items-the_row-Act n row))
actions_is _ end_of-Act = refl
actions_is _ (more_of-Act first others) = ap (Then (action first)) (actions_is _ others)

items_is : (body : Vec Act Global) → actions (hidden-the_row-Act-0 body) ≡ body_of (map action body.items)
items_is body =
    actions_is _ (hidden-the_row-Act-0 body) ∙ ap (λ items. body_of (map action items)) (items_hidden-the_row-Act-0 body)

shown_is : (shape : _) (body : _) → actions body ≡ body_of (map action (shown-the_row-Act-0 shape body).items)
shown_is shape body =
    actions_is _ body ∙ sym (ap (λ items. body_of (map action items)) (items_shown-the_row-Act-0 shape body))

branches_is : (n : _) (row : Row_of-CaseItem n) → branches row ≡ branches_of (items-the_row-CaseItem n row)
branches_is _ end_of-CaseItem = refl
branches_is _ (more_of-CaseItem labels shape body others) =
    ap (λ b. Branch (map tree labels.items) b (branches others)) (shown_is shape body)
    ∙ ap (Branch (map tree labels.items) (body_of (map action (shown-the_row-Act-0 shape body).items))) (branches_is _ others)

cases_is : (items : Vec CaseItem Global) → branches (hidden-the_row-CaseItem-1 items) ≡ branches_of items.items
cases_is items =
    branches_is _ (hidden-the_row-CaseItem-1 items) ∙ ap branches_of (items_hidden-the_row-CaseItem-1 items)

pub case_is : (kind : CaseKind) (full parallel : Bool) (selector : SizedExpr) (items : Vec CaseItem Global) (fallback : Option (Vec Act Global)) (spot : Spot) → action (act.Case kind full parallel selector items fallback spot) ≡ Case kind full parallel (tree selector) (branches_of items.items) (other_of fallback) spot
case_is kind full parallel selector items None spot =
    ap (λ b. Case kind full parallel (tree selector) b Without spot) (cases_is items)
case_is kind full parallel selector items (Some body) spot =
    ap (λ b. Case kind full parallel (tree selector) b (With (actions (hidden-the_row-Act-0 body))) spot) (cases_is items)
    ∙ ap (λ b. Case kind full parallel (tree selector) (branches_of items.items) (With b) spot) (items_is body)

pub choice_is : (test : SizedExpr) (taken : Vec Act Global) (other : Option (Vec Act Global)) (spot : Spot) → action (act.If test taken other spot) ≡ If (tree test) (body_of (map action taken.items)) (other_of other) spot
choice_is test taken None spot = if_is test taken spot
choice_is test taken (Some other) spot = if_else_is test taken other spot
