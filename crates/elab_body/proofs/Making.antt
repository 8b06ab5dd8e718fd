-- The plain form of a case that holds vectors.
use Rattle.std.specs.Prelude.{ℕ, Bool, List, [], ◌∷◌, ◌++◌, map, Vec, Option, None, Some}
use Rattle.std.specs.declared.alloc.Global.{Global}
use Rattle.std.proofs.Common.{◌≡◌, ◌∙◌, ap, refl, sym}
use Rattle.text_ground.specs.declared.text.Spot.{Spot}
use Rattle.rtl_flat.specs.declared.expr.SizedExpr.{SizedExpr}
use Rattle.rtl_flat.specs.declared.act.CaseKind.{CaseKind}
use Rattle.rtl_flat.specs.declared.act.CaseItem.{CaseItem}
use Rattle.rtl_flat.specs.declared.act.Act.TheBlock.{back-Act-If-2, hidden-the_row-Act-0, hidden-the_row-CaseItem-1}
use Rattle.rtl_flat.specs.declared.act.Act.{Act, Row_of-Act, end_of-Act, more_of-Act, items-the_row-Act, items_hidden-the_row-Act-0, items_shown-the_row-Act-0, Row_of-CaseItem, end_of-CaseItem, more_of-CaseItem, items-the_row-CaseItem, items_hidden-the_row-CaseItem-1}
use Rattle.rtl_flat.specs.declared.act.Act.TheVariants as act
use Rattle.rtl_flat.specs.Expression.{tree}
use Rattle.rtl_flat.specs.Process.{If, Case, Then, Branches, NoBranch, Branch, With, action, actions, body_of, branches, otherwise}
use Rattle.rtl_flat.proofs.ActViews.{if_is, if_else_is}
use Rattle.rtl_tree.specs.declared.tree.expr.Expr.{Expr}
use Rattle.rtl_tree.specs.declared.tree.stmt.CaseItem.{CaseItem as Written}
use Rattle.rtl_tree.specs.declared.tree.stmt.CaseItem.TheVariants as listed
use Rattle.rtl_tree.specs.declared.tree.stmt.Stmt.{Stmt}
use Rattle.rtl_tree.specs.TreeExpr.{formula}
use Rattle.rtl_tree.specs.TreeStmt.{action as statement, branch}
use Rattle.elab_nodes.specs.elab_scope.declared.context.Context.{Context}
use Rattle.elab_nodes.specs.elab_scope.Names.{Meanings}
use Rattle.elab_nodes.specs.elab_scope.Trees.{tree_of}
use Rattle.elab_body.specs.Acts.{acts, with_branch}
use Rattle.elab_body.specs.Made.{items_before, otherwise_of}

actions_is : (n : _) (row : Row_of-Act n) → actions row ≡ body_of (map action (items-the_row-Act n row))
actions_is _ end_of-Act = refl
actions_is _ (more_of-Act first others) = ap (Then (action first)) (actions_is _ others)

branches_are : (n : _) (row : Row_of-CaseItem n) → branches row ≡ items_before (items-the_row-CaseItem n row) NoBranch
branches_are _ end_of-CaseItem = refl
branches_are _ (more_of-CaseItem labels shape body others) =
    ap (Branch (map tree labels.items) (actions body)) (branches_are _ others)
    ∙ ap (λ b. Branch (map tree labels.items) b (items_before (items-the_row-CaseItem _ others) NoBranch)) (actions_is _ body ∙ ap (λ items. body_of (map action items)) (sym (items_shown-the_row-Act-0 shape body)))

otherwise_is : (body : Option (Vec Act Global)) → otherwise (back-Act-If-2 body) ≡ otherwise_of body
otherwise_is None = refl
otherwise_is (Some body) =
    ap With (actions_is _ (hidden-the_row-Act-0 body) ∙ ap (λ items. body_of (map action items)) (items_hidden-the_row-Act-0 body))

pub case_made : (kind : CaseKind) (full parallel : Bool) (selector : SizedExpr) (items : Vec CaseItem Global) (fallback : Option (Vec Act Global)) (spot : Spot) → action (act.Case kind full parallel selector items fallback spot) ≡ Case kind full parallel (tree selector) (items_before items.items NoBranch) (otherwise_of fallback) spot
case_made kind full parallel selector items fallback spot =
    ap (λ o. Case kind full parallel (tree selector) (branches (hidden-the_row-CaseItem-1 items)) o spot) (otherwise_is fallback)
    ∙ ap (λ b. Case kind full parallel (tree selector) b (otherwise_of fallback) spot) (branches_are _ (hidden-the_row-CaseItem-1 items) ∙ ap (λ all. items_before all NoBranch) (items_hidden-the_row-CaseItem-1 items))

pub if_made : (test : SizedExpr) (taken : Vec Act Global) (other : Option (Vec Act Global)) (spot : Spot) → action (act.If test taken other spot) ≡ If (tree test) (body_of (map action taken.items)) (otherwise_of other) spot
if_made test taken None spot = if_is test taken spot
if_made test taken (Some other) spot = if_else_is test taken other spot

-- an item more before the others
pub items_more : (items : List CaseItem) (one : CaseItem) (others : Branches) → items_before (items ++ one ∷ []) others ≡ items_before items (Branch (map tree one.labels.items) (body_of (map action one.body.items)) others)
items_more [] one others = refl
items_more (item ∷ items) one others =
    ap (Branch (map tree item.labels.items) (body_of (map action item.body.items))) (items_more items one others)

-- an item of a case more
pub item_pushed : (items all : List CaseItem) (labels : Vec SizedExpr Global) (body : Vec Act Global) (file base : ℕ) (scope : Meanings) (context : Context) (item : Written) (written : Vec Expr Global) (s : Stmt) → all ≡ items ++ record { labels = labels; body = body } ∷ [] → map tree labels.items ≡ map (λ label. tree_of file base scope label context) (map formula written.items) → map action body.items ≡ acts file base (statement s) scope → item ≡ listed.Labelled written s → (others : Branches) → items_before all others ≡ items_before items (with_branch file base (branch item) scope context others)
item_pushed items all labels body file base scope context item written s more sized made is others =
    ap (λ all. items_before all others) more
    ∙ items_more items (record { labels = labels; body = body }) others
    ∙ ap (λ trees. items_before items (Branch trees (body_of (map action body.items)) others)) sized
    ∙ ap (λ acts. items_before items (Branch (map (λ label. tree_of file base scope label context) (map formula written.items)) (body_of acts) others)) made
    ∙ ap (λ item. items_before items (with_branch file base (branch item) scope context others)) (sym is)
