-- The plain form of statements that hold vectors, from the vectors' items, and what a design's
-- signals have.
use Rattle.std.specs.Prelude.{map, Vec, Some, None}
use Rattle.std.specs.declared.alloc.Global.{Global}
use Rattle.std.proofs.Common.{◌≡◌, ◌∙◌, ap, refl}
use Rattle.text_ground.specs.declared.text.Spot.{Spot}
use Rattle.rtl_flat.specs.declared.expr.SizedExpr.{SizedExpr}
use Rattle.rtl_flat.specs.declared.act.Act.TheBlock.{hidden-the_row-Act-0}
use Rattle.rtl_flat.specs.declared.act.Act.{Act, Row_of-Act, end_of-Act, more_of-Act, items-the_row-Act, items_hidden-the_row-Act-0}
use Rattle.rtl_flat.specs.declared.act.Act.TheVariants as act
use Rattle.rtl_flat.specs.Expression.{tree}
use Rattle.rtl_flat.specs.Process.{If, Block, Then, Without, With, action, actions, body_of}

actions_is : (n : _) (row : Row_of-Act n) → actions row ≡ body_of (map action (items-the_row-Act n row))
actions_is _ end_of-Act = refl
actions_is _ (more_of-Act first others) = ap (Then (action first)) (actions_is _ others)

-- the statements of a vector
items_is : (body : Vec Act Global) → actions (hidden-the_row-Act-0 body) ≡ body_of (map action body.items)
items_is body =
    actions_is _ (hidden-the_row-Act-0 body) ∙ ap (λ items. body_of (map action items)) (items_hidden-the_row-Act-0 body)

pub block_is : (body : Vec Act Global) → action (act.Block body) ≡ Block (body_of (map action body.items))
block_is body = ap Block (items_is body)

pub if_is : (test : SizedExpr) (taken : Vec Act Global) (spot : Spot) → action (act.If test taken None spot) ≡ If (tree test) (body_of (map action taken.items)) Without spot
if_is test taken spot = ap (λ body. If (tree test) body Without spot) (items_is taken)

pub if_else_is : (test : SizedExpr) (taken other : Vec Act Global) (spot : Spot) → action (act.If test taken (Some other) spot) ≡ If (tree test) (body_of (map action taken.items)) (With (body_of (map action other.items))) spot
if_else_is test taken other spot =
    ap (λ body. If (tree test) body (With (actions (hidden-the_row-Act-0 other))) spot) (items_is taken)
    ∙ ap (λ body. If (tree test) (body_of (map action taken.items)) (With body) spot) (items_is other)
