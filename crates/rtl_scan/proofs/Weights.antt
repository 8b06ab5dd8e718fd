-- What stands inside a statement is less than it.
use Rattle.std.specs.Prelude.{Bool, List, Vec, Option}
use Rattle.std.specs.declared.alloc.Global.{Global}
use Rattle.std.proofs.Common.{ℕ, zero, suc, ◌≡◌, ◌∙◌, ◌+◌, ◌<◌, ◌≤◌, ap, arith, [], ◌∷◌, length, get_or}
use Rattle.text_ground.specs.declared.text.Spot.{Spot}
use Rattle.rtl_flat.specs.declared.expr.SizedExpr.{SizedExpr}
use Rattle.rtl_flat.specs.declared.act.CaseKind.{CaseKind}
use Rattle.rtl_flat.specs.declared.act.CaseItem.{CaseItem}
use Rattle.rtl_flat.specs.declared.act.Act.{Act}
use Rattle.rtl_flat.specs.declared.act.Act.TheVariants as act
use Rattle.rtl_flat.specs.Process.{action}
use Rattle.rtl_flat.specs.WellFormed.{statements}
use Rattle.rtl_flat.proofs.ActViews.{block_is}
use Rattle.rtl_scan.specs.Loads.{load, other_load, items_load}
use Rattle.rtl_scan.proofs.Bodies.{case_is, choice_is}

pub if_load : (a : Act) (test : SizedExpr) (taken : Vec Act Global) (other : Option (Vec Act Global)) (spot : Spot) → a ≡ act.If test taken other spot → statements (action a) ≡ 1 + load taken.items + other_load other
if_load a test taken other spot e =
    ap (λ x. statements (action x)) e ∙ ap statements (choice_is test taken other spot)

pub case_load : (a : Act) (kind : CaseKind) (full parallel : Bool) (selector : SizedExpr) (items : Vec CaseItem Global) (fallback : Option (Vec Act Global)) (spot : Spot) → a ≡ act.Case kind full parallel selector items fallback spot → statements (action a) ≡ 1 + items_load items.items + other_load fallback
case_load a kind full parallel selector items fallback spot e =
    ap (λ x. statements (action x)) e ∙ ap statements (case_is kind full parallel selector items fallback spot)

pub block_load : (a : Act) (body : Vec Act Global) → a ≡ act.Block body → statements (action a) ≡ 1 + load body.items
block_load a body e = ap (λ x. statements (action x)) e ∙ ap statements (block_is body)

pub act_load : (acts : List Act) (i : ℕ) (a : Act) → i < length acts → a ≡ get_or acts i a → statements (action a) ≤ load acts
act_load [] i a h is = absurd (omega arith)
act_load (x ∷ acts) zero a h is = let same = ap (λ b. statements (action b)) is in omega arith
act_load (x ∷ acts) (suc i) a h is =
    let below = act_load acts i a (omega arith) is in omega arith

pub item_load : (items : List CaseItem) (i : ℕ) (a : CaseItem) → i < length items → a ≡ get_or items i a → load a.body.items ≤ items_load items
item_load [] i a h is = absurd (omega arith)
item_load (x ∷ items) zero a h is = let same = ap (λ b. load b.body.items) is in omega arith
item_load (x ∷ items) (suc i) a h is =
    let below = item_load items i a (omega arith) is in omega arith
