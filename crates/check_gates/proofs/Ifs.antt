-- Statements that are an `if` without `else`.
use Rattle.std.specs.Prelude.{map, Vec, Option, Some, None}
use Rattle.std.specs.declared.alloc.Global.{Global}
use Rattle.std.proofs.Common.{◌≡◌, ◌∙◌, Bool, true, false, List, [], ◌∷◌, length, ap, sym, refl}
use Rattle.std.proofs.lemmas.Bool.{false≢true}
use Rattle.text_ground.specs.declared.text.Spot.{Spot}
use Rattle.rtl_flat.specs.declared.act.Act.{Act}
use Rattle.rtl_flat.specs.declared.act.Act.TheVariants as act
use Rattle.rtl_flat.specs.declared.act.CaseItem.{CaseItem}
use Rattle.rtl_flat.specs.declared.act.CaseKind.{CaseKind}
use Rattle.rtl_flat.specs.declared.act.Target.{Target}
use Rattle.rtl_flat.specs.declared.expr.SizedExpr.{SizedExpr}
use Rattle.rtl_flat.specs.Expression.{tree}
use Rattle.rtl_flat.specs.Process.{Action, Set, If, Case, Block, Actions, Done, Then, Without, With, action, body_of}
use Rattle.rtl_flat.proofs.ActViews.{block_is, if_else_is, if_is}
use Rattle.check_gates.specs.Forms.{IsNotLone}

abbrev is_lone : Actions → Bool
is_lone (Then (If test branch Without spot) Done) = true
is_lone _ = false

not_lone : (body : Actions) → is_lone body ≡ false → IsNotLone body
not_lone body h test branch spot e = false≢true (sym h ∙ ap is_lone e)

several : (a b : Action) (others : Actions) → is_lone (Then a (Then b others)) ≡ false
several (Set target e delayed spot) b others = refl
several (If test taken Without spot) b others = refl
several (If test taken (With other) spot) b others = refl
several (Case kind full parallel selector branches fallback spot) b others = refl
several (Block body) b others = refl

-- a body that isn't one statement
pub several_not_lone : (body : List Act) → (length body ≡ 1 → ⊥) → IsNotLone (body_of (map action body))
several_not_lone [] h = not_lone Done refl
several_not_lone (a ∷ []) h = absurd (h refl)
several_not_lone (a ∷ b ∷ others) h =
    not_lone (body_of (map action (a ∷ b ∷ others))) (several (action a) (action b) (body_of (map action others)))

module _ (one : Act) where
  abbrev Alone : Actions
  Alone = Then (action one) Done

  by_form : (a : Action) → action one ≡ a → is_lone (Then a Done) ≡ false → IsNotLone Alone
  by_form a e h = not_lone Alone (ap (λ (x : Action). is_lone (Then x Done)) e ∙ h)

  pub set_not_lone : (target : Target) (value : SizedExpr) (delayed : Bool) (spot : Spot) → one ≡ act.Set target value delayed spot → IsNotLone Alone
  set_not_lone target value delayed spot e =
      by_form (action (act.Set target value delayed spot)) (ap action e) refl

  pub case_not_lone : (kind : CaseKind) (full parallel : Bool) (selector : SizedExpr) (items : Vec CaseItem Global) (fallback : Option (Vec Act Global)) (spot : Spot) → one ≡ act.Case kind full parallel selector items fallback spot → IsNotLone Alone
  case_not_lone kind full parallel selector items fallback spot e =
      by_form (action (act.Case kind full parallel selector items fallback spot)) (ap action e) refl

  pub block_not_lone : (inner : Vec Act Global) → one ≡ act.Block inner → IsNotLone Alone
  block_not_lone inner e =
      by_form (Block (body_of (map action inner.items))) (ap action e ∙ block_is inner) refl

  pub else_not_lone : (test : SizedExpr) (taken : Vec Act Global) (second : Option (Vec Act Global)) (spot : Spot) → one ≡ act.If test taken second spot → (other : Vec Act Global) → second ≡ Some other → IsNotLone Alone
  else_not_lone test taken second spot e other is =
      by_form (If (tree test) (body_of (map action taken.items)) (With (body_of (map action other.items))) spot)
      (ap action e ∙ ap (λ (o : Option (Vec Act Global)). action (act.If test taken o spot)) is ∙ if_else_is test taken other spot) refl

  pub lone_is : (test : SizedExpr) (taken : Vec Act Global) (second : Option (Vec Act Global)) (spot : Spot) → one ≡ act.If test taken second spot → second ≡ None → (acts : List Act) → acts ≡ taken.items → (at : Spot) × (Alone ≡ Then (If (tree test) (body_of (map action acts)) Without at) Done)
  lone_is test taken second spot e none acts same = (
    spot,
    ap (λ (x : Action). Then x Done) (ap action e ∙ ap (λ (o : Option (Vec Act Global)). action (act.If test taken o spot)) none ∙ if_is test taken spot
        ∙ ap (λ (xs : List Act). If (tree test) (body_of (map action xs)) Without spot) (sym same)),
  )
