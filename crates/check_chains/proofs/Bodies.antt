-- Bodies of one statement, from the statement's form.
use Rattle.std.specs.Prelude.{Bool, map, Vec, Option, Some, None}
use Rattle.std.specs.declared.alloc.Global.{Global}
use Rattle.std.proofs.Common.{◌≡◌, ◌∙◌, ◌<◌, List, [], ◌∷◌, length, ap, sym, refl, subst, arith}
use Rattle.text_ground.specs.declared.text.Spot.{Spot}
use Rattle.rtl_flat.specs.declared.act.Act.{Act}
use Rattle.rtl_flat.specs.declared.act.Act.TheVariants as act
use Rattle.rtl_flat.specs.declared.act.CaseItem.{CaseItem}
use Rattle.rtl_flat.specs.declared.act.CaseKind.{CaseKind}
use Rattle.rtl_flat.specs.declared.act.Target.{Target}
use Rattle.rtl_flat.specs.declared.expr.SizedExpr.{SizedExpr}
use Rattle.rtl_flat.specs.Expression.{tree}
use Rattle.rtl_flat.specs.Process.{Action, Set, If, Case, Block, Actions, Done, Then, Without, With, action, body_of}
use Rattle.rtl_flat.specs.WellFormed.{statements_of}
use Rattle.rtl_flat.proofs.ActViews.{block_is, if_else_is}
use Rattle.net_model.specs.Cycle.{opened}
use Rattle.net_model.specs.Cycle as cycle
use Rattle.rtl_flat.specs.Flats.{Flat}
use Rattle.rtl_flat.specs.Process.{Watched}
use Rattle.check_chains.specs.Chains.{headed}

-- ---- blocks that hold nothing but one statement

abbrev IsClosed : Actions → Type 0
IsClosed body = opened body ≡ body

two_closed : (a b : Action) (others : Actions) → IsClosed (Then a (Then b others))
two_closed (Set target e delayed spot) b others = refl
two_closed (If test taken other spot) b others = refl
two_closed (Case kind full parallel selector branches fallback spot) b others = refl
two_closed (Block body) b others = refl

-- a body that isn't one statement
pub several_closed : (body : List Act) → (length body ≡ 1 → ⊥) → IsClosed (body_of (map action body))
several_closed [] h = refl
several_closed (a ∷ []) h = absurd (h refl)
several_closed (a ∷ b ∷ others) h = two_closed (action a) (action b) (body_of (map action others))

-- a body that is one statement, by what that is
module _ (body : List Act) (one : Act) (is_one : body ≡ one ∷ []) where
  abbrev All : Actions
  All = body_of (map action body)

  is_then : (a : Action) → action one ≡ a → All ≡ Then a Done
  is_then a e = ap (λ (xs : List Act). body_of (map action xs)) is_one ∙ ap (λ (x : Action). Then x Done) e

  closed_by : (a : Action) → action one ≡ a → IsClosed (Then a Done) → IsClosed All
  closed_by a e h = subst IsClosed (sym (is_then a e)) h

  pub set_closed : (target : Target) (value : SizedExpr) (delayed : Bool) (spot : Spot) → one ≡ act.Set target value delayed spot → IsClosed All
  set_closed target value delayed spot e =
      closed_by (action (act.Set target value delayed spot)) (ap action e) refl

  pub if_closed : (test : SizedExpr) (taken : Vec Act Global) (other : Option (Vec Act Global)) (spot : Spot) → one ≡ act.If test taken other spot → IsClosed All
  if_closed test taken other spot e =
      closed_by (action (act.If test taken other spot)) (ap action e) refl

  pub case_closed : (kind : CaseKind) (full parallel : Bool) (selector : SizedExpr) (items : Vec CaseItem Global) (fallback : Option (Vec Act Global)) (spot : Spot) → one ≡ act.Case kind full parallel selector items fallback spot → IsClosed All
  case_closed kind full parallel selector items fallback spot e =
      closed_by (action (act.Case kind full parallel selector items fallback spot)) (ap action e) refl

  pub block_opened : (inner : Vec Act Global) (acts : List Act) → one ≡ act.Block inner → acts ≡ inner.items → (opened All ≡ opened (body_of (map action acts))) × (statements_of (body_of (map action acts)) < statements_of All)
  block_opened inner acts e same =
      let there : All ≡ Then (Block (body_of (map action acts))) Done
      = is_then _ (ap action e ∙ block_is inner ∙ ap (λ (xs : List Act). Block (body_of (map action xs))) (sym same)) in
      (ap opened there, subst (λ (b : Actions). statements_of (body_of (map action acts)) < statements_of b) (sym there) (omega arith))

-- ---- the `if` that a body is

module _ (d : Flat) (go : List Watched → Actions → Option cycle.Chain) (events : List Watched) where
  two_unheaded : (a b : Action) (others : Actions) → headed d go events (Then a (Then b others)) ≡ None
  two_unheaded (Set target e delayed spot) b others = refl
  two_unheaded (If test taken Without spot) b others = refl
  two_unheaded (If test taken (With other) spot) b others = refl
  two_unheaded (Case kind full parallel selector branches fallback spot) b others = refl
  two_unheaded (Block body) b others = refl

  -- a body that isn't one statement
  pub several_unheaded : (body : List Act) → (length body ≡ 1 → ⊥) → headed d go events (body_of (map action body)) ≡ None
  several_unheaded [] h = refl
  several_unheaded (a ∷ []) h = absurd (h refl)
  several_unheaded (a ∷ b ∷ others) h =
      two_unheaded (action a) (action b) (body_of (map action others))

pub choice_is : (all : Actions) (body : List Act) → all ≡ body_of (map action body) → (one : Act) → body ≡ one ∷ [] → (test : SizedExpr) (first : Vec Act Global) (second : Option (Vec Act Global)) (spot : Spot) → one ≡ act.If test first second spot → (other : Vec Act Global) → second ≡ Some other → (taken : List Act) → taken ≡ first.items → (left : List Act) → left ≡ other.items → (spot' : Spot) × (all ≡ Then (If (tree test) (body_of (map action taken)) (With (body_of (map action left))) spot') Done)
choice_is all body same one is_one test first second spot is other is_some taken same' left same'' =
    let here : action one ≡ If (tree test) (body_of (map action first.items)) (With (body_of (map action other.items))) spot
    = ap action is ∙ ap (λ (o : Option (Vec Act Global)). action (act.If test first o spot)) is_some ∙ if_else_is test first other spot in
    let shown : If (tree test) (body_of (map action first.items)) (With (body_of (map action other.items))) spot ≡ If (tree test) (body_of (map action taken)) (With (body_of (map action left))) spot
    = ap (λ (xs : List Act). If (tree test) (body_of (map action xs)) (With (body_of (map action other.items))) spot) (sym same')
    ∙ ap (λ (xs : List Act). If (tree test) (body_of (map action taken)) (With (body_of (map action xs))) spot) (sym same'') in
    (spot, same ∙ is_then body one is_one _ (here ∙ shown))
