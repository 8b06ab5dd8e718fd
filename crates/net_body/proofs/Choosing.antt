-- The body of a case that runs.
use Rattle.std.proofs.Common.{◌≡◌, ◌<◌, ◌≤◌, ◌∙◌, ℕ, zero, suc, ◌*◌, Bool, true, false, cond, ◌&&◌, ◌||◌, List, [], ◌∷◌, get_or, length, map, Option, None, Some, refl, sym, subst, ap, arith}
use Rattle.std.specs.Prelude.{Vec, if◌then◌else◌}
use Rattle.std.specs.List.{All}
use Rattle.std.specs.declared.alloc.Global.{Global}
use Rattle.std.proofs.lemmas.List.Elements.{All-nil, All-cons, All-head, All-tail}
use Rattle.std.proofs.Math.Nat.{mul-le-mul_left}
use Rattle.rtl_bits.specs.declared.Bit.{Bit}
use Rattle.rtl_bits.specs.Bit.{is_one}
use Rattle.rtl_bits.specs.Bits.{truth_bit}
use Rattle.text_ground.specs.declared.text.Spot.{Spot}
use Rattle.rtl_flat.specs.declared.act.Act.{Act}
use Rattle.rtl_flat.specs.declared.act.Act.TheVariants as act
use Rattle.rtl_flat.specs.declared.act.CaseItem.{CaseItem}
use Rattle.rtl_flat.specs.declared.act.CaseKind.{CaseKind}
use Rattle.rtl_flat.specs.declared.expr.SizedExpr.{SizedExpr}
use Rattle.rtl_flat.specs.declared.signal.Signal.{Signal}
use Rattle.rtl_flat.specs.Expression.{Tree, tree}
use Rattle.rtl_flat.specs.Flows.{action_then, is_complete}
use Rattle.rtl_flat.specs.Paths.{End, may_write_blocking, may_write_delayed, may_write_late, may_write_now}
use Rattle.rtl_flat.specs.Process.{Action, Actions, Otherwise, Block, Case, If, Without, With, Branches, NoBranch, Branch, action, body_of}
use Rattle.rtl_flat.specs.Signs.{IsExpression, width_in}
use Rattle.rtl_flat.specs.Sizes.{width_of}
use Rattle.rtl_flat.specs.WellFormed.{AreBranches, IsOtherwise, branch_statements, other_statements}
use Rattle.rtl_flat.proofs.ActViews.{block_is}
use Rattle.rtl_scan.specs.Bodies.{branches_of, other_of}
use Rattle.rtl_scan.proofs.Bodies.{case_is, choice_is}
use Rattle.event_model.specs.Writes.{Values}
use Rattle.net_model.specs.declared.fill.Fill.{Fill}
use Rattle.net_model.specs.Block as block
use Rattle.net_model.specs.Block.{Maps, act_arms, act_first, act_other, acts, filled_case, item_meets, joined_arms, some_meets}
use Rattle.net_model.specs.Numbers.{digits}
use Rattle.net_body.specs.Bodies.{AreBodies, AreMatched, chosen_body, items_late, items_now, none_runs}
use Rattle.net_body.specs.Levels.{branch_levels, other_levels}
use Rattle.net_body.proofs.Filled.{filled_alike, or_none, some_case}

-- ---- what a statement is that holds others

pub if_action : (a : Act) (test : SizedExpr) (taken : Vec Act Global) (other : Option (Vec Act Global)) (spot : Spot) → a ≡ act.If test taken other spot → action a ≡ If (tree test) (body_of (map action taken.items)) (other_of other) spot
if_action a test taken other spot is = ap action is ∙ choice_is test taken other spot

pub case_action : (a : Act) (kind : CaseKind) (full parallel : Bool) (selector : SizedExpr) (items : Vec CaseItem Global) (fallback : Option (Vec Act Global)) (spot : Spot) → a ≡ act.Case kind full parallel selector items fallback spot → action a ≡ Case kind full parallel (tree selector) (branches_of items.items) (other_of fallback) spot
case_action a kind full parallel selector items fallback spot is =
    ap action is ∙ case_is kind full parallel selector items fallback spot

pub block_action : (a : Act) (body : Vec Act Global) → a ≡ act.Block body → action a ≡ Block (body_of (map action body.items))
block_action a body is = ap action is ∙ block_is body

-- ---- room

pub less_room : (a b n room : ℕ) → a ≤ b → b * n ≤ room → a * n ≤ room
less_room a b n room less fits = let most = mul-le-mul_left n less in omega (arith, most, fits)

-- ---- labels and bodies of a design

pub are_matched : (signals : List Signal) (selector : SizedExpr) (width : ℕ) (items : List CaseItem) → width ≡ selector.width → AreBranches signals (tree selector) (branches_of items) → AreMatched signals width items
are_matched signals selector width [] is h = tt
are_matched signals selector width (item ∷ items) is h = (
  labels (IsExpression signals) (λ label. IsExpression signals (tree label)) (λ label e. e) item.labels.items h.0,
  labels (λ label. width_of (width_in signals) label ≡ selector.width) (λ label. label.width ≡ width) (λ label e. e ∙ sym is) item.labels.items h.1,
  are_matched signals selector width items is h.4,
)
  where
    labels : (P : Tree → Type 0) (Q : SizedExpr → Type 0) → ((label : SizedExpr) → P (tree label) → Q label) → (es : List SizedExpr) → All P (map tree es) → All Q es
    labels P Q f [] h = All-nil Q
    labels P Q f (e ∷ es) h =
        All-cons Q e es (f e (All-head P (tree e) (map tree es) h)) (labels P Q f es (All-tail P (tree e) (map tree es) h))

pub are_bodies : (signals : List Signal) (selector : Tree) (branches : Branches) → AreBranches signals selector branches → AreBodies signals branches
are_bodies signals selector NoBranch h = tt
are_bodies signals selector (Branch labels body others) h =
    (h.3, are_bodies signals selector others h.4)

-- a body that may be chosen, as one that may be left out
abbrev pub as_other : Option Actions → Otherwise
as_other None = Without
as_other (Some body) = With body

module _ (f : Fill) (n : Values) (kind : CaseKind) (bits : List Bit) where
  pub chosen_statements : (branches : Branches) → other_statements (as_other (chosen_body f n kind bits branches)) ≤ branch_statements branches
  chosen_statements NoBranch = omega arith
  chosen_statements (Branch labels body others) =
      by_match (some_meets f n kind bits labels) (chosen_body f n kind bits others) (chosen_statements others)
    where
      by_match : (b : Bool) (c : Option Actions) → other_statements (as_other c) ≤ branch_statements others → other_statements (as_other (if b then Some body else c)) ≤ branch_statements (Branch labels body others)
      by_match true c h = omega arith
      by_match false c h = omega (arith, h)

  pub chosen_levels : (branches : Branches) → other_levels (as_other (chosen_body f n kind bits branches)) ≤ branch_levels branches
  chosen_levels NoBranch = omega arith
  chosen_levels (Branch labels body others) =
      by_match (some_meets f n kind bits labels) (chosen_body f n kind bits others) (chosen_levels others)
    where
      by_match : (b : Bool) (c : Option Actions) → other_levels (as_other c) ≤ branch_levels others → other_levels (as_other (if b then Some body else c)) ≤ branch_levels (Branch labels body others)
      by_match true c h = omega arith
      by_match false c h = omega (arith, h)

  pub chosen_lawful : (signals : List Signal) (selector : Tree) (branches : Branches) → AreBranches signals selector branches → IsOtherwise signals (as_other (chosen_body f n kind bits branches))
  chosen_lawful signals selector NoBranch h = tt
  chosen_lawful signals selector (Branch labels body others) h =
      by_match (some_meets f n kind bits labels) (chosen_body f n kind bits others) (chosen_lawful signals selector others h.4)
    where
      by_match : (b : Bool) (c : Option Actions) → IsOtherwise signals (as_other c) → IsOtherwise signals (as_other (if b then Some body else c))
      by_match true c e = h.3
      by_match false c e = e

-- ---- what a case makes

abbrev is_there : Option Actions → Bool
is_there None = false
is_there (Some body) = true

abbrev acts_of : (ℕ → ℕ) → Fill → Maps → Maps → Option Actions → Maps
acts_of ws f m none None = none
acts_of ws f m none (Some body) = acts ws f m body

meets_chosen : (f : Fill) (n : Values) (kind : CaseKind) (bits : List Bit) (branches : Branches) → item_meets f n kind bits branches ≡ is_there (chosen_body f n kind bits branches)
meets_chosen f n kind bits NoBranch = refl
meets_chosen f n kind bits (Branch labels body others) =
    by_match (some_meets f n kind bits labels) (item_meets f n kind bits others) (chosen_body f n kind bits others) (meets_chosen f n kind bits others)
  where
    by_match : (b meets : Bool) (c : Option Actions) → meets ≡ is_there c → (b || meets) ≡ is_there (if b then Some body else c)
    by_match true meets c e = refl
    by_match false meets c e = e

chosen_acts : (ws : ℕ → ℕ) (f : Fill) (m : Maps) (kind : CaseKind) (bits : List Bit) (none : Maps) (branches : Branches) → act_first ws f m kind bits none branches ≡ acts_of ws f m none (chosen_body f m.now kind bits branches)
chosen_acts ws f m kind bits none NoBranch = refl
chosen_acts ws f m kind bits none (Branch labels body others) =
    by_match (some_meets f m.now kind bits labels) (act_first ws f m kind bits none others) (chosen_body f m.now kind bits others) (chosen_acts ws f m kind bits none others)
  where
    by_match : (b : Bool) (made : Maps) (c : Option Actions) → made ≡ acts_of ws f m none c → (if b then acts ws f m body else made) ≡ acts_of ws f m none (if b then Some body else c)
    by_match true made c e = refl
    by_match false made c e = e

never_both : (p : Bool) (x y : Maps) → (if p && false then x else y) ≡ y
never_both true x y = refl
never_both false x y = refl

module _ (ws : ℕ → ℕ) (f : Fill) (m : Maps) (kind : CaseKind) (full parallel : Bool) (selector : Tree) (branches : Branches) (fallback : Otherwise) (spot : Spot) where
  abbrev bits : List Bit
  bits = digits f m.now selector

  abbrev past : Maps
  past = let flow = action_then ws (Case kind full parallel selector branches fallback spot) End in cond full (filled_case f (may_write_blocking flow) (may_write_delayed flow) m) m

  abbrev arms : Maps
  arms = joined_arms m (act_arms ws f m kind bits branches)

  abbrev first : Maps
  first = act_first ws f m kind bits (act_other ws f m past fallback) branches

  pub case_arms : (body : Actions) → Some body ≡ chosen_body f m.now kind bits branches → parallel ≡ true → arms ≡ block.act ws f m (Case kind full parallel selector branches fallback spot)
  case_arms body chosen side =
      sym (ap (λ p. if p && item_meets f m.now kind bits branches then arms else first) side
      ∙ ap (λ b. if b then arms else first) (meets_chosen f m.now kind bits branches ∙ ap is_there (sym chosen)))

  pub case_first : (body : Actions) → Some body ≡ chosen_body f m.now kind bits branches → parallel ≡ false → acts ws f m body ≡ block.act ws f m (Case kind full parallel selector branches fallback spot)
  case_first body chosen side =
      sym (ap (λ p. if p && item_meets f m.now kind bits branches then arms else first) side
      ∙ chosen_acts ws f m kind bits (act_other ws f m past fallback) branches ∙ ap (acts_of ws f m (act_other ws f m past fallback)) (sym chosen))

  past_is : (other : Otherwise) → fallback ≡ other → act_other ws f m past other ≡ none_runs ws f full branches other m
  past_is Without is =
      ap (λ x. cond full x m)
      (ap (λ o. let flow = action_then ws (Case kind full parallel selector branches o spot) End in filled_case f (may_write_blocking flow) (may_write_delayed flow) m) is
      ∙ filled_alike f (may_write_blocking (action_then ws (Case kind full parallel selector branches Without spot) End)) (may_write_delayed (action_then ws (Case kind full parallel selector branches Without spot) End)) (items_now ws branches) (items_late ws branches) m
      (λ i k. or_none _ ∙ some_case (may_write_now i k) ws (is_complete ws kind full selector branches) Without branches)
      (λ i k. or_none _ ∙ some_case (may_write_late i k) ws (is_complete ws kind full selector branches) Without branches))
  past_is (With body) is = refl

  pub case_none : None ≡ chosen_body f m.now kind bits branches → none_runs ws f full branches fallback m ≡ block.act ws f m (Case kind full parallel selector branches fallback spot)
  case_none chosen =
      sym (ap (λ b. if parallel && b then arms else first) (meets_chosen f m.now kind bits branches ∙ ap is_there (sym chosen))
      ∙ never_both parallel arms first
      ∙ chosen_acts ws f m kind bits (act_other ws f m past fallback) branches ∙ ap (acts_of ws f m (act_other ws f m past fallback)) (sym chosen)
      ∙ past_is fallback refl)

-- which branch of an `if` runs
pub taken_runs : (ws : ℕ → ℕ) (f : Fill) (m : Maps) (a : Action) (test : Tree) (taken : Actions) (other : Otherwise) (spot : Spot) → a ≡ If test taken other spot → true ≡ is_one (truth_bit (digits f m.now test)) → acts ws f m taken ≡ block.act ws f m a
taken_runs ws f m a test taken other spot is holds =
    ap (λ b. if b then acts ws f m taken else act_other ws f m m other) holds ∙ sym (ap (block.act ws f m) is)

pub other_runs : (ws : ℕ → ℕ) (f : Fill) (m : Maps) (a : Action) (test : Tree) (taken : Actions) (other : Otherwise) (spot : Spot) → a ≡ If test taken other spot → false ≡ is_one (truth_bit (digits f m.now test)) → act_other ws f m m other ≡ block.act ws f m a
other_runs ws f m a test taken other spot is fails =
    ap (λ b. if b then acts ws f m taken else act_other ws f m m other) fails ∙ sym (ap (block.act ws f m) is)

-- the labels of one item
pub matched_at : (signals : List Signal) (width : ℕ) (items : List CaseItem) (i : ℕ) (item : CaseItem) → AreMatched signals width items → i < length items → item ≡ get_or items i item → All (λ label. IsExpression signals (tree label)) item.labels.items × All (λ label. label.width ≡ width) item.labels.items
matched_at signals width [] i item h below is = absurd (omega (arith, below))
matched_at signals width (x ∷ items) zero item h below is =
    subst (λ (one : CaseItem). All (λ label. IsExpression signals (tree label)) one.labels.items × All (λ label. label.width ≡ width) one.labels.items) (sym is) (h.0, h.1)
matched_at signals width (x ∷ items) (suc i) item h below is =
    matched_at signals width items i item h.2 (omega (arith, below)) is
