-- The body of a case that is chosen.
use Rattle.std.proofs.Common.{◌≡◌, ◌≤◌, ◌∙◌, ℕ, Bool, true, false, List, [], ◌∷◌, map, Option, None, Some, refl, sym, arith}
use Rattle.std.specs.Prelude.{if◌then◌else◌}
use Rattle.std.specs.List.{All}
use Rattle.std.proofs.lemmas.List.Elements.{All-nil, All-cons, All-head, All-tail}
use Rattle.rtl_bits.specs.declared.Bit.{Bit}
use Rattle.rtl_flat.specs.declared.act.CaseItem.{CaseItem}
use Rattle.rtl_flat.specs.declared.act.CaseKind.{CaseKind}
use Rattle.rtl_flat.specs.declared.expr.SizedExpr.{SizedExpr}
use Rattle.rtl_flat.specs.declared.signal.Signal.{Signal}
use Rattle.rtl_flat.specs.Expression.{Tree, tree}
use Rattle.rtl_flat.specs.Process.{Actions, Otherwise, Without, With, Branches, NoBranch, Branch}
use Rattle.rtl_flat.specs.Signs.{IsExpression, width_in}
use Rattle.rtl_flat.specs.Sizes.{width_of}
use Rattle.rtl_flat.specs.WellFormed.{AreBranches, IsOtherwise, branch_statements, other_statements}
use Rattle.rtl_scan.specs.Bodies.{branches_of}
use Rattle.event_model.specs.Bodies.{Made, body_made, branches_made, some_matches}
use Rattle.event_model.specs.Writes.{Values}
use Rattle.event_write.specs.Choices.{AreMatched, chosen_body}
use Rattle.event_write.specs.Rooms.{branch_rooms, other_room}

-- labels of a design are as wide as their selector
pub are_matched : (signals : List Signal) (selector : SizedExpr) (width : ℕ) (items : List CaseItem) → width ≡ selector.width → AreBranches signals (tree selector) (branches_of items) → AreMatched signals width items
are_matched signals selector width [] is h = tt
are_matched signals selector width (item ∷ items) is h = (
  labels (IsExpression signals) (λ label. IsExpression signals (tree label)) (λ label e. e) item.labels.items h.0,
  labels (λ label. width_of (width_in signals) label ≡ selector.width) (λ label. label.width ≡ width) (λ label e. e ∙ sym is) item.labels.items h.1,
  are_matched signals selector width items is h.4,
)
  where
    labels : (P : Tree → Type 0) (Q : SizedExpr → Type 0) → ((label : SizedExpr) → P (tree label) → Q label) → (es : List SizedExpr) → All P (map tree es) → All Q es
    labels P Q f [] h = All-nil Q
    labels P Q f (e ∷ es) h =
        All-cons Q e es (f e (All-head P (tree e) (map tree es) h)) (labels P Q f es (All-tail P (tree e) (map tree es) h))

-- what is made of a body that may be chosen
abbrev pub made_of : (ℕ → ℕ) → Values → List Made → Option Actions → List Made
made_of ws v none None = none
made_of ws v none (Some body) = body_made ws v body

pub chosen_made : (ws : ℕ → ℕ) (v : Values) (kind : CaseKind) (bits : List Bit) (none : List Made) (branches : Branches) → branches_made ws v kind bits none branches ≡ made_of ws v none (chosen_body kind v bits branches)
chosen_made ws v kind bits none NoBranch = refl
chosen_made ws v kind bits none (Branch labels body others) =
    by_match (some_matches kind v bits labels) (branches_made ws v kind bits none others) (chosen_body kind v bits others) (chosen_made ws v kind bits none others)
  where
    by_match : (b : Bool) (made : List Made) (c : Option Actions) → made ≡ made_of ws v none c → (if b then body_made ws v body else made) ≡ made_of ws v none (if b then Some body else c)
    by_match true made c e = refl
    by_match false made c e = e

-- a body that may be chosen, as one that may be left out
abbrev pub as_other : Option Actions → Otherwise
as_other None = Without
as_other (Some body) = With body

pub chosen_statements : (kind : CaseKind) (v : Values) (bits : List Bit) (branches : Branches) → other_statements (as_other (chosen_body kind v bits branches)) ≤ branch_statements branches
chosen_statements kind v bits NoBranch = omega arith
chosen_statements kind v bits (Branch labels body others) =
    by_match (some_matches kind v bits labels) (chosen_body kind v bits others) (chosen_statements kind v bits others)
  where
    by_match : (b : Bool) (c : Option Actions) → other_statements (as_other c) ≤ branch_statements others → other_statements (as_other (if b then Some body else c)) ≤ branch_statements (Branch labels body others)
    by_match true c h = omega arith
    by_match false c h = omega (arith, h)

pub chosen_room : (kind : CaseKind) (v : Values) (bits : List Bit) (branches : Branches) → other_room (as_other (chosen_body kind v bits branches)) ≤ branch_rooms branches
chosen_room kind v bits NoBranch = omega arith
chosen_room kind v bits (Branch labels body others) =
    by_match (some_matches kind v bits labels) (chosen_body kind v bits others) (chosen_room kind v bits others)
  where
    by_match : (b : Bool) (c : Option Actions) → other_room (as_other c) ≤ branch_rooms others → other_room (as_other (if b then Some body else c)) ≤ branch_rooms (Branch labels body others)
    by_match true c h = omega arith
    by_match false c h = omega (arith, h)

pub chosen_lawful : (signals : List Signal) (selector : Tree) (kind : CaseKind) (v : Values) (bits : List Bit) (branches : Branches) → AreBranches signals selector branches → IsOtherwise signals (as_other (chosen_body kind v bits branches))
chosen_lawful signals selector kind v bits NoBranch h = tt
chosen_lawful signals selector kind v bits (Branch labels body others) h =
    by_match (some_matches kind v bits labels) (chosen_body kind v bits others) (chosen_lawful signals selector kind v bits others h.4)
  where
    by_match : (b : Bool) (c : Option Actions) → IsOtherwise signals (as_other c) → IsOtherwise signals (as_other (if b then Some body else c))
    by_match true c e = h.3
    by_match false c e = e
