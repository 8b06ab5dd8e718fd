-- What stands in statements and expressions, from their parts.
use Rattle.std.specs.Prelude.{Bool, false, List, [], ◌∷◌, ◌++◌, map, Vec, Option}
use Rattle.std.specs.declared.alloc.Global.{Global}
use Rattle.std.proofs.Common.{ℕ, ◌≡◌, ◌∙◌, ◌<◌, ◌+◌, refl, ap, sym, drop, length, get_or, append_assoc}
use Rattle.std.proofs.lemmas.List.{map-append, drop_more}
use Rattle.rtl_bits.specs.declared.Bit.{Bit}
use Rattle.text_ground.specs.declared.text.Spot.{Spot}
use Rattle.rtl_flat.specs.declared.expr.Index.TheVariants as index
use Rattle.rtl_flat.specs.declared.expr.Node.{Node, Row_of-SizedExpr, end_of-SizedExpr, more_of-SizedExpr}
use Rattle.rtl_flat.specs.declared.expr.Node.TheVariants as node
use Rattle.rtl_flat.specs.declared.expr.Select.TheVariants as select
use Rattle.rtl_flat.specs.declared.expr.SizedExpr.{SizedExpr}
use Rattle.rtl_flat.specs.declared.act.Act.{Act}
use Rattle.rtl_flat.specs.declared.act.Act.TheVariants as act
use Rattle.rtl_flat.specs.declared.act.CaseItem.{CaseItem}
use Rattle.rtl_flat.specs.declared.act.CaseKind.{CaseKind}
use Rattle.rtl_flat.specs.Expression.{Sized, form, row}
use Rattle.rtl_flat.specs.Flows.{labels_of}
use Rattle.rtl_flat.specs.Process.{action, body_of}
use Rattle.rtl_flat.proofs.ActViews.{block_is}
use Rattle.rtl_rule.specs.Parts.{all_branches, all_in, all_of, all_other, is_one_literal, own_labels}
use Rattle.rtl_scan.specs.Bodies.{branches_of, other_of}
use Rattle.rtl_scan.proofs.Bodies.{case_is, choice_is}

-- ---- lists that grow

-- what is left from one element on
pub left_at : {A : Type 0} (xs : List A) (i : ℕ) (x : A) → i < length xs → x ≡ get_or xs i x → drop i xs ≡ x ∷ drop (i + 1) xs
left_at xs i x below is = drop_more xs i x below ∙ ap (λ y. y ∷ drop (i + 1) xs) (sym is)

-- one more of those kept, and then the rest
pub pushed : {A B : Type 0} (f : A → B) (xs new : List A) (x : A) (ys : List B) → new ≡ xs ++ x ∷ [] → map f new ++ ys ≡ map f xs ++ (f x ∷ ys)
pushed f xs new x ys is =
    ap (λ all. map f all ++ ys) is ∙ (ap (λ all. all ++ ys) (map-append f xs (x ∷ [])) ∙ append_assoc (map f xs) (f x ∷ []) ys)

-- some more of those kept, and then the rest
pub joined : {A : Type 0} (old new own rest : List A) → new ≡ old ++ own → new ++ rest ≡ old ++ (own ++ rest)
joined old new own rest is = ap (λ all. all ++ rest) is ∙ append_assoc old own rest

-- ---- statements

pub if_within : (one : Act) (test : SizedExpr) (taken : Vec Act Global) (other : Option (Vec Act Global)) (spot : Spot) → one ≡ act.If test taken other spot → (body : List Act) → body ≡ taken.items → all_in (action one) ≡ action one ∷ all_of (body_of (map action body)) ++ all_other (other_of other)
if_within one test taken other spot is body same =
    let there = ap action is ∙ choice_is test taken other spot in
    ap all_in there ∙ (ap (λ x. x ∷ all_of (body_of (map action taken.items)) ++ all_other (other_of other)) (sym there)
    ∙ ap (λ xs. action one ∷ all_of (body_of (map action xs)) ++ all_other (other_of other)) (sym same))

pub case_within : (one : Act) (kind : CaseKind) (full parallel : Bool) (selector : SizedExpr) (items : Vec CaseItem Global) (fallback : Option (Vec Act Global)) (spot : Spot) → one ≡ act.Case kind full parallel selector items fallback spot → (all : List CaseItem) → all ≡ items.items → all_in (action one) ≡ action one ∷ all_branches (branches_of all) ++ all_other (other_of fallback)
case_within one kind full parallel selector items fallback spot is all same =
    let there = ap action is ∙ case_is kind full parallel selector items fallback spot in
    ap all_in there ∙ (ap (λ x. x ∷ all_branches (branches_of items.items) ++ all_other (other_of fallback)) (sym there)
    ∙ ap (λ xs. action one ∷ all_branches (branches_of xs) ++ all_other (other_of fallback)) (sym same))

pub block_within : (one : Act) (body : Vec Act Global) → one ≡ act.Block body → (all : List Act) → all ≡ body.items → all_in (action one) ≡ all_of (body_of (map action all))
block_within one body is all same =
    ap all_in (ap action is ∙ block_is body) ∙ ap (λ xs. all_of (body_of (map action xs))) (sym same)

-- a statement, what one part of it has and what another has
pub two_pushed : {A B : Type 0} (f : A → B) (old mid : List A) (x : A) (third last one two own : List B) → mid ≡ old ++ x ∷ [] → third ≡ map f mid ++ one → last ≡ third ++ two → own ≡ f x ∷ one ++ two → last ≡ map f old ++ own
two_pushed f old mid x third last one two own first second end is =
    end ∙ (ap (λ all. all ++ two) second ∙ (append_assoc (map f mid) one two
    ∙ (pushed f old mid x (one ++ two) first ∙ ap (λ all. map f old ++ all) (sym is))))

pub case_labels : (one : Act) (kind : CaseKind) (full parallel : Bool) (selector : SizedExpr) (items : Vec CaseItem Global) (fallback : Option (Vec Act Global)) (spot : Spot) → one ≡ act.Case kind full parallel selector items fallback spot → (all : List CaseItem) → all ≡ items.items → own_labels (action one) ≡ labels_of (branches_of all)
case_labels one kind full parallel selector items fallback spot is all same =
    ap own_labels (ap action is ∙ case_is kind full parallel selector items fallback spot)
    ∙ ap (λ xs. labels_of (branches_of xs)) (sym same)

-- ---- expressions

no_row_literal : (w : ℕ) (s : Bool) (at : Spot) (m : _) (parts : Row_of-SizedExpr m) → is_one_literal (Sized w s at (row parts)) ≡ false
no_row_literal w s at _ end_of-SizedExpr = refl
no_row_literal w s at _ (more_of-SizedExpr w' s' a at' others) = refl

pub no_literal : (w : ℕ) (s : Bool) (at : Spot) (e : Node) → ((bits : List Bit) → e ≡ node.Literal bits → ⊥) → is_one_literal (Sized w s at (form e)) ≡ false
no_literal w s at (node.Literal bits) else' = absurd (else' bits refl)
no_literal w s at (node.Read i select.Whole) else' = refl
no_literal w s at (node.Read i (select.Bit low (index.Fixed k))) else' = refl
no_literal w s at (node.Read i (select.Bit low (index.Computed' p w' s' a at'))) else' = refl
no_literal w s at (node.Read i (select.Part low width)) else' = refl
no_literal w s at (node.Concat' shape parts) else' = no_row_literal w s at _ parts
no_literal w s at _ else' = refl
