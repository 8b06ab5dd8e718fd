-- The comments that tell nothing, in the words of the code.
use Rattle.std.proofs.Common.{◌≡◌, ℕ, suc, ◌+◌, ◌<◌, ◌≤◌, Bool, false, cond, List, [], ◌∷◌, ◌++◌, length, drop, reverse, get_or, Result, Ok, refl, sym, ap, ap₂, ◌∙◌, add-one, append_assoc, length-drop, arith}
use Rattle.std.specs.List.{list_any}
use Rattle.std.proofs.Math.Seq.{drop-cons}
use Rattle.std.proofs.lemmas.List.{reverse-append}
use Rattle.rtl_tree.specs.declared.token.Tok.{Tok}
use Rattle.rtl_tree.specs.declared.token.Tok.TheVariants as tok
use Rattle.rtl_tree.specs.declared.token.Token.{Token}
use Rattle.text_ground.specs.declared.dropped.Dropped.{Dropped}
use Rattle.rtl_prep.specs.declared.comments.Last.{Last}
use Rattle.rtl_prep.specs.declared.comments.Last.TheVariants as last
use Rattle.rtl_prep.specs.Comments.{Place, is_pragma, opens_head, opened, behind_close, closed_from, behind, tells_nothing, comment_at, comment_of, comments_from}
use Rattle.rtl_prep.proofs.Kept.{first_not, others_not}

-- ---- brackets, in the words of a stack whose top is its last element

more_reversed : (hs : List Bool) (b : Bool) → reverse (hs ++ b ∷ []) ≡ b ∷ reverse hs
more_reversed hs b = reverse-append hs (b ∷ [])

pub opened_more : (before : Last) (hs hs' : List Bool) → hs' ≡ hs ++ opens_head before ∷ []
    → opened (record { last = before; heads = reverse hs }) ≡ record { last = last.Other; heads = reverse hs' }
opened_more before hs hs' e = ap (λ l. record { last = last.Other; heads = l }) (sym (ap reverse e ∙ more_reversed hs (opens_head before)))

pub closed_some : (hs hs' : List Bool) (b : Bool) → hs ≡ hs' ++ b ∷ [] → closed_from (reverse hs) ≡ record { last = behind_close b; heads = reverse hs' }
closed_some hs hs' b e = ap closed_from (ap reverse e ∙ more_reversed hs' b)

pub closed_none : (hs hs' : List Bool) → hs ≡ [] → hs' ≡ [] → closed_from (reverse hs) ≡ record { last = last.Other; heads = reverse hs' }
closed_none hs hs' e f = ap (λ l. closed_from (reverse l)) e ∙ ap (λ l. record { last = last.Other; heads = reverse l }) (sym f)

-- ---- turns

pub same_ok : {A E : Type 0} (x y : A) → ◌≡◌ {A = Result A E} (Ok x) (Ok y) → x ≡ y
same_ok x y h = cc

from_first : (text : List ℕ) (p : Place) (t : Token) (ts : List Token) → comments_from text p (t ∷ ts) ≡ comment_of p.last t ++ comments_from text (behind text p t) ts
unfolding comments_from
from_first text p t ts = refl

pub from_turn : (text : List ℕ) (p p' : Place) (ds ds' : List Dropped) (ts : List Token) (i : ℕ) (d : Token) → i < length ts → behind text p (get_or ts i d) ≡ p'
    → ds' ≡ ds ++ comment_of p.last (get_or ts i d) → ds' ++ comments_from text p' (drop (i + 1) ts) ≡ ds ++ comments_from text p (drop i ts)
from_turn text p p' ds ds' ts i d h e f =
    let t = get_or ts i d in
    ap₂ (λ xs q. xs ++ comments_from text q (drop (i + 1) ts)) f (sym e)
    ∙ append_assoc ds (comment_of p.last t) (comments_from text (behind text p t) (drop (i + 1) ts))
    ∙ ap (λ n. ds ++ (comment_of p.last t ++ comments_from text (behind text p t) (drop n ts))) (add-one i)
    ∙ ap (λ xs. ds ++ xs) (sym (ap (λ us. comments_from text p us) (drop-cons ts i d h) ∙ from_first text p t (drop (suc i) ts)))

none_left : (text : List ℕ) (p : Place) (ts : List Token) → length ts ≡ 0 → comments_from text p ts ≡ []
unfolding comments_from
none_left text p [] h = refl
none_left text p (t ∷ ts) h = absurd (omega arith)

pub from_end : (text : List ℕ) (p : Place) (ts : List Token) (i : ℕ) → length ts ≤ i → comments_from text p (drop i ts) ≡ []
from_end text p ts i h = none_left text p (drop i ts) (omega (arith, length-drop i ts))

quiet : (before : Last) (kind : Tok) → is_pragma kind ≡ false → tells_nothing before kind ≡ false
quiet before tok.Word h = refl
quiet before (tok.Number value) h = refl
quiet before tok.Str h = refl
quiet before tok.Mark h = refl
quiet before tok.Directive h = refl
quiet before (tok.Pragma said) h = cc

pub no_comments : (text : List ℕ) (p : Place) (ts : List Token) → list_any (λ t. is_pragma t.kind) ts ≡ false → comments_from text p ts ≡ []
unfolding comments_from
no_comments text p [] h = refl
no_comments text p (t ∷ ts) h =
    ap (λ o. cond o (comment_at t.at ∷ []) [] ++ comments_from text (behind text p t) ts) (quiet p.last t.kind (first_not (λ t. is_pragma t.kind) t ts h))
    ∙ no_comments text (behind text p t) ts (others_not (λ t. is_pragma t.kind) t ts h)
