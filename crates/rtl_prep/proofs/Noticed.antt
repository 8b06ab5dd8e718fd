-- The directives that are read, in the words of a loop over the tokens.
use Rattle.std.specs.Prelude.{ℕ, suc, ◌+◌, ◌<◌, ◌≤◌, ◌&&◌, Bool, true, false, nat_eq, Option, None, List, [], ◌∷◌, ◌++◌, length, drop, get_or, Result, Ok, Err}
use Rattle.std.specs.Option.{option_map, option_to_list}
use Rattle.std.specs.List.{list_any}
use Rattle.std.proofs.Common.{◌≡◌, refl, sym, ap, ◌∙◌, subst, cond, add-one, append_assoc, length-drop, arith}
use Rattle.std.proofs.lemmas.List.{append-nil}
use Rattle.std.proofs.Math.Seq.{drop-cons}
use Rattle.rtl_tree.specs.declared.token.Token.{Token}
use Rattle.rtl_tree.specs.Prepared.{Ready}
use Rattle.rtl_prep.specs.Stops.{Stop}
use Rattle.rtl_prep.specs.Regions.{Cut, regions}
use Rattle.rtl_prep.specs.Directives.{name_of, directive_of}
use Rattle.rtl_prep.specs.Macros.{is_directive}
use Rattle.rtl_prep.specs.Reading.{Place, taken}
use Rattle.rtl_prep.specs.Prepares.{start, prepared}
use Rattle.rtl_prep.specs.Conditions.{FileConditions, Notice, notice, notice_at, and_on, notices, outside, left, asked_by, asked}
use Rattle.rtl_prep.proofs.Kept.{first_not, others_not}

first_read : (text : List ℕ) (p : Place) (t : Token) (ts : List Token) (o : Result Place Stop) → taken text ts p t ≡ o → notices text (t ∷ ts) p ≡ option_to_list (notice_at text ts p t) ++ and_on o (notices text ts)
unfolding notices
first_read text p t ts o e = ap (λ o. option_to_list (notice_at text ts p t) ++ and_on o (notices text ts)) e

pub notices_turn : (text text' : List ℕ) (p q : Place) (ts rest : List Token) (i : ℕ) (t d : Token) (ns ns' all : List Notice) → i < length ts → text' ≡ text → rest ≡ drop (i + 1) ts → t ≡ get_or ts i d
    → taken text' rest p t ≡ Ok q → ns' ≡ ns ++ option_to_list (notice_at text rest p t) → ns ++ notices text (drop i ts) p ≡ all → ns' ++ notices text (drop (i + 1) ts) q ≡ all
notices_turn text text' p q ts rest i t d ns ns' all h x r u e f g =
    let u' = get_or ts i d in
    let left : rest ≡ drop (suc i) ts = r ∙ ap (λ n. drop n ts) (add-one i) in
    ap (λ made. made ++ notices text (drop (i + 1) ts) q) f
    ∙ append_assoc ns (option_to_list (notice_at text rest p t)) (notices text (drop (i + 1) ts) q)
    ∙ ap (λ n. ns ++ (option_to_list (notice_at text rest p t) ++ notices text (drop n ts) q)) (add-one i)
    ∙ ap (λ us. ns ++ (option_to_list (notice_at text us p t) ++ notices text (drop (suc i) ts) q)) left
    ∙ ap (λ v. ns ++ (option_to_list (notice_at text (drop (suc i) ts) p v) ++ notices text (drop (suc i) ts) q)) u
    ∙ ap (λ made. ns ++ made) (sym (first_read text p u' (drop (suc i) ts) (Ok q) (subst (λ v. taken text (drop (suc i) ts) p v ≡ Ok q) u (subst (λ us. taken text us p t ≡ Ok q) left (subst (λ s. taken s rest p t ≡ Ok q) x e)))))
    ∙ ap (λ us. ns ++ notices text us p) (sym (drop-cons ts i d h))
    ∙ g

none_left : (text : List ℕ) (p : Place) (ts : List Token) → length ts ≡ 0 → notices text ts p ≡ []
unfolding notices
none_left text p [] h = refl
none_left text p (t ∷ ts) h = absurd (omega arith)

pub notices_end : (text : List ℕ) (p : Place) (ts : List Token) (i : ℕ) (ns all : List Notice) → length ts ≤ i → ns ++ notices text (drop i ts) p ≡ all → ns ≡ all
notices_end text p ts i ns all h e =
    sym (append-nil ns) ∙ ap (λ made. ns ++ made) (sym (none_left text p (drop i ts) (omega (arith, length-drop i ts)))) ∙ e

-- ---- a text without directives

never : (a b : Bool) (o : Option Notice) → b ≡ false → cond (a && b) o None ≡ None
never true true o h = cc
never true false o h = refl
never false b o h = refl

none_on : (o : Result Place Stop) (others : Place → List Notice) → ((p : Place) → others p ≡ []) → and_on o others ≡ []
none_on (Ok p) others h = h p
none_on (Err stop) others h = refl

pub no_notices : (text : List ℕ) (ts : List Token) (p : Place) → list_any (λ t. is_directive t.kind) ts ≡ false → notices text ts p ≡ []
unfolding notices
no_notices text [] p h = refl
no_notices text (t ∷ ts) p h =
    ap (λ o. option_to_list o ++ and_on (taken text ts p t) (notices text ts))
    (never (nat_eq p.passed 0) (is_directive t.kind) (option_map (notice text ts p t) (directive_of (name_of text t))) (first_not (λ t. is_directive t.kind) t ts h))
    ∙ none_on (taken text ts p t) (notices text ts) (λ q. no_notices text ts q (others_not (λ t. is_directive t.kind) t ts h))

-- ---- the text as a whole

pub asked_is : (text : List ℕ) (ts : List Token) (c : Cut) (ready : Ready) (ns : List Notice) (made : FileConditions) → regions ts ≡ Ok c → ns ≡ notices text c.kept start → prepared text ts ≡ Ok ready
    → made ≡ asked_by text ns ready.tokens → made ≡ asked text ts
unfolding asked
asked_is text ts c ready ns made r n p m =
    m
    ∙ ap (λ found. asked_by text found ready.tokens) (n ∙ ap (λ o. notices text (outside o) start) (sym r))
    ∙ ap (λ o. asked_by text (notices text (outside (regions ts)) start) (left o)) (sym p)
