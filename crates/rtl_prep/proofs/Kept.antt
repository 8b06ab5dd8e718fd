-- Tokens among which a step finds nothing to do: all of them are kept.
use Rattle.std.specs.Prelude.{ℕ, ◌+◌, ◌<◌, ◌≤◌, ◌||◌, Bool, true, false, None, List, [], ◌∷◌, ◌++◌, length, nat_lt, Ok, Err}
use Rattle.std.specs.List.{list_any}
use Rattle.std.proofs.Common.{◌≡◌, refl, sym, ap, ◌∙◌, append_assoc, length-append, arith}
use Rattle.std.proofs.lemmas.Bool.{cond-true, cond-false}
use Rattle.std.proofs.lemmas.Bool.Decides.{nat_tests}
use Rattle.rtl_tree.specs.declared.token.Tok.{Tok}
use Rattle.rtl_tree.specs.declared.token.Tok.TheVariants as tok
use Rattle.rtl_tree.specs.declared.token.Pragma.TheVariants as pragma
use Rattle.rtl_tree.specs.declared.token.Token.{Token}
use Rattle.rtl_tree.specs.declared.token.TheConstants.{MAX_TOKENS}
use Rattle.text_ground.specs.declared.dropped.Dropped.{Dropped}
use Rattle.rtl_prep.specs.declared.initial.Within.TheVariants.{Outside, Opened}
use Rattle.rtl_prep.specs.Stops.{Full, and_then, each}
use Rattle.rtl_prep.specs.Regions.{Cut, bounds, bounds_region, cut, cut_at, regions}
use Rattle.rtl_prep.specs.Initials.{Shed, is_initial, initial_at, shed, initials}
use Rattle.rtl_prep.specs.Macros.{is_directive, keep, no_macros, with_kept}
use Rattle.rtl_prep.specs.Reading.{Place, directive, read, taken, kept, with_gained}
use Rattle.rtl_prep.specs.Prepares.{conditions, outermost}
use Rattle.rtl_prep.proofs.Parts.{regions_ok, initials_ok}
use Rattle.rtl_prep.proofs.Passes.{conditions_ok}

or_first : (a b : Bool) → (a || b) ≡ false → a ≡ false
or_first true b h = h
or_first false b h = refl

or_second : (a b : Bool) → (a || b) ≡ false → b ≡ false
or_second true b h = cc
or_second false b h = h

pub first_not : {A : Type 0} (p : A → Bool) (x : A) (xs : List A) → list_any p (x ∷ xs) ≡ false → p x ≡ false
first_not p x xs h = or_first (p x) (list_any p xs) h

pub others_not : {A : Type 0} (p : A → Bool) (x : A) (xs : List A) → list_any p (x ∷ xs) ≡ false → list_any p xs ≡ false
others_not p x xs h = or_second (p x) (list_any p xs) h

nothing_behind : {A : Type 0} (xs : List A) → xs ++ [] ≡ xs
nothing_behind [] = refl
nothing_behind (x ∷ xs) = ap (λ ys. x ∷ ys) (nothing_behind xs)

-- ---- regions

abbrev outside : List Token → Cut
outside kept = record { opened = None; kept = kept; dropped = [] }

cut_kept : (kind : Tok) (ts : List Token) (t : Token) → bounds kind ≡ false → cut_at kind None (outside ts) t ≡ Ok (outside (ts ++ t ∷ []))
cut_kept tok.Word ts t h = refl
cut_kept (tok.Number value) ts t h = refl
cut_kept tok.Str ts t h = refl
cut_kept tok.Mark ts t h = refl
cut_kept tok.Directive ts t h = refl
cut_kept (tok.Pragma pragma.TranslateOff) ts t h = cc
cut_kept (tok.Pragma pragma.TranslateOn) ts t h = cc
cut_kept (tok.Pragma (pragma.Case full parallel)) ts t h = refl
cut_kept (tok.Pragma pragma.Loose) ts t h = refl

all_cut : (front ts : List Token) → list_any bounds_region ts ≡ false → each cut (outside front) ts ≡ Ok (outside (front ++ ts))
unfolding each cut
all_cut front [] h = ap (λ us. Ok (outside us)) (sym (nothing_behind front))
all_cut front (t ∷ ts) h =
    ap (λ o. and_then o (λ s. each cut s ts)) (cut_kept t.kind front t (first_not bounds_region t ts h))
    ∙ all_cut (front ++ t ∷ []) ts (others_not bounds_region t ts h)
    ∙ ap (λ us. Ok (outside us)) (append_assoc front (t ∷ []) ts)

pub no_regions : (ts : List Token) → list_any bounds_region ts ≡ false → regions ts ≡ Ok (outside ts)
no_regions ts h = regions_ok ts (outside ts) None (all_cut [] ts h) refl

-- ---- directives

abbrev place : List Token → Place
place kept = record { passed = 0; chains = []; macros = no_macros; gained = record { kept = kept; used = 0 } }

token_read : (text : List ℕ) (rest front : List Token) (t : Token) → is_directive t.kind ≡ false → length front < MAX_TOKENS
    → taken text rest (place front) t ≡ Ok (place (front ++ t ∷ []))
unfolding taken kept keep
token_read text rest front t plain room =
    cond-false (is_directive t.kind) (directive text rest (place front) t) (kept (place front) t) plain
    ∙ ap (λ o. and_then o (λ g. Ok (with_gained (place front) g)))
    (cond-true (nat_lt (length front) MAX_TOKENS) (Ok (with_kept (place front).gained t)) (Err (Full t.at)) (grind (arith, nat_tests)))

all_read : (text : List ℕ) (front ts : List Token) → list_any (λ t. is_directive t.kind) ts ≡ false → length front + length ts ≤ MAX_TOKENS
    → read text ts (place front) ≡ Ok (place (front ++ ts))
unfolding read
all_read text front [] h room = ap (λ us. Ok (place us)) (sym (nothing_behind front))
all_read text front (t ∷ ts) h room =
    ap (λ o. and_then o (read text ts)) (token_read text ts front t (first_not (λ t. is_directive t.kind) t ts h) (omega arith))
    ∙ all_read text (front ++ t ∷ []) ts (others_not (λ t. is_directive t.kind) t ts h) (omega (arith, length-append front (t ∷ [])))
    ∙ ap (λ us. Ok (place us)) (append_assoc front (t ∷ []) ts)

pub no_directives : (text : List ℕ) (ts : List Token) → list_any (λ t. is_directive t.kind) ts ≡ false → length ts ≤ MAX_TOKENS → conditions text ts ≡ Ok ts
unfolding outermost
no_directives text ts h room = conditions_ok text ts (place ts) (all_read text [] ts h (omega arith))

-- ---- initial constructs

abbrev none_open : List Dropped → List Token → Shed
none_open dropped kept = record { within = Outside; kept = kept; dropped = dropped }

all_shed : (text : List ℕ) (dropped : List Dropped) (front ts : List Token) → list_any (is_initial text) ts ≡ false
    → each (shed text) (none_open dropped front) ts ≡ Ok (none_open dropped (front ++ ts))
unfolding each shed
all_shed text dropped front [] h = ap (λ us. Ok (none_open dropped us)) (sym (nothing_behind front))
all_shed text dropped front (t ∷ ts) h =
    ap (λ s. each (shed text) s ts)
    (cond-false (is_initial text t) (record { within = Opened t.at; kept = front; dropped = dropped ++ initial_at t.at ∷ [] }) (none_open dropped (front ++ t ∷ []))
    (first_not (is_initial text) t ts h))
    ∙ all_shed text dropped (front ++ t ∷ []) ts (others_not (is_initial text) t ts h)
    ∙ ap (λ us. Ok (none_open dropped us)) (append_assoc front (t ∷ []) ts)

pub no_initials : (text : List ℕ) (dropped : List Dropped) (ts : List Token) → list_any (is_initial text) ts ≡ false
    → initials text dropped ts ≡ Ok (none_open dropped ts)
no_initials text dropped ts h = initials_ok text dropped ts (none_open dropped ts) None (all_shed text dropped [] ts h) refl
