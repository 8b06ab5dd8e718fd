-- What is spelled is read: lists, with and without separators.
use Rattle.std.proofs.Common.{◌≡◌, ℕ, zero, suc, ◌<◌, ◌≤◌, Bool, true, false, List, [], ◌∷◌, ◌++◌, length, Some, refl, sym, ap, subst, ◌∙◌, append_assoc, append-nil, max, arith}
use Rattle.rtl_tree.specs.declared.symbol.Symbol.{Symbol}
use Rattle.rtl_tree.specs.declared.symbol.Symbol.TheVariants as symbol
use Rattle.rtl_tree.specs.Symbols.{Terminal}
use Rattle.text_grammar.specs.Grammar.{Spelling, ◌⨾◌, IsA, AreMore, AreListed}
use Rattle.text_grammar.specs.Depth.{greatest}
use Rattle.text_build.specs.Reading.{Parser, starts, after, add, until_in, until, links, commas, listed}
use Rattle.text_build.proofs.Steps.{lists_turn, lists_stop, until_turn, until_stop}
use Rattle.text_build.proofs.Laws.Tokens.{starts_is, after_is}

-- nothing is longer after it was read
abbrev pub Shrinks : Spelling → Type 0
Shrinks s = (ts rest : List Terminal) → s ts rest → length rest ≤ length ts

abbrev pub Consumes : Spelling → Type 0
Consumes s = (ts rest : List Terminal) → s ts rest → length rest < length ts

-- what is spelled, nested at most `d` deep and followed by what may follow, is read as just that
abbrev pub Again : {A : Type 0} → (A → ℕ) → ℕ → Parser A → (A → Spelling) → (List Terminal → Type 0) → Type 0
Again f d p Is Follows = (x : _) (ts rest : List Terminal) → Is x ts rest → f x ≤ d → Follows rest → p ts ≡ Some (x, rest)

-- what a separator is to a loop over a list
pub record Separates (Between : Spelling) (Follows : List Terminal → Type 0) (test : List Terminal → Bool) (left : List Terminal → List Terminal) (ts mid : List Terminal) : Type 0 where
  pub follows : Follows ts
  pub goes : test ts ≡ true
  pub leaves : left ts ≡ mid
  pub shorter : length ts ≡ suc (length mid)

-- further ones, each after a separator
pub record Furthers {A : Type 0} (Is : A → Spelling) (Between : Spelling) (More : List A → Spelling) : Type 0 where
  pub at_end : (ts rest : List Terminal) → More [] ts rest → ts ≡ rest
  pub goes_on : (x : A) (xs : List A) (ts rest : List Terminal) → More (x ∷ xs) ts rest → (Between ⨾ Is x ⨾ More xs) ts rest

-- what ends a list
pub record Ends (Follows : List Terminal → Type 0) (test : List Terminal → Bool) (left : List Terminal → List Terminal) (rest : List Terminal) : Type 0 where
  pub follows : Follows rest
  pub stops : test rest ≡ false
  pub leaves : left rest ≡ rest
  pub some : 1 ≤ length rest

module _ {A : Type 0} (Is : A → Spelling) (Between : Spelling) (More : List A → Spelling) (Follows : List Terminal → Type 0) (test : List Terminal → Bool) (left : List Terminal → List Terminal) (f : A → ℕ) (d : ℕ) (p : Parser A) where
  pub lists_again : Again f d p Is Follows → ((x : A) → Shrinks (Is x)) → ((ts mid : List Terminal) → Between ts mid → Separates Between Follows test left ts mid) → Furthers Is Between More
      → (n : ℕ) (found : List A) (x : A) (xs : List A) (ts mid rest : List Terminal) → length ts ≤ n → Is x ts mid → More xs mid rest → max (f x) (greatest f xs) ≤ d → Ends Follows test left rest
      → links n test left (add p) found ts ≡ Some (found ++ x ∷ xs, rest)
  lists_again again shrinks sep more zero found x [] ts mid rest l w m h e =
      absurd (omega (arith, l, shrinks x ts mid w, ap length (more.at_end mid rest m), e.some))
  lists_again again shrinks sep more zero found x (y ∷ ys) ts mid rest l w m h e =
      let v = more.goes_on y ys mid rest m in
      absurd (omega (arith, l, shrinks x ts mid w, (sep mid v.0 v.1).shorter))
  lists_again again shrinks sep more (suc n) found x [] ts mid rest l w m h e =
      let q = more.at_end mid rest m in
      lists_stop (suc n) test left p found (found ++ x ∷ []) ts mid rest x (omega arith) (again x ts mid w (omega (arith, h)) (subst Follows (sym q) e.follows)) refl
      (ap test q ∙ e.stops) (sym (ap left q ∙ e.leaves))
  lists_again again shrinks sep more (suc n) found x (y ∷ ys) ts mid rest l w m h e =
      let v = more.goes_on y ys mid rest m in
      let s = sep mid v.0 v.1 in
      lists_turn (suc n) n test left p found (found ++ x ∷ []) ts mid v.0 x refl (again x ts mid w (omega (arith, h)) s.follows) refl s.goes (sym s.leaves)
      ∙ lists_again again shrinks sep more n (found ++ x ∷ []) y ys v.0 v.2.0 rest (omega (arith, l, shrinks x ts mid w, s.shorter)) v.2.1 v.2.2 (omega (arith, h)) e
      ∙ ap (λ a. Some (a, rest)) (append_assoc found (x ∷ []) (y ∷ ys))

-- ---- lists with commas

abbrev pub CommaEnds : (List Terminal → Type 0) → List Terminal → Type 0
CommaEnds Follows rest = Ends Follows (starts symbol.Comma) (after symbol.Comma) rest

comma : (Follows : List Terminal → Type 0) → ((ts mid : List Terminal) → IsA symbol.Comma ts mid → Follows ts) → (ts mid : List Terminal) → IsA symbol.Comma ts mid
    → Separates (IsA symbol.Comma) Follows (starts symbol.Comma) (after symbol.Comma) ts mid
comma Follows follows ts mid w =
    record { follows = follows ts mid w; goes = starts_is symbol.Comma ts mid w.0 w.1 w.2; leaves = after_is symbol.Comma ts mid w.0 w.1 w.2; shorter = ap length w.1 }

module _ {A : Type 0} (Is : A → Spelling) (More : List A → Spelling) (Follows : List Terminal → Type 0) (f : A → ℕ) (d : ℕ) (p : Parser A) where
  -- those after these, where a first follows
  pub commas_again : Again f d p Is Follows → ((x : A) → Shrinks (Is x)) → ((ts mid : List Terminal) → IsA symbol.Comma ts mid → Follows ts) → Furthers Is (IsA symbol.Comma) More
      → (found : List A) (x : A) (xs : List A) (ts mid rest : List Terminal) → Is x ts mid → More xs mid rest → max (f x) (greatest f xs) ≤ d → CommaEnds Follows rest
      → commas (add p) found ts ≡ Some (found ++ x ∷ xs, rest)
  unfolding commas
  commas_again again shrinks follows more found x xs ts mid rest w m h e =
      lists_again Is (IsA symbol.Comma) More Follows (starts symbol.Comma) (after symbol.Comma) f d p again shrinks (comma Follows follows) more (length ts) found x xs ts mid rest (omega arith) w m h e

  pub listed_from : Again f d p Is Follows → ((x : A) → Shrinks (Is x)) → ((ts mid : List Terminal) → IsA symbol.Comma ts mid → Follows ts) → Furthers Is (IsA symbol.Comma) More
      → (x : A) (xs : List A) (ts mid rest : List Terminal) → Is x ts mid → More xs mid rest → max (f x) (greatest f xs) ≤ d → CommaEnds Follows rest
      → listed p ts ≡ Some (x ∷ xs, rest)
  unfolding listed
  listed_from again shrinks follows more x xs ts mid rest w m h e = commas_again again shrinks follows more [] x xs ts mid rest w m h e

pub more_furthers : {A : Type 0} (Is : A → Spelling) → Furthers Is (IsA symbol.Comma) (AreMore Is)
more_furthers Is = record { at_end = λ ts rest w. w; goes_on = λ x xs ts rest w. w }

pub listed_again : {A : Type 0} (Is : A → Spelling) (Follows : List Terminal → Type 0) (f : A → ℕ) (d : ℕ) (p : Parser A) → Again f d p Is Follows → ((x : A) → Shrinks (Is x))
    → ((ts mid : List Terminal) → IsA symbol.Comma ts mid → Follows ts) → (xs : List A) (ts rest : List Terminal) → AreListed Is xs ts rest → greatest f xs ≤ d → CommaEnds Follows rest
    → listed p ts ≡ Some (xs, rest)
listed_again Is Follows f d p again shrinks follows [] ts rest w h e = absurd w
listed_again Is Follows f d p again shrinks follows (x ∷ xs) ts rest w h e =
    listed_from Is (AreMore Is) Follows f d p again shrinks follows (more_furthers Is) x xs ts w.0 rest w.1 w.2 h e

-- ---- before a token

-- those in a row
pub record Rows {A : Type 0} (Is : A → Spelling) (All : List A → Spelling) : Type 0 where
  pub at_end : (ts rest : List Terminal) → All [] ts rest → ts ≡ rest
  pub goes_on : (x : A) (xs : List A) (ts rest : List Terminal) → All (x ∷ xs) ts rest → (Is x ⨾ All xs) ts rest

-- how one of them begins
pub record Begins {A : Type 0} (Is : A → Spelling) (s : Symbol) (Follows : List Terminal → Type 0) : Type 0 where
  pub consumes : (x : A) → Consumes (Is x)
  pub other : (x : A) (ts rest : List Terminal) → Is x ts rest → starts s ts ≡ false
  pub follows : (x : A) (ts rest : List Terminal) → Is x ts rest → Follows ts

module _ {A : Type 0} (Is : A → Spelling) (All : List A → Spelling) (s : Symbol) (Follows : List Terminal → Type 0) (f : A → ℕ) (d : ℕ) (p : Parser A) where
  next_follows : Begins Is s Follows → Rows Is All → (xs : List A) (ts rest : List Terminal) → All xs ts rest → Follows rest → Follows ts
  next_follows begins rows [] ts rest w e = subst Follows (sym (rows.at_end ts rest w)) e
  next_follows begins rows (x ∷ xs) ts rest w e = let v = rows.goes_on x xs ts rest w in begins.follows x ts v.0 v.1

  until_in_again : Again f d p Is Follows → Begins Is s Follows → Rows Is All → (n : ℕ) (found xs : List A) (ts rest : List Terminal) → length ts ≤ n → All xs ts rest → greatest f xs ≤ d → Follows rest
      → starts s rest ≡ true → until_in n s p found ts ≡ Some (found ++ xs, rest)
  until_in_again again begins rows n found [] ts rest l w h e t =
      let q = rows.at_end ts rest w in
      until_stop n s p found ts (ap (starts s) q ∙ t) ∙ ap (λ x. Some (found, x)) q ∙ ap (λ x. Some (x, rest)) (sym (append-nil found))
  until_in_again again begins rows zero found (x ∷ xs) ts rest l w h e t =
      let v = rows.goes_on x xs ts rest w in absurd (omega (arith, l, begins.consumes x ts v.0 v.1))
  until_in_again again begins rows (suc n) found (x ∷ xs) ts rest l w h e t =
      let v = rows.goes_on x xs ts rest w in
      until_turn (suc n) n s p found (found ++ x ∷ []) ts v.0 x refl (begins.other x ts v.0 v.1)
      (again x ts v.0 v.1 (omega (arith, h)) (next_follows begins rows xs v.0 rest v.2 e)) refl
      ∙ until_in_again again begins rows n (found ++ x ∷ []) xs v.0 rest (omega (arith, l, begins.consumes x ts v.0 v.1)) v.2 (omega (arith, h)) e t
      ∙ ap (λ a. Some (a, rest)) (append_assoc found (x ∷ []) xs)

  pub until_again : Again f d p Is Follows → Begins Is s Follows → Rows Is All → (xs : List A) (ts rest : List Terminal) → All xs ts rest → greatest f xs ≤ d → Follows rest
      → starts s rest ≡ true → until s p ts ≡ Some (xs, rest)
  unfolding until
  until_again again begins rows xs ts rest w h e t = until_in_again again begins rows (length ts) [] xs ts rest (omega arith) w h e t
