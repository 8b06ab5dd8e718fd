-- Lists of findings that are put together process by process.
use Rattle.std.proofs.Common.{ℕ, zero, suc, ◌≡◌, ◌∙◌, ◌+◌, ◌<◌, Bool, true, false, not, cond, ◌||◌, List, [], ◌∷◌, ◌++◌, map, length, take, get_or, Some, refl, sym, ap, subst, inl, inr, arith, append_assoc, append-nil, ◌↔◌}
use Rattle.std.specs.List.{cons_option, enumerate_from, filter, filter_map, flat_map, list_any, slice_get}
use Rattle.std.proofs.lemmas.List.{map-append, take_more}
use Rattle.std.proofs.lemmas.Simd.{map-map}
use Rattle.std.proofs.lemmas.Bool.{false≢true, or_parts}
use Rattle.std.proofs.lemmas.Grind.{flat_map-append}
use Rattle.std.proofs.lemmas.List.Folds.{list_any-append}
use Rattle.std.proofs.lemmas.List.Elements.{filter-append}
use Rattle.text_ground.specs.declared.text.Spot.{Spot}
use Rattle.rtl_flat.specs.Process.{Doing, Task}
use Rattle.rtl_rule.specs.declared.finding.Finding.{Finding}
use Rattle.rtl_rule.specs.Parts.{At, sites, spot_if, within}
use Rattle.rtl_flat.specs.Flats.{Flat}
use Rattle.rtl_rule.specs.Sites.{AreFindings, AreThose}
use Rattle.check_unknown.specs.Lists.{below, picked}

-- ---- those that pass a test

module _ {A : Type 0} (P : A → Type 0) (test : A → Bool) (by : (x : A) → (test x ≡ true) ↔ P x) where
  first_or_not : (x : A) (b : Bool) → test x ≡ b → (xs kept : List A) → AreThose P xs kept → AreThose P (x ∷ xs) (cond b (x ∷ kept) kept)
  first_or_not x true e xs kept more = inl ((by x).0 e, kept, refl, more)
  first_or_not x false e xs kept more = inr (λ h. false≢true (sym e ∙ (by x).1 h), more)

  pub those_by : (xs : List A) → AreThose P xs (filter test xs)
  those_by [] = refl
  those_by (x ∷ xs) = first_or_not x (test x) refl xs (filter test xs) (those_by xs)

pub found_by : {A : Type 0} (P : A → Type 0) (test : A → Bool) → ((x : A) → (test x ≡ true) ↔ P x) → (at : A → Finding) (xs : List A) → AreFindings P at xs (map at (filter test xs))
found_by P test by at xs =
    record { broken = filter test xs; those = those_by P test by xs; shown = refl }

-- ---- process by process

pub below_next : (of : ℕ → Task → List Finding) (k : ℕ) (tasks : List Task) (n : ℕ) (task : Task) → slice_get tasks n ≡ Some task → below of k tasks (suc n) ≡ below of k tasks n ++ of (k + n) task
below_next of k [] n task there = absurd (cc)
below_next of k (t ∷ tasks) zero task there =
    let same : t ≡ task = cc in
    let number : k ≡ k + 0 = omega arith in
    append-nil (of k t) ∙ ap (of k) same ∙ ap (λ i. of i task) number
below_next of k (t ∷ tasks) (suc n) task there =
    let number : k + 1 + n ≡ k + suc n = omega arith in
    ap (λ more. of k t ++ more) (below_next of (k + 1) tasks n task there ∙ ap (λ i. below of (k + 1) tasks n ++ of i task) number)
    ∙ sym (append_assoc (of k t) (below of (k + 1) tasks n) (of (k + suc n) task))

pub below_more : (of : ℕ → Task → List Finding) (tasks : List Task) (n : ℕ) (task : Task) (old new : List Finding) → slice_get tasks n ≡ Some task → old ≡ below of 0 tasks n → new ≡ old ++ of n task → new ≡ below of 0 tasks (n + 1)
below_more of tasks n task old new there before is =
    let next : suc n ≡ n + 1 = omega arith in
    let number : n ≡ 0 + n = omega arith in
    is ∙ ap (λ xs. xs ++ of n task) before ∙ ap (λ i. below of 0 tasks n ++ of i task) number ∙ sym (below_next of 0 tasks n task there) ∙ ap (below of 0 tasks) next

below_all : (of : ℕ → Task → List Finding) (k : ℕ) (tasks : List Task) → below of k tasks (length tasks) ≡ flat_map (λ (one : ℕ × Task). of one.0 one.1) (enumerate_from k tasks)
below_all of k [] = refl
below_all of k (t ∷ tasks) = ap (λ more. of k t ++ more) (below_all of (k + 1) tasks)

flat_same : {A B : Type 0} (f g : A → List B) → ((x : A) → f x ≡ g x) → (xs : List A) → flat_map f xs ≡ flat_map g xs
flat_same f g same [] = refl
flat_same f g same (x ∷ xs) =
    ap (λ more. f x ++ more) (flat_same f g same xs) ∙ ap (λ first. first ++ flat_map g xs) (same x)

picked_all : {A B : Type 0} (at : B → Finding) (test : B → Bool) (f : A → List B) (xs : List A) → map at (filter test (flat_map f xs)) ≡ flat_map (λ x. map at (filter test (f x))) xs
picked_all at test f [] = refl
picked_all at test f (x ∷ xs) =
    ap (map at) (filter-append test (f x) (flat_map f xs)) ∙ map-append at (filter test (f x)) (filter test (flat_map f xs)) ∙ ap (λ more. map at (filter test (f x)) ++ more) (picked_all at test f xs)

module _ {A : Type 0} (P : At A → Type 0) (test : At A → Bool) (by : (x : At A) → (test x ≡ true) ↔ P x) where
  -- what all processes have together
  pub found_of : (at : At A → Finding) (list : Doing → List A) (d : Flat) (of : ℕ → Task → List Finding) → ((p : ℕ) (task : Task) → of p task ≡ picked list test at p task) → (n : ℕ) → n ≡ length d.tasks → (found : List Finding) → found ≡ below of 0 d.tasks n → AreFindings P at (sites list d) found
  found_of at list d of same n all found is =
      let whole : found ≡ map at (filter test (sites list d))
      = is ∙ ap (below of 0 d.tasks) all ∙ below_all of 0 d.tasks ∙ flat_same (λ (one : ℕ × Task). of one.0 one.1) (λ (one : ℕ × Task). picked list test at one.0 one.1) (λ (one : ℕ × Task). same one.0 one.1) (enumerate_from 0 d.tasks) ∙ sym (picked_all at test (λ (one : ℕ × Task). map (within one) (list one.1.does)) (enumerate_from 0 d.tasks)) in
      subst (λ xs. AreFindings P at (sites list d) xs) (sym whole) (found_by P test by at (sites list d))

-- ---- at places

module _ {A : Type 0} (test : A → Bool) (place : A → Spot) (f : Spot → Finding) (at : At A → Finding) (one : ℕ × Task) (same : (x : A) → at (within one x) ≡ f (place x)) where
  spot_or_not : (x : A) (b : Bool) (kept : List A) (sites : List (At A)) → map f (map place kept) ≡ map at sites → map f (map place (cond b (x ∷ kept) kept)) ≡ map at (cond b (within one x ∷ sites) sites)
  spot_or_not x true kept sites e =
      ap (λ first. first ∷ map f (map place kept)) (sym (same x)) ∙ ap (λ more. at (within one x) ∷ more) e
  spot_or_not x false kept sites e = e

  pub spots_picked : (xs : List A) → map f (map place (filter test xs)) ≡ map at (filter (λ site. test site.it) (map (within one) xs))
  spots_picked [] = refl
  spots_picked (x ∷ xs) =
      spot_or_not x (test x) (filter test xs) (filter (λ site. test site.it) (map (within one) xs)) (spots_picked xs)

-- one more of those that pass a test
module _ {A : Type 0} (test : A → Bool) (xs : List A) (i : ℕ) (x : A) (inside : i < length xs) (is : x ≡ get_or xs i x) where
  filter_one : (b : Bool) → test x ≡ b → filter test (x ∷ []) ≡ cond b (x ∷ []) []
  filter_one b e = ap (λ t. cond t (x ∷ []) []) e

  filter_next : (b : Bool) → test x ≡ b → filter test (take (i + 1) xs) ≡ filter test (take i xs) ++ cond b (x ∷ []) []
  filter_next b e =
      ap (filter test) (take_more xs i x inside ∙ ap (λ y. take i xs ++ y ∷ []) (sym is)) ∙ filter-append test (take i xs) (x ∷ [])
      ∙ ap (λ more. filter test (take i xs) ++ more) (filter_one b e)

  pub keeps_one : {B : Type 0} (f : A → B) (old new : List B) → test x ≡ true → old ≡ map f (filter test (take i xs)) → new ≡ old ++ f x ∷ [] → new ≡ map f (filter test (take (i + 1) xs))
  keeps_one f old new e before more =
      more ∙ ap (λ ys. ys ++ f x ∷ []) before ∙ sym (ap (map f) (filter_next true e) ∙ map-append f (filter test (take i xs)) (x ∷ []))

  pub keeps_none : {B : Type 0} (f : A → B) (old : List B) → test x ≡ false → old ≡ map f (filter test (take i xs)) → old ≡ map f (filter test (take (i + 1) xs))
  keeps_none f old e before =
      before ∙ sym (ap (map f) (filter_next false e ∙ append-nil (filter test (take i xs))))

-- the same of what a function makes of each
cond_map : {A B : Type 0} (g : A → B) (x : A) (ys : List B) (xs : List A) (b : Bool) → ys ≡ map g xs → cond b (g x ∷ ys) ys ≡ map g (cond b (x ∷ xs) xs)
cond_map g x ys xs true e = ap (λ more. g x ∷ more) e
cond_map g x ys xs false e = e

filter_made : {A B : Type 0} (test : B → Bool) (g : A → B) (xs : List A) → filter test (map g xs) ≡ map g (filter (λ x. test (g x)) xs)
filter_made test g [] = refl
filter_made test g (x ∷ xs) =
    cond_map g x (filter test (map g xs)) (filter (λ y. test (g y)) xs) (test (g x)) (filter_made test g xs)

module _ {A B : Type 0} (test : B → Bool) (g : A → B) (place : B → Spot) (xs : List A) (i : ℕ) (x : A) (inside : i < length xs) (is : x ≡ get_or xs i x) (old : List Spot) (before : old ≡ map place (filter test (map g (take i xs)))) where
  made : (n : ℕ) → map place (filter test (map g (take n xs))) ≡ map (λ y. place (g y)) (filter (λ y. test (g y)) (take n xs))
  made n =
      ap (map place) (filter_made test g (take n xs)) ∙ map-map place g (filter (λ y. test (g y)) (take n xs))

  pub spot_more : (new : List Spot) → test (g x) ≡ true → new ≡ old ++ place (g x) ∷ [] → new ≡ map place (filter test (map g (take (i + 1) xs)))
  spot_more new e more =
      keeps_one (λ y. test (g y)) xs i x inside is (λ y. place (g y)) old new e (before ∙ made i) more ∙ sym (made (i + 1))

  pub spot_less : test (g x) ≡ false → old ≡ map place (filter test (map g (take (i + 1) xs)))
  spot_less e =
      keeps_none (λ y. test (g y)) xs i x inside is (λ y. place (g y)) old e (before ∙ made i) ∙ sym (made (i + 1))

-- ---- the places of those that pass a test

spot_or : (at : Spot) (b : Bool) (spots : List Spot) → cons_option (spot_if b at) spots ≡ cond b (at ∷ spots) spots
spot_or at true spots = refl
spot_or at false spots = refl

pub spots_if : {A : Type 0} (test : A → Bool) (place : A → Spot) (xs : List A) → filter_map (λ x. spot_if (test x) (place x)) xs ≡ map place (filter test xs)
spots_if test place [] = refl
spots_if test place (x ∷ xs) =
    spot_or (place x) (test x) (filter_map (λ y. spot_if (test y) (place y)) xs)
    ∙ cond_map place x (filter_map (λ y. spot_if (test y) (place y)) xs) (filter test xs) (test x) (spots_if test place xs)

abbrev pub is_empty : List Spot → Bool
is_empty [] = true
is_empty (x ∷ xs) = false

empty_or : (at : Spot) (b any : Bool) (spots : List Spot) → not (is_empty spots) ≡ any → not (is_empty (cond b (at ∷ spots) spots)) ≡ (b || any)
empty_or at true any spots e = refl
empty_or at false any spots e = e

map_cond : {A : Type 0} (place : A → Spot) (x : A) (xs : List A) (b : Bool) → map place (cond b (x ∷ xs) xs) ≡ cond b (place x ∷ map place xs) (map place xs)
map_cond place x xs true = refl
map_cond place x xs false = refl

-- there are some where one passes
pub some_spots : {A : Type 0} (test : A → Bool) (place : A → Spot) (xs : List A) → not (is_empty (map place (filter test xs))) ≡ list_any test xs
some_spots test place [] = refl
some_spots test place (x ∷ xs) =
    ap (λ ys. not (is_empty ys)) (map_cond place x (filter test xs) (test x)) ∙ empty_or (place x) (test x) (list_any test xs) (map place (filter test xs)) (some_spots test place xs)

-- ---- lists of which no element passes a test

pub any_left : {A : Type 0} (test : A → Bool) (xs ys : List A) → list_any test (xs ++ ys) ≡ false → list_any test xs ≡ false
any_left test [] ys h = refl
any_left test (x ∷ xs) ys h =
    let (here, rest) = or_parts (test x) (list_any test (xs ++ ys)) h in
    ap (λ b. b || list_any test xs) here ∙ any_left test xs ys rest

pub any_right : {A : Type 0} (test : A → Bool) (xs ys : List A) → list_any test (xs ++ ys) ≡ false → list_any test ys ≡ false
any_right test [] ys h = h
any_right test (x ∷ xs) ys h =
    any_right test xs ys (or_parts (test x) (list_any test (xs ++ ys)) h).1

any_neither : {A : Type 0} (test : A → Bool) (xs ys : List A) → list_any test xs ≡ false → list_any test ys ≡ false → list_any test (xs ++ ys) ≡ false
any_neither test xs ys h k =
    list_any-append test xs ys ∙ ap (λ b. b || list_any test ys) h ∙ k

module _ {A B : Type 0} (test : B → Bool) (f : A → List B) where
  none_or : (b : Bool) (x : A) (xs : List A) → list_any test (f x) ≡ false → list_any test (flat_map f xs) ≡ false → list_any test (flat_map f (cond b (x ∷ xs) xs)) ≡ false
  none_or true x xs h k = any_neither test (f x) (flat_map f xs) h k
  none_or false x xs h k = k

  none_kept : (keep : A → Bool) (xs : List A) → list_any test (flat_map f xs) ≡ false → list_any test (flat_map f (filter keep xs)) ≡ false
  none_kept keep [] h = refl
  none_kept keep (x ∷ xs) h =
      none_or (keep x) x (filter keep xs) (any_left test (f x) (flat_map f xs) h) (none_kept keep xs (any_right test (f x) (flat_map f xs) h))

  -- nor does one where some elements stay out
  pub none_without : (keep : A → Bool) (xs ys : List A) → list_any test (flat_map f (xs ++ ys)) ≡ false → list_any test (flat_map f (xs ++ filter keep ys)) ≡ false
  none_without keep xs ys h =
      let split = sym (ap (list_any test) (flat_map-append f xs ys)) ∙ h in
      ap (list_any test) (flat_map-append f xs (filter keep ys))
      ∙ any_neither test (flat_map f xs) (flat_map f (filter keep ys)) (any_left test (flat_map f xs) (flat_map f ys) split) (none_kept keep ys (any_right test (flat_map f xs) (flat_map f ys) split))
