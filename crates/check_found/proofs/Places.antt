-- The least of some places.
use Rattle.std.proofs.Common.{◌≡◌, ◌∙◌, ◌<◌, ◌≤◌, Bool, true, false, cond, ◌&&◌, ◌||◌, List, [], ◌∷◌, ◌++◌, Option, Some, None, refl, sym, ap, inl, inr, arith}
use Rattle.std.specs.Prelude.{◌⊎◌, ◌==◌, nat_lt, if◌then◌else◌}
use Rattle.std.specs.List.{flat_map, list_any}
use Rattle.std.proofs.lemmas.Bool.{or_cases, or_parts, and_parts, and_cases, ltb-true, ltb-false, eqb-true, eqb-false, cases_lt, true_from_ne_false, false_from_ne_true}
use Rattle.text_ground.specs.declared.text.Spot.{Spot}
use Rattle.rtl_rule.specs.Parts.{is_earlier, least_place, spot_if}
use Rattle.check_found.specs.Marked.{if_earlier, is_some_spot, joined, least_of, sooner}

-- ---- the order of places

abbrev Before : Spot → Spot → Type 0
Before a b = (a.file < b.file) ⊎ ((a.file ≡ b.file) × (a.at < b.at))

abbrev NotBefore : Spot → Spot → Type 0
NotBefore a b = (b.file < a.file) ⊎ ((a.file ≡ b.file) × (b.at ≤ a.at))

earlier_is : (a b : Spot) → is_earlier a b ≡ true → Before a b
earlier_is a b h =
    elim (or_cases (nat_lt a.file b.file) ((a.file == b.file) && nat_lt a.at b.at) h) [
      | inl file ↦ inl (ltb-true a.file b.file file)
      | inr same ↦
          let (file, at) = and_parts (a.file == b.file) (nat_lt a.at b.at) same in
          inr (eqb-true a.file b.file file, ltb-true a.at b.at at)
    ]

later_is : (a b : Spot) → is_earlier a b ≡ false → NotBefore a b
later_is a b h =
    let (file, rest) = or_parts (nat_lt a.file b.file) ((a.file == b.file) && nat_lt a.at b.at) h in
    let above : b.file ≤ a.file = ltb-false a.file b.file file in
    elim (cases_lt b.file a.file) [
      | inl below ↦ inl below
      | inr same ↦ elim (and_cases (a.file == b.file) (nat_lt a.at b.at) rest) [
        | inl apart ↦
            let ne = eqb-false a.file b.file apart in
            absurd (ne (let e : a.file ≡ b.file = omega arith in e))
        | inr at ↦ inr (let e : a.file ≡ b.file = omega arith in e, ltb-false a.at b.at at)
      ]
    ]

clash : (a b c : Spot) → Before c b → Before b a → NotBefore c a → ⊥
clash a b c (inl x) (inl y) (inl z) = omega arith
clash a b c (inl x) (inl y) (inr z) = omega arith
clash a b c (inl x) (inr y) (inl z) = omega arith
clash a b c (inl x) (inr y) (inr z) = omega arith
clash a b c (inr x) (inl y) (inl z) = omega arith
clash a b c (inr x) (inl y) (inr z) = omega arith
clash a b c (inr x) (inr y) (inl z) = omega arith
clash a b c (inr x) (inr y) (inr z) = omega arith

clash' : (a b c : Spot) → NotBefore c b → NotBefore b a → Before c a → ⊥
clash' a b c (inl x) (inl y) (inl z) = omega arith
clash' a b c (inl x) (inl y) (inr z) = omega arith
clash' a b c (inl x) (inr y) (inl z) = omega arith
clash' a b c (inl x) (inr y) (inr z) = omega arith
clash' a b c (inr x) (inl y) (inl z) = omega arith
clash' a b c (inr x) (inl y) (inr z) = omega arith
clash' a b c (inr x) (inr y) (inl z) = omega arith
clash' a b c (inr x) (inr y) (inr z) = omega arith

earlier_still : (a b c : Spot) → is_earlier c b ≡ true → is_earlier b a ≡ true → is_earlier c a ≡ true
earlier_still a b c p q =
    true_from_ne_false (is_earlier c a) (λ h. clash a b c (earlier_is c b p) (earlier_is b a q) (later_is c a h))

later_still : (a b c : Spot) → is_earlier c b ≡ false → is_earlier b a ≡ false → is_earlier c a ≡ false
later_still a b c p q =
    false_from_ne_true (is_earlier c a) (λ h. clash' a b c (later_is c b p) (later_is b a q) (earlier_is c a h))

-- ---- the lesser of two

abbrev lesser : (Spot → Spot → Bool) → Spot → Spot → Spot
lesser earlier one other = if_earlier (earlier other one) one other

lesser_assoc : (earlier : Spot → Spot → Bool) (a b c : Spot) → (earlier c b ≡ true → earlier b a ≡ true → earlier c a ≡ true) → (earlier c b ≡ false → earlier b a ≡ false → earlier c a ≡ false) → lesser earlier (lesser earlier a b) c ≡ lesser earlier a (lesser earlier b c)
lesser_assoc earlier a b c below above = by_test (earlier b a) (earlier c b) refl refl
  where
    by_test : (t u : Bool) → earlier b a ≡ t → earlier c b ≡ u → lesser earlier (lesser earlier a b) c ≡ lesser earlier a (lesser earlier b c)
    by_test true true p q = let r : earlier c a ≡ true = below q p in simp (p, q, r)
    by_test true false p q = simp (p, q)
    by_test false true p q = simp (p, q)
    by_test false false p q = let r : earlier c a ≡ false = above q p in simp (p, q, r)

sooner_assoc : (a b c : Spot) → sooner (sooner a b) c ≡ sooner a (sooner b c)
sooner_assoc a b c = lesser_assoc is_earlier a b c (earlier_still a b c) (later_still a b c)

-- ---- of places that may be none

pub joined_assoc : (a b c : Option Spot) → joined (joined a b) c ≡ joined a (joined b c)
joined_assoc None b c = refl
joined_assoc (Some a) None c = refl
joined_assoc (Some a) (Some b) None = refl
joined_assoc (Some a) (Some b) (Some c) = ap Some (sooner_assoc a b c)

pub joined-none : (a : Option Spot) → joined a None ≡ a
joined-none None = refl
joined-none (Some a) = refl

pub joined_if : (b : Bool) (old : Option Spot) (spot : Spot) → cond b (joined old (Some spot)) old ≡ joined old (spot_if b spot)
joined_if true old spot = refl
joined_if false old spot = sym (joined-none old)

pub is_some-joined : (a b : Option Spot) → is_some_spot (joined a b) ≡ (is_some_spot a || is_some_spot b)
is_some-joined None b = refl
is_some-joined (Some a) None = refl
is_some-joined (Some a) (Some b) = refl

-- ---- of lists

pub least_append : (xs ys : List Spot) → least_of (xs ++ ys) ≡ joined (least_of xs) (least_of ys)
least_append [] ys = refl
least_append (x ∷ xs) ys =
    ap (joined (Some x)) (least_append xs ys) ∙ sym (joined_assoc (Some x) (least_of xs) (least_of ys))

pub least_any : {A : Type 0} (f : A → List Spot) (xs : List A) → is_some_spot (least_of (flat_map f xs)) ≡ list_any (λ x. is_some_spot (least_of (f x))) xs
least_any f [] = refl
least_any f (x ∷ xs) =
    ap is_some_spot (least_append (f x) (flat_map f xs)) ∙ is_some-joined (least_of (f x)) (least_of (flat_map f xs))
    ∙ ap (λ t. is_some_spot (least_of (f x)) || t) (least_any f xs)

if_is : (t : Bool) (one other : Spot) → (if t then other else one) ≡ if_earlier t one other
if_is true one other = refl
if_is false one other = refl

least_cons : (o : Spot) (x : Spot) (xs : List Spot) → Some (least_place o (x ∷ xs)) ≡ least_of (x ∷ xs)
least_cons o x [] = refl
least_cons o x (y ∷ ys) =
    ap Some (if_is (is_earlier (least_place o (y ∷ ys)) x) x (least_place o (y ∷ ys))) ∙ ap (joined (Some x)) (least_cons o y ys)

-- the definition's least place, where there is one
pub least_is : (o : Spot) (xs : List Spot) (least : Spot) → least_of xs ≡ Some least → least_place o xs ≡ least
least_is o [] least h = absurd (cc)
least_is o (x ∷ xs) least h = let e : Some (least_place o (x ∷ xs)) ≡ Some least = least_cons o x xs ∙ h in cc
