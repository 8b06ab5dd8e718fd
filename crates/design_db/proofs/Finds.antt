-- The first of some values that passes a test.
use Rattle.std.proofs.Common.{◌≡◌, Bool, true, false, cond, List, [], ◌∷◌, ◌++◌, ap, sym, refl, subst, ◌∙◌}
use Rattle.std.specs.Prelude.{find, filter, IfSome, IsSome, Option, Some, None}
use Rattle.std.specs.List.{All, Contains}
use Rattle.std.specs.Option.{option_map, option_or}
use Rattle.std.proofs.lemmas.List.Elements.{All-cons, All-contains, All-head, All-nil, All-tail, All-weaker}
use Rattle.std.proofs.lemmas.List.Folds.{find-append}

-- ---- one of the values passes

first_found : {X : Type 0} (p : X → Bool) (first : X) (others : List X) → p first ≡ true → IsSome (find p (first ∷ others))
first_found p first others pass =
    subst (λ b. IsSome (cond b (Some first) (find p others))) (sym pass) refl

later_found : {X : Type 0} (first : X) (found : Option X) (b : Bool) → IsSome found → IsSome (cond b (Some first) found)
later_found first found true some = refl
later_found first found false some = some

all_found : {X : Type 0} (p : X → Bool) (xs : List X) → All (λ x. p x ≡ true → IsSome (find p xs)) xs
all_found p [] = All-nil (λ x. p x ≡ true → IsSome (find p []))
all_found p (first ∷ others) =
    All-cons (λ x. p x ≡ true → IsSome (find p (first ∷ others))) first others (first_found p first others)
    (All-weaker (λ x. p x ≡ true → IsSome (find p others)) (λ x. p x ≡ true → IsSome (find p (first ∷ others)))
    (λ x found pass. later_found first (find p others) (p first) (found pass)) others (all_found p others))

pub find_there : {X : Type 0} (p : X → Bool) (x : X) (xs : List X) → Contains xs x → p x ≡ true → IsSome (find p xs)
find_there p x xs there =
    All-contains (λ one. p one ≡ true → IsSome (find p xs)) xs x (all_found p xs) there

-- ---- what holds of each value holds of the one that is found

holds_by : {X : Type 0} (P : X → Type 0) (p : X → Bool) (first : X) (found : Option X) (b : Bool) → p first ≡ b → P first → IfSome found (λ x. P x × (p x ≡ true)) → IfSome (cond b (Some first) found) (λ x. P x × (p x ≡ true))
holds_by P p first found true pass holds rest = (holds, pass)
holds_by P p first found false pass holds rest = rest

pub find_holds : {X : Type 0} (P : X → Type 0) (p : X → Bool) (xs : List X) → All P xs → IfSome (find p xs) (λ x. P x × (p x ≡ true))
find_holds P p [] all = tt
find_holds P p (first ∷ others) all =
    holds_by P p first (find p others) (p first) refl (All-head P first others all)
    (find_holds P p others (All-tail P first others all))

-- ---- values behind others

or_some : {X : Type 0} (a b : Option X) → IsSome a → option_or a b ≡ a
or_some None b some = absurd (cc)
or_some (Some x) b some = refl

pub find_front : {X : Type 0} (p : X → Bool) (xs ys : List X) → IsSome (find p xs) → find p (xs ++ ys) ≡ find p xs
find_front p xs ys some = find-append p xs ys ∙ or_some (find p xs) (find p ys) some

-- ---- values that are left out

kept_by : {X : Type 0} (p q : X → Bool) (first : X) (others : List X) (passes fits : Bool) → p first ≡ passes → q first ≡ fits → (p first ≡ true → q first ≡ true) → find p (filter q others) ≡ find p others → find p (cond fits (first ∷ filter q others) (filter q others)) ≡ cond (p first) (Some first) (find p others)
kept_by p q first others passes true is_passes is_fits implied same =
    ap (λ found. cond (p first) (Some first) found) same
kept_by p q first others true false is_passes is_fits implied same =
    let fits = implied is_passes in absurd (cc)
kept_by p q first others false false is_passes is_fits implied same =
    same ∙ sym (ap (λ b. cond b (Some first) (find p others)) is_passes)

-- a value that passes is found among those that are kept
pub find_kept : {X : Type 0} (p q : X → Bool) → ((x : X) → p x ≡ true → q x ≡ true) → (xs : List X) → find p (filter q xs) ≡ find p xs
find_kept p q implied [] = refl
find_kept p q implied (first ∷ others) =
    kept_by p q first others (p first) (q first) refl refl (implied first) (find_kept p q implied others)

-- ---- what is made of the value

pub mapped_some : {X Y : Type 0} (f : X → Y) (found : Option X) → IsSome found → IsSome (option_map f found)
mapped_some f None some = absurd (cc)
mapped_some f (Some x) some = refl

pub some_mapped : {X Y : Type 0} (f : X → Y) (found : Option X) → IsSome (option_map f found) → IsSome found
some_mapped f None some = absurd (cc)
some_mapped f (Some x) some = refl
