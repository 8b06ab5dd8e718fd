-- The least of some places, found from the first one on.
use Rattle.std.specs.Prelude.{Bool, true, false, if◌then◌else◌, List, [], ◌∷◌}
use Rattle.std.proofs.Common.{◌≡◌, ◌∙◌, ap, sym, refl, arith}
use Rattle.std.proofs.lemmas.Bool.Decides.{nat_tests}
use Rattle.text_ground.specs.declared.text.Spot.{Spot}
use Rattle.rtl_rule.specs.Parts.{is_earlier, least_place}

earlier_than : (a b c : Spot) → is_earlier a b ≡ true → is_earlier b c ≡ true → is_earlier a c ≡ true
earlier_than a b c one two = grind (arith, nat_tests)

later_than : (a b c : Spot) → is_earlier a b ≡ false → is_earlier b c ≡ false → is_earlier a c ≡ false
later_than a b c one two = grind (arith, nat_tests)

abbrev first : Spot → Spot → Spot
first a b = if is_earlier b a then b else a

if_true : {A : Type 0} (b : Bool) (x y : A) → b ≡ true → (if b then x else y) ≡ x
if_true b x y is = ap (λ t. if t then x else y) is

if_false : {A : Type 0} (b : Bool) (x y : A) → b ≡ false → (if b then x else y) ≡ y
if_false b x y is = ap (λ t. if t then x else y) is

-- the least of three is found from either side
of_three : (a b c : Spot) → first a (first b c) ≡ first (first a b) c
of_three a b c =
    cases (is_earlier c b) (is_earlier b a) (is_earlier c a) refl refl refl
  where
    cases : (cb ba ca : Bool) → is_earlier c b ≡ cb → is_earlier b a ≡ ba → is_earlier c a ≡ ca → first a (first b c) ≡ first (first a b) c
    cases true true ca p q r =
        ap (first a) (if_true (is_earlier c b) c b p)
        ∙ (if_true (is_earlier c a) c a (earlier_than c b a p q)
        ∙ (sym (if_true (is_earlier c b) c b p) ∙ sym (ap (λ x. first x c) (if_true (is_earlier b a) b a q))))
    cases true false ca p q r =
        ap (first a) (if_true (is_earlier c b) c b p) ∙ sym (ap (λ x. first x c) (if_false (is_earlier b a) b a q))
    cases false true ca p q r =
        ap (first a) (if_false (is_earlier c b) c b p)
        ∙ (if_true (is_earlier b a) b a q
        ∙ (sym (if_false (is_earlier c b) c b p) ∙ sym (ap (λ x. first x c) (if_true (is_earlier b a) b a q))))
    cases false false ca p q r =
        ap (first a) (if_false (is_earlier c b) c b p)
        ∙ (if_false (is_earlier b a) b a q
        ∙ (sym (if_false (is_earlier c a) c a (later_than c b a p q)) ∙ sym (ap (λ x. first x c) (if_false (is_earlier b a) b a q))))

pub least_more : (otherwise a b : Spot) (others : List Spot) → least_place otherwise (a ∷ b ∷ others) ≡ least_place otherwise ((if is_earlier b a then b else a) ∷ others)
least_more otherwise a b [] = refl
least_more otherwise a b (c ∷ others) = of_three a b (least_place otherwise (c ∷ others))
