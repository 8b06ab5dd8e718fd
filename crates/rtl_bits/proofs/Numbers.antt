-- What the two stored numbers say of a vector.
use Rattle.std.proofs.Common.{◌≡◌, ℕ, ◌+◌, ◌*◌, ◌/◌, ◌<◌, ◌^◌, Bool, true, false, cond, not, ◌&&◌, ◌||◌, List, [], ◌∷◌, length, get_or, refl, ap, sym, ◌∙◌, subst, arith, suc, zero}
use Rattle.std.specs.Prelude.{bit_and, nat_eq, ◌==◌}
use Rattle.std.specs.List.{list_any}
use Rattle.std.proofs.lemmas.Bool.Decides.{nat_tests}
use Rattle.std.proofs.lemmas.Nat.Bits.{shr_and_one}
use Rattle.rtl_bits.specs.declared.Bit.{Bit}
use Rattle.rtl_bits.specs.declared.Bit.TheVariants.{X}
use Rattle.std.proofs.lemmas.Bool.{eqb-true}
use Rattle.rtl_bits.specs.Bit.{known_bit, is_one, is_unknown}
use Rattle.rtl_bits.specs.Bits.{number_where, has_unknown, is_one_at, number, tabulate, all_with}
use Rattle.rtl_bits.specs.Planes.{bit_of, bits_of_planes}
use Rattle.rtl_bits.specs.Digits.{one_at-zero}
use Rattle.rtl_bits.specs.Back.{number_where_is}
use Rattle.rtl_bits.specs.Inside.{width_back, unk_back}
use Rattle.rtl_bits.proofs.Tables.{tests1, is_one-known_bit}
use Rattle.rtl_bits.proofs.PlaneLemmas.{same_width}
use Rattle.rtl_bits.proofs.Lists.{get_or-tabulate}
use Rattle.std.proofs.Math.Nat.{pow-suc}

-- `n >> i & 1 == 1`
pub digit_test : (n i : ℕ) → nat_eq (bit_and (n / 2 ^ i) 1) 1 ≡ is_one_at n i
unfolding is_one_at
digit_test n i = ap (λ m. nat_eq m 1) (shr_and_one n i)

-- the bit at a place
pub bit_there : (w v u : ℕ) (xs : List Bit) → bits_of_planes w v u ≡ xs → (at : ℕ) → at < length xs → bit_of (is_one_at v at) (is_one_at u at) ≡ get_or xs at X
bit_there w v u xs e at h =
    let below : at < w = rw (← e, width_back) at h in
    rw (← e) (sym (get_or-tabulate w _ at X below))

any_step : (b : Bool) (n : ℕ) → (b || not (n == 0)) ≡ not ((n * 2 + cond b 1 0) == 0)
any_step true n = grind (arith, nat_tests)
any_step false n = grind (arith, nat_tests)

-- a bit meets the test where the number of those that do isn't 0
pub list_any-number_where : (test : Bit → Bool) (bits : List Bit) → list_any test bits ≡ not (number_where test bits == 0)
list_any-number_where test [] = refl
list_any-number_where test (b ∷ bits) =
    ap (λ t. test b || t) (list_any-number_where test bits) ∙ any_step (test b) (number_where test bits)

not_not : (b : Bool) → not (not b) ≡ b
not_not true = refl
not_not false = refl

-- the test for known bits
pub known_test : (w v u : ℕ) (xs : List Bit) → bits_of_planes w v u ≡ xs → u < 2 ^ w → nat_eq u 0 ≡ not (has_unknown xs)
known_test w v u xs e h =
    sym (ap (λ t. not (list_any is_unknown t)) (sym e) ∙ ap not (list_any-number_where is_unknown (bits_of_planes w v u)) ∙ not_not _ ∙ ap (λ n. n == 0) (unk_back w v u h))

-- a vector's second number is 0 where its bits are known
pub known_zero : (w v u : ℕ) (xs : List Bit) → bits_of_planes w v u ≡ xs → u < 2 ^ w → has_unknown xs ≡ false → u ≡ 0
known_zero w v u xs e h known =
    eqb-true u 0 (known_test w v u xs e h ∙ ap not known)

-- its first is then the number that they spell
pub known_number : (w v u : ℕ) (xs : List Bit) → bits_of_planes w v u ≡ xs → v < 2 ^ w → u < 2 ^ w → has_unknown xs ≡ false → v ≡ number xs
known_number w v u xs e v_fits u_fits known =
    let no_unknown : u ≡ 0 = known_zero w v u xs e u_fits known in
    rw (← e) (sym (number_where_is is_one w v _ v_fits
    (λ i _. rw (no_unknown, one_at-zero) (tests1 (λ a. is_one (bit_of a false)) (λ a. a) refl _))))

all_step : (test : Bool) (rest : Bool) → (not test || not rest) ≡ not (test && rest)
all_step true rest = refl
all_step false rest = refl

all_with-tabulate : (test : Bit → Bit → Bool) (w : ℕ) (f g : ℕ → Bit) → list_any is_one (tabulate w (λ i. known_bit (not (test (f i) (g i))))) ≡ not (all_with test (tabulate w f) (tabulate w g))
all_with-tabulate test zero f g = refl
all_with-tabulate test (suc w) f g =
    let fails : ℕ → Bit = λ i. known_bit (not (test (f (suc i)) (g (suc i)))) in
    ap (λ b. b || list_any is_one (tabulate w fails)) (is_one-known_bit (not (test (f 0) (g 0))))
    ∙ ap (λ r. not (test (f 0) (g 0)) || r) (all_with-tabulate test w (λ i. f (suc i)) (λ i. g (suc i)))
    ∙ all_step (test (f 0) (g 0)) (all_with test (tabulate w (λ i. f (suc i))) (tabulate w (λ i. g (suc i))))

-- a test of each place holds where the number whose digits are 1 where it fails is 0
pub by_all : (test : Bit → Bit → Bool) (w v u w1 p q m : ℕ) (xs ys : List Bit) → bits_of_planes w v u ≡ xs → bits_of_planes w1 p q ≡ ys → length xs ≡ length ys → m < 2 ^ w → ((i : ℕ) → i < w → is_one_at m i ≡ not (test (bit_of (is_one_at v i) (is_one_at u i)) (bit_of (is_one_at p i) (is_one_at q i)))) → nat_eq m 0 ≡ all_with test xs ys
by_all test w v u w1 p q m xs ys e1 e2 len fits at =
    let right : bits_of_planes w p q ≡ ys
    = subst (λ n. bits_of_planes n p q ≡ ys) (same_width w v u w1 p q xs ys e1 e2 len) e2 in
    let f : ℕ → Bit = λ i. bit_of (is_one_at v i) (is_one_at u i) in
    let g : ℕ → Bit = λ i. bit_of (is_one_at p i) (is_one_at q i) in
    let fails : ℕ → Bit = λ i. known_bit (not (test (f i) (g i))) in
    let count : number_where is_one (tabulate w fails) ≡ m
    = number_where_is is_one w m fails fits (λ i below. is_one-known_bit _ ∙ sym (at i below)) in
    let both_ways : not (nat_eq m 0) ≡ not (all_with test (tabulate w f) (tabulate w g))
    = ap (λ n. not (nat_eq n 0)) (sym count) ∙ sym (list_any-number_where is_one (tabulate w fails)) ∙ all_with-tabulate test w f g in
    rw (← e1, ← right) (sym (not_not (nat_eq m 0)) ∙ ap not both_ways ∙ not_not _)

pub number-lt : (bits : List Bit) → number bits < 2 ^ length bits
number-lt [] = omega arith
number-lt (b ∷ bits) =
    let rest : number bits < 2 ^ length bits = number-lt bits in
    rw pow-suc (elim (is_one b) as (λ t. number bits * 2 + cond t 1 0 < 2 ^ length bits * 2) [ true ↦ omega arith | false ↦ omega arith ])

-- a bit meets a test where the number whose digits are 1 where one does isn't 0
pub by_any : (test : Bit → Bool) (w v u m : ℕ) (xs : List Bit) → bits_of_planes w v u ≡ xs → m < 2 ^ w → ((i : ℕ) → i < w → is_one_at m i ≡ test (bit_of (is_one_at v i) (is_one_at u i))) → not (nat_eq m 0) ≡ list_any test xs
by_any test w v u m xs e fits at =
    let count : number_where test (bits_of_planes w v u) ≡ m
    = number_where_is test w m _ fits (λ i below. sym (at i below)) in
    rw (← e) (ap (λ n. not (nat_eq n 0)) (sym count) ∙ sym (list_any-number_where test (bits_of_planes w v u)))
