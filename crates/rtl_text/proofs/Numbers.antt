-- What one turn of the loops over a number's digits does.
use Rattle.std.proofs.Common.{◌≡◌, ℕ, suc, ◌+◌, ◌-◌, ◌*◌, ◌%◌, ◌^◌, ◌<◌, ◌≤◌, ◌≢◌, min, nat_le, Bool, true, false, cond, List, [], ◌∷◌, length, drop, get_or, refl, sym, ap, ◌∙◌, arith, drop-cons}
use Rattle.std.proofs.Math.Nat.{mul-le-mul_left, add-mod}
use Rattle.std.proofs.lemmas.Nat.{mul-mod}
use Rattle.std.proofs.Math.Nat.{mod-mod}
use Rattle.std.proofs.Math.Pow.{mod-mod-pow, pow-lt}
use Rattle.std.proofs.Math.Nat.{mod-eq_of_lt}
use Rattle.std.proofs.lemmas.Bool.Decides.{nat_tests}
use Rattle.std.proofs.Math.ListN.{drop_of_length-le}
use Rattle.rtl_tree.specs.Literal.{is_underscore, digit, more_digits, number}

next : (i : ℕ) (text : List ℕ) → i < length text → drop i text ≡ get_or text i 0 ∷ drop (i + 1) text
next i text h = let e : i + 1 ≡ suc i = omega arith in rw e (drop-cons text i 0 h)

-- ---- a number that stops at a cap

scaled : (c s r d : ℕ) → 1 ≤ r → c ≤ s → c ≤ s * r + d
scaled c s r d h k = omega (arith, mul-le-mul_left s h)

past : (c s r d : ℕ) → 1 ≤ r → c ≤ s → min (min s c * r + d) c ≡ min (s * r + d) c
past c s r d h k =
    let e : min s c ≡ c = omega arith in
    rw e (let a : c ≤ c * r + d = scaled c c r d h (omega arith) in let b : c ≤ s * r + d = scaled c s r d h k in omega arith)

is_at_most : (s c : ℕ) → nat_le s c ≡ true → s ≤ c
is_at_most s c h = grind (arith, nat_tests)

is_above : (s c : ℕ) → nat_le s c ≡ false → c ≤ s
is_above s c h = grind (arith, nat_tests)

scaled_cap : (c s r d : ℕ) (o : Bool) → nat_le s c ≡ o → 1 ≤ r → min (min s c * r + d) c ≡ min (s * r + d) c
scaled_cap c s r d true o h = let k : s ≤ c = is_at_most s c o in let e : min s c ≡ s = omega arith in rw e refl
scaled_cap c s r d false o h = past c s r d h (is_above s c o)

more_capped_by : (o : Bool) (c s r d : ℕ) → 1 ≤ r → min (cond o (min s c) (min s c * r + d)) c ≡ min (cond o s (s * r + d)) c
more_capped_by true c s r d h = omega arith
more_capped_by false c s r d h = scaled_cap c s r d (nat_le s c) refl h

more_capped : (u : Bool) (c r s b : ℕ) → 1 ≤ r → min (more_digits u r (min s c) b) c ≡ min (more_digits u r s b) c
more_capped u c r s b h = more_capped_by (is_underscore b) c s r (digit u r b) h

number_capped : (u : Bool) (c r s : ℕ) (ds : List ℕ) → 1 ≤ r → min (number u r (min s c) ds) c ≡ min (number u r s ds) c
number_capped u c r s [] h = omega arith
number_capped u c r s (b ∷ bs) h =
    sym (number_capped u c r (more_digits u r (min s c) b) bs h)
    ∙ ap (λ n. min (number u r n bs) c) (more_capped u c r s b h)
    ∙ number_capped u c r (more_digits u r s b) bs h

pub turn_capped : (u : Bool) (c r t n i v : ℕ) (ds : List ℕ) → 1 ≤ r → i < length ds → n ≡ min (more_digits u r t (get_or ds i 0)) c
    → min (number u r t (drop i ds)) c ≡ v → min (number u r n (drop (i + 1) ds)) c ≡ v
turn_capped u c r t n i v ds h l e is =
    ap (λ m. min (number u r m (drop (i + 1) ds)) c) e
    ∙ number_capped u c r (more_digits u r t (get_or ds i 0)) (drop (i + 1) ds) h
    ∙ ap (λ bs. min (number u r t bs) c) (sym (next i ds l))
    ∙ is

-- ---- a number that wraps

scaled_wrap : (m s r d : ℕ) → (s % m * r + d) % m ≡ (s * r + d) % m
scaled_wrap m s r d =
    add-mod (s % m * r) d m
    ∙ ap (λ x. (x + d % m) % m) (mul-mod (s % m) r m ∙ ap (λ x. (x * (r % m)) % m) (mod-mod s m) ∙ sym (mul-mod s r m))
    ∙ sym (add-mod (s * r) d m)

more_wrapped_by : (o : Bool) (m s r d : ℕ) → cond o (s % m) (s % m * r + d) % m ≡ cond o s (s * r + d) % m
more_wrapped_by true m s r d = mod-mod s m
more_wrapped_by false m s r d = scaled_wrap m s r d

more_wrapped : (u : Bool) (m r s b : ℕ) → more_digits u r (s % m) b % m ≡ more_digits u r s b % m
more_wrapped u m r s b = more_wrapped_by (is_underscore b) m s r (digit u r b)

number_wrapped : (u : Bool) (m r s : ℕ) (ds : List ℕ) → number u r (s % m) ds % m ≡ number u r s ds % m
number_wrapped u m r s [] = mod-mod s m
number_wrapped u m r s (b ∷ bs) =
    sym (number_wrapped u m r (more_digits u r (s % m) b) bs)
    ∙ ap (λ n. number u r n bs % m) (more_wrapped u m r s b)
    ∙ number_wrapped u m r (more_digits u r s b) bs

pub turn_wrapped : (u : Bool) (m r t n i v : ℕ) (ds : List ℕ) → i < length ds → n ≡ more_digits u r t (get_or ds i 0) % m
    → number u r t (drop i ds) % m ≡ v → number u r n (drop (i + 1) ds) % m ≡ v
turn_wrapped u m r t n i v ds l e is =
    ap (λ x. number u r x (drop (i + 1) ds) % m) e
    ∙ number_wrapped u m r (more_digits u r t (get_or ds i 0)) (drop (i + 1) ds)
    ∙ ap (λ bs. number u r t bs % m) (sym (next i ds l))
    ∙ is

-- the multiplication and the addition wrap one after the other
pub more_in_two : (m s r d : ℕ) → (s * r % m + d) % m ≡ (s * r + d) % m
more_in_two m s r d = add-mod (s * r % m) d m ∙ ap (λ x. (x + d % m) % m) (mod-mod (s * r) m) ∙ sym (add-mod (s * r) d m)

-- the low 128 bits have the low bits of a lesser width
pub lower : (n w : ℕ) → w ≤ 128 → n % 2 ^ 128 % 2 ^ w ≡ n % 2 ^ w
lower n w h = let e : 128 - w + w ≡ 128 = omega arith in ap (λ k. n % 2 ^ k % 2 ^ w) (sym e) ∙ mod-mod-pow n (128 - w) w

pub lower_mask : (n w : ℕ) → w ≤ 128 → w ≢ 128 → n % 2 ^ 128 % (1 * 2 ^ w % 2 ^ 128) ≡ n % 2 ^ w
lower_mask n w h ne =
    let l : w < 128 = omega arith in
    let e : 1 * 2 ^ w ≡ 2 ^ w = omega arith in
    ap (λ m. n % 2 ^ 128 % (m % 2 ^ 128)) e ∙ ap (λ m. n % 2 ^ 128 % m) (mod-eq_of_lt (pow-lt l)) ∙ lower n w h

-- all digits were read
pub ends : (u : Bool) (m r t i v : ℕ) (ds : List ℕ) → t < m → length ds ≤ i → number u r t (drop i ds) % m ≡ v → t ≡ v
ends u m r t i v ds h l is =
    sym (mod-eq_of_lt h) ∙ ap (λ bs. number u r t bs % m) (sym (drop_of_length-le ds l)) ∙ is
