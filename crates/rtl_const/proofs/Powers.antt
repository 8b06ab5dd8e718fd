-- Powers with a large exponent, and logarithms rounded up.
use Rattle.std.specs.Prelude.{ℕ, zero, suc, ◌+◌, ◌*◌, ◌%◌, ◌^◌, ◌<◌, ◌≤◌, ◌==◌, nat_le, ℤ, pos, negsuc, neg_ℤ, Bool, true, false, if◌then◌else◌, Err}
use Rattle.std.specs.Int.{int_pow}
use Rattle.std.specs.List.{range_with_len}
use Rattle.std.proofs.Common.{◌≡◌, ◌∙◌, sym, ap, refl, arith, length, get_or, le_trans, pow_mono, pow-suc, mul-zero}
use Rattle.std.proofs.Math.Nat.{mul-one, pow-le-pow_left}
use Rattle.std.proofs.lemmas.Bool.Decides.{nat_tests}
use Rattle.std.proofs.lemmas.Grind.{pow_more}
use Rattle.std.proofs.lemmas.List.FromFn.{get_or-range_with_len, length-range_with_len}
use Rattle.std.proofs.lemmas.List.Sums.{position_or_len_is}
use Rattle.rtl_const.specs.Constant.{clog2, ranged}
use Rattle.rtl_const.specs.declared.fault.ConstFault.TheVariants.{Overflow}
use Rattle.rtl_const.proofs.Shifts.{above, below}

zero-pow : (e : ℕ) → 0 < e → 0 ^ e ≡ 0
zero-pow zero some = absurd (omega arith)
zero-pow (suc e) some = pow-suc 0 e ∙ mul-zero (0 ^ e)

one-pow : (e : ℕ) → 1 ^ e ≡ 1
one-pow zero = refl
one-pow (suc e) = pow-suc 1 e ∙ mul-one (1 ^ e) ∙ one-pow e

-- from 2 on a number leaves the range
past : (n e : ℕ) → 64 ≤ e → 2 ^ 64 ≤ suc (suc n) ^ e
past n e far =
    let two : 2 ≤ suc (suc n) = omega arith in
    le_trans (pow_mono {i = 64} {j = e} far) (pow-le-pow_left two e)

signed_past : (at m : ℕ) (even : Bool) → 2 ^ 64 ≤ m → ranged at (if even then pos m else neg_ℤ (pos m)) ≡ Err (Overflow at)
signed_past at m true large = above at m (omega (arith, large))
signed_past at m false large = below at m (omega (arith, large))

-- the sign of a power of a negative number
abbrev signed : ℕ → ℕ → ℤ
signed r m = if r == 0 then pos m else neg_ℤ (pos m)

-- where the exponent is 64 or more, it counts whether it is even
pub same_raised : (at e k : ℕ) (a : ℤ) → 64 ≤ e → 64 ≤ k → e % 2 ≡ k % 2 → ranged at (int_pow a e) ≡ ranged at (int_pow a k)
same_raised at e k (pos zero) far away even =
    ap (λ m. ranged at (pos m)) (zero-pow e (omega arith) ∙ sym (zero-pow k (omega arith)))
same_raised at e k (pos (suc zero)) far away even =
    ap (λ m. ranged at (pos m)) (one-pow e ∙ sym (one-pow k))
same_raised at e k (pos (suc (suc n))) far away even =
    above at (suc (suc n) ^ e) (omega (arith, past n e far)) ∙ sym (above at (suc (suc n) ^ k) (omega (arith, past n k away)))
same_raised at e k (negsuc zero) far away even =
    ap (λ m. ranged at (signed (e % 2) m)) (one-pow e)
    ∙ ap (λ r. ranged at (signed r 1)) even
    ∙ ap (λ m. ranged at (signed (k % 2) m)) (sym (one-pow k))
same_raised at e k (negsuc (suc n)) far away even =
    signed_past at (suc (suc n) ^ e) (e % 2 == 0) (past n e far) ∙ sym (signed_past at (suc (suc n) ^ k) (k % 2 == 0) (past n k away))

unreached : (n j : ℕ) → j < 129 → 2 ^ j < n → nat_le n (2 ^ get_or (range_with_len 0 129) j 0) ≡ false
unreached n j fits low =
    let there : get_or (range_with_len 0 129) j 0 ≡ j = get_or-range_with_len 0 129 j 0 fits ∙ omega arith in
    rw there (grind (arith, nat_tests))

reached : (n k : ℕ) → k < 129 → n ≤ 2 ^ k → nat_le n (2 ^ get_or (range_with_len 0 129) k 0) ≡ true
reached n k fits high =
    let there : get_or (range_with_len 0 129) k 0 ≡ k = get_or-range_with_len 0 129 k 0 fits ∙ omega arith in
    rw there (grind (arith, nat_tests))

-- the least exponent that reaches a number
pub clog2_is : (n k : ℕ) → k < 129 → n ≤ 2 ^ k → ((j : ℕ) → j < k → 2 ^ j < n) → k ≡ clog2 n
unfolding clog2
clog2_is n k fits high low =
    let long : length (range_with_len 0 129) ≡ 129 = length-range_with_len 0 129 in
    sym (position_or_len_is (λ k. nat_le n (2 ^ k)) (range_with_len 0 129) k 0 (omega (arith, long)) (λ j small. unreached n j (omega arith) (low j small)) (λ inside. reached n k fits high))

-- of 2 and more it is one more than the highest place of the number before
pub clog2_above : (n r : ℕ) → r < 128 → 2 ^ r < n → n ≤ 2 * 2 ^ r → r + 1 ≡ clog2 n
clog2_above n r fits low high =
    let twice : 2 ^ (r + 1) ≡ 2 ^ r * 2 = pow_more 2 r in
    clog2_is n (r + 1) (omega arith) (omega (arith, twice)) (λ j small. let least : 2 ^ j ≤ 2 ^ r = pow_mono {i = j} {j = r} (omega arith) in omega arith)

pub clog2_none : (n : ℕ) → n ≤ 1 → 0 ≡ clog2 n
clog2_none n few = clog2_is n 0 (omega arith) few (λ j small. absurd (omega arith))

pub even_raised : (at e : ℕ) (a : ℤ) → 64 ≤ e → ranged at (int_pow a (64 + e % 2)) ≡ ranged at (int_pow a e)
even_raised at e a far = same_raised at (64 + e % 2) e a (omega arith) far (omega arith)
