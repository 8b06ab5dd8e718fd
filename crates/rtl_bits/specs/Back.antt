-- It serves inner contracts and proofs; no answer of the program is stated by it.
-- A number is the one that its digits spell.
use Rattle.std.proofs.Common.{◌≡◌, ℕ, zero, suc, ◌*◌, ◌/◌, ◌%◌, ◌^◌, ◌<◌, Bool, cond, ap, ◌∙◌, arith}
use Rattle.std.proofs.Math.Nat.{pow-suc}
use Rattle.rtl_bits.specs.declared.Bit.{Bit}
use Rattle.rtl_bits.specs.Bits.{tabulate, number_where, is_one_at}
use Rattle.rtl_bits.specs.Digits.{one_at-suc, lowest_of}

half_below : (w n : ℕ) → n < 2 ^ suc w → n / 2 < 2 ^ w
half_below w n h = let below : n < 2 ^ w * 2 = rw pow-suc at h in omega arith

-- below 2 to the width, a number whose digits are 1 where the bits meet the test
pub number_where_is : (test : Bit → Bool) (w n : ℕ) (f : ℕ → Bit) → n < 2 ^ w → ((i : ℕ) → i < w → test (f i) ≡ is_one_at n i) → number_where test (tabulate w f) ≡ n
number_where_is test zero n f below same = omega arith
number_where_is test (suc w) n f below same =
    let rest : number_where test (tabulate w (λ i. f (suc i))) ≡ n / 2
    = number_where_is test w (n / 2) (λ i. f (suc i)) (half_below w n below) (λ i h. same (suc i) (omega arith) ∙ one_at-suc n i) in
    let lowest : cond (test (f 0)) 1 0 ≡ n % 2 = ap (λ b. cond b 1 0) (same 0 (omega arith)) ∙ lowest_of n in
    rw (rest, lowest) (omega arith)
