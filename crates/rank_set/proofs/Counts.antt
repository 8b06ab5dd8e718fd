use Rattle.std.proofs.Common.{◌≡◌, ℕ, zero, suc, ◌+◌, ◌*◌, ◌/◌, ◌%◌, ◌^◌, ◌<◌, ◌≤◌, true, cond, eqb, List, [], ◌∷◌, get_or, map, refl, sym, ◌∙◌, ap, arith, bit_and}
use Rattle.std.specs.Int.{bit_at}
use Rattle.std.specs.Int.Count.{ones}
use Rattle.std.specs.List.{range_with_len}
use Rattle.std.proofs.lemmas.List.FromFn.{map-range_with_len_more}
use Rattle.std.proofs.lemmas.List.Sums.{sum_by_push}
use Rattle.std.proofs.lemmas.Nat.{mod-pow-add, ones_cat, pow_pos}
use Rattle.std.proofs.Math.Nat.{mod-one, mod-lt, mod-eq_of_lt}
use Rattle.std.proofs.lemmas.Nat.Bits.{bit_at-lt, shr_and_one}
use Rattle.rank_set.specs.Ranks.{members}
use Rattle.rank_set.specs.Words.{bit_flag, has, flags_of}
use Rattle.rank_set.proofs.Bits.{has_is}

-- How many bits are set below a place.

pub members_none : (words : List ℕ) → members (flags_of words 0) ≡ 0
unfolding flags_of
members_none words = refl

pub members_more : (words : List ℕ) (k : ℕ) → members (flags_of words (k + 1)) ≡ members (flags_of words k) + cond (has words k) 1 0
unfolding flags_of
members_more words k =
    ap members (map-range_with_len_more (has words) 0 k k (omega arith)) ∙ sum_by_push (λ b. cond b 1 0) (map (has words) (range_with_len 0 k)) (has words k)

pub members_at : (words : List ℕ) (j k : ℕ) → j ≡ k → members (flags_of words j) ≡ members (flags_of words k)
members_at words j k e = ap (λ n. members (flags_of words n)) e

-- the bits of one word come after those of the words before it
pub members_word : (words : List ℕ) (w j : ℕ) → j ≤ 64 → members (flags_of words (64 * w + j)) ≡ members (flags_of words (64 * w)) + members (flags_of (get_or words w 0 ∷ []) j)
members_word words w zero h =
    members_at words (64 * w + 0) (64 * w) (omega arith)
    ∙ omega (arith, members_none (get_or words w 0 ∷ []))
members_word words w (suc j) h =
    let one : List ℕ = get_or words w 0 ∷ [] in
    let same : has words (64 * w + j) ≡ has one j =
    has_is words (64 * w + j) w j (omega arith) (omega arith) ∙ sym (has_is one j 0 j (omega arith) (omega arith)) in
    let left = members_more words (64 * w + j) in
    let right = members_more one j in
    let before = members_word words w j (omega arith) in
    let bit : cond {A = ℕ} (has words (64 * w + j)) 1 0 ≡ cond {A = ℕ} (has one j) 1 0 = ap (λ b. cond b 1 0) same in
    let at = members_at words (64 * w + suc j) (64 * w + j + 1) (omega arith) in
    let one_at = members_at one (suc j) (j + 1) (omega arith) in
    omega (arith, left, right, before, bit, at, one_at)

ones_bit : (b : ℕ) → b < 2 → ones b ≡ b
unfolding ones
ones_bit zero h = refl
ones_bit (suc zero) h = refl
ones_bit (suc (suc b)) h = absurd (omega arith)

flag_count : (b : ℕ) → b < 2 → cond (eqb b 1) 1 0 ≡ b
flag_count zero h = refl
flag_count (suc zero) h = refl
flag_count (suc (suc b)) h = absurd (omega arith)

bit_counts : (word j : ℕ) → j < 64 → cond (has (word ∷ []) j) 1 0 ≡ bit_at word j
unfolding bit_flag
bit_counts word j h =
    ap (λ b. cond b 1 0) (has_is (word ∷ []) j 0 j (omega arith) (omega arith)) ∙ flag_count (bit_at word j) (bit_at-lt word j)

ones_more : (word j : ℕ) → ones (word % 2 ^ suc j) ≡ bit_at word j + ones (word % 2 ^ j)
ones_more word j =
    ap ones (ap (λ n. word % 2 ^ n) (omega arith) ∙ mod-pow-add word 1 j)
    ∙ ones_cat j (bit_at word j) (word % 2 ^ j) (mod-lt word (pow_pos j))
    ∙ ap (λ n. n + ones (word % 2 ^ j)) (ones_bit (bit_at word j) (bit_at-lt word j))

-- the bits of a word are as many as `count_ones` says
members_low : (word j : ℕ) → j ≤ 64 → members (flags_of (word ∷ []) j) ≡ ones (word % 2 ^ j)
unfolding ones
members_low word zero h = members_none (word ∷ []) ∙ ap ones (sym (mod-one word))
members_low word (suc j) h =
    members_at (word ∷ []) (suc j) (j + 1) (omega arith)
    ∙ members_more (word ∷ []) j
    ∙ omega (arith, members_low word j (omega arith), ones_more word j, bit_counts word j (omega arith))

pub members_ones : (word : ℕ) → word < 2 ^ 64 → members (flags_of (word ∷ []) 64) ≡ ones word
members_ones word h = members_low word 64 (omega arith) ∙ ap ones (mod-eq_of_lt h)

-- `word >> k & 1`
pub bit_test : (word k : ℕ) → k < 64 → cond (has (word ∷ []) k) 1 0 ≡ bit_and (word / 2 ^ k) 1
bit_test word k h = bit_counts word k h ∙ sym (shr_and_one word k)

pub bit_set : (word k : ℕ) → k < 64 → bit_and (word / 2 ^ k) 1 ≡ 1 → has (word ∷ []) k ≡ true
unfolding bit_flag
bit_set word k h e =
    has_is (word ∷ []) k 0 k (omega arith) (omega arith) ∙ ap (λ b. eqb b 1) (sym (shr_and_one word k) ∙ e)

pub bit_below : (word k : ℕ) → bit_and (word / 2 ^ k) 1 < 2
bit_below word k = omega (arith, shr_and_one word k, bit_at-lt word k)
