-- A vector's bits from its two numbers.
use Rattle.std.proofs.Common.{◌≡◌, ℕ, ◌<◌, ◌^◌, List, length, map, ap, sym, ◌∙◌, subst, arith, ◌+◌, ◌-◌, ◌*◌, ◌/◌, ◌%◌, ◌≤◌, ◌++◌, take, drop}
use Rattle.std.specs.Prelude.{bit_and, bit_or}
use Rattle.std.proofs.lemmas.Nat.{and_le_l, or_lt, xor_lt, or_comm, or_shifted, shl_whole}
use Rattle.rtl_bits.specs.declared.Bit.{Bit}
use Rattle.rtl_bits.specs.Bits.{zip_with, is_one_at, number_where}
use Rattle.rtl_bits.specs.Planes.{bit_of, bits_of_planes, IsVector, in_val}
use Rattle.rtl_bits.specs.Inside.{width_back, val_back, unk_back}
use Rattle.rtl_bits.specs.Digits.{one_at_and, one_at_or, one_at_xor, one_at-shr, one_at_low, one_at_high}
use Rattle.rtl_bits.proofs.Lists.{tabulate-congr, zip_with-tabulate, map-tabulate, take-tabulate, drop-tabulate, append-tabulate}
use Rattle.rtl_bits.specs.Bit.{is_unknown}

pub and_lt : (k a b : ℕ) → a < 2 ^ k → bit_and a b < 2 ^ k
and_lt k a b h = omega (arith, and_le_l a b)

-- what `&`, `|` and `^` make of numbers that fit a width fits it
pub ruleset fits = (or_lt, xor_lt, and_lt)

-- the digits that they make
pub ruleset digits = (one_at_and, one_at_or, one_at_xor)

-- two vectors of equal length have the same width
pub same_width : (w v u w1 v1 u1 : ℕ) (xs ys : List Bit) → bits_of_planes w v u ≡ xs → bits_of_planes w1 v1 u1 ≡ ys → length xs ≡ length ys → w1 ≡ w
same_width w v u w1 v1 u1 xs ys e1 e2 len =
    sym (width_back w1 v1 u1) ∙ ap length e2 ∙ sym len ∙ sym (ap length e1) ∙ width_back w v u

-- the second of them fits the width of the first
pub fits_too : (w v u w1 v1 u1 : ℕ) (xs ys : List Bit) → bits_of_planes w v u ≡ xs → bits_of_planes w1 v1 u1 ≡ ys → length xs ≡ length ys → IsVector w1 v1 u1 → IsVector w v1 u1
fits_too w v u w1 v1 u1 xs ys e1 e2 len h =
    subst (λ n. IsVector n v1 u1) (same_width w v u w1 v1 u1 xs ys e1 e2 len) h

-- an operator at each place of two vectors, from its table at one place
pub by_bits : (g : Bit → Bit → Bit) (w v u w1 v1 u1 v2 u2 : ℕ) (xs ys : List Bit) → bits_of_planes w v u ≡ xs → bits_of_planes w1 v1 u1 ≡ ys → length xs ≡ length ys → ((i : ℕ) → i < w → bit_of (is_one_at v2 i) (is_one_at u2 i) ≡ g (bit_of (is_one_at v i) (is_one_at u i)) (bit_of (is_one_at v1 i) (is_one_at u1 i))) → bits_of_planes w v2 u2 ≡ zip_with g xs ys
by_bits g w v u w1 v1 u1 v2 u2 xs ys e1 e2 len at =
    let right : bits_of_planes w v1 u1 ≡ ys
    = subst (λ n. bits_of_planes n v1 u1 ≡ ys) (same_width w v u w1 v1 u1 xs ys e1 e2 len) e2 in
    rw (← e1, ← right) (tabulate-congr w _ _ at ∙ sym (zip_with-tabulate g w _ _))

-- the same for an operator of one operand
pub by_bit : (g : Bit → Bit) (w v u v2 u2 : ℕ) (xs : List Bit) → bits_of_planes w v u ≡ xs → ((i : ℕ) → i < w → bit_of (is_one_at v2 i) (is_one_at u2 i) ≡ g (bit_of (is_one_at v i) (is_one_at u i))) → bits_of_planes w v2 u2 ≡ map g xs
by_bit g w v u v2 u2 xs e at = rw (← e) (tabulate-congr w _ _ at ∙ sym (map-tabulate g w _))

-- the lowest bits
pub take_planes : (w v u : ℕ) (xs : List Bit) → bits_of_planes w v u ≡ xs → (n : ℕ) → n ≤ length xs → take n xs ≡ bits_of_planes n v u
take_planes w v u xs e n h =
    let inside : n ≤ w = rw (← e, width_back) at h in
    rw (← e) (take-tabulate n w _ inside)

-- the bits from a place on
pub drop_planes : (w v u : ℕ) (xs : List Bit) → bits_of_planes w v u ≡ xs → (k : ℕ) → k ≤ length xs → drop k xs ≡ bits_of_planes (length xs - k) (v / 2 ^ k) (u / 2 ^ k)
drop_planes w v u xs e k h =
    let inside : k ≤ w = rw (← e, width_back) at h in
    rw (← e, width_back)
    (drop-tabulate k w _ inside
    ∙ tabulate-congr _ _ _ (λ i _. rw (one_at-shr v k i, one_at-shr u k i)))

-- two vectors, the second above the first
joined : (w p n v : ℕ) → v < 2 ^ w → p < 2 ^ n → w + n ≤ 128 → bit_or v (p * 2 ^ w % 2 ^ 128) ≡ p * 2 ^ w + v
joined w p n v v_fits p_fits room =
    rw (shl_whole p n w 128 p_fits (omega arith)) (or_comm v (p * 2 ^ w) ∙ or_shifted p w v v_fits)

at_low : (w p n v i : ℕ) → v < 2 ^ w → p < 2 ^ n → w + n ≤ 128 → i < w → is_one_at (bit_or v (p * 2 ^ w % 2 ^ 128)) i ≡ is_one_at v i
at_low w p n v i v_fits p_fits room below =
    ap (λ m. is_one_at m i) (joined w p n v v_fits p_fits room) ∙ one_at_low p w v i below

at_high : (w p n v i : ℕ) → v < 2 ^ w → p < 2 ^ n → w + n ≤ 128 → is_one_at (bit_or v (p * 2 ^ w % 2 ^ 128)) (w + i) ≡ is_one_at p i
at_high w p n v i v_fits p_fits room =
    ap (λ m. is_one_at m (w + i)) (joined w p n v v_fits p_fits room) ∙ one_at_high p w v (w + i) v_fits (omega arith)
    ∙ ap (is_one_at p) (omega arith)

pub append_planes : (w v u n p q : ℕ) (xs ys : List Bit) → bits_of_planes w v u ≡ xs → bits_of_planes n p q ≡ ys → IsVector w v u → IsVector n p q → length xs + length ys ≤ 128 → bits_of_planes (length xs + length ys) (bit_or v (p * 2 ^ length xs % 2 ^ 128)) (bit_or u (q * 2 ^ length xs % 2 ^ 128)) ≡ xs ++ ys
append_planes w v u n p q xs ys e1 e2 low high room =
    let fits : w + n ≤ 128 = rw (← e1, ← e2, width_back w v u, width_back n p q) at room in
    rw (← e1, ← e2, width_back w v u, width_back n p q)
    (append-tabulate w n _ _ _
    (λ i below. rw (at_low w p n v i low.val_fits high.val_fits fits below, at_low w q n u i low.unk_fits high.unk_fits fits below))
    (λ i _. rw (at_high w p n v i low.val_fits high.val_fits fits, at_high w q n u i low.unk_fits high.unk_fits fits)))

-- equal vectors are stored alike, and what is stored alike is equal
module _ (w v u n p q : ℕ) (xs ys : List Bit) (e1 : bits_of_planes w v u ≡ xs) (e2 : bits_of_planes n p q ≡ ys) where
  pub widths_from_same : xs ≡ ys → w ≡ n
  widths_from_same e = sym (width_back w v u) ∙ ap length (e1 ∙ e ∙ sym e2) ∙ width_back n p q

  pub vals_from_same : IsVector w v u → IsVector n p q → xs ≡ ys → v ≡ p
  vals_from_same one other e =
      sym (val_back w v u one.val_fits) ∙ ap (number_where in_val) (e1 ∙ e ∙ sym e2) ∙ val_back n p q other.val_fits

  pub unks_from_same : IsVector w v u → IsVector n p q → xs ≡ ys → u ≡ q
  unks_from_same one other e =
      sym (unk_back w v u one.unk_fits) ∙ ap (number_where is_unknown) (e1 ∙ e ∙ sym e2) ∙ unk_back n p q other.unk_fits

  pub same_from_planes : w ≡ n → v ≡ p → u ≡ q → xs ≡ ys
  same_from_planes a b c = sym e1 ∙ (rw (a, b, c) e2)
