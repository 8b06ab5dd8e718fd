-- Values in the bits of a mask.
use Rattle.std.proofs.Common.{◌≡◌, ◌∙◌, ◌<◌, ◌≤◌, ◌+◌, ℕ, zero, suc, Bool, true, false, cond, ◌&&◌, ◌||◌, List, [], ◌∷◌, ◌++◌, length, replicate, get_or, refl, sym, ap, subst, inl, inr, arith}
use Rattle.std.specs.Prelude.{bit_and, bit_or, bit_xor}
use Rattle.std.specs.BTreeMap.{BTreeMap}
use Rattle.std.proofs.lemmas.Bool.{cases_eq, false≢true}
use Rattle.std.proofs.lemmas.List.{get_or_append_left, length-append}
use Rattle.std.proofs.Math.Seq.{get_or-append_seam}
use Rattle.rtl_bits.specs.declared.Bit.{Bit}
use Rattle.rtl_bits.specs.declared.Bit.TheVariants.{X}
use Rattle.rtl_bits.specs.Bit.{is_one, known_bit}
use Rattle.rtl_bits.specs.Bits.{bits_of, has_unknown, is_one_at}
use Rattle.rtl_bits.specs.Digits.{differ, one_at_and, one_at_or, one_at_xor}
use Rattle.rtl_bits.proofs.Lists.{get_or-tabulate}
use Rattle.rtl_flat.specs.declared.signal.Signal.{Signal}
use Rattle.rtl_flat.specs.Signs.{width_in}
use Rattle.rtl_flat.specs.Value.{store}
use Rattle.net_model.specs.declared.fill.Fill.{Fill}
use Rattle.net_model.specs.declared.fill.Fill.TheVariants as fill
use Rattle.net_model.specs.Numbers.{bit, fill_bit}
use Rattle.check_found.specs.rtl_scan.Sets.{has}
use Rattle.net_start.specs.Listing.{AreMasked, fills_of}

-- ---- one value

by_tests : (a m o t : Bool) (b x : Bit) → o ≡ true → known_bit a ≡ b → known_bit t ≡ x → known_bit ((a && m) || (t && differ o m)) ≡ cond m b x
by_tests a m false t b x e is other = absurd (false≢true e)
by_tests true true true t b x e is other = is
by_tests false true true true b x e is other = is
by_tests false true true false b x e is other = is
by_tests true false true true b x e is other = other
by_tests true false true false b x e is other = other
by_tests false false true true b x e is other = other
by_tests false false true false b x e is other = other

fill_known : (f : Fill) → known_bit (is_one (fill_bit f)) ≡ fill_bit f
fill_known fill.Zero = refl
fill_known fill.One = refl

pub masked_bit :
    (w mask number fills ones : ℕ) (value : List Bit) (f : Fill) →
    bits_of w number ≡ value → w ≤ 128 →
    ((k : ℕ) → k < 128 → is_one_at fills k ≡ is_one (fill_bit f)) → ((k : ℕ) → k < 128 → is_one_at ones k ≡ true) →
    (k : ℕ) → k < w →
    get_or (bits_of w (bit_or (bit_and number mask) (bit_and fills (bit_xor ones mask)))) k X ≡ cond (is_one_at mask k) (get_or value k X) (fill_bit f)
masked_bit w mask number fills ones value f spells few fills_are ones_are k below =
    let inside : k < 128 = omega (arith, below, few) in
    let all = bit_or (bit_and number mask) (bit_and fills (bit_xor ones mask)) in
    let digit : is_one_at all k ≡ ((is_one_at number k && is_one_at mask k) || (is_one_at fills k && differ (is_one_at ones k) (is_one_at mask k)))
    = one_at_or (bit_and number mask) (bit_and fills (bit_xor ones mask)) k
    ∙ (ap (λ t. t || is_one_at (bit_and fills (bit_xor ones mask)) k) (one_at_and number mask k)
    ∙ ap (λ t. (is_one_at number k && is_one_at mask k) || t) (one_at_and fills (bit_xor ones mask) k ∙ ap (λ t. is_one_at fills k && t) (one_at_xor ones mask k))) in
    let own : known_bit (is_one_at number k) ≡ get_or value k X
    = sym (get_or-tabulate w (λ i. known_bit (is_one_at number i)) k X below) ∙ ap (λ bits. get_or bits k X) spells in
    get_or-tabulate w (λ i. known_bit (is_one_at all i)) k X below
    ∙ (ap known_bit digit
    ∙ by_tests (is_one_at number k) (is_one_at mask k) (is_one_at ones k) (is_one_at fills k) (get_or value k X) (fill_bit f) (ones_are k inside) own (ap known_bit (fills_are k inside) ∙ fill_known f))

-- ---- values one after another

pub none_masked : (masks : BTreeMap ℕ ℕ) (f : Fill) (signals : List ℕ) (values made : List (List Bit)) → made ≡ [] → AreMasked masks f signals values 0 made
none_masked masks f signals values made none = record {
  many = ap length none;
  wide = λ j below. absurd (omega (arith, below));
  known = λ j below. absurd (omega (arith, below));
  bits = λ j below. absurd (omega (arith, below));
}

pub masked_more :
    (masks : BTreeMap ℕ ℕ) (f : Fill) (signals : List ℕ) (values made new : List (List Bit)) (n : ℕ) (bits : List Bit) →
    AreMasked masks f signals values n made → new ≡ made ++ bits ∷ [] →
    length bits ≡ length (store values n) → has_unknown bits ≡ false →
    ((k : ℕ) → k < length (store values n) → get_or bits k X ≡ cond (has masks (get_or signals n 0) k) (bit (store values) n k) (fill_bit f)) →
    AreMasked masks f signals values (n + 1) new
masked_more masks f signals values made new n bits are added wide known each = record {
  many = ap length added ∙ (length-append made (bits ∷ []) ∙ ap (λ m. m + 1) are.many);
  wide = λ j below. elim (cases_eq j n) as (λ _. length (store new j) ≡ length (store values j)) [
    | inl same ↦ ap length (last j same) ∙ (wide ∙ ap (λ m. length (store values m)) (sym same))
    | inr other ↦ ap length (front j (omega (arith, below, other))) ∙ are.wide j (omega (arith, below, other))
  ];
  known = λ j below. elim (cases_eq j n) as (λ _. has_unknown (store new j) ≡ false) [
    | inl same ↦ ap has_unknown (last j same) ∙ known
    | inr other ↦ ap has_unknown (front j (omega (arith, below, other))) ∙ are.known j (omega (arith, below, other))
  ];
  bits = λ j below. elim (cases_eq j n) as (λ _. (k : ℕ) → k < length (store values j) → bit (store new) j k ≡ cond (has masks (get_or signals j 0) k) (bit (store values) j k) (fill_bit f)) [
    | inl same ↦ subst (λ m. (k : ℕ) → k < length (store values m) → bit (store new) m k ≡ cond (has masks (get_or signals m 0) k) (bit (store values) m k) (fill_bit f)) (sym same)
        (λ k inside. ap (λ l. get_or l k X) (last n refl) ∙ each k inside)
    | inr other ↦ λ k inside.
        ap (λ l. get_or l k X) (front j (omega (arith, below, other))) ∙ are.bits j (omega (arith, below, other)) k inside
  ];
}
  where
    last : (j : ℕ) → j ≡ n → store new j ≡ bits
    last j same =
        ap (λ (l : List (List Bit)). get_or l j []) added
        ∙ (ap (λ m. get_or (made ++ bits ∷ []) m []) (same ∙ sym are.many) ∙ get_or-append_seam made bits [] [])

    front : (j : ℕ) → j < n → store new j ≡ store made j
    front j less =
        ap (λ (l : List (List Bit)). get_or l j []) added ∙ get_or_append_left made (bits ∷ []) [] j (let many = are.many in omega (arith, less, many))

-- ---- the fill

pub fills_at : (f : Fill) (signals : List Signal) (i : ℕ) → store (fills_of f signals) i ≡ replicate (width_in signals i) (fill_bit f)
fills_at f [] i = refl
fills_at f (s ∷ signals) zero = refl
fills_at f (s ∷ signals) (suc i) = fills_at f signals i

pub fills_known : (f : Fill) (n : ℕ) → has_unknown (replicate n (fill_bit f)) ≡ false
fills_known f zero = refl
fills_known fill.Zero (suc n) = fills_known fill.Zero n
fills_known fill.One (suc n) = fills_known fill.One n

pub fills_length : (f : Fill) (signals : List Signal) → length (fills_of f signals) ≡ length signals
fills_length f [] = refl
fills_length f (s ∷ signals) = ap suc (fills_length f signals)
