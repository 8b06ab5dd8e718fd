-- The value of a firm expression is known, and is its number.
use Rattle.std.proofs.Common.{◌≡◌, ◌∙◌, ◌+◌, ◌-◌, ◌^◌, ◌≤◌, ℕ, ℤ, pos, negsuc, ◌-ℤ◌, false, cond, List, [], ◌∷◌, ◌++◌, length, refl, sym, ap, subst, arith}
use Rattle.std.proofs.lemmas.Int.{ints}
use Rattle.rtl_bits.specs.declared.Bit.{Bit}
use Rattle.rtl_bits.specs.declared.Bit.TheVariants.{Zero, One, X, Z}
use Rattle.rtl_bits.specs.Bits.{copies, extended, number, truth_bit}
use Rattle.rtl_bits.proofs.Numbers.{number-lt}
use Rattle.rtl_flat.specs.declared.expr.Join.{Join}
use Rattle.rtl_flat.specs.declared.expr.Join.TheVariants as join
use Rattle.rtl_flat.specs.Expression.{Tree, Sized, Literal, Whole, BitAt, BitBy, Part, Turned, Joined, Compared, Linked, Folded, Shifted, Chosen, Empty, Beside, Repeated, Recast}
use Rattle.rtl_flat.specs.Sizes.{IsSized, width_of}
use Rattle.rtl_flat.specs.Value.{bit_at, bit_by, chosen, compared, folded, index_number, joined, linked, shifted, turned, value}
use Rattle.rtl_flat.specs.Flats.{Flat, widths}
use Rattle.event_model.specs.Writes.{Values}
use Rattle.event_laws.proofs.Sizes.{value_size}
use Rattle.net_model.specs.declared.fill.Fill.{Fill}
use Rattle.net_model.specs.Numbers.{AreNumbers, digits, filled, filled_bit}
use Rattle.net_laws.specs.Laws.{IsExact}
use Rattle.net_laws.specs.Tame.{IsDefinedBy, IsFirm, IsPlace}
use Rattle.net_laws.proofs.Known.{both, Known, KnownBit, NeedsNonzero, chosen_known, compared_known, copies_known, extended_known, first_known, folded_known, joined_known, known_append, known_at, known_one, linked_known, others_known, selected_known, shifted_known, truth_known, turned_known}

-- ---- the fill stands for nothing in what is known

pub filled_same_bit : (f : Fill) (b : Bit) → KnownBit b → filled_bit f b ≡ b
filled_same_bit f Zero known = refl
filled_same_bit f One known = refl
filled_same_bit f X known = cc
filled_same_bit f Z known = cc

pub filled_same : (f : Fill) (a : List Bit) → Known a → filled f a ≡ a
filled_same f [] known = refl
filled_same f (b ∷ a) known =
    ap (λ x. x ∷ filled f a) (filled_same_bit f b (first_known b a known))
    ∙ ap (λ xs. b ∷ xs) (filled_same f a (others_known b a known))

-- ---- bits that are inside

place_known : (a : List Bit) (index : ℤ) → Known a → IsPlace index (length a) → KnownBit (bit_at a index)
place_known a (pos k) known inside = known_at a k known inside
place_known a (negsuc k) known inside = absurd inside

by_index : (a index : List Bit) (low : ℕ) → Known a → Known index → low ≡ 0 → 2 ^ length index ≤ length a → KnownBit (bit_by a low false index)
by_index a index low known known_index zero few =
    let below = number-lt index in
    let place : pos (number index) -ℤ pos low ≡ pos (number index) = omega (arith, ints, zero) in
    subst (λ unknown. KnownBit (cond unknown X (bit_at a (index_number false index -ℤ pos low)))) (sym known_index)
    (subst (λ z. KnownBit (bit_at a z)) (sym place) (known_at a (number index) known (omega (arith, below, few))))

module _ (d : Flat) (f : Fill) (v : Values) (are : AreNumbers d v) where
  -- a divisor that is never 0 isn't 0 here
  nonzero : (operator : Join) (e : Tree) → IsDefinedBy d operator e → digits f v e ≡ value v e → NeedsNonzero operator (number (value v e))
  nonzero join.Add e firm same = tt
  nonzero join.Subtract e firm same = tt
  nonzero join.Multiply e firm same = tt
  nonzero join.Divide e firm same = λ none. firm f v are (ap number same ∙ none)
  nonzero join.Remainder e firm same = λ none. firm f v are (ap number same ∙ none)
  nonzero join.And e firm same = tt
  nonzero join.Or e firm same = tt
  nonzero join.Xor e firm same = tt
  nonzero join.Xnor e firm same = tt

  size : (e : Tree) → IsSized (length d.signals) (widths d) e → length (value v e) ≡ width_of (widths d) e
  size e sized = value_size (length d.signals) (widths d) v (λ i below. are.wide i) e sized

  pub exact : (e : Tree) → IsSized (length d.signals) (widths d) e → IsFirm d e → IsExact f v e
  exact (Sized width signed spot e) sized firm =
      let inner = exact e sized.2 firm in
      let long = size e sized.2 in
      let some = sized.1.not_empty in
      record {
        known = extended_known width signed (value v e) (omega (arith, long, some)) inner.known;
        same = ap (extended width signed) inner.same;
      }
  exact (Literal bits) sized firm = record { known = firm; same = filled_same f bits firm }
  exact (Whole i) sized firm = record { known = are.known i; same = refl }
  exact (BitAt i low index) sized firm =
      let known = place_known (v i) (index -ℤ pos low) (are.known i) (subst (IsPlace (index -ℤ pos low)) (sym (are.wide i)) firm) in
      record {
        known = known_one (bit_at (v i) (index -ℤ pos low)) known;
        same = ap (λ b. b ∷ []) (filled_same_bit f (bit_at (v i) (index -ℤ pos low)) known);
      }
  exact (BitBy i low signed index) sized firm =
      let inner = exact index sized.1 firm.3 in
      let long = size index sized.1 in
      let few : 2 ^ length (value v index) ≤ length (v i) = rw (long, are.wide i) (firm.2) in
      let plain = by_index (v i) (value v index) low (are.known i) inner.known firm.1 few in
      let known : KnownBit (bit_by (v i) low signed (value v index)) = subst (λ s. KnownBit (bit_by (v i) low s (value v index))) (sym firm.0) plain in
      record {
        known = known_one (bit_by (v i) low signed (value v index)) known;
        same = ap (λ a. filled_bit f (bit_by (v i) low signed a) ∷ []) inner.same
            ∙ ap (λ b. b ∷ []) (filled_same_bit f (bit_by (v i) low signed (value v index)) known);
      }
  exact (Part i low width) sized firm =
      record { known = selected_known low width (v i) (are.known i); same = refl }
  exact (Turned operator a) sized firm =
      let inner = exact a sized firm in
      record { known = turned_known operator (value v a) inner.known; same = ap (turned operator) inner.same }
  exact (Joined operator signed a b) sized firm =
      let left = exact a sized.1 firm.0 in
      let right = exact b sized.2 firm.1 in
      let known = joined_known operator signed (value v a) (value v b) left.known right.known (nonzero operator b firm.2 right.same) in
      record {
        known = known;
        same = ap (filled f) (both (joined operator signed) (digits f v a) (value v a) (digits f v b) (value v b) left.same right.same)
            ∙ filled_same f (joined operator signed (value v a) (value v b)) known;
      }
  exact (Compared operator signed a b) sized firm =
      let left = exact a sized.1 firm.0 in
      let right = exact b sized.2 firm.1 in
      record {
        known = known_one (compared operator signed (value v a) (value v b)) (compared_known operator signed (value v a) (value v b) left.known right.known);
        same = both (λ x y. compared operator signed x y ∷ []) (digits f v a) (value v a) (digits f v b) (value v b) left.same right.same;
      }
  exact (Linked operator a b) sized firm =
      let left = exact a sized.0 firm.0 in
      let right = exact b sized.1 firm.1 in
      record {
        known = known_one (linked operator (value v a) (value v b)) (linked_known operator (value v a) (value v b) left.known right.known);
        same = both (λ x y. linked operator x y ∷ []) (digits f v a) (value v a) (digits f v b) (value v b) left.same right.same;
      }
  exact (Folded operator a) sized firm =
      let inner = exact a sized firm in
      record {
        known = known_one (folded operator (value v a)) (folded_known operator (value v a) inner.known);
        same = ap (λ x. folded operator x ∷ []) inner.same;
      }
  exact (Shifted operator signed a amount) sized firm =
      let left = exact a sized.1 firm.0 in
      let right = exact amount sized.2 firm.1 in
      let long = size a sized.1 in
      let some = sized.0 in
      record {
        known = shifted_known operator signed (value v a) (value v amount) (omega (arith, long, some)) left.known right.known;
        same = both (shifted operator signed) (digits f v a) (value v a) (digits f v amount) (value v amount) left.same right.same;
      }
  exact (Chosen c a b) sized firm =
      let test = exact c sized.1 firm.0 in
      let left = exact a sized.2 firm.1 in
      let right = exact b sized.3 firm.2 in
      record {
        known = chosen_known (truth_bit (value v c)) (value v a) (value v b) (truth_known (value v c) test.known) left.known right.known;
        same = ap (λ x. chosen (truth_bit x) (digits f v a) (digits f v b)) test.same
            ∙ both (chosen (truth_bit (value v c))) (digits f v a) (value v a) (digits f v b) (value v b) left.same right.same;
      }
  exact Empty sized firm = record { known = refl; same = refl }
  exact (Beside a others) sized firm =
      let front = exact a sized.0 firm.0 in
      let back = exact others sized.1 firm.1 in
      record {
        known = known_append (value v others) (value v a) back.known front.known;
        same = both (λ x y. x ++ y) (digits f v others) (value v others) (digits f v a) (value v a) back.same front.same;
      }
  exact (Repeated times a) sized firm =
      let inner = exact a sized firm in
      record { known = copies_known times (value v a) inner.known; same = ap (copies times) inner.same }
  exact (Recast a) sized firm =
      let inner = exact a sized firm in
      record { known = inner.known; same = inner.same }
