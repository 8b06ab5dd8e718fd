-- Tests of resets: each is true just where its signal has the level, and reads nothing else.
use Rattle.std.proofs.Common.{◌≡◌, ◌∙◌, ◌-◌, ◌≤◌, ◌&&◌, ◌||◌, ℕ, zero, suc, Bool, true, false, cond, not, List, [], ◌∷◌, ◌++◌, None, Some, length, map, replicate, take, refl, sym, ap, subst, inl, inr, arith}
use Rattle.std.specs.Prelude.{◌==◌, if◌then◌else◌, IsTrue}
use Rattle.std.specs.List.{list_any, slice_index_or}
use Rattle.std.proofs.lemmas.Bool.{and_parts, eqb-true, false≢true, or_cases, or_from, or_parts, true≢false}
use Rattle.rtl_bits.specs.declared.Bit.{Bit}
use Rattle.rtl_bits.specs.declared.Bit.TheVariants.{Zero, One, X, Z}
use Rattle.rtl_bits.specs.declared.Edge.{Edge}
use Rattle.rtl_bits.specs.declared.Edge.TheVariants.{No, Pos, Neg}
use Rattle.rtl_bits.specs.Bit.{is_one, is_unknown, not_bit}
use Rattle.rtl_bits.specs.Bits.{all_with, equal_bit, extended, has_unknown, may_equal, number_where, same_bit, truth_bit}
use Rattle.rtl_flat.specs.declared.expr.Compare.TheVariants as compare
use Rattle.rtl_flat.specs.declared.expr.Fold.TheVariants as fold
use Rattle.rtl_flat.specs.declared.expr.Turn.TheVariants as turn
use Rattle.rtl_flat.specs.Expression.{Tree, Sized, Literal, Turned, Compared, Folded}
use Rattle.rtl_flat.specs.Expression as tree
use Rattle.rtl_flat.specs.Flows.{reads}
use Rattle.rtl_flat.specs.Signs.{IsExpression}
use Rattle.rtl_flat.specs.Sizing.{signed_in}
use Rattle.rtl_flat.specs.WellFormed.{has_edge}
use Rattle.event_model.specs.Writes.{Values}
use Rattle.net_model.specs.declared.fill.Fill.{Fill}
use Rattle.net_model.specs.Cycle.{Guard, Tests, level}
use Rattle.net_model.specs.Numbers.{AreNumbers, bit, digits, filled}
use Rattle.net_laws.proofs.Literals.{extended_whole}
use Rattle.rtl_rule.specs.Parts.{agree}
use Rattle.rtl_flat.specs.Flats.{Flat, widths}
use Rattle.check_chains.specs.Chains.{Test, compared, goes_up, test_of, tested}

-- ---- bits

-- one known bit
record IsKnownBit (bits : List Bit) : Type 0 where
  bit : Bit
  known : is_unknown bit ≡ false
  is : bits ≡ bit ∷ []

known_bit : (bits : List Bit) → length bits ≡ 1 → has_unknown bits ≡ false → IsKnownBit bits
known_bit [] one known = absurd (omega (arith, one))
known_bit (b ∷ []) one known = record { bit = b; known = (or_parts (is_unknown b) false known).0; is = refl }
known_bit (b ∷ c ∷ bits) one known = absurd (omega (arith, one))

abbrev nil_bits : List Bit
nil_bits = []

take_none : (m : ℕ) → take m nil_bits ≡ nil_bits
take_none zero = refl
take_none (suc m) = refl

-- a bit in a wider place
pub spread : (m : ℕ) (signed : Bool) (b : Bit) → extended (suc m) signed (b ∷ []) ≡ b ∷ replicate m (cond signed b Zero)
spread m signed b =
    let fewer : suc m - 1 ≡ m = omega arith in
    ap (λ xs. b ∷ (xs ++ replicate (suc m - 1) (cond signed b Zero))) (take_none m)
    ∙ ap (λ k. b ∷ replicate k (cond signed b Zero)) fewer

any_zero : (test : Bit → Bool) → test Zero ≡ false → (m : ℕ) → list_any test (replicate m Zero) ≡ false
any_zero test isnt zero = refl
any_zero test isnt (suc m) = or_from _ _ isnt (any_zero test isnt m)

spread_zero : (m : ℕ) (signed : Bool) → truth_bit (Zero ∷ replicate m (cond signed Zero Zero)) ≡ Zero
spread_zero m signed =
    ap (λ b. truth_bit (Zero ∷ replicate m b)) (same signed)
    ∙ ap (λ b. cond b One (cond (list_any is_unknown (replicate m Zero)) X Zero)) (any_zero is_one refl m)
    ∙ ap (λ b. cond b X Zero) (any_zero is_unknown refl m)
  where
    same : (s : Bool) → cond s Zero Zero ≡ Zero
    same true = refl
    same false = refl

-- is true where the bit is
pub spread_truth : (w : ℕ) → 1 ≤ w → (signed : Bool) (b : Bit) → is_unknown b ≡ false → truth_bit (extended w signed (b ∷ [])) ≡ b
spread_truth zero some signed b known = absurd (omega (arith, some))
spread_truth (suc m) some signed Zero known = ap truth_bit (spread m signed Zero) ∙ spread_zero m signed
spread_truth (suc m) some signed One known = ap truth_bit (spread m signed One)
spread_truth (suc m) some signed X known = absurd (true≢false known)
spread_truth (suc m) some signed Z known = absurd (true≢false known)

filled_known : (f : Fill) (bits : List Bit) → has_unknown bits ≡ false → filled f bits ≡ bits
filled_known f [] known = refl
filled_known f (Zero ∷ bits) known = ap (λ xs. Zero ∷ xs) (filled_known f bits known)
filled_known f (One ∷ bits) known = ap (λ xs. One ∷ xs) (filled_known f bits known)
filled_known f (X ∷ bits) known = absurd (true≢false known)
filled_known f (Z ∷ bits) known = absurd (true≢false known)

-- ---- literals that are 0 or 1

zero_bits : (bits : List Bit) → has_unknown bits ≡ false → number_where is_one bits ≡ 0 → bits ≡ replicate (length bits) Zero
zero_bits [] known none = refl
zero_bits (Zero ∷ bits) known none =
    ap (λ xs. Zero ∷ xs) (zero_bits bits known (omega (arith, none)))
zero_bits (One ∷ bits) known none = absurd (omega (arith, none))
zero_bits (X ∷ bits) known none = absurd (true≢false known)
zero_bits (Z ∷ bits) known none = absurd (true≢false known)

abbrev pub as_bit : Bool → Bit
as_bit true = One
as_bit false = Zero

-- the digit 1 or 0 with zeros above
record IsDigit (bits : List Bit) (digit : Bit) : Type 0 where
  more : ℕ
  wide : length bits ≡ suc more
  is : bits ≡ digit ∷ replicate more Zero

one_digit : (bits : List Bit) → has_unknown bits ≡ false → number_where is_one bits ≡ 1 → IsDigit bits One
one_digit [] known one = absurd (omega (arith, one))
one_digit (Zero ∷ bits) known one = absurd (omega (arith, one))
one_digit (One ∷ bits) known one =
    record { more = length bits; wide = refl; is = ap (λ xs. One ∷ xs) (zero_bits bits known (omega (arith, one))) }
one_digit (X ∷ bits) known one = absurd (true≢false known)
one_digit (Z ∷ bits) known one = absurd (true≢false known)

zero_digit : (bits : List Bit) → 1 ≤ length bits → has_unknown bits ≡ false → number_where is_one bits ≡ 0 → IsDigit bits Zero
zero_digit [] some known none = absurd (omega (arith, some))
zero_digit (b ∷ bits) some known none = by_bits (b ∷ bits) refl (zero_bits (b ∷ bits) known none)
  where
    by_bits : (all : List Bit) → length all ≡ suc (length bits) → all ≡ Zero ∷ replicate (length bits) Zero → IsDigit all Zero
    by_bits all wide is = record { more = length bits; wide = wide; is = is }

all_equal : (m : ℕ) → all_with may_equal (replicate m Zero) (replicate m Zero) ≡ true
all_equal zero = refl
all_equal (suc m) = all_equal m

-- a bit compared with such a digit
digit_truth : (m : ℕ) (b : Bit) → is_unknown b ≡ false → (level : Bool) → equal_bit (b ∷ replicate m Zero) (as_bit level ∷ replicate m Zero) ≡ as_bit (same_bit b (as_bit level))
digit_truth m Zero known true = refl
digit_truth m Zero known false =
    ap (λ x. cond x (cond (list_any is_unknown (replicate m Zero) || list_any is_unknown (replicate m Zero)) X One) Zero) (all_equal m)
    ∙ ap (λ x. cond x X One) (or_from _ _ (any_zero is_unknown refl m) (any_zero is_unknown refl m))
digit_truth m One known true =
    ap (λ x. cond x (cond (list_any is_unknown (replicate m Zero) || list_any is_unknown (replicate m Zero)) X One) Zero) (all_equal m)
    ∙ ap (λ x. cond x X One) (or_from _ _ (any_zero is_unknown refl m) (any_zero is_unknown refl m))
digit_truth m One known false = refl
digit_truth m X known level = absurd (true≢false known)
digit_truth m Z known level = absurd (true≢false known)

as_bit_known : (b : Bool) → is_unknown (as_bit b) ≡ false
as_bit_known true = refl
as_bit_known false = refl

as_bit_one : (b : Bool) → is_one (as_bit b) ≡ b
as_bit_one true = refl
as_bit_one false = refl

is_high : (b : Bit) → is_unknown b ≡ false → is_one b ≡ same_bit b One
is_high Zero known = refl
is_high One known = refl
is_high X known = absurd (true≢false known)
is_high Z known = absurd (true≢false known)

is_low : (b : Bit) → is_unknown b ≡ false → is_one (not_bit b) ≡ same_bit b Zero
is_low Zero known = refl
is_low One known = refl
is_low X known = absurd (true≢false known)
is_low Z known = absurd (true≢false known)

not_known : (b : Bit) → is_unknown b ≡ false → is_unknown (not_bit b) ≡ false
not_known Zero known = refl
not_known One known = refl
not_known X known = absurd (true≢false known)
not_known Z known = absurd (true≢false known)

-- ---- tests

module _ (d : Flat) where
  -- what a comparison with a literal tests
  record IsCompared (signed : Bool) (r : ℕ) (bits : List Bit) (one : Test) : Type 0 where
    signal : r ≡ one.signal
    unsigned : signed ≡ false
    known : has_unknown bits ≡ false
    digit : 1 ≤ length bits → IsDigit bits (as_bit one.level)

  compared_is : (signed own : Bool) (r : ℕ) (bits : List Bit) (one : Test) → compared signed own r bits ≡ Some one → IsCompared signed r bits one
  compared_is signed own r bits one e =
      by_known (signed || (own && not (length bits == 1)) || list_any is_unknown bits) refl e
    where
      by_zero : (b : Bool) → (number_where is_one bits == 0) ≡ b → signed ≡ false → has_unknown bits ≡ false → (if b then test_of r false else None) ≡ Some one → IsCompared signed r bits one
      by_zero true is unsigned known e' =
          let same : record { signal = r; level = false } ≡ one = cc (e') in
          record {
            signal = ap (λ (t : Test). t.signal) same;
            unsigned = unsigned;
            known = known;
            digit = λ some. subst (λ (t : Test). IsDigit bits (as_bit t.level)) same (zero_digit bits some known (eqb-true _ 0 is));
          }
      by_zero false isnt unsigned known e' = absurd (cc)

      by_one : (b : Bool) → (number_where is_one bits == 1) ≡ b → signed ≡ false → has_unknown bits ≡ false → (if b then test_of r true else if number_where is_one bits == 0 then test_of r false else None) ≡ Some one → IsCompared signed r bits one
      by_one true is unsigned known e' =
          let same : record { signal = r; level = true } ≡ one = cc (e') in
          record {
            signal = ap (λ (t : Test). t.signal) same;
            unsigned = unsigned;
            known = known;
            digit = λ some. subst (λ (t : Test). IsDigit bits (as_bit t.level)) same (one_digit bits known (eqb-true _ 1 is));
          }
      by_one false isnt unsigned known e' =
          by_zero (number_where is_one bits == 0) refl unsigned known e'

      by_known : (b : Bool) → (signed || (own && not (length bits == 1)) || list_any is_unknown bits) ≡ b → (if b then None else if number_where is_one bits == 1 then test_of r true else if number_where is_one bits == 0 then test_of r false else None) ≡ Some one → IsCompared signed r bits one
      by_known true is e' = absurd (cc)
      by_known false isnt e' =
          let (both, known) = or_parts (signed || (own && not (length bits == 1))) (list_any is_unknown bits) isnt in
          let (unsigned, narrow) = or_parts signed (own && not (length bits == 1)) both in
          by_one (number_where is_one bits == 1) refl unsigned known e'

  module _ (f : Fill) (n : Values) (are : AreNumbers d n) where
    -- an expression is true just where a signal has a level
    abbrev IsTrueAt : Tree → Test → Type 0
    IsTrueAt e one = is_one (truth_bit (digits f n e)) ≡ same_bit (bit n one.signal 0) (as_bit one.level)

    signal_bit : (r : ℕ) → widths d r ≡ 1 → IsKnownBit (n r)
    signal_bit r one = known_bit (n r) (are.wide r ∙ one) (are.known r)

    truth : (e : Tree) → IsExpression d.signals e → (one : Test) → tested d e ≡ Some one → widths d one.signal ≡ 1 → IsTrueAt e one
    truth (Sized w s at (tree.Whole r)) sized one e wide =
        let same : record { signal = r; level = true } ≡ one = cc (e) in
        let here = signal_bit r (ap (λ (t : Test). widths d t.signal) same ∙ wide) in
        let some = sized.widths.1.inside in
        let some' = sized.widths.1.not_empty in
        subst (IsTrueAt (Sized w s at (tree.Whole r))) same
        (ap (λ bits. is_one (truth_bit (extended w s bits))) here.is
        ∙ ap is_one (spread_truth w (omega (arith, some, some')) s here.bit here.known)
        ∙ is_high here.bit here.known
        ∙ ap (λ bits. same_bit (slice_index_or bits 0 X) One) (sym here.is))
    truth (Sized w s at (Folded fold.Negation (Sized w' s' at' (tree.Whole r)))) sized one e wide =
        let same : record { signal = r; level = false } ≡ one = cc (e) in
        let here = signal_bit r (ap (λ (t : Test). widths d t.signal) same ∙ wide) in
        let some = sized.widths.1.inside in
        let some' = sized.widths.2.1.inside in
        let some'' = sized.widths.2.1.not_empty in
        subst (IsTrueAt (Sized w s at (Folded fold.Negation (Sized w' s' at' (tree.Whole r))))) same
        (ap (λ bits. is_one (truth_bit (extended w s (not_bit (truth_bit (extended w' s' bits)) ∷ [])))) here.is
        ∙ ap (λ b. is_one (truth_bit (extended w s (not_bit b ∷ [])))) (spread_truth w' (omega (arith, some', some'')) s' here.bit here.known)
        ∙ ap is_one (spread_truth w (omega (arith, some)) s (not_bit here.bit) (not_known here.bit here.known))
        ∙ is_low here.bit here.known
        ∙ ap (λ bits. same_bit (slice_index_or bits 0 X) Zero) (sym here.is))
    truth (Sized w s at (Turned turn.Complement (Sized w' s' at' (tree.Whole r)))) sized one e wide =
        by_width (w' == 1) refl e
      where
        by_width : (b : Bool) → (w' == 1) ≡ b → (if b then test_of r false else None) ≡ Some one → IsTrueAt (Sized w s at (Turned turn.Complement (Sized w' s' at' (tree.Whole r)))) one
        by_width true is e' =
            let same : record { signal = r; level = false } ≡ one = cc (e') in
            let here = signal_bit r (ap (λ (t : Test). widths d t.signal) same ∙ wide) in
            let some = sized.widths.1.inside in
            let some' = sized.widths.1.not_empty in
            subst (IsTrueAt (Sized w s at (Turned turn.Complement (Sized w' s' at' (tree.Whole r))))) same
            (ap (λ k. is_one (truth_bit (extended w s (map not_bit (extended k s' (n r)))))) (eqb-true w' 1 is)
            ∙ ap (λ bits. is_one (truth_bit (extended w s (map not_bit (extended 1 s' bits))))) here.is
            ∙ ap is_one (spread_truth w (omega (arith, some, some')) s (not_bit here.bit) (not_known here.bit here.known))
            ∙ is_low here.bit here.known
            ∙ ap (λ bits. same_bit (slice_index_or bits 0 X) Zero) (sym here.is))
        by_width false isnt e' = absurd (cc)
    truth (Sized w s at (Compared compare.Equal t (Sized w' s' at' (tree.Whole r)) (Sized w'' s'' at'' (Literal bits)))) sized one e wide =
        let is = compared_is s' (signed_in d.signals r) r bits one e in
        let here = signal_bit r (ap (widths d) is.signal ∙ wide) in
        let digit = is.digit sized.widths.2.2.1.not_empty in
        let whole = sized.widths.2.2.1.whole refl in
        let both = sized.widths.2.0 in
        let wide' : w' ≡ suc digit.more = both ∙ sym whole ∙ digit.wide in
        let some = sized.widths.1.inside in
        let plain = low_above digit.more wide' is.unsigned here.bit in
        ap (λ xs. is_one (truth_bit (extended w s (equal_bit (extended w' s' xs) (extended w'' s'' (filled f bits)) ∷ [])))) here.is
        ∙ ap (λ xs. is_one (truth_bit (extended w s (equal_bit xs (extended w'' s'' (filled f bits)) ∷ [])))) plain
        ∙ ap (λ xs. is_one (truth_bit (extended w s (equal_bit (here.bit ∷ replicate digit.more Zero) xs ∷ [])))) (ap (extended w'' s'') (filled_known f bits is.known) ∙ extended_whole w'' s'' bits whole ∙ digit.is)
        ∙ ap (λ b. is_one (truth_bit (extended w s (b ∷ [])))) (digit_truth digit.more here.bit here.known one.level)
        ∙ ap is_one (spread_truth w (omega (arith, some)) s (as_bit (same_bit here.bit (as_bit one.level))) (as_bit_known (same_bit here.bit (as_bit one.level))))
        ∙ as_bit_one (same_bit here.bit (as_bit one.level))
        ∙ ap (λ xs. same_bit (slice_index_or xs 0 X) (as_bit one.level)) (sym here.is)
        ∙ ap (λ i. same_bit (bit n i 0) (as_bit one.level)) is.signal
      where
        low_above : (more : ℕ) → w' ≡ suc more → s' ≡ false → (b : Bit) → extended w' s' (b ∷ []) ≡ b ∷ replicate more Zero
        low_above more e' unsigned b =
            ap (λ k. extended k s' (b ∷ [])) e' ∙ spread more s' b ∙ ap (λ x. b ∷ replicate more (cond x b Zero)) unsigned
    truth e sized one e' wide = absurd (cc)

  -- ---- guards

  -- a reset whose test is that of its item's signal at the level of its edge
  active : (edge : Edge) (one : Bool) (b : Bit) → IsTrue (has_edge edge) → agree (goes_up edge) one ≡ true → same_bit b (as_bit one) ≡ same_bit b (level edge)
  active No one b edged same = absurd (false≢true edged)
  active Pos true b edged same = refl
  active Pos false b edged same = absurd (false≢true same)
  active Neg true b edged same = absurd (false≢true same)
  active Neg false b edged same = refl

  pub tests_level : (guard : Guard) (one : Test) → IsExpression d.signals guard.test → tested d guard.test ≡ Some one → guard.item.signal ≡ one.signal → widths d guard.item.signal ≡ 1 → IsTrue (has_edge guard.item.edge) → agree (goes_up guard.item.edge) one.level ≡ true → Tests d guard
  tests_level guard one sized is signal wide edged same f n are =
      truth f n are guard.test sized one is (ap (widths d) (sym signal) ∙ wide)
      ∙ ap (λ i. same_bit (bit n i 0) (as_bit one.level)) (sym signal)
      ∙ active guard.item.edge one.level (bit n guard.item.signal 0) edged same

  -- and reads nothing else
  pub reads_signal_alone : (e : Tree) (one : Test) → tested d e ≡ Some one → (i k : ℕ) → reads (widths d) e i k ≡ true → i ≡ one.signal
  reads_signal_alone (Sized w s at (tree.Whole r)) one e i k read =
      let same : record { signal = r; level = true } ≡ one = cc (e) in
      eqb-true i r (and_parts (i == r) _ read).0 ∙ ap (λ (t : Test). t.signal) same
  reads_signal_alone (Sized w s at (Folded fold.Negation (Sized w' s' at' (tree.Whole r)))) one e i k read =
      let same : record { signal = r; level = false } ≡ one = cc (e) in
      eqb-true i r (and_parts (i == r) _ read).0 ∙ ap (λ (t : Test). t.signal) same
  reads_signal_alone (Sized w s at (Turned turn.Complement (Sized w' s' at' (tree.Whole r)))) one e i k read =
      by_width (w' == 1) e
    where
      by_width : (b : Bool) → (if b then test_of r false else None) ≡ Some one → i ≡ one.signal
      by_width true e' =
          let same : record { signal = r; level = false } ≡ one = cc (e') in
          eqb-true i r (and_parts (i == r) _ read).0 ∙ ap (λ (t : Test). t.signal) same
      by_width false e' = absurd (cc)
  reads_signal_alone (Sized w s at (Compared compare.Equal t (Sized w' s' at' (tree.Whole r)) (Sized w'' s'' at'' (Literal bits)))) one e i k read =
      elim (or_cases _ false read) [
        | inl here ↦ eqb-true i r (and_parts (i == r) _ here).0 ∙ (compared_is s' (signed_in d.signals r) r bits one e).signal
        | inr none ↦ absurd (false≢true none)
      ]
  reads_signal_alone e one e' i k read = absurd (cc)
