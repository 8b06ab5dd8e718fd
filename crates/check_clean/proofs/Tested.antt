-- Tests of gates: each is true just where its signal has the value, with an x or a z in it too.
use Rattle.std.proofs.Common.{◌≡◌, ◌∙◌, ◌≤◌, ℕ, zero, suc, Bool, true, false, cond, List, [], ◌∷◌, None, Some, length, map, replicate, refl, sym, ap, subst, arith}
use Rattle.std.specs.Prelude.{◌==◌, if◌then◌else◌, nat_le, nat_lt}
use Rattle.std.specs.List.{list_any}
use Rattle.std.proofs.lemmas.Bool.{and_from, eq-eqb, eqb-true, lt-ltb, or_from, or_left}
use Rattle.rtl_bits.specs.declared.Bit.{Bit}
use Rattle.rtl_bits.specs.declared.Bit.TheVariants.{Zero, One, X, Z}
use Rattle.rtl_bits.specs.Bit.{is_one, not_bit}
use Rattle.rtl_bits.specs.Bits.{equal_bit, extended, has_unknown, same_bit, truth_bit}
use Rattle.rtl_flat.specs.declared.expr.Compare.TheVariants as compare
use Rattle.rtl_flat.specs.declared.expr.Fold.TheVariants as fold
use Rattle.rtl_flat.specs.declared.expr.Turn.TheVariants as turn
use Rattle.rtl_flat.specs.Expression.{Tree, Sized, Literal, Whole, Turned, Compared, Folded}
use Rattle.rtl_flat.specs.Flows.{reads}
use Rattle.rtl_flat.specs.Signs.{IsExpression}
use Rattle.rtl_flat.specs.Value.{value}
use Rattle.rtl_flat.specs.Flats.{Flat, widths}
use Rattle.event_model.specs.Writes.{Values}
use Rattle.check_laws.specs.event_laws.Steady.{HaveWidths}
use Rattle.net_model.specs.Gates.{gate_compared, gate_test}
use Rattle.net_model.specs.Numbers.{bit}
use Rattle.check_laws.proofs.chain_laws_proofs.Tests.{spread, spread_truth}
use Rattle.sign_cycles.proofs.event_edges_proofs.Ports.{one_bit}

-- ---- bits

truth_one : (a : List Bit) → is_one (truth_bit a) ≡ list_any is_one a
truth_one a = by (list_any is_one a) (has_unknown a)
  where
    by : (b u : Bool) → is_one (cond b One (cond u X Zero)) ≡ b
    by true u = refl
    by false true = refl
    by false false = refl

no_copy : (b : Bit) → is_one b ≡ false → (m : ℕ) → list_any is_one (replicate m b) ≡ false
no_copy b isnt zero = refl
no_copy b isnt (suc m) = or_from _ _ isnt (no_copy b isnt m)

-- a bit in a wider place is true where it is 1
spread_one : (w : ℕ) → 1 ≤ w → (signed : Bool) (b : Bit) → is_one (truth_bit (extended w signed (b ∷ []))) ≡ is_one b
spread_one zero some signed b = absurd (omega (arith, some))
spread_one (suc m) some signed b =
    truth_one (extended (suc m) signed (b ∷ [])) ∙ ap (list_any is_one) (spread m signed b) ∙ by b
  where
    above : (s : Bool) (b : Bit) → is_one b ≡ false → is_one (cond s b Zero) ≡ false
    above true b isnt = isnt
    above false b isnt = refl

    none : (b : Bit) → is_one b ≡ false → list_any is_one (b ∷ replicate m (cond signed b Zero)) ≡ is_one b
    none b isnt =
        or_from _ _ isnt (no_copy (cond signed b Zero) (above signed b isnt) m) ∙ sym isnt

    by : (b : Bit) → list_any is_one (b ∷ replicate m (cond signed b Zero)) ≡ is_one b
    by Zero = none Zero refl
    by One = refl
    by X = none X refl
    by Z = none Z refl

-- and its negation where it is 0
not_spread : (w : ℕ) → 1 ≤ w → (signed : Bool) (b : Bit) → is_one (not_bit (truth_bit (extended w signed (b ∷ [])))) ≡ same_bit b Zero
not_spread zero some signed b = absurd (omega (arith, some))
not_spread (suc m) some signed Zero =
    ap (λ x. is_one (not_bit x)) (spread_truth (suc m) some signed Zero refl)
not_spread (suc m) some signed One =
    ap (λ x. is_one (not_bit x)) (spread_truth (suc m) some signed One refl)
not_spread (suc m) some signed X =
    ap (λ xs. is_one (not_bit (truth_bit xs))) (spread m signed X)
    ∙ unknown (list_any is_one (X ∷ replicate m (cond signed X Zero)))
  where
    unknown : (b : Bool) → is_one (not_bit (cond b One (cond true X Zero))) ≡ false
    unknown true = refl
    unknown false = refl
not_spread (suc m) some signed Z =
    ap (λ xs. is_one (not_bit (truth_bit xs))) (spread m signed Z)
    ∙ unknown (list_any is_one (Z ∷ replicate m (cond signed Z Zero)))
  where
    unknown : (b : Bool) → is_one (not_bit (cond b One (cond true X Zero))) ≡ false
    unknown true = refl
    unknown false = refl

is_high : (b : Bit) → is_one b ≡ same_bit b One
is_high Zero = refl
is_high One = refl
is_high X = refl
is_high Z = refl

is_low : (b : Bit) → is_one (not_bit b) ≡ same_bit b Zero
is_low Zero = refl
is_low One = refl
is_low X = refl
is_low Z = refl

equal_high : (b : Bit) → is_one (equal_bit (b ∷ []) (One ∷ [])) ≡ same_bit b One
equal_high Zero = refl
equal_high One = refl
equal_high X = refl
equal_high Z = refl

equal_low : (b : Bit) → is_one (equal_bit (b ∷ []) (Zero ∷ [])) ≡ same_bit b Zero
equal_low Zero = refl
equal_low One = refl
equal_low X = refl
equal_low Z = refl

-- ---- tests

module _ (d : Flat) where
  module _ (v : Values) (wide : HaveWidths d v) where
    abbrev HoldsAt : Tree → ℕ × Bit → Type 0
    HoldsAt e one = is_one (truth_bit (value v e)) ≡ same_bit (bit v one.0 0) one.1

    alone : (r : ℕ) → widths d r ≡ 1 → v r ≡ bit v r 0 ∷ []
    alone r narrow = one_bit (v r) (bit v r 0) (wide r ∙ narrow) refl

    pub holds : (e : Tree) → IsExpression d.signals e → (one : ℕ × Bit) → gate_test e ≡ Some one → widths d one.0 ≡ 1 → HoldsAt e one
    holds (Sized w s at (Whole r)) sized one e narrow =
        let same : (r, One) ≡ one = cc (e) in
        let some = sized.widths.1.inside in
        let some' = sized.widths.1.not_empty in
        subst (HoldsAt (Sized w s at (Whole r))) same
        (ap (λ bits. is_one (truth_bit (extended w s bits))) (alone r (ap (λ (x : ℕ × Bit). widths d x.0) same ∙ narrow))
        ∙ spread_one w (omega (arith, some, some')) s (bit v r 0)
        ∙ is_high (bit v r 0))
    holds (Sized w s at (Folded fold.Negation (Sized w' s' at' (Whole r)))) sized one e narrow =
        let same : (r, Zero) ≡ one = cc (e) in
        let some = sized.widths.1.inside in
        let some' = sized.widths.2.1.inside in
        let some'' = sized.widths.2.1.not_empty in
        subst (HoldsAt (Sized w s at (Folded fold.Negation (Sized w' s' at' (Whole r))))) same
        (ap (λ bits. is_one (truth_bit (extended w s (not_bit (truth_bit (extended w' s' bits)) ∷ [])))) (alone r (ap (λ (x : ℕ × Bit). widths d x.0) same ∙ narrow))
        ∙ spread_one w (omega (arith, some)) s (not_bit (truth_bit (extended w' s' (bit v r 0 ∷ []))))
        ∙ not_spread w' (omega (arith, some', some'')) s' (bit v r 0))
    holds (Sized w s at (Turned turn.Complement (Sized w' s' at' (Whole r)))) sized one e narrow =
        by_width (w' == 1) refl e
      where
        by_width : (b : Bool) → (w' == 1) ≡ b → (if b then Some (r, Zero) else None) ≡ Some one → HoldsAt (Sized w s at (Turned turn.Complement (Sized w' s' at' (Whole r)))) one
        by_width true is e' =
            let same : (r, Zero) ≡ one = cc (e') in
            let some = sized.widths.1.inside in
            let some' = sized.widths.1.not_empty in
            subst (HoldsAt (Sized w s at (Turned turn.Complement (Sized w' s' at' (Whole r))))) same
            (ap (λ k. is_one (truth_bit (extended w s (map not_bit (extended k s' (v r)))))) (eqb-true w' 1 is)
            ∙ ap (λ bits. is_one (truth_bit (extended w s (map not_bit (extended 1 s' bits))))) (alone r (ap (λ (x : ℕ × Bit). widths d x.0) same ∙ narrow))
            ∙ spread_one w (omega (arith, some, some')) s (not_bit (bit v r 0))
            ∙ is_low (bit v r 0))
        by_width false isnt e' = absurd (cc)
    holds (Sized w s at (Compared compare.Equal t (Sized w' s' at' (Whole r)) (Sized w'' s'' at'' (Literal bits)))) sized one e narrow =
        by_bits bits e (sized.widths.2.2.1.whole refl)
      where
        at_level : (l : Bit) → ((b : Bit) → is_one (equal_bit (b ∷ []) (l ∷ [])) ≡ same_bit b l) → 1 ≡ w'' → (r, l) ≡ one → HoldsAt (Sized w s at (Compared compare.Equal t (Sized w' s' at' (Whole r)) (Sized w'' s'' at'' (Literal (l ∷ []))))) one
        at_level l equal one_wide same =
            let some = sized.widths.1.inside in
            let both = sized.widths.2.0 in
            subst (HoldsAt (Sized w s at (Compared compare.Equal t (Sized w' s' at' (Whole r)) (Sized w'' s'' at'' (Literal (l ∷ [])))))) same
            (ap (λ k. is_one (truth_bit (extended w s (equal_bit (extended k s' (v r)) (extended w'' s'' (l ∷ [])) ∷ [])))) (both ∙ sym one_wide)
            ∙ ap (λ k. is_one (truth_bit (extended w s (equal_bit (extended 1 s' (v r)) (extended k s'' (l ∷ [])) ∷ [])))) (sym one_wide)
            ∙ ap (λ xs. is_one (truth_bit (extended w s (equal_bit (extended 1 s' xs) (l ∷ []) ∷ [])))) (alone r (ap (λ (x : ℕ × Bit). widths d x.0) same ∙ narrow))
            ∙ spread_one w (omega (arith, some)) s (equal_bit (bit v r 0 ∷ []) (l ∷ []))
            ∙ equal (bit v r 0))

        by_bits : (bits : List Bit) → gate_compared r bits ≡ Some one → length bits ≡ w'' → HoldsAt (Sized w s at (Compared compare.Equal t (Sized w' s' at' (Whole r)) (Sized w'' s'' at'' (Literal bits)))) one
        by_bits (One ∷ []) e' wide' = at_level One equal_high wide' (cc (e'))
        by_bits (Zero ∷ []) e' wide' = at_level Zero equal_low wide' (cc (e'))
        by_bits [] e' wide' = absurd (cc)
        by_bits (X ∷ bits') e' wide' = absurd (cc)
        by_bits (Z ∷ bits') e' wide' = absurd (cc)
        by_bits (One ∷ x ∷ bits') e' wide' = absurd (cc)
        by_bits (Zero ∷ x ∷ bits') e' wide' = absurd (cc)
    holds e sized one e' narrow = absurd (cc)

  -- it reads the signal
  read_whole : (i : ℕ) → widths d i ≡ 1 → reads (widths d) (Whole i) i 0 ≡ true
  read_whole i narrow =
      and_from (i == i) _ (eq-eqb i i refl) (and_from (nat_le 0 0) _ refl (and_from (nat_lt 0 (widths d i)) _ (lt-ltb 0 (widths d i) (omega (arith, narrow))) (lt-ltb 0 (widths d i) (omega (arith, narrow)))))

  abbrev IsRead : Tree → ℕ × Bit → Type 0
  IsRead e one = reads (widths d) e one.0 0 ≡ true

  pub test_reads : (e : Tree) (one : ℕ × Bit) → gate_test e ≡ Some one → widths d one.0 ≡ 1 → reads (widths d) e one.0 0 ≡ true
  test_reads (Sized w s at (Whole r)) one e narrow =
      let same : (r, One) ≡ one = cc (e) in
      subst (IsRead (Sized w s at (Whole r))) same (read_whole r (ap (λ (x : ℕ × Bit). widths d x.0) same ∙ narrow))
  test_reads (Sized w s at (Folded fold.Negation (Sized w' s' at' (Whole r)))) one e narrow =
      let same : (r, Zero) ≡ one = cc (e) in
      subst (IsRead (Sized w s at (Folded fold.Negation (Sized w' s' at' (Whole r))))) same (read_whole r (ap (λ (x : ℕ × Bit). widths d x.0) same ∙ narrow))
  test_reads (Sized w s at (Turned turn.Complement (Sized w' s' at' (Whole r)))) one e narrow =
      by_width (w' == 1) e
    where
      by_width : (b : Bool) → (if b then Some (r, Zero) else None) ≡ Some one → IsRead (Sized w s at (Turned turn.Complement (Sized w' s' at' (Whole r)))) one
      by_width true e' =
          let same : (r, Zero) ≡ one = cc (e') in
          subst (IsRead (Sized w s at (Turned turn.Complement (Sized w' s' at' (Whole r))))) same (read_whole r (ap (λ (x : ℕ × Bit). widths d x.0) same ∙ narrow))
      by_width false e' = absurd (cc)
  test_reads (Sized w s at (Compared compare.Equal t (Sized w' s' at' (Whole r)) (Sized w'' s'' at'' (Literal bits)))) one e narrow =
      by_bits bits e
    where
      of_signal : (bits : List Bit) (l : Bit) → (r, l) ≡ one → IsRead (Sized w s at (Compared compare.Equal t (Sized w' s' at' (Whole r)) (Sized w'' s'' at'' (Literal bits)))) one
      of_signal bits l same =
          subst (IsRead (Sized w s at (Compared compare.Equal t (Sized w' s' at' (Whole r)) (Sized w'' s'' at'' (Literal bits))))) same
          (or_left _ _ (read_whole r (ap (λ (x : ℕ × Bit). widths d x.0) same ∙ narrow)))

      by_bits : (bits : List Bit) → gate_compared r bits ≡ Some one → IsRead (Sized w s at (Compared compare.Equal t (Sized w' s' at' (Whole r)) (Sized w'' s'' at'' (Literal bits)))) one
      by_bits (One ∷ []) e' = of_signal (One ∷ []) One (cc (e'))
      by_bits (Zero ∷ []) e' = of_signal (Zero ∷ []) Zero (cc (e'))
      by_bits [] e' = absurd (cc)
      by_bits (X ∷ bits') e' = absurd (cc)
      by_bits (Z ∷ bits') e' = absurd (cc)
      by_bits (One ∷ x ∷ bits') e' = absurd (cc)
      by_bits (Zero ∷ x ∷ bits') e' = absurd (cc)
  test_reads e one e' narrow = absurd (cc)
