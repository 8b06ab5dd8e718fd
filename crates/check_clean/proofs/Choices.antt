-- Whichever chain is taken of a block that waits for edges, it is formed as a register by it.
use Rattle.std.proofs.Common.{◌≡◌, ◌∙◌, ◌≤◌, ℕ, zero, suc, Bool, true, false, cond, List, [], ◌∷◌, length, map, replicate, refl, sym, ap, subst, inl, inr, arith}
use Rattle.std.specs.Prelude.{◌==◌, IsTrue}
use Rattle.std.specs.List.{All, slice_index_or}
use Rattle.std.proofs.lemmas.Bool.{cases_eq, eq-eqb, eqb-true, false_from_ne_true, false≢true, or_from, true≢false}
use Rattle.std.proofs.lemmas.List.{length-map, length-replicate}
use Rattle.std.proofs.lemmas.List.Elements.{All-cons, All-head, All-nil}
use Rattle.std.proofs.lemmas.List.Sorted.{All-permutation, length_permutation}
use Rattle.rtl_bits.specs.declared.Bit.{Bit}
use Rattle.rtl_bits.specs.declared.Bit.TheVariants.{Zero, X}
use Rattle.rtl_bits.specs.declared.Edge.{Edge}
use Rattle.rtl_bits.specs.declared.Edge.TheVariants.{No, Pos, Neg}
use Rattle.rtl_bits.specs.Bit.{is_one, is_unknown, not_bit}
use Rattle.rtl_bits.specs.Bits.{has_unknown, same_bit, truth_bit}
use Rattle.rtl_flat.specs.Expression.{Tree}
use Rattle.rtl_flat.specs.Flows.{body_flow, reads}
use Rattle.rtl_flat.specs.Paths.{ReadsOutside}
use Rattle.net_model.specs.Control.{InClockCone}
use Rattle.rtl_flat.specs.Process.{Watched, If, Actions, Done, Then, With}
use Rattle.rtl_flat.specs.WellFormed.{has_edge}
use Rattle.event_model.specs.Writes.{Values}
use Rattle.net_model.specs.declared.fill.Fill.TheVariants as fill
use Rattle.net_model.specs.Cycle.{Chain, Guard, IsChain, IsChained, Tests, is_active, level}
use Rattle.net_model.specs.Numbers.{AreNumbers, bit, digits}
use Rattle.sign_cycles.specs.Formed.{IsConstant, IsFormed, TestsAlone}
use Rattle.rtl_flat.specs.Flats.{Flat, widths}
use Rattle.rtl_rule.proofs.Lists.{Each, each_from}
use Rattle.check_laws.proofs.chain_laws_proofs.Chained.{IsEdgeItem}

-- ---- numbers in which one reset is active and another isn't

edge_known : (edge : Edge) → IsTrue (has_edge edge) → is_unknown (level edge) ≡ false
edge_known No edged = absurd (false≢true edged)
edge_known Pos edged = refl
edge_known Neg edged = refl

away_known : (edge : Edge) → IsTrue (has_edge edge) → is_unknown (not_bit (level edge)) ≡ false
away_known No edged = absurd (false≢true edged)
away_known Pos edged = refl
away_known Neg edged = refl

same_level : (edge : Edge) → IsTrue (has_edge edge) → same_bit (level edge) (level edge) ≡ true
same_level No edged = absurd (false≢true edged)
same_level Pos edged = refl
same_level Neg edged = refl

away_level : (edge : Edge) → IsTrue (has_edge edge) → same_bit (not_bit (level edge)) (level edge) ≡ false
away_level No edged = absurd (false≢true edged)
away_level Pos edged = refl
away_level Neg edged = refl

zeros_known : (m : ℕ) → has_unknown (replicate m Zero) ≡ false
zeros_known m = by_size m
  where
    by_size : (m : ℕ) → has_unknown (replicate m Zero) ≡ false
    by_size zero = refl
    by_size (suc m) = by_size m

module _ (d : Flat) (a b : ℕ) (x y : Bit) where
  store : Values
  store i = cond (i == a) (x ∷ []) (cond (i == b) (y ∷ []) (replicate (widths d i) Zero))

  module _ (one : widths d a ≡ 1) (other : widths d b ≡ 1) (known : is_unknown x ≡ false) (known' : is_unknown y ≡ false) where
    store_wide : (i : ℕ) → length (store i) ≡ widths d i
    unfolding store
    store_wide i = by_first (i == a) refl
      where
        by_second : (t : Bool) → (i == b) ≡ t → length (cond t (y ∷ []) (replicate (widths d i) Zero)) ≡ widths d i
        by_second true is = sym (ap (widths d) (eqb-true i b is) ∙ other)
        by_second false isnt = length-replicate (widths d i) Zero

        by_first : (t : Bool) → (i == a) ≡ t → length (cond t (x ∷ []) (cond (i == b) (y ∷ []) (replicate (widths d i) Zero))) ≡ widths d i
        by_first true is = sym (ap (widths d) (eqb-true i a is) ∙ one)
        by_first false isnt = by_second (i == b) refl

    store_known : (i : ℕ) → has_unknown (store i) ≡ false
    unfolding store
    store_known i = by_first (i == a)
      where
        by_second : (t : Bool) → has_unknown (cond t (y ∷ []) (replicate (widths d i) Zero)) ≡ false
        by_second true = or_from (is_unknown y) false known' refl
        by_second false = zeros_known (widths d i)

        by_first : (t : Bool) → has_unknown (cond t (x ∷ []) (cond (i == b) (y ∷ []) (replicate (widths d i) Zero))) ≡ false
        by_first true = or_from (is_unknown x) false known refl
        by_first false = by_second (i == b)

    numbers : AreNumbers d store
    numbers = record { wide = store_wide; known = store_known }

  first_bit : bit store a 0 ≡ x
  unfolding store
  first_bit =
      ap (λ t. slice_index_or (cond t (x ∷ []) (cond (a == b) (y ∷ []) (replicate (widths d a) Zero))) 0 X) (eq-eqb a a refl)

  second_bit : (a ≡ b → ⊥) → bit store b 0 ≡ y
  unfolding store
  second_bit differ =
      ap (λ t. slice_index_or (cond t (x ∷ []) (cond (b == b) (y ∷ []) (replicate (widths d b) Zero))) 0 X) (false_from_ne_true (b == a) (λ is. differ (sym (eqb-true b a is))))
      ∙ ap (λ t. slice_index_or (cond t (y ∷ []) (replicate (widths d b) Zero)) 0 X) (eq-eqb b b refl)

-- two resets with one test have one signal
same_signal : (d : Flat) (one other : Guard) → one.test ≡ other.test → IsEdgeItem (widths d) one.item → IsEdgeItem (widths d) other.item → Tests d one → Tests d other → one.item.signal ≡ other.item.signal
same_signal d one other same item item' tests tests' =
    elim (cases_eq one.item.signal other.item.signal) [
      | inl e ↦ e
      | inr differ ↦
          let a = one.item.signal in
          let b = other.item.signal in
          let x = level one.item.edge in
          let y = not_bit (level other.item.edge) in
          let n = store d a b x y in
          let are = numbers d a b x y item.one_bit item'.one_bit (edge_known one.item.edge item.edged) (away_known other.item.edge item'.edged) in
          let on : is_active n one.item ≡ true = ap (λ c. same_bit c (level one.item.edge)) (first_bit d a b x y) ∙ same_level one.item.edge item.edged in
          let off : is_active n other.item ≡ false = ap (λ c. same_bit c (level other.item.edge)) (second_bit d a b x y differ) ∙ away_level other.item.edge item'.edged in
          absurd (true≢false (sym on ∙ sym (tests fill.Zero n are) ∙ ap (λ t. is_one (truth_bit (digits fill.Zero n t))) same ∙ tests' fill.Zero n are ∙ off))
    ]

-- ---- chains of one body

-- what a test reads
abbrev reads_of : Flat → Tree → ℕ → ℕ → Type 0
reads_of d test i k = reads (widths d) test i k ≡ true

-- what is done at the clock's edge reads no clock and no reset
abbrev IsApart : Flat → Actions → Type 0
IsApart d part =
    (i k : ℕ) → ReadsOutside (body_flow (widths d) part) i k → InClockCone d i → ⊥

-- both are one `if`
record AreAlike (one other : Guard) (part part' : Actions) : Type 0 where
  test : one.test ≡ other.test
  branch : one.branch ≡ other.branch
  rest : part ≡ part'

alike : (one other : Guard) (part part' body : Actions) → IsChained (one ∷ []) part body → IsChained (other ∷ []) part' body → AreAlike one other part part'
alike one other part part' body (otherwise, spot, is, last) (otherwise', spot', is', last') =
    let same : Then (If one.test one.branch (With otherwise) spot) Done ≡ Then (If other.test other.branch (With otherwise') spot') Done = sym is ∙ is' in
    let rest : otherwise ≡ otherwise' = cc (same) in
    record { test = cc (same); branch = cc (same); rest = sym last ∙ rest ∙ last' }

module _ (d : Flat) (events : List Watched) (body : Actions) (wide : All (IsEdgeItem (widths d)) events) where
  -- a chain and one by which the body is formed
  by_resets : (own other : Chain) → IsFormed d events body own → IsChain d events body other → (resets resets' : List Guard) → own.resets ≡ resets → other.resets ≡ resets' → length resets ≡ length resets' → IsFormed d events body other
  by_resets own other is chain [] [] e e' same =
      let part : own.part ≡ other.part = sym (subst (λ gs. IsChained gs own.part body) e is.chained.chained) ∙ subst (λ gs. IsChained gs other.part body) e' chain.chained in
      record {
        chained = chain;
        one_reset = subst (λ (gs : List Guard). length gs ≤ 1) (sym e') (omega arith);
        alone = subst (All (TestsAlone d)) (sym e') (All-nil (TestsAlone d));
        constants = subst (All (λ (guard : Guard). IsConstant d body guard.branch)) (sym e') (All-nil (λ (guard : Guard). IsConstant d body guard.branch));
        apart = subst (IsApart d) part is.apart;
        tame = is.tame;
        split = is.split;
      }
  by_resets own other is chain (one ∷ []) (guard ∷ []) e e' same =
      let like = alike one guard own.part other.part body (subst (λ gs. IsChained gs own.part body) e is.chained.chained) (subst (λ gs. IsChained gs other.part body) e' chain.chained) in
      let item = item_of own is.chained one [] e in
      let item' = item_of other chain guard [] e' in
      let test = All-head (Tests d) one [] (subst (All (Tests d)) e is.chained.tests) in
      let test' = All-head (Tests d) guard [] (subst (All (Tests d)) e' chain.tests) in
      let signal = same_signal d one guard like.test item item' test test' in
      let alone = All-head (TestsAlone d) one [] (subst (All (TestsAlone d)) e is.alone) in
      let constant = All-head (λ (g : Guard). IsConstant d body g.branch) one [] (subst (All (λ (g : Guard). IsConstant d body g.branch)) e is.constants) in
      let alone' : TestsAlone d guard = λ i k read. alone i k (subst (λ t. reads_of d t i k) (sym like.test) read) ∙ signal in
      record {
        chained = chain;
        one_reset = subst (λ (gs : List Guard). length gs ≤ 1) (sym e') (omega arith);
        alone = subst (All (TestsAlone d)) (sym e') (All-cons (TestsAlone d) guard [] alone' (All-nil (TestsAlone d)));
        constants = subst (All (λ (g : Guard). IsConstant d body g.branch)) (sym e') (All-cons (λ (g : Guard). IsConstant d body g.branch) guard [] (subst (IsConstant d body) like.branch constant) (All-nil (λ (g : Guard). IsConstant d body g.branch)));
        apart = subst (IsApart d) like.rest is.apart;
        tame = is.tame;
        split = is.split;
      }
    where
      item_of : (any : Chain) → IsChain d events body any → (g : Guard) (gs : List Guard) → any.resets ≡ g ∷ gs → IsEdgeItem (widths d) g.item
      item_of any is_any g gs e'' =
          let all = each_from (IsEdgeItem (widths d)) (any.clock ∷ map (λ (h : Guard). h.item) any.resets) (All-permutation (IsEdgeItem (widths d)) events (any.clock ∷ map (λ (h : Guard). h.item) any.resets) is_any.items wide) in
          (subst (λ (hs : List Guard). Each (IsEdgeItem (widths d)) (map (λ (h : Guard). h.item) hs)) e'' all.1).0
  by_resets own other is chain [] (guard ∷ others) e e' same = absurd (omega (arith, same))
  by_resets own other is chain (one ∷ rest) [] e e' same = absurd (omega (arith, same))
  by_resets own other is chain (one ∷ next ∷ rest) others e e' same =
      let few = subst (λ (gs : List Guard). length gs ≤ 1) e is.one_reset in absurd (omega (arith, few))
  by_resets own other is chain (one ∷ []) (guard ∷ next ∷ others) e e' same =
      absurd (omega (arith, same))

  reset_count : (any : Chain) → IsChain d events body any → suc (length any.resets) ≡ length events
  reset_count any is_any =
      let long = length_permutation events (any.clock ∷ map (λ (h : Guard). h.item) any.resets) is_any.items in
      let same = length-map any.resets (λ (h : Guard). h.item) in
      omega (arith, long, same)

  pub formed_too : (own other : Chain) → IsFormed d events body own → IsChain d events body other → IsFormed d events body other
  formed_too own other is chain =
      let count = reset_count own is.chained in
      let count' = reset_count other chain in
      by_resets own other is chain own.resets other.resets refl refl (omega (arith, count, count'))
