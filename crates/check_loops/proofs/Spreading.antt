-- Marks that spread along arrows.
use Rattle.std.specs.Prelude.{Vec, ◌⊎◌, ◌↔◌, ◌==◌}
use Rattle.std.specs.declared.alloc.Global.{Global}
use Rattle.std.proofs.Common.{ℕ, zero, suc, ◌≡◌, ◌∙◌, ◌<◌, ◌≤◌, ◌+◌, arith, Bool, true, false, ◌||◌, List, [], ◌∷◌, ◌++◌, length, get_or, refl, sym, ap, subst, inl, inr}
use Rattle.std.proofs.Math.ListN.{set, length-set}
use Rattle.std.proofs.lemmas.Bool.{cases_lt, cases_eq, eqb-true, eq-eqb}
use Rattle.std.proofs.lemmas.List.{length-append}
use Rattle.rtl_flat.specs.Levels.{Chain, Here, Then}
use Rattle.check_found.specs.rtl_scan.Graph.{row, ArrowIn}
use Rattle.check_found.proofs.rtl_scan_proofs.Bools.{or_is, or_left, or_right}
use Rattle.check_loops.specs.Rounds.{AreClosed, AreLoops, AreMarked, AreReached, IsOnCycle, IsSpreading, Marks, is_fed, unmarked}
use Rattle.check_loops.proofs.Places.{set_other, push_old, push_new, row_there}

unmarked_set : (marks : List Bool) (i : ℕ) → i < length marks → get_or marks i false ≡ false → unmarked (set marks i true) < unmarked marks
unmarked_set [] i h is = absurd (omega arith)
unmarked_set (true ∷ marks) zero h is = absurd (let e : true ≡ false = is in cc)
unmarked_set (false ∷ marks) zero h is = omega arith
unmarked_set (true ∷ marks) (suc i) h is = unmarked_set marks i (omega arith) is
unmarked_set (false ∷ marks) (suc i) h is = let rest = unmarked_set marks i (omega arith) is in omega arith

abbrev Feeds : ℕ → List Bool → ℕ → Type 0
Feeds start marks p = (p ≡ start) ⊎ (get_or marks p false ≡ true)

fed_by : (start : ℕ) (marks : List Bool) (nodes : List ℕ) → is_fed start marks nodes ≡ true → (j : ℕ) × (j < length nodes) × Feeds start marks (get_or nodes j 0)
fed_by start marks [] h = absurd (let e : false ≡ true = h in cc)
fed_by start marks (p ∷ nodes) h =
    elim (or_is (p == start || get_or marks p false) (is_fed start marks nodes) h) [
      | inl here ↦ elim (or_is (p == start) (get_or marks p false) here) [
        | inl same ↦ (0, omega arith, inl (eqb-true p start same))
        | inr marked ↦ (0, omega arith, inr marked)
      ]
      | inr later ↦ let (j, below, feeds) = fed_by start marks nodes later in (suc j, omega arith, feeds)
    ]

fed_at : (start : ℕ) (marks : List Bool) (nodes : List ℕ) (j : ℕ) → j < length nodes → Feeds start marks (get_or nodes j 0) → is_fed start marks nodes ≡ true
fed_at start marks [] j h feeds = absurd (omega arith)
fed_at start marks (p ∷ nodes) zero h (inl same) =
    or_left (p == start || get_or marks p false) (is_fed start marks nodes) (or_left (p == start) (get_or marks p false) (eq-eqb p start same))
fed_at start marks (p ∷ nodes) zero h (inr marked) =
    or_left (p == start || get_or marks p false) (is_fed start marks nodes) (or_right (p == start) (get_or marks p false) marked)
fed_at start marks (p ∷ nodes) (suc j) h feeds =
    or_right (p == start || get_or marks p false) (is_fed start marks nodes) (fed_at start marks nodes j (omega arith) feeds)

-- ---- all nodes

no_more : (old new : List Bool) (grown : Bool) → (grown ≡ true → unmarked new < unmarked old) → (grown ≡ false → new ≡ old) → unmarked new ≤ unmarked old
no_more old new true grows still = let less = grows refl in omega arith
no_more old new false grows still = let same = ap unmarked (still refl) in omega arith

module _ (rows : List (Vec ℕ Global)) (start : ℕ) (n : ℕ) (old cur new : List Bool) (grown : Bool) (before : IsSpreading rows start n old cur grown) (inside : n < length cur) where
  marked_more : is_fed start cur (row rows n) ≡ true → AreMarked rows start cur → AreMarked rows start (set cur n true)
  marked_more fed are = record {
    each = λ q is. elim (cases_eq q n) as (λ _. (m : ℕ) × Chain (ArrowIn rows) (suc m) start q) [
      | inl e ↦
          let (j, below, feeds) = fed_by start cur (row rows n) fed in
          let p = get_or (row rows n) j 0 in
          let to_n : (m : ℕ) × Chain (ArrowIn rows) (suc m) start n
          = elim feeds as (λ _. (m : ℕ) × Chain (ArrowIn rows) (suc m) start n) [
            | inl first ↦ (0, Then 0 start start n (Here start) (j, below, first))
            | inr marked ↦ let (m, chain) = are.each p marked in (suc m, Then (suc m) start p n chain (j, below, refl))
          ] in
          subst (λ (x : ℕ). (m : ℕ) × Chain (ArrowIn rows) (suc m) start x) (sym e) to_n
      | inr other ↦ are.each q (sym (set_other cur n true false q other) ∙ is)
    ];
  }

  pub spread_more : (fed marked : Bool) → fed ≡ is_fed start cur (row rows n) → Marks fed n cur new marked → (next : Bool) → next ≡ (grown || marked) → IsSpreading rows start (n + 1) old new next
  spread_more fed true fed_is marks next next_is =
      let (is, was, to) = marks.is_new refl in
      let sure : next ≡ true = next_is ∙ or_right grown true refl in
      subst (λ (all : List Bool). IsSpreading rows start (n + 1) old all next) (sym to) (record {
        same_length = length-set cur n true ∙ before.same_length;
        marked = λ are. marked_more (sym fed_is ∙ is) (before.marked are);
        grows = λ e.
            let less = unmarked_set cur n inside was in
            let most = no_more old cur grown before.grows (λ f. (before.still f).0) in
            omega arith;
        still = λ e. absurd (let f : true ≡ false = sym sure ∙ e in cc);
      })
  spread_more fed false fed_is marks next next_is =
      let (to, is) = marks.is_old refl in
      let same : next ≡ grown = next_is ∙ or_false grown in
      subst (λ (all : List Bool). IsSpreading rows start (n + 1) old all next) (sym to) (record {
        same_length = before.same_length;
        marked = before.marked;
        grows = λ e. before.grows (sym same ∙ e);
        still = λ e.
            let (unchanged, closed) = before.still (sym same ∙ e) in (
              unchanged,
              λ q below fed_q. elim (cases_lt q n) as (λ _. get_or old q false ≡ true) [
                | inl first ↦ closed q first fed_q
                | inr last ↦
                    let e' : q ≡ n = omega arith in
                    let fed_n : is_fed start cur (row rows n) ≡ true
                    = ap (λ all. is_fed start all (row rows n)) unchanged ∙ (ap (λ x. is_fed start old (row rows x)) (sym e') ∙ fed_q) in
                    ap (λ x. get_or old x false) e' ∙ (ap (λ all. get_or all n false) (sym unchanged) ∙ is (fed_is ∙ fed_n))
              ],
            );
      })
    where
      or_false : (b : Bool) → (b || false) ≡ b
      or_false true = refl
      or_false false = refl

-- marks that spread no further
pub reached_all : (rows : List (Vec ℕ Global)) (start : ℕ) (marks : List Bool) → AreMarked rows start marks → AreClosed rows start marks (length rows) → AreReached rows start marks
reached_all rows start marks are closed = record {
  each = λ q inside. (are.each q, λ chain. all chain.0 q chain.1);
}
  where
    all : (n q : ℕ) → Chain (ArrowIn rows) (suc n) start q → get_or marks q false ≡ true
    all zero q (Then n' s p q' chain arrow) =
        closed q (row_there rows q arrow.0 arrow.1) (fed_at start marks (row rows q) arrow.0 arrow.1 (inl (arrow.2 ∙ first p chain)))
      where
        first : (p : ℕ) → Chain (ArrowIn rows) 0 start p → p ≡ start
        first p (Here p') = refl
    all (suc n) q (Then n' s p q' chain arrow) =
        closed q (row_there rows q arrow.0 arrow.1)
        (fed_at start marks (row rows q) arrow.0 arrow.1 (inr (ap (λ x. get_or marks x false) arrow.2 ∙ all n p chain)))

pub loops_more : (rows : List (Vec ℕ Global)) (n : ℕ) (marks answers new : List Bool) (answer : Bool) → n < length rows → new ≡ answers ++ answer ∷ [] → answer ≡ get_or marks n false → AreReached rows n marks → AreLoops rows n answers → AreLoops rows (n + 1) new
loops_more rows n marks answers new answer inside is answer_is reached before =
    subst (λ (all : List Bool). AreLoops rows (n + 1) all) (sym is) (record {
      same_length = length-append answers (answer ∷ []) ∙ (let len = before.same_length in omega arith);
      each = λ p below. elim (cases_lt p n) as (λ _. get_or (answers ++ answer ∷ []) p false ≡ true ↔ IsOnCycle rows p) [
        | inl first ↦
            let len = before.same_length in
            let there : p < length answers = omega arith in
            subst (λ (b : Bool). b ≡ true ↔ IsOnCycle rows p) (sym (push_old answers answer false p there)) (before.each p first)
        | inr last ↦
            let len = before.same_length in
            let e : n ≡ p = omega arith in
            let at : p ≡ length answers = omega arith in
            subst (λ (b : Bool). b ≡ true ↔ IsOnCycle rows p) (sym (push_new answers answer false p at ∙ answer_is))
            (subst (λ (x : ℕ). get_or marks n false ≡ true ↔ IsOnCycle rows x) e (reached.each n inside))
      ];
    })
