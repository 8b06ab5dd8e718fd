-- Arrows that are put into rows the other way round.
use Rattle.std.specs.Prelude.{Vec, ◌⊎◌}
use Rattle.std.specs.declared.alloc.Global.{Global}
use Rattle.std.proofs.Common.{ℕ, ◌≡◌, ◌∙◌, ◌<◌, ◌+◌, arith, List, [], ◌∷◌, ◌++◌, length, get_or, sym, ap, subst, inl, inr}
use Rattle.std.proofs.Math.ListN.{set}
use Rattle.std.proofs.lemmas.Bool.{cases_eq}
use Rattle.check_found.specs.rtl_scan.Graph.{row, ArrowIn}
use Rattle.check_loops.specs.Rounds.{Puts, PutsAll, TurnsBack}
use Rattle.check_loops.proofs.Places.{pushed_at, row_set, row_other}

abbrev Stands : List ℕ → ℕ → Type 0
Stands xs p = (j : ℕ) × (j < length xs) × (get_or xs j 0 ≡ p)

pub put_puts : (old : List (Vec ℕ Global)) (node start : ℕ) (v : Vec ℕ Global) → node < length old → v.items ≡ row old node ++ start ∷ [] → Puts node start old (set old node v)
put_puts old node start v inside is = record {
  each = λ p q arrow. elim (cases_eq q node) as (λ _. ArrowIn old p q ⊎ ((p ≡ start) × (q ≡ node))) [
    | inl e ↦
        let same : row (set old node v) q ≡ row old q ++ start ∷ []
        = ap (row (set old node v)) e ∙ (row_set old node v inside ∙ (is ∙ ap (λ x. row old x ++ start ∷ []) (sym e))) in
        let there : Stands (row old q ++ start ∷ []) p = subst (λ (xs : List ℕ). Stands xs p) same arrow in
        elim (pushed_at (row old q) start p there.0 there.1 there.2) as (λ _. ArrowIn old p q ⊎ ((p ≡ start) × (q ≡ node))) [
          | inl before ↦ inl before
          | inr last ↦ inr (last, e)
        ]
    | inr other ↦ inl (subst (λ (xs : List ℕ). Stands xs p) (row_other old node v q other) arrow)
  ];
}

pub put_more : (nodes : List ℕ) (n start node : ℕ) (old cur new : List (Vec ℕ Global)) → node ≡ get_or nodes n 0 → PutsAll nodes n start old cur → Puts node start cur new → PutsAll nodes (n + 1) start old new
put_more nodes n start node old cur new is before puts = record {
  each = λ p q arrow. elim (puts.each p q arrow) as (λ _. ArrowIn old p q ⊎ ((p ≡ start) × ((j : ℕ) × (j < n + 1) × (get_or nodes j 0 ≡ q)))) [
    | inl there ↦ elim (before.each p q there) as (λ _. ArrowIn old p q ⊎ ((p ≡ start) × ((j : ℕ) × (j < n + 1) × (get_or nodes j 0 ≡ q)))) [
      | inl first ↦ inl first
      | inr later ↦ let (j, below, at) = later.1 in inr (later.0, (j, omega arith, at))
    ]
    | inr last ↦ inr (last.0, (n, omega arith, sym is ∙ sym last.1))
  ];
}

pub turned_more : (rows cur new : List (Vec ℕ Global)) (start : ℕ) (nodes : List ℕ) → nodes ≡ row rows start → TurnsBack rows cur → PutsAll nodes (length nodes) start cur new → TurnsBack rows new
turned_more rows cur new start nodes is before puts = record {
  each = λ p q arrow. elim (puts.each p q arrow) as (λ _. ArrowIn rows q p) [
    | inl there ↦ before.each p q there
    | inr last ↦ subst (λ (x : ℕ). ArrowIn rows q x) (sym last.0) (subst (λ (xs : List ℕ). Stands xs q) is last.1)
  ];
}
