-- Labels that match every value.
use Rattle.std.proofs.Common.{ℕ, zero, suc, ◌≡◌, ◌∙◌, ◌<◌, ◌+◌, ◌^◌, arith, Bool, true, false, ◌&&◌, List, [], ◌∷◌, ◌++◌, min, refl, sym, ap, inl, inr, append_assoc, add-one}
use Rattle.std.specs.Prelude.{nat_le}
use Rattle.std.proofs.lemmas.Bool.{cases_lt, cases_eq, and_left, and_right, lt-leb}
use Rattle.rtl_bits.specs.declared.Bit.{Bit}
use Rattle.rtl_flat.specs.declared.act.CaseKind.{CaseKind}
use Rattle.rtl_flat.specs.declared.expr.Index.TheVariants as index
use Rattle.rtl_flat.specs.declared.expr.Select.TheVariants as select
use Rattle.rtl_flat.specs.declared.expr.Node.{Node}
use Rattle.rtl_flat.specs.declared.expr.Node.TheVariants as node
use Rattle.text_ground.specs.declared.text.Spot.{Spot}
use Rattle.rtl_flat.specs.declared.expr.Node.{Row_of-SizedExpr, end_of-SizedExpr, more_of-SizedExpr}
use Rattle.rtl_flat.specs.Expression.{Tree, Sized, form, row}
use Rattle.std.proofs.Common.{◌*◌, ◌%◌, drop, map}
use Rattle.std.proofs.lemmas.Nat.{shl_whole}
use Rattle.std.proofs.Math.Nat.{one-mul}
use Rattle.rtl_flat.specs.declared.act.CaseItem.{CaseItem}
use Rattle.rtl_flat.specs.Expression.{tree}
use Rattle.rtl_flat.specs.Flows.{labels_of}
use Rattle.rtl_scan.specs.Bodies.{branches_of}
use Rattle.rtl_flat.specs.Flows.{literal, literals, each_below, cover}

pub literals_append : (xs ys : List Tree) → literals (xs ++ ys) ≡ literals xs ++ literals ys
literals_append [] ys = refl
literals_append (x ∷ xs) ys =
    ap (λ t. literal x ++ t) (literals_append xs ys) ∙ sym (append_assoc (literal x) (literals xs) (literals ys))

no_row_literal : (w : ℕ) (s : Bool) (at : Spot) (n : _) (parts : Row_of-SizedExpr n) → literal (Sized w s at (row parts)) ≡ []
no_row_literal w s at _ end_of-SizedExpr = refl
no_row_literal w s at _ (more_of-SizedExpr w' s' e at' others) = refl

pub no_literal : (w : ℕ) (s : Bool) (at : Spot) (e : Node) → ((bits : List Bit) → e ≡ node.Literal bits → ⊥) → literal (Sized w s at (form e)) ≡ []
no_literal w s at (node.Literal bits) else' = absurd (else' bits refl)
no_literal w s at (node.Read i select.Whole) else' = refl
no_literal w s at (node.Read i (select.Bit low (index.Fixed k))) else' = refl
no_literal w s at (node.Read i (select.Bit low (index.Computed' p w' s' a at'))) else' = refl
no_literal w s at (node.Read i (select.Part low width)) else' = refl
no_literal w s at (node.Concat' shape parts) else' = no_row_literal w s at _ parts
no_literal w s at _ else' = refl

pub each_none : (test : ℕ → Bool) → each_below 0 test ≡ true
unfolding each_below
each_none test = refl

pub each_more : (n : ℕ) (test : ℕ → Bool) → each_below n test ≡ true → test n ≡ true → each_below (n + 1) test ≡ true
unfolding each_below
each_more n test h here = ap (λ m. each_below m test) (add-one n) ∙ ap (λ b. b && each_below n test) here ∙ h

pub each_fails : (m n : ℕ) (test : ℕ → Bool) → n < m → test n ≡ false → each_below m test ≡ false
unfolding each_below
each_fails zero n test below fails = absurd (omega arith)
each_fails (suc m) n test below fails =
    elim (cases_eq n m) as (λ _. (test m && each_below m test) ≡ false) [
      | inl e ↦ and_left (test m) (each_below m test) (ap test (sym e) ∙ fails)
      | inr apart ↦ and_right (test m) (each_below m test) (each_fails m n test (omega arith) fails)
    ]

-- more than 16 bits are as good as 17
pub cover_capped : (kind : CaseKind) (own width : ℕ) (signed : Bool) (labels : List (List Bit)) → cover kind (min own 17) width signed labels ≡ cover kind own width signed labels
cover_capped kind own width signed labels =
    elim (cases_lt 17 own) as (λ _. cover kind (min own 17) width signed labels ≡ cover kind own width signed labels) [
      | inl above ↦ wide (min own 17) (omega arith) ∙ sym (wide own (omega arith))
      | inr fits ↦ let same : min own 17 ≡ own = omega arith in ap (λ n. cover kind n width signed labels) same
    ]
  where
    wide : (n : ℕ) → 16 < n → cover kind n width signed labels ≡ false
    wide n h = and_right (nat_le 1 n) _ (and_left (nat_le n 16) _ (lt-leb n 16 h))

-- `1 << own`
pub power_small : (own : ℕ) → own < 128 → 1 * 2 ^ own % 2 ^ 128 ≡ 2 ^ own
power_small own h = shl_whole 1 1 own 128 (omega arith) (omega arith) ∙ one-mul (2 ^ own)

-- literals of one item more
pub literals_step : (items : List CaseItem) (i : ℕ) (item : CaseItem) → drop i items ≡ item ∷ drop (i + 1) items → (old new all : List (List Bit)) → new ≡ old ++ literals (map tree item.labels.items) → old ++ literals (labels_of (branches_of (drop i items))) ≡ all → new ++ literals (labels_of (branches_of (drop (i + 1) items))) ≡ all
literals_step items i item left old new all more h =
    let rest = labels_of (branches_of (drop (i + 1) items)) in
    ap (λ t. t ++ literals rest) more ∙ append_assoc old (literals (map tree item.labels.items)) (literals rest)
    ∙ ap (λ t. old ++ t) (sym (literals_append (map tree item.labels.items) rest))
    ∙ ap (λ xs. old ++ literals (labels_of (branches_of xs))) (sym left) ∙ h
