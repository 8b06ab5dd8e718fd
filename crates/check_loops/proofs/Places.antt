-- Elements of lists by their places.
use Rattle.std.specs.Prelude.{Vec, ◌⊎◌}
use Rattle.std.specs.declared.alloc.Global.{Global}
use Rattle.std.proofs.Common.{ℕ, zero, suc, ◌≡◌, ◌<◌, arith, List, [], ◌∷◌, ◌++◌, length, get_or, refl, sym, ap, inl, inr}
use Rattle.std.proofs.Math.ListN.{set}
use Rattle.check_found.specs.rtl_scan.Graph.{row}

pub set_at : {A : Type 0} (xs : List A) (i : ℕ) (x d : A) → i < length xs → get_or (set xs i x) i d ≡ x
set_at [] i x d h = absurd (omega arith)
set_at (y ∷ ys) zero x d h = refl
set_at (y ∷ ys) (suc i) x d h = set_at ys i x d (omega arith)

pub set_other : {A : Type 0} (xs : List A) (i : ℕ) (x d : A) (j : ℕ) → (j ≡ i → ⊥) → get_or (set xs i x) j d ≡ get_or xs j d
set_other [] i x d j h = refl
set_other (y ∷ ys) zero x d zero h = absurd (h refl)
set_other (y ∷ ys) zero x d (suc j) h = refl
set_other (y ∷ ys) (suc i) x d zero h = refl
set_other (y ∷ ys) (suc i) x d (suc j) h = set_other ys i x d j (λ e. h (ap suc e))

pub push_old : {A : Type 0} (xs : List A) (x d : A) (i : ℕ) → i < length xs → get_or (xs ++ x ∷ []) i d ≡ get_or xs i d
push_old [] x d i h = absurd (omega arith)
push_old (y ∷ ys) x d zero h = refl
push_old (y ∷ ys) x d (suc i) h = push_old ys x d i (omega arith)

pub push_new : {A : Type 0} (xs : List A) (x d : A) (i : ℕ) → i ≡ length xs → get_or (xs ++ x ∷ []) i d ≡ x
push_new [] x d zero h = refl
push_new [] x d (suc i) h = absurd (omega arith)
push_new (y ∷ ys) x d zero h = absurd (omega arith)
push_new (y ∷ ys) x d (suc i) h = push_new ys x d i (omega arith)

-- what stands in a list with one element more
pub pushed_at : (xs : List ℕ) (x p j : ℕ) → j < length (xs ++ x ∷ []) → get_or (xs ++ x ∷ []) j 0 ≡ p → ((k : ℕ) × (k < length xs) × (get_or xs k 0 ≡ p)) ⊎ (p ≡ x)
pushed_at [] x p zero h is = inr (sym is)
pushed_at [] x p (suc j) h is = absurd (omega arith)
pushed_at (y ∷ ys) x p zero h is = inl (0, omega arith, is)
pushed_at (y ∷ ys) x p (suc j) h is =
    elim (pushed_at ys x p j (omega arith) is) [
      | inl there ↦ let (k, below, at) = there in inl (suc k, omega arith, at)
      | inr e ↦ inr e
    ]

-- ---- rows

pub row_set : (rows : List (Vec ℕ Global)) (q : ℕ) (v : Vec ℕ Global) → q < length rows → row (set rows q v) q ≡ v.items
row_set [] q v h = absurd (omega arith)
row_set (x ∷ rows) zero v h = refl
row_set (x ∷ rows) (suc q) v h = row_set rows q v (omega arith)

pub row_other : (rows : List (Vec ℕ Global)) (q : ℕ) (v : Vec ℕ Global) (p : ℕ) → (p ≡ q → ⊥) → row (set rows q v) p ≡ row rows p
row_other [] q v p h = refl
row_other (x ∷ rows) zero v zero h = absurd (h refl)
row_other (x ∷ rows) zero v (suc p) h = refl
row_other (x ∷ rows) (suc q) v zero h = refl
row_other (x ∷ rows) (suc q) v (suc p) h = row_other rows q v p (λ e. h (ap suc e))

pub row_empty : (rows : List (Vec ℕ Global)) (v : Vec ℕ Global) → v.items ≡ [] → ((q : ℕ) → row rows q ≡ []) → (q : ℕ) → row (rows ++ v ∷ []) q ≡ []
row_empty [] v e all zero = e
row_empty [] v e all (suc q) = refl
row_empty (x ∷ rows) v e all zero = all zero
row_empty (x ∷ rows) v e all (suc q) = row_empty rows v e (λ p. all (suc p)) q

-- a node to which arrows come is there
pub row_there : (rows : List (Vec ℕ Global)) (q j : ℕ) → j < length (row rows q) → q < length rows
row_there [] q j h = absurd (omega arith)
row_there (x ∷ rows) zero j h = omega arith
row_there (x ∷ rows) (suc q) j h = let below = row_there rows q j h in omega arith
