-- Sums of a function over the numbers below a limit.
use Rattle.std.proofs.Common.{◌≡◌, ◌≢◌, ◌+◌, ◌*◌, ◌<◌, ◌≤◌, ℕ, zero, suc, List, [], ◌∷◌, length, Option, None, Some, refl, arith}
use Rattle.std.specs.Prelude.{sum_by}
use Rattle.std.specs.List.{slice_get}
use Rattle.std.proofs.lemmas.List.Sums.{sum_by-cons}

pub total : ℕ → (ℕ → ℕ) → ℕ
total zero f = 0
total (suc n) f = f 0 + total n (λ k. f (suc k))

pub total_most : (n : ℕ) (f g : ℕ → ℕ) → ((k : ℕ) → k < n → f k ≤ g k) → total n f ≤ total n g
unfolding total
total_most zero f g h = omega arith
total_most (suc n) f g h =
    let here = h 0 (omega arith) in
    let rest = total_most n (λ k. f (suc k)) (λ k. g (suc k)) (λ k below. h (suc k) (omega (arith, below))) in
    omega (arith, here, rest)

-- one term that is less by some, where no other is more
pub total_less :
    (n p c : ℕ) (f g : ℕ → ℕ) → p < n → f p + c ≤ g p → ((k : ℕ) → k < n → k ≢ p → f k ≤ g k) → total n f + c ≤ total n g
unfolding total
total_less zero p c f g inside less others = absurd (omega (arith, inside))
total_less (suc n) zero c f g inside less others =
    let rest = total_most n (λ k. f (suc k)) (λ k. g (suc k)) (λ k below. others (suc k) (omega (arith, below)) (λ e. omega (arith, e))) in
    omega (arith, less, rest)
total_less (suc n) (suc p) c f g inside less others =
    let here = others 0 (omega arith) (λ e. omega (arith, e)) in
    let rest = total_less n p c (λ k. f (suc k)) (λ k. g (suc k)) (omega (arith, inside)) less (λ k below other. others (suc k) (omega (arith, below)) (λ e. other (omega (arith, e)))) in
    omega (arith, here, rest)

-- one term that is more by some at most, where no other is more
pub total_raised :
    (n p c : ℕ) (f g : ℕ → ℕ) → f p ≤ g p + c → ((k : ℕ) → k ≢ p → f k ≤ g k) → total n f ≤ total n g + c
unfolding total
total_raised zero p c f g more others = omega arith
total_raised (suc n) zero c f g more others =
    let rest = total_most n (λ k. f (suc k)) (λ k. g (suc k)) (λ k below. others (suc k) (λ e. omega (arith, e))) in
    omega (arith, more, rest)
total_raised (suc n) (suc p) c f g more others =
    let here = others 0 (λ e. omega (arith, e)) in
    let rest = total_raised n p c (λ k. f (suc k)) (λ k. g (suc k)) more (λ k other. others (suc k) (λ e. other (omega (arith, e)))) in
    omega (arith, here, rest)

-- sums of one function and another
pub total_both : (n : ℕ) (f g : ℕ → ℕ) → total n (λ k. f k + g k) ≡ total n f + total n g
unfolding total
total_both zero f g = refl
total_both (suc n) f g =
    let rest = total_both n (λ k. f (suc k)) (λ k. g (suc k)) in
    omega (arith, rest)

pub total_same : (n c : ℕ) → total n (λ k. c) ≡ c * n
unfolding total
total_same zero c = omega arith
total_same (suc n) c = let rest = total_same n c in omega (arith, rest)

-- a function of an element that may be there
abbrev pub of_some : {A : Type 0} → (A → ℕ) → Option A → ℕ
of_some f None = 0
of_some f (Some x) = f x

-- the sum over a list is that over its places
pub total_list : {A : Type 0} (f : A → ℕ) (xs : List A) → total (length xs) (λ k. of_some f (slice_get xs k)) ≡ sum_by f xs
unfolding total
total_list f [] = refl
total_list f (x ∷ xs) =
    let rest = total_list f xs in
    let all = sum_by-cons f x xs in
    omega (arith, rest, all)
