-- Bits of signals, below their widths.
use Rattle.std.proofs.Common.{ℕ, zero, suc, ◌≡◌, ◌∙◌, ◌<◌, ◌+◌, Bool, true, false, ◌&&◌, ◌||◌, List, [], ◌∷◌, length, refl, sym, ap, arith}
use Rattle.std.specs.Prelude.{◌==◌, nat_lt, nat_le}
use Rattle.std.specs.List.{list_any}
use Rattle.std.proofs.lemmas.Bool.{and_parts, and_from, ltb-true, eqb-true, eq-eqb, le-leb, lt-ltb, false≢true}
use Rattle.rtl_flat.specs.declared.signal.Signal.{Signal}
use Rattle.rtl_flat.specs.Flows.{span, may_select}
use Rattle.rtl_flat.specs.Process.{Selection}
use Rattle.rtl_flat.specs.Process as part
use Rattle.rtl_flat.specs.Signs.{width_in}
use Rattle.rtl_rule.specs.Parts.{some_below}

-- ---- truth values

pub same_truth : (a b : Bool) → (a ≡ true → b ≡ true) → (b ≡ true → a ≡ true) → a ≡ b
same_truth true b to «from» = sym (to refl)
same_truth false b to «from» = by_b b refl
  where
    by_b : (c : Bool) → b ≡ c → false ≡ b
    by_b true e = absurd (false≢true («from» e))
    by_b false e = sym e

or_swap : (a b c d : Bool) → ((a || b) || (c || d)) ≡ ((a || c) || (b || d))
or_swap true b c d = refl
or_swap false true true d = refl
or_swap false true false d = refl
or_swap false false c d = refl

-- ---- numbers below a limit

pub below_same : (n : ℕ) (f g : ℕ → Bool) → ((k : ℕ) → f k ≡ g k) → some_below n f ≡ some_below n g
below_same zero f g same = refl
below_same (suc n) f g same =
    ap (λ t. t || f n) (below_same n f g same) ∙ ap (λ t. some_below n g || t) (same n)

pub below_none : (n : ℕ) → some_below n (λ k. false) ≡ false
below_none zero = refl
below_none (suc n) = ap (λ t. t || false) (below_none n)

pub below_or : (n : ℕ) (f g : ℕ → Bool) → some_below n (λ k. f k || g k) ≡ (some_below n f || some_below n g)
below_or zero f g = refl
below_or (suc n) f g =
    ap (λ t. t || (f n || g n)) (below_or n f g) ∙ or_swap (some_below n f) (some_below n g) (f n) (g n)

pub below_and : (n : ℕ) (b : Bool) (f : ℕ → Bool) → some_below n (λ k. b && f k) ≡ (b && some_below n f)
below_and n true f = refl
below_and n false f = below_none n

pub below_any : {A : Type 0} (n : ℕ) (test : A → ℕ → Bool) (xs : List A) → some_below n (λ k. list_any (λ x. test x k) xs) ≡ list_any (λ x. some_below n (test x)) xs
below_any n test [] = below_none n
below_any n test (x ∷ xs) =
    below_or n (test x) (λ k. list_any (λ y. test y k) xs) ∙ ap (λ t. some_below n (test x) || t) (below_any n test xs)

-- ---- signals

-- a signal with a bit is there
pub signal_there : (signals : List Signal) (test : ℕ → Bool) (i : ℕ) → some_below (width_in signals i) test ≡ true → i < length signals
signal_there [] test i h = absurd (false≢true h)
signal_there (s ∷ signals) test zero h = omega arith
signal_there (s ∷ signals) test (suc i) h =
    let there = signal_there signals test i h in omega (arith, there)

-- ---- selects

span_at : (ws : ℕ → ℕ) (signal low high s k : ℕ) → span ws signal low high s k ≡ true → (s ≡ signal) × (k < ws signal)
span_at ws signal low high s k h =
    let (same, rest) = and_parts (s == signal) (nat_le low k && (nat_lt k high && nat_lt k (ws signal))) h in
    let (above, rest') = and_parts (nat_le low k) (nat_lt k high && nat_lt k (ws signal)) rest in
    let (below, inside) = and_parts (nat_lt k high) (nat_lt k (ws signal)) rest' in
    (eqb-true s signal same, ltb-true k (ws signal) inside)

pub select_at : (ws : ℕ → ℕ) (signal : ℕ) (selection : Selection) (s k : ℕ) → may_select ws signal selection s k ≡ true → (s ≡ signal) × (k < ws signal)
select_at ws signal part.Whole s k h = span_at ws signal 0 (ws signal) s k h
select_at ws signal (part.BitAt low index) s k h =
    let (same, rest) = and_parts (s == signal) _ h in
    let (inside, place) = and_parts (nat_lt k (ws signal)) _ rest in
    (eqb-true s signal same, ltb-true k (ws signal) inside)
select_at ws signal (part.BitBy low index) s k h = span_at ws signal 0 (ws signal) s k h
select_at ws signal (part.Part low width) s k h = span_at ws signal low (low + width) s k h

-- a whole signal has each bit below its width
pub whole_at : (ws : ℕ → ℕ) (signal k : ℕ) → k < ws signal → may_select ws signal part.Whole signal k ≡ true
whole_at ws signal k below =
    and_from (signal == signal) _ (eq-eqb signal signal refl)
    (and_from (nat_le 0 k) _ (le-leb 0 k (omega arith)) (and_from (nat_lt k (ws signal)) _ (lt-ltb k (ws signal) below) (lt-ltb k (ws signal) below)))
