-- A text tells one demonstration at most.
use Rattle.std.proofs.Common.{◌≡◌, ℕ, ◌+◌, ◌%◌, ◌^◌, ◌<◌, Bool, true, false, Option, None, Some, List, [], ◌∷◌, ◌++◌, refl, ap, sym, ◌∙◌, arith}
use Rattle.std.specs.Prelude.{◌==◌, ◌||◌, IfNone, MatchOption, codes, decimal}
use Rattle.std.specs.Borrow.{Bor}
use Rattle.std.specs.List.{list_any}
use Rattle.std.proofs.lemmas.Bool.{eq-eqb, ne_eqb}
use Rattle.std.proofs.lemmas.Fmt.{decimal_by_steps, decimal_injective}
use Rattle.std.proofs.lemmas.List.{append_cancel_left}
use Rattle.std.proofs.lemmas.List.Folds.{list_any-append}
use Rattle.demo_trials.specs.Demos.{IsDemo, IsShown, demo_text, is_path, signal_text, step_text}

-- ---- numbers have no spaces

or_false : (a b : Bool) → a ≡ false → b ≡ false → (a || b) ≡ false
or_false true b e f = e
or_false false b e f = f

or_right : (a b : Bool) → (a || b) ≡ false → b ≡ false
or_right true b e = absurd (cc)
or_right false b e = e

digit_no_space : (n : ℕ) → list_any (λ byte. byte == 32) ((48 + n) ∷ []) ≡ false
digit_no_space n = or_false _ _ (ne_eqb (48 + n) 32 (λ e. omega arith)) refl

no_space : (n : ℕ) → n < 2 ^ 64 → list_any (λ byte. byte == 32) (decimal n) ≡ false
no_space n small =
    decimal_by_steps (λ _ ds. list_any (λ byte. byte == 32) ds ≡ false)
    (λ n _. digit_no_space n)
    (λ n ds _ front. list_any-append (λ byte. byte == 32) ds _ ∙ or_false _ _ front (digit_no_space (n % 10)))
    n small

-- ---- what stands before the first space

abbrev head_byte : List ℕ → ℕ
head_byte [] = 0
head_byte (byte ∷ bytes) = byte

abbrev other_bytes : List ℕ → List ℕ
other_bytes [] = []
other_bytes (byte ∷ bytes) = bytes

space_first : (byte : ℕ) (rest : Bool) → byte ≡ 32 → ((byte == 32) || rest) ≡ false → ⊥
space_first byte rest e none =
    let yes : ((byte == 32) || rest) ≡ true = ap (λ b. b || rest) (eq-eqb byte 32 e) in cc

same_front : (a b r s : List ℕ) → list_any (λ byte. byte == 32) a ≡ false → list_any (λ byte. byte == 32) b ≡ false → a ++ 32 ∷ r ≡ b ++ 32 ∷ s → (a ≡ b) × (r ≡ s)
same_front [] [] r s p q e = (refl, ap other_bytes e)
same_front [] (y ∷ b) r s p q e = absurd (space_first y _ (sym (ap head_byte e)) q)
same_front (x ∷ a) [] r s p q e = absurd (space_first x _ (ap head_byte e) p)
same_front (x ∷ a) (y ∷ b) r s p q e =
    let rest = same_front a b r s (or_right _ _ p) (or_right _ _ q) (ap other_bytes e) in
    (ap (λ u. u ∷ a) (ap head_byte e) ∙ ap (λ v. y ∷ v) rest.0, rest.1)

pub same_number : (m n : ℕ) (r s : List ℕ) → m < 2 ^ 64 → n < 2 ^ 64 → decimal m ++ 32 ∷ r ≡ decimal n ++ 32 ∷ s → (m ≡ n) × (r ≡ s)
same_number m n r s small below e =
    let parts = same_front (decimal m) (decimal n) r s (no_space m small) (no_space n below) e in
    (decimal_injective m n small below parts.0, parts.1)

-- ---- what is read

pub if_none : {T : Type 0} (found : Option T) (P : Type 0) → P → IfNone found P
if_none None P p = p
if_none (Some it) P p = tt

pub behind_both : (found : Option (Bor (List ℕ))) (text head middle rest : List ℕ) → text ≡ head ++ rest → MatchOption found ((other : List ℕ) → rest ≡ middle ++ other → ⊥) (λ other. rest ≡ middle ++ other.now) → IfNone found ((other : List ℕ) → text ≡ head ++ (middle ++ other) → ⊥)
behind_both None text head middle rest e none = λ other f. none other (append_cancel_left head rest (middle ++ other) (sym e ∙ f))
behind_both (Some it) text head middle rest e some = tt

-- the number that stands there
step_is : (text rest behind : List ℕ) (number : ℕ) → text ≡ codes "step " ++ rest → rest ≡ decimal number ++ (codes " " ++ behind) → number < 17 → (step : ℕ) (path : List ℕ) → IsShown step path → text ≡ step_text step path → (number ≡ step) × (behind ≡ signal_text path)
step_is text rest behind number e at small step path is f =
    same_number number step behind (signal_text path) (grind arith) (let last = is.last in grind arith)
    (sym at ∙ append_cancel_left (codes "step ") _ _ (sym e ∙ f))

trial_is : (text rest behind : List ℕ) (number : ℕ) → text ≡ codes "trial " ++ rest → rest ≡ decimal number ++ (codes " " ++ behind) → number < 33 → (trial step : ℕ) (path : List ℕ) → IsDemo trial step path → text ≡ demo_text trial step path → (number ≡ trial) × (behind ≡ step_text step path)
trial_is text rest behind number e at small trial step path is f =
    same_number number trial behind (step_text step path) (grind arith) (let there = is.there in grind arith)
    (sym at ∙ append_cancel_left (codes "trial ") _ _ (sym e ∙ f))

pub step_zero : (text rest behind : List ℕ) (number : ℕ) → text ≡ codes "step " ++ rest → rest ≡ decimal number ++ (codes " " ++ behind) → number < 17 → number ≡ 0 → (step : ℕ) (path : List ℕ) → IsShown step path → text ≡ step_text step path → ⊥
step_zero text rest behind number e at small none step path is f =
    let same = step_is text rest behind number e at small step path is f in
    let one : step ≡ 0 = sym same.0 ∙ none in
    omega (arith, one, is.first)

pub step_unsigned : (text rest behind : List ℕ) (number : ℕ) → text ≡ codes "step " ++ rest → rest ≡ decimal number ++ (codes " " ++ behind) → number < 17 → ((path : List ℕ) → is_path path ≡ true → behind ≡ signal_text path → ⊥) → (step : ℕ) (path : List ℕ) → IsShown step path → text ≡ step_text step path → ⊥
step_unsigned text rest behind number e at small none step path is f =
    none path is.spelled (step_is text rest behind number e at small step path is f).1

pub trial_stepless : (text rest behind : List ℕ) (number : ℕ) → text ≡ codes "trial " ++ rest → rest ≡ decimal number ++ (codes " " ++ behind) → number < 33 → ((step : ℕ) (path : List ℕ) → IsShown step path → behind ≡ step_text step path → ⊥) → (trial step : ℕ) (path : List ℕ) → IsDemo trial step path → text ≡ demo_text trial step path → ⊥
trial_stepless text rest behind number e at small none trial step path is f =
    none step path is.shown (trial_is text rest behind number e at small trial step path is f).1
