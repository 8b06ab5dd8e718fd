-- Inputs by their sort: what is kept in the code's form, and what contracts see.
use Rattle.std.proofs.Common.{◌≡◌, ℕ, zero, suc, ◌+◌, ◌%◌, Bool, true, false, cond, not, nat_lt, ◌&&◌, ◌||◌, List, [], ◌∷◌, map, length, refl, ap, sym, ◌∙◌, arith}
use Rattle.std.specs.Prelude.{◌==◌}
use Rattle.std.specs.List.{filter, count_by}
use Rattle.std.proofs.lemmas.List.{length-map}
use Rattle.std.proofs.lemmas.List.Sums.{length-filter}
use Rattle.std.proofs.lemmas.List.Filters.{length-filter_both}
use Rattle.demo_trials.specs.declared.input.Input.{Input as Kept}
use Rattle.demo_trials.specs.Steps.{Input, controls, data_inputs, drawn_setting, input, is_control_step, zero_setting}

map_map : {A B C : Type 0} (f : B → C) (g : A → B) (xs : List A) → map f (map g xs) ≡ map (λ x. f (g x)) xs
map_map f g [] = refl
map_map f g (x ∷ xs) = ap (λ ys. f (g x) ∷ ys) (map_map f g xs)

first_kept : {A B : Type 0} (g : A → B) (x : A) (keep : Bool) (xs : List A) (ys : List B) → ys ≡ map g xs → cond keep (g x ∷ ys) ys ≡ map g (cond keep (x ∷ xs) xs)
first_kept g x true xs ys e = ap (λ zs. g x ∷ zs) e
first_kept g x false xs ys e = e

filter_mapped : {A B : Type 0} (p : B → Bool) (g : A → B) (xs : List A) → filter p (map g xs) ≡ map g (filter (λ x. p (g x)) xs)
filter_mapped p g [] = refl
filter_mapped p g (x ∷ xs) = first_kept g x (p (g x)) _ _ (filter_mapped p g xs)

pub zeros_of : (xs : List Kept) → map zero_setting (map input xs) ≡ map (λ kept. zero_setting (input kept)) xs
zeros_of xs = map_map zero_setting input xs

pub data_of : (trial step : ℕ) (xs : List Kept) → map (drawn_setting trial step) (data_inputs (map input xs)) ≡ map (λ kept. drawn_setting trial step (input kept)) (filter (λ kept. not kept.is_control) xs)
data_of trial step xs =
    ap (map (drawn_setting trial step)) (filter_mapped (λ it. not it.is_control) input xs)
    ∙ map_map (drawn_setting trial step) input (filter (λ kept. not kept.is_control) xs)

-- as many clocks and resets as inputs: then there is nothing else
zero_rest : (a b n : ℕ) → a + b ≡ n → (a == n) ≡ (b == 0)
zero_rest a zero n e = grind arith
zero_rest a (suc b) n e = grind arith

-- the test of the code, and of the definition
pub same_test : (step : ℕ) (xs : List Kept) → (nat_lt 0 (length (controls (map input xs))) && ((step % 2 == 0) || (length (controls (map input xs)) == length xs))) ≡ is_control_step step (map input xs)
same_test step xs =
    let both = length-filter_both (λ (it : Input). it.is_control) (λ it. not it.is_control) (λ it. refl) (map input xs) in
    let all : length (controls (map input xs)) + length (data_inputs (map input xs)) ≡ length xs = both ∙ length-map xs input in
    ap (λ rest. nat_lt 0 (length (controls (map input xs))) && ((step % 2 == 0) || rest)) (zero_rest _ _ _ all)

pub counted : (xs : List Kept) → count_by (λ kept. kept.is_control) xs ≡ length (controls (map input xs))
counted xs =
    sym (length-filter (λ (kept : Kept). kept.is_control) xs)
    ∙ sym (length-map (filter (λ (kept : Kept). kept.is_control) xs) input)
    ∙ sym (ap length (filter_mapped (λ it. it.is_control) input xs))
