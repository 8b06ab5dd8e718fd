-- What a filter by places passes of regions that stand by place.
use Rattle.std.proofs.Common.{◌≡◌, ℕ, zero, suc, ◌+◌, ◌-◌, ◌<◌, ◌≤◌, Bool, false, cond, List, [], ◌∷◌, length, get_or, take, drop, refl, sym, ap, subst, ◌∙◌, arith}
use Rattle.std.specs.List.{filter}
use Rattle.std.specs.List.Sorted.{IsNonDecreasingBy}
use Rattle.std.proofs.lemmas.Grind.{common_steps}
use Rattle.std.proofs.lemmas.List.{get_or_default, get_or-take, length-take, take_more}
use Rattle.std.proofs.lemmas.List.Sorted.{IsNonDecreasingBy-drop, IsNonDecreasingBy-push}
use Rattle.text_ground.specs.declared.dropped.Dropped.{Dropped}
use Rattle.text_grammar.specs.GrammarModule.{is_between}

passed_over : {A : Type 0} (p : A → Bool) (x : A) (xs : List A) → p x ≡ false → filter p (x ∷ xs) ≡ filter p xs
passed_over p x xs e = ap (λ b. cond b (x ∷ filter p xs) (filter p xs)) e

none_pass : {A : Type 0} (p : A → Bool) (xs : List A) → ((k : ℕ) (d : A) → k < length xs → p (get_or xs k d) ≡ false) → filter p xs ≡ []
none_pass p [] out = refl
none_pass p (x ∷ xs) out = passed_over p x xs (out 0 x (omega arith)) ∙ none_pass p xs (λ k d m. out (suc k) d (omega arith))

front_out : {A : Type 0} (p : A → Bool) (xs : List A) (n : ℕ) → ((k : ℕ) (d : A) → k < n → p (get_or xs k d) ≡ false) → filter p (drop n xs) ≡ filter p xs
front_out p xs zero out = refl
front_out p [] (suc n) out = refl
front_out p (x ∷ xs) (suc n) out = front_out p xs n (λ k d m. out (suc k) d (omega arith)) ∙ sym (passed_over p x xs (out 0 x (omega arith)))

end_out : {A : Type 0} (p : A → Bool) (xs : List A) (n : ℕ) → ((k : ℕ) (d : A) → n ≤ k → k < length xs → p (get_or xs k d) ≡ false) → filter p (take n xs) ≡ filter p xs
end_out p xs zero out = sym (none_pass p xs (λ k d m. out k d (omega arith) m))
end_out p [] (suc n) out = refl
end_out p (x ∷ xs) (suc n) out = ap (λ l. cond (p x) (x ∷ l) l) (end_out p xs n (λ k d m l. out (suc k) d (omega arith) (omega arith)))

before_out : (first last : ℕ) (r : Dropped) → r.at < first → is_between first last r ≡ false
before_out first last r l = grind (arith, common_steps)

behind_out : (first last : ℕ) (r : Dropped) → last < r.at → is_between first last r ≡ false
behind_out first last r l = grind (arith, common_steps)

-- what begins before an element that begins before a place
pub still_before : (xs : List Dropped) (middle place k : ℕ) (d e : Dropped) → IsNonDecreasingBy (λ region. region.at) xs → k ≤ middle → middle < length xs
    → (get_or xs middle e).at < place → (get_or xs k d).at < place
still_before xs middle place k d e up l m b =
    let same : (get_or xs k d).at ≡ (get_or xs k e).at = ap (λ r. r.at) (get_or_default xs k d e (omega arith)) in
    let below : (get_or xs k e).at ≤ (get_or xs middle e).at = up k middle e l m in
    omega arith

-- a longer front is by place, where its last element begins nowhere before the last of the front
pub by_place_more : (xs : List Dropped) (i : ℕ) (e : Dropped) → IsNonDecreasingBy (λ region. region.at) (take i xs) → 1 ≤ i → i < length xs
    → (get_or xs (i - 1) e).at ≤ (get_or xs i e).at → IsNonDecreasingBy (λ region. region.at) (take (i + 1) xs)
by_place_more xs i e up l m b =
    subst (λ l. IsNonDecreasingBy (λ region. region.at) l) (sym (take_more xs i e m))
    (IsNonDecreasingBy-push (λ region. region.at) (take i xs) (get_or xs i e) up (λ d _.
    let long : length (take i xs) ≡ i = omega (arith, length-take i xs) in
    let last : (get_or (take i xs) (length (take i xs) - 1) d).at ≡ (get_or xs (i - 1) e).at =
    ap (λ n. (get_or (take i xs) (n - 1) d).at) long ∙ ap (λ r. r.at) (get_or-take i xs (i - 1) d (omega arith) ∙ get_or_default xs (i - 1) d e (omega arith)) in
    omega arith))

-- those in a run, where the first `start` begin before `first`
pub all_passed : (first last start : ℕ) (xs : List Dropped) → ((k : ℕ) (d : Dropped) → k < start → (get_or xs k d).at < first)
    → filter (is_between first last) (drop start xs) ≡ filter (is_between first last) xs
all_passed first last start xs out = front_out (is_between first last) xs start (λ k d m. before_out first last (get_or xs k d) (out k d m))

-- the same, where element `i` of the others begins after `last`
pub rest_behind : (first last start i : ℕ) (xs ys : List Dropped) (e : Dropped) → IsNonDecreasingBy (λ region. region.at) xs → ((k : ℕ) (d : Dropped) → k < start → (get_or xs k d).at < first)
    → ys ≡ drop start xs → i < length ys → last < (get_or ys i e).at → filter (is_between first last) (take i ys) ≡ filter (is_between first last) xs
rest_behind first last start i xs ys e up out same l b =
    let rising : IsNonDecreasingBy (λ region. region.at) ys = subst (λ l. IsNonDecreasingBy (λ region. region.at) l) (sym same) (IsNonDecreasingBy-drop (λ region. region.at) start xs up) in
    end_out (is_between first last) ys i (λ k d m n. behind_out first last (get_or ys k d)
    (let default : (get_or ys i d).at ≡ (get_or ys i e).at = ap (λ r. r.at) (get_or_default ys i d e l) in
    let above : (get_or ys i d).at ≤ (get_or ys k d).at = rising i k d m n in
    omega arith))
    ∙ ap (filter (is_between first last)) same ∙ all_passed first last start xs out
