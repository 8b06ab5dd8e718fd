-- Steps of an exchange.
use Rattle.std.specs.Prelude.{ℕ, zero, suc, List, [], ◌∷◌, Option, None, Some, option_map}
use Rattle.std.proofs.Common.{◌≡◌, ◌∙◌, ◌<◌, ◌+◌, length, take, drop, set, get_or, ap, refl, sym, arith, add-one}
use Rattle.desk_memo.specs.Exchanges.{or_old, put_in}

-- one place more
done_more : {X : Type 0} (place : ℕ) (news : List (Option X)) (olds : List X) (d : Option X) (e : X) → place < length news → place < length olds → set (put_in (take place news) olds) place (or_old (get_or news place d) (get_or (put_in (take place news) olds) place e)) ≡ put_in (take (suc place) news) olds
done_more place [] olds d e new_in old_in = absurd (omega arith)
done_more place (new ∷ news) [] d e new_in old_in = absurd (omega arith)
done_more zero (new ∷ news) (old ∷ olds) d e new_in old_in = refl
done_more (suc place) (new ∷ news) (old ∷ olds) d e new_in old_in =
    ap (λ it. or_old new old ∷ it) (done_more place news olds d e (omega arith) (omega arith))

back : {X : Type 0} (new : Option X) (old : X) → or_old (option_map (λ _. old) new) (or_old new old) ≡ old
back None old = refl
back (Some new) old = refl

undone_more : {X : Type 0} (place : ℕ) (news : List (Option X)) (nows : List X) (d : Option X) (e : X) → place < length news → place < length nows → put_in (take (suc place) (set news place (option_map (λ _. get_or nows place e) (get_or news place d)))) (set nows place (or_old (get_or news place d) (get_or nows place e))) ≡ put_in (take place news) nows
undone_more place [] nows d e new_in now_in = absurd (omega arith)
undone_more place (new ∷ news) [] d e new_in now_in = absurd (omega arith)
undone_more zero (new ∷ news) (now ∷ nows) d e new_in now_in = ap (λ it. it ∷ nows) (back new now)
undone_more (suc place) (new ∷ news) (now ∷ nows) d e new_in now_in =
    ap (λ it. or_old new now ∷ it) (undone_more place news nows d e (omega arith) (omega arith))

there : {X : Type 0} (place : ℕ) (xs : List X) (d : X) → get_or xs place d ≡ get_or (drop place xs) 0 d
there zero [] d = refl
there zero (x ∷ xs) d = refl
there (suc place) [] d = refl
there (suc place) (x ∷ xs) d = there place xs d

-- a step of the loop: what is kept
pub done_step : {X : Type 0} (place : ℕ) (nows news : List (Option X)) (kept olds : List X) (d : Option X) (e made : X) → place < length news → place < length olds → kept ≡ put_in (take place news) olds → drop place nows ≡ drop place news → made ≡ or_old (get_or nows place d) (get_or kept place e) → set kept place made ≡ put_in (take (place + 1) news) olds
done_step place nows news kept olds d e made new_in old_in done rest is =
    let same : get_or nows place d ≡ get_or news place d =
    there place nows d ∙ ap (λ it. get_or it 0 d) rest ∙ sym (there place news d) in
    ap (λ it. set kept place it) (is ∙ ap (λ it. or_old it (get_or kept place e)) same)
    ∙ ap (λ it. set it place (or_old (get_or news place d) (get_or it place e))) done
    ∙ done_more place news olds d e new_in old_in
    ∙ ap (λ it. put_in (take it news) olds) (sym (add-one place))

-- what was made beside it
pub undone_step : {X : Type 0} (place : ℕ) (nows : List (Option X)) (kept olds : List X) (d after : Option X) (e made : X) → place < length nows → place < length kept → put_in (take place nows) kept ≡ olds → made ≡ or_old (get_or nows place d) (get_or kept place e) → after ≡ option_map (λ _. get_or kept place e) (get_or nows place d) → put_in (take (place + 1) (set nows place after)) (set kept place made) ≡ olds
undone_step place nows kept olds d after e made new_in old_in undone is left =
    ap (λ it. put_in (take it (set nows place after)) (set kept place made)) (add-one place)
    ∙ ap (λ it. put_in (take (suc place) (set nows place it)) (set kept place made)) left
    ∙ ap (λ it. put_in (take (suc place) (set nows place (option_map (λ _. get_or kept place e) (get_or nows place d)))) (set kept place it)) is
    ∙ undone_more place nows kept d e new_in old_in
    ∙ undone

-- all places
pub all_places : {X : Type 0} (count : ℕ) (news : List (Option X)) (olds : List X) → (count < length news → count < length olds → ⊥) → put_in (take count news) olds ≡ put_in news olds
all_places zero [] olds none = refl
all_places zero (new ∷ news) [] none = refl
all_places zero (new ∷ news) (old ∷ olds) none = absurd (none (omega arith) (omega arith))
all_places (suc count) [] olds none = refl
all_places (suc count) (new ∷ news) [] none = refl
all_places (suc count) (new ∷ news) (old ∷ olds) none =
    ap (λ it. or_old new old ∷ it) (all_places count news olds (λ (a : count < length news) (b : count < length olds). none (omega arith) (omega arith)))
