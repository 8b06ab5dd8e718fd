-- Lists of which one element after the other is moved.
use Rattle.std.proofs.Common.{◌≡◌, ◌∙◌, ℕ, zero, suc, ◌+◌, ◌<◌, List, [], ◌∷◌, ◌++◌, drop, get_or, length, map, set, take, refl, sym, ap, arith}
use Rattle.std.proofs.lemmas.List.{length-map, map-set}

module _ {B : Type 0} (move : B → B) where
  -- the first so many are moved
  abbrev pub moved_to : ℕ → List B → List B
  moved_to i xs = map move (take i xs) ++ drop i xs

  read_next : (xs : List B) (i : ℕ) (d : B) → get_or (moved_to i xs) i d ≡ get_or xs i d
  read_next [] zero d = refl
  read_next [] (suc i) d = refl
  read_next (x ∷ xs) zero d = refl
  read_next (x ∷ xs) (suc i) d = read_next xs i d

  set_next : (xs : List B) (i : ℕ) (d : B) → i < length xs → set (moved_to i xs) i (move (get_or xs i d)) ≡ moved_to (i + 1) xs
  set_next [] i d inside = absurd (omega (arith, inside))
  set_next (x ∷ xs) zero d inside = refl
  set_next (x ∷ xs) (suc i) d inside =
      let next : suc (i + 1) ≡ suc i + 1 = omega arith in
      ap (λ (rest : List B). move x ∷ rest) (set_next xs i d (omega (arith, inside))) ∙ ap (λ (n : ℕ). moved_to n (x ∷ xs)) next

  pub moved_more : (xs ys : List B) (i : ℕ) (d new : B) → i < length xs → ys ≡ moved_to i xs → new ≡ move (get_or ys i d) → set ys i new ≡ moved_to (i + 1) xs
  moved_more xs ys i d new inside so_far moved =
      let read : get_or ys i d ≡ get_or xs i d = ap (λ (all : List B). get_or all i d) so_far ∙ read_next xs i d in
      ap (λ (all : List B). set all i new) so_far
      ∙ ap (λ (b : B). set (moved_to i xs) i b) (moved ∙ ap move read)
      ∙ set_next xs i d inside

  -- the same of what is seen of them
  pub moved_more_seen : {A : Type 0} (view : A → B) (old now : List A) (i : ℕ) (d new : A) → i < length old → map view now ≡ moved_to i (map view old) → view new ≡ move (view (get_or now i d)) → map view (set now i new) ≡ moved_to (i + 1) (map view old)
  moved_more_seen {A} view old now i d new inside so_far moved =
      let size = length-map old view in
      map-set view now i new
      ∙ moved_more (map view old) (map view now) i (view d) (view new) (omega (arith, size, inside)) so_far (moved ∙ ap move (sym (seen now i d)))
    where
      seen : (xs : List A) (i : ℕ) (d : A) → get_or (map view xs) i (view d) ≡ view (get_or xs i d)
      seen [] zero d = refl
      seen [] (suc i) d = refl
      seen (x ∷ xs) zero d = refl
      seen (x ∷ xs) (suc i) d = seen xs i d
