-- Elements of lists.
use Rattle.std.specs.Prelude.{◌⊎◌, ◌↔◌}
use Rattle.std.proofs.Common.{ℕ, zero, suc, ◌≡◌, ◌<◌, arith, List, [], ◌∷◌, ◌++◌, length, get_or, sym, inl, inr}
use Rattle.net_order.specs.Ranks.{In}

pub in_push : {A : Type 0} (xs : List A) (y x : A) → In x (xs ++ y ∷ []) ↔ (In x xs ⊎ (x ≡ y))
in_push {A} xs y x = (to xs, from xs)
  where
    to : (xs : List A) → In x (xs ++ y ∷ []) → In x xs ⊎ (x ≡ y)
    to [] (inl e) = inr e
    to [] (inr h) = absurd h
    to (z ∷ xs) (inl e) = inl (inl e)
    to (z ∷ xs) (inr h) = elim (to xs h) as (λ _. In x (z ∷ xs) ⊎ (x ≡ y)) [
      | inl old ↦ inl (inr old)
      | inr e ↦ inr e
    ]

    from : (xs : List A) → In x xs ⊎ (x ≡ y) → In x (xs ++ y ∷ [])
    from [] (inl h) = absurd h
    from [] (inr e) = inl e
    from (z ∷ xs) (inl (inl e)) = inl e
    from (z ∷ xs) (inl (inr h)) = inr (from xs (inl h))
    from (z ∷ xs) (inr e) = inr (from xs (inr e))

-- by places in a list
pub in_at : {A : Type 0} (xs : List A) (x d : A) → In x xs ↔ ((j : ℕ) × (j < length xs) × (get_or xs j d ≡ x))
in_at {A} xs x d = (to xs, λ h. from xs h.0 h.1 h.2)
  where
    to : (xs : List A) → In x xs → ((j : ℕ) × (j < length xs) × (get_or xs j d ≡ x))
    to [] h = absurd h
    to (y ∷ xs) (inl e) = (0, omega arith, sym e)
    to (y ∷ xs) (inr h) = let (j, inside, is) = to xs h in (suc j, omega arith, is)

    from : (xs : List A) (j : ℕ) → j < length xs → get_or xs j d ≡ x → In x xs
    from [] j inside is = absurd (omega arith)
    from (y ∷ xs) zero inside is = inl (sym is)
    from (y ∷ xs) (suc j) inside is = inr (from xs j (omega arith) is)
