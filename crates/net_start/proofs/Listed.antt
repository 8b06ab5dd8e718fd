-- Numbers of which something holds, one after another.
use Rattle.std.proofs.Common.{◌≡◌, ◌∙◌, ◌<◌, ◌≤◌, ◌+◌, ℕ, zero, suc, Bool, true, false, cond, List, [], ◌∷◌, ◌++◌, length, get_or, refl, sym, ap, subst, inl, inr, arith}
use Rattle.std.specs.Prelude.{◌⊎◌, ◌↔◌}
use Rattle.std.specs.List.{AllByRecursion}
use Rattle.std.proofs.lemmas.Bool.{cases_eq}
use Rattle.std.proofs.lemmas.List.{length-append, map-append}
use Rattle.rtl_flat.specs.declared.expr.SigId.{SigId}
use Rattle.check_found.specs.rtl_scan.Arrows.{Among, AreRising}
use Rattle.net_start.specs.Listing.{AreBelow}
use Rattle.net_start.specs.Stored.{AreAll, places}

rising_push : (xs : List ℕ) (n : ℕ) → AreRising xs → ((s : ℕ) → Among xs s → s < n) → AreRising (xs ++ n ∷ [])
rising_push [] n h below = (tt, tt)
rising_push (x ∷ xs) n (first, rest) below =
    (all_push xs first, rising_push xs n rest (λ s among. below s (inr among)))
  where
    all_push : (ys : List ℕ) → AllByRecursion (λ other. x < other) ys → AllByRecursion (λ other. x < other) (ys ++ n ∷ [])
    all_push [] h = (below x (inl refl), tt)
    all_push (y ∷ ys) h = (h.0, all_push ys h.1)

among_push : (xs : List ℕ) (n s : ℕ) → Among (xs ++ n ∷ []) s → Among xs s ⊎ (s ≡ n)
among_push [] n s (inl same) = inr same
among_push [] n s (inr none) = absurd none
among_push (x ∷ xs) n s (inl same) = inl (inl same)
among_push (x ∷ xs) n s (inr later) = one_more (among_push xs n s later)
  where
    one_more : Among xs s ⊎ (s ≡ n) → Among (x ∷ xs) s ⊎ (s ≡ n)
    one_more (inl h) = inl (inr h)
    one_more (inr same) = inr same

push_among : (xs : List ℕ) (n s : ℕ) → Among xs s → Among (xs ++ n ∷ []) s
push_among [] n s h = absurd h
push_among (x ∷ xs) n s (inl same) = inl same
push_among (x ∷ xs) n s (inr later) = inr (push_among xs n s later)

pushed_among : (xs : List ℕ) (n s : ℕ) → s ≡ n → Among (xs ++ n ∷ []) s
pushed_among [] n s same = inl same
pushed_among (x ∷ xs) n s same = inr (pushed_among xs n s same)

append_none : (xs : List ℕ) → xs ++ [] ≡ xs
append_none [] = refl
append_none (x ∷ xs) = ap (λ l. x ∷ l) (append_none xs)

module _ (P : ℕ → Type 0) where
  pub none_below : AreBelow P 0 []
  none_below = record { rising = tt; each = λ s. (λ h. absurd h, λ h. absurd (omega (arith, h.0))) }

  pass_one : (n : ℕ) (found : List ℕ) → AreBelow P n found → (P n → ⊥) → AreBelow P (n + 1) found
  pass_one n found are other =
      record { rising = are.rising; each = λ s. (λ h. let (below, is) = (are.each s).0 h in (omega (arith, below), is), λ h. back s h.0 h.1) }
    where
      back : (s : ℕ) → s < n + 1 → P s → Among found s
      back s below is = elim (cases_eq s n) [
        | inl same ↦ absurd (other (subst P same is))
        | inr apart ↦ (are.each s).1 (omega (arith, below, apart), is)
      ]

  push_one : (n : ℕ) (found : List ℕ) → AreBelow P n found → P n → AreBelow P (n + 1) (found ++ n ∷ [])
  push_one n found are here =
      record {
        rising = rising_push found n are.rising (λ s among. ((are.each s).0 among).0);
        each = λ s. (λ h. to s (among_push found n s h), λ h. back s h.0 h.1);
      }
    where
      to : (s : ℕ) → Among found s ⊎ (s ≡ n) → (s < n + 1) × P s
      to s (inl h) = let (below, is) = (are.each s).0 h in (omega (arith, below), is)
      to s (inr same) = (omega (arith, same), subst P (sym same) here)

      back : (s : ℕ) → s < n + 1 → P s → Among (found ++ n ∷ []) s
      back s below is = elim (cases_eq s n) [
        | inl same ↦ pushed_among found n s same
        | inr apart ↦ push_among found n s ((are.each s).1 (omega (arith, below, apart), is))
      ]

  -- one more number, which is put behind the others where it is one of them
  pub next_below : (n : ℕ) (found new : List SigId) (signal : SigId) (holds : Bool) → signal.0 ≡ n → holds ≡ true ↔ P n → new ≡ found ++ cond holds (signal ∷ []) [] → AreBelow P n (places found) → AreBelow P (n + 1) (places new)
  next_below n found new signal holds is decides made are = by holds decides made
    where
      by : (b : Bool) → b ≡ true ↔ P n → new ≡ found ++ cond b (signal ∷ []) [] → AreBelow P (n + 1) (places new)
      by true decides made =
          subst (AreBelow P (n + 1)) (sym (ap places made ∙ (map-append (λ (one : SigId). one.0) found (signal ∷ []) ∙ ap (λ m. places found ++ m ∷ []) is)))
          (push_one n (places found) are (decides.0 refl))
      by false decides made =
          subst (AreBelow P (n + 1)) (sym (ap places made ∙ (map-append (λ (one : SigId). one.0) found [] ∙ append_none (places found))))
          (pass_one n (places found) are (λ p. absurd (cc (decides.1 p))))

  pub all_below : (n : ℕ) (found : List ℕ) → AreBelow P n found → ((s : ℕ) → P s → s < n) → AreAll P found
  all_below n found are inside =
      record { rising = are.rising; each = λ s. (λ h. ((are.each s).0 h).1, λ p. (are.each s).1 (inside s p, p)) }

-- it is one longer at most
pub few_more : (found new : List SigId) (signal : SigId) (holds : Bool) (n : ℕ) → new ≡ found ++ cond holds (signal ∷ []) [] → length found ≤ n → length new ≤ n + 1
few_more found new signal true n made few =
    let long = ap length made ∙ length-append found (signal ∷ []) in omega (arith, few, long)
few_more found new signal false n made few =
    let long = ap length made ∙ length-append found [] in omega (arith, few, long)

-- ---- two lists of one kind

all_from : (xs : List ℕ) (n s : ℕ) → AllByRecursion (λ other. n < other) xs → Among xs s → n < s
all_from [] n s h among = absurd among
all_from (x ∷ xs) n s h (inl same) = subst (λ m. n < m) (sym same) h.0
all_from (x ∷ xs) n s h (inr later) = all_from xs n s h.1 later

-- there is one list of all numbers of which something holds
pub rising_same : (xs ys : List ℕ) → AreRising xs → AreRising ys → ((s : ℕ) → Among xs s → Among ys s) → ((s : ℕ) → Among ys s → Among xs s) → xs ≡ ys
rising_same [] [] r r' to back = refl
rising_same [] (y ∷ ys) r r' to back = absurd (back y (inl refl))
rising_same (x ∷ xs) [] r r' to back = absurd (to x (inl refl))
rising_same (x ∷ xs) (y ∷ ys) r r' to back =
    let same : x ≡ y = first (to x (inl refl)) (back y (inl refl)) in
    let rest : xs ≡ ys = rising_same xs ys r.1 r'.1 (λ s h. later_to s h (to s (inr h))) (λ s h. later_back s h (back s (inr h))) in
    cc
  where
    first : Among (y ∷ ys) x → Among (x ∷ xs) y → x ≡ y
    first (inl same) h = same
    first (inr later) (inl same) = sym same
    first (inr later) (inr later') =
        let more = all_from ys y x r'.0 later in
        let less = all_from xs x y r.0 later' in
        absurd (omega (arith, more, less))

    later_to : (s : ℕ) → Among xs s → Among (y ∷ ys) s → Among ys s
    later_to s h (inr later) = later
    later_to s h (inl same) =
        let same_first : x ≡ y = first (to x (inl refl)) (back y (inl refl)) in
        let more = all_from xs x s r.0 h in
        absurd (omega (arith, more, same, same_first))

    later_back : (s : ℕ) → Among ys s → Among (x ∷ xs) s → Among xs s
    later_back s h (inr later) = later
    later_back s h (inl same) =
        let same_first : x ≡ y = first (to x (inl refl)) (back y (inl refl)) in
        let more = all_from ys y s r'.0 h in
        absurd (omega (arith, more, same, same_first))

pub all_same : (P : ℕ → Type 0) (xs ys : List ℕ) → AreAll P xs → AreAll P ys → xs ≡ ys
all_same P xs ys are are' =
    rising_same xs ys are.rising are'.rising (λ s h. (are'.each s).1 ((are.each s).0 h)) (λ s h. (are.each s).1 ((are'.each s).0 h))

-- ---- places in such a list

pub place_among : (xs : List ℕ) (j : ℕ) → j < length xs → Among xs (get_or xs j 0)
place_among [] j below = absurd (omega (arith, below))
place_among (x ∷ xs) zero below = inl refl
place_among (x ∷ xs) (suc j) below = inr (place_among xs j (omega (arith, below)))

pub rising_places : (xs : List ℕ) → AreRising xs → (i j : ℕ) → i < j → j < length xs → get_or xs i 0 < get_or xs j 0
rising_places [] r i j less below = absurd (omega (arith, below))
rising_places (x ∷ xs) r i zero less below = absurd (omega (arith, less))
rising_places (x ∷ xs) r zero (suc j) less below =
    all_from xs x (get_or xs j 0) r.0 (place_among xs j (omega (arith, below)))
rising_places (x ∷ xs) r (suc i) (suc j) less below =
    rising_places xs r.1 i j (omega (arith, less)) (omega (arith, below))
