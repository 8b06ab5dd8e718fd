-- The first value with an unknown bit.
use Rattle.std.proofs.Common.{◌≡◌, ◌∙◌, ◌<◌, ◌≤◌, ◌+◌, ◌-◌, ℕ, zero, suc, Bool, true, false, cond, not, List, [], ◌∷◌, ◌++◌, length, None, Some, refl, sym, ap, inl, inr, arith}
use Rattle.std.specs.List.{position, position_or_len}
use Rattle.std.proofs.lemmas.Bool.{cases_lt, lt-ltb}
use Rattle.std.proofs.lemmas.List.{get_or-append-add, get_or-append_right, get_or_append_left, length-append}
use Rattle.std.proofs.lemmas.List.Quantifiers.{position-Some}
use Rattle.rtl_bits.specs.declared.Bit.{Bit}
use Rattle.rtl_bits.specs.Bits.{has_unknown}
use Rattle.rtl_flat.specs.Value.{store}
use Rattle.net_start.specs.Start.{AreKnown, IsFirstUnknown}

known_more : (x : List Bit) (xs : List (List Bit)) → has_unknown x ≡ false → AreKnown xs → AreKnown (x ∷ xs)
known_more x xs is rest zero inside = is
known_more x xs is rest (suc j) inside = rest j (omega (arith, inside))

known_from : (xs : List (List Bit)) → length xs ≤ position_or_len has_unknown xs → AreKnown xs
known_from [] past = λ j below. absurd (omega (arith, below))
known_from (x ∷ xs) past = by (has_unknown x) refl (λ more. known_from xs more)
  where
    by : (b : Bool) → has_unknown x ≡ b → (length xs ≤ position_or_len has_unknown xs → AreKnown xs) → AreKnown (x ∷ xs)
    by true is rest =
        let none : position_or_len has_unknown (x ∷ xs) ≡ 0 = ap (λ b. cond (not b) (1 + position_or_len has_unknown xs) 0) is in
        absurd (omega (arith, past, none))
    by false is rest =
        let some : position_or_len has_unknown (x ∷ xs) ≡ 1 + position_or_len has_unknown xs
        = ap (λ b. cond (not b) (1 + position_or_len has_unknown xs) 0) is in
        known_more x xs is (rest (omega (arith, past, some)))

pub none_unknown : (xs : List (List Bit)) → position has_unknown xs ≡ None → AreKnown xs
none_unknown xs none = elim (cases_lt (position_or_len has_unknown xs) (length xs)) as (λ _. AreKnown xs) [
  | inl less ↦
      let some : position has_unknown xs ≡ Some (position_or_len has_unknown xs)
      = ap (λ b. cond b (Some (position_or_len has_unknown xs)) None) (lt-ltb (position_or_len has_unknown xs) (length xs) less) in
      absurd (let bad : Some (position_or_len has_unknown xs) ≡ None = sym some ∙ none in cc)
  | inr past ↦ known_from xs past
]

module _ (xs ys : List (List Bit)) where
  left : (j : ℕ) → j < length xs → store (xs ++ ys) j ≡ store xs j
  left j below = get_or_append_left xs ys [] j below

  pub unknown_left : (i : ℕ) → position has_unknown xs ≡ Some i → IsFirstUnknown (xs ++ ys) i
  unknown_left i is =
      let found = position-Some has_unknown xs i [] is in
      let inside = found.0 in
      record {
        there = let long = length-append xs ys in omega (arith, inside, long);
        unknown = ap has_unknown (left i found.0) ∙ found.1;
        before = λ j less. ap has_unknown (left j (omega (arith, less, inside))) ∙ found.2 j less;
      }

  pub unknown_right : (i : ℕ) → position has_unknown xs ≡ None → position has_unknown ys ≡ Some i → IsFirstUnknown (xs ++ ys) (length xs + i)
  unknown_right i none is =
      let found = position-Some has_unknown ys i [] is in
      let known = none_unknown xs none in
      let inside = found.0 in
      record {
        there = let long = length-append xs ys in omega (arith, inside, long);
        unknown = ap has_unknown (get_or-append-add xs ys i []) ∙ found.1;
        before = λ j less. elim (cases_lt j (length xs)) as (λ _. has_unknown (store (xs ++ ys) j) ≡ false) [
          | inl below ↦ ap has_unknown (left j below) ∙ known j below
          | inr past ↦
              ap has_unknown (get_or-append_right xs ys (length xs) j [] refl past) ∙ found.2 (j - length xs) (omega (arith, less, past))
        ];
      }

  pub both_known : AreKnown xs → AreKnown ys → AreKnown (xs ++ ys)
  both_known known known' j below = elim (cases_lt j (length xs)) as (λ _. has_unknown (store (xs ++ ys) j) ≡ false) [
    | inl inside ↦ ap has_unknown (left j inside) ∙ known j inside
    | inr past ↦
        let long = length-append xs ys in
        ap has_unknown (get_or-append_right xs ys (length xs) j [] refl past) ∙ known' (j - length xs) (omega (arith, below, long, past))
  ]

  -- so each of the two is
  pub left_known : AreKnown (xs ++ ys) → AreKnown xs
  left_known known j below =
      let long = length-append xs ys in
      sym (ap has_unknown (left j below)) ∙ known j (omega (arith, below, long))

  pub right_known : AreKnown (xs ++ ys) → AreKnown ys
  right_known known j below =
      let long = length-append xs ys in
      sym (ap has_unknown (get_or-append-add xs ys j [])) ∙ known (length xs + j) (omega (arith, below, long))
