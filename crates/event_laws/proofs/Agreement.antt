-- The value of an expression depends on the bits that it reads alone.
use Rattle.std.proofs.Common.{◌≡◌, ◌∙◌, ◌+◌, ◌<◌, ◌≤◌, ℕ, true, List, [], ◌∷◌, ◌++◌, length, get_or, take, drop, refl, sym, ap, inl, inr, arith}
use Rattle.std.specs.Prelude.{ℤ, pos, negsuc, ◌-ℤ◌}
use Rattle.std.proofs.lemmas.Bool.{and_from, cases_lt, eq-eqb, le-leb, lt-ltb, or_left, or_right}
use Rattle.std.proofs.lemmas.Int.{ints}
use Rattle.std.proofs.lemmas.List.{ext_get_or, get_or-drop, get_or-take, get_or_past, length-drop, length-take}
use Rattle.rtl_bits.specs.declared.Bit.{Bit}
use Rattle.rtl_bits.specs.declared.Bit.TheVariants.{X}
use Rattle.rtl_bits.specs.Bits.{extended, selected, copies, truth_bit}
use Rattle.rtl_flat.specs.Expression.{Tree, Sized, Literal, Whole, BitAt, BitBy, Part}
use Rattle.rtl_flat.specs.Expression.{Turned, Joined, Compared, Linked, Folded, Shifted, Chosen, Empty, Beside, Repeated, Recast}
use Rattle.rtl_flat.specs.Flows.{all_bits, is_place, reads, span}
use Rattle.rtl_flat.specs.Paths.{BitSet, either}
use Rattle.rtl_flat.specs.Sizes.{IsSized}
use Rattle.rtl_flat.specs.Value.{bit_at, bit_by, turned, joined, compared, linked, folded, shifted, chosen, value}
use Rattle.event_model.specs.Writes.{Values}

-- an operator on equal operands
both : {A B C : Type 0} (f : A → B → C) (a a' : A) (b b' : B) → a ≡ a' → b ≡ b' → f a b ≡ f a' b'
both f a a' b b' left right = ap (λ x. f x b) left ∙ ap (f a') right

-- a bit of a span
in_span : (ws : ℕ → ℕ) (i low high k : ℕ) → low ≤ k → k < high → k < ws i → span ws i low high i k ≡ true
in_span ws i low high k from_low below_high inside =
    and_from _ _ (eq-eqb i i refl) (and_from _ _ (le-leb low k from_low) (and_from _ _ (lt-ltb k high below_high) (lt-ltb k (ws i) inside)))

-- the place that an index means
its_place : (index : ℤ) (low k : ℕ) → pos k ≡ index -ℤ pos low → is_place low index k ≡ true
its_place (pos n) low k e = eq-eqb (low + k) n (omega (arith, ints, e))
its_place (negsuc n) low k e = absurd (omega (arith, ints, e))

module _ (n : ℕ) (ws : ℕ → ℕ) (v u : Values) (sizes : (i : ℕ) → i < n → length (v i) ≡ ws i) (others : (i : ℕ) → i < n → length (u i) ≡ ws i) where
  -- whether the values have the same bits at some places
  abbrev AgreeOn : BitSet → Type 0
  AgreeOn bits = (i k : ℕ) → bits i k ≡ true → get_or (v i) k X ≡ get_or (u i) k X

  on_left : (a b : BitSet) → AgreeOn (either a b) → AgreeOn a
  on_left a b same i k r = same i k (or_left (a i k) (b i k) r)

  on_right : (a b : BitSet) → AgreeOn (either a b) → AgreeOn b
  on_right a b same i k r = same i k (or_right (a i k) (b i k) r)

  all_agree : (i : ℕ) → i < n → AgreeOn (all_bits ws i) → v i ≡ u i
  all_agree i below same =
      ext_get_or X (v i) (u i) (sizes i below ∙ sym (others i below)) (λ k h. same i k (inside k h))
    where
      inside : (k : ℕ) → k < length (v i) → all_bits ws i i k ≡ true
      inside k h =
          let size = sizes i below in
          in_span ws i 0 (ws i) k (omega arith) (omega (arith, h, size)) (omega (arith, h, size))

  bits_agree : (i low : ℕ) (index : ℤ) → i < n → AgreeOn (reads ws (BitAt i low index)) → (z : ℤ) → z ≡ index -ℤ pos low → bit_at (v i) z ≡ bit_at (u i) z
  bits_agree i low index below same (negsuc k) e = refl
  bits_agree i low index below same (pos k) e =
      elim (cases_lt k (ws i)) [
        | inl inside ↦ same i k (and_from _ _ (eq-eqb i i refl) (and_from _ _ (lt-ltb k (ws i) inside) (its_place index low k e)))
        | inr past ↦
            let here = sizes i below in
            let there = others i below in
            get_or_past (v i) k X (omega (arith, here, past)) ∙ sym (get_or_past (u i) k X (omega (arith, there, past)))
      ]

  parts_agree : (i low width : ℕ) → i < n → AgreeOn (span ws i low (low + width)) → selected low width (v i) ≡ selected low width (u i)
  parts_agree i low width below same =
      ext_get_or X (selected low width (v i)) (selected low width (u i)) same_size each
    where
      size_of : (a : List Bit) → length a ≡ ws i → length (selected low width a) ≡ length (take width (drop low (v i)))
      size_of a e =
          let front = length-take width (drop low a) in
          let back = length-drop low a in
          let front' = length-take width (drop low (v i)) in
          let back' = length-drop low (v i) in
          let size = sizes i below in
          omega (arith, e, size, front, back, front', back')

      same_size : length (selected low width (v i)) ≡ length (selected low width (u i))
      same_size = sym (size_of (u i) (others i below))

      at_place : (a : List Bit) (k : ℕ) → k < width → get_or (selected low width a) k X ≡ get_or a (low + k) X
      at_place a k h = get_or-take width (drop low a) k X h ∙ get_or-drop low a k X

      each : (k : ℕ) → k < length (selected low width (v i)) → get_or (selected low width (v i)) k X ≡ get_or (selected low width (u i)) k X
      each k h =
          let front = length-take width (drop low (v i)) in
          let back = length-drop low (v i) in
          let size = sizes i below in
          let few : k < width = omega (arith, h, front) in
          let inside : low + k < ws i = omega (arith, h, front, back, size) in
          at_place (v i) k few ∙ same i (low + k) (in_span ws i low (low + width) (low + k) (omega arith) (omega (arith, few)) inside)
          ∙ sym (at_place (u i) k few)

  pub value_agrees : (e : Tree) → IsSized n ws e → AgreeOn (reads ws e) → value v e ≡ value u e
  value_agrees (Sized width signed spot e) sized same =
      ap (extended width signed) (value_agrees e sized.2 same)
  value_agrees (Literal bits) sized same = refl
  value_agrees (Whole i) sized same = all_agree i sized same
  value_agrees (BitAt i low index) sized same =
      ap (λ b. b ∷ []) (bits_agree i low index sized same (index -ℤ pos low) refl)
  value_agrees (BitBy i low signed index) sized same =
      both (λ a b. bit_by a low signed b ∷ []) (v i) (u i) (value v index) (value u index)
      (all_agree i sized.0 (on_right (reads ws index) (all_bits ws i) same))
      (value_agrees index sized.1 (on_left (reads ws index) (all_bits ws i) same))
  value_agrees (Part i low width) sized same = parts_agree i low width sized.0 same
  value_agrees (Turned operator a) sized same = ap (turned operator) (value_agrees a sized same)
  value_agrees (Joined operator signed a b) sized same =
      both (joined operator signed) (value v a) (value u a) (value v b) (value u b) (value_agrees a sized.1 (on_left (reads ws a) (reads ws b) same))
      (value_agrees b sized.2 (on_right (reads ws a) (reads ws b) same))
  value_agrees (Compared operator signed a b) sized same =
      both (λ x y. compared operator signed x y ∷ []) (value v a) (value u a) (value v b) (value u b)
      (value_agrees a sized.1 (on_left (reads ws a) (reads ws b) same)) (value_agrees b sized.2 (on_right (reads ws a) (reads ws b) same))
  value_agrees (Linked operator a b) sized same =
      both (λ x y. linked operator x y ∷ []) (value v a) (value u a) (value v b) (value u b)
      (value_agrees a sized.0 (on_left (reads ws a) (reads ws b) same)) (value_agrees b sized.1 (on_right (reads ws a) (reads ws b) same))
  value_agrees (Folded operator a) sized same =
      ap (λ x. folded operator x ∷ []) (value_agrees a sized same)
  value_agrees (Shifted operator signed a amount) sized same =
      both (shifted operator signed) (value v a) (value u a) (value v amount) (value u amount)
      (value_agrees a sized.1 (on_left (reads ws a) (reads ws amount) same))
      (value_agrees amount sized.2 (on_right (reads ws a) (reads ws amount) same))
  value_agrees (Chosen c a b) sized same =
      let arms = on_right (reads ws c) (either (reads ws a) (reads ws b)) same in
      ap (λ x. chosen (truth_bit x) (value v a) (value v b)) (value_agrees c sized.1 (on_left (reads ws c) (either (reads ws a) (reads ws b)) same))
      ∙ both (chosen (truth_bit (value u c))) (value v a) (value u a) (value v b) (value u b)
      (value_agrees a sized.2 (on_left (reads ws a) (reads ws b) arms)) (value_agrees b sized.3 (on_right (reads ws a) (reads ws b) arms))
  value_agrees Empty sized same = refl
  value_agrees (Beside a rest) sized same =
      both (λ x y. y ++ x) (value v a) (value u a) (value v rest) (value u rest) (value_agrees a sized.0 (on_left (reads ws a) (reads ws rest) same))
      (value_agrees rest sized.1 (on_right (reads ws a) (reads ws rest) same))
  value_agrees (Repeated times a) sized same = ap (copies times) (value_agrees a sized same)
  value_agrees (Recast a) sized same = value_agrees a sized same
