-- What is sized from the root downwards is sized by the standard's rules.
use Rattle.std.proofs.Common.{◌≡◌, ◌∙◌, ℕ, ◌-◌, ◌≤◌, max, Bool, false, not, ◌&&◌, List, length, take, replicate, ◌++◌, refl, sym, arith, inl, inr}
use Rattle.std.proofs.lemmas.Bool.{cases_Bool, true≢false}
use Rattle.std.proofs.lemmas.List.{length-append, length-take, length-replicate}
use Rattle.rtl_bits.specs.declared.Bit.{Bit}
use Rattle.rtl_bits.specs.Bit.{is_unknown}
use Rattle.rtl_bits.specs.Bits.{top_bit}
use Rattle.rtl_flat.specs.declared.signal.Signal.{Signal}
use Rattle.rtl_flat.specs.Expression.{Tree}
use Rattle.rtl_flat.specs.Sizes.{width_of, takes_context, FitsWidth, IsSized}
use Rattle.rtl_flat.specs.Signs.{width_in}
use Rattle.rtl_flat.specs.Sizing.{Source, Number, Whole, BitAt, BitBy, Part, Turned, Joined, Compared, Linked, Folded, Shifted, Chosen, Concat, Empty, Beside, Repeated, Recast, own_width, own_sign, literal_at, sized, IsLawful, AreLawful, HaveBits}

length_filled : (w : ℕ) (bits : List Bit) (fill : Bit) → length (take w bits ++ replicate (w - length bits) fill) ≡ w
length_filled w bits fill = simp (length-append, length-take, length-replicate) (omega arith)

length-literal_at : (w : ℕ) (s z : Bool) (bits : List Bit) → length (literal_at w s z bits) ≡ w
length-literal_at w s z bits =
    elim (cases_Bool (not z && is_unknown (top_bit bits))) [
      | inl a ↦ rw a (length_filled w bits _)
      | inr a ↦ rw a (length_filled w bits _)
    ]

in_context : (ws : ℕ → ℕ) (w : ℕ) (e : Tree) → 1 ≤ w → width_of ws e ≡ w → FitsWidth ws w e
in_context ws w e h is =
    record { not_empty = omega arith; inside = omega arith; whole = λ _. is }

by_itself : (ws : ℕ → ℕ) (w : ℕ) (e : Tree) → takes_context e ≡ false → 1 ≤ width_of ws e → width_of ws e ≤ w → FitsWidth ws w e
by_itself ws w e own h below =
    record { not_empty = h; inside = below; whole = λ t. absurd (true≢false (sym t ∙ own)) }

-- an expression has the width that it is given
width-sized : (ss : List Signal) (w : ℕ) (s : Bool) (e : Source) → IsLawful ss e → width_of (width_in ss) (sized ss w s e) ≡ w
width-sized ss w s (Number spot bits t z) _ = refl
width-sized ss w s (Whole spot i) _ = refl
width-sized ss w s (BitAt spot i k) _ = refl
width-sized ss w s (BitBy spot i e) _ = refl
width-sized ss w s (Part spot i low n) _ = refl
width-sized ss w s (Turned spot o a) _ = refl
width-sized ss w s (Joined spot o a b) _ = refl
width-sized ss w s (Compared spot o a b) _ = refl
width-sized ss w s (Linked spot o a b) _ = refl
width-sized ss w s (Folded spot o a) _ = refl
width-sized ss w s (Shifted spot o a b) _ = refl
width-sized ss w s (Chosen spot c a b) _ = refl
width-sized ss w s (Concat spot parts) _ = refl
width-sized ss w s Empty h = absurd h
width-sized ss w s (Beside a others) h = absurd h
width-sized ss w s (Repeated spot k a) _ = refl
width-sized ss w s (Recast spot t a) _ = refl

-- an expression has a bit
some_bit : (ss : List Signal) → HaveBits ss → (e : Source) → IsLawful ss e → 1 ≤ own_width ss e
some_bit ss has (Number spot bits t z) h = h
some_bit ss has (Whole spot i) h = has i h
some_bit ss has (BitAt spot i k) h = omega arith
some_bit ss has (BitBy spot i e) h = omega arith
some_bit ss has (Part spot i low n) h = h.1
some_bit ss has (Turned spot o a) h = some_bit ss has a h
some_bit ss has (Joined spot o a b) h = let p = some_bit ss has a h.0 in omega arith
some_bit ss has (Compared spot o a b) h = omega arith
some_bit ss has (Linked spot o a b) h = omega arith
some_bit ss has (Folded spot o a) h = omega arith
some_bit ss has (Shifted spot o a b) h = some_bit ss has a h.0
some_bit ss has (Chosen spot c a b) h = let p = some_bit ss has a h.1 in omega arith
some_bit ss has (Concat spot parts) h = h.1
some_bit ss has Empty h = absurd h
some_bit ss has (Beside a others) h = absurd h
some_bit ss has (Repeated spot k a) h = h.1
some_bit ss has (Recast spot t a) h = some_bit ss has a h.0

-- parts of a concatenation have together the width that they have by themselves
width-parts : (ss : List Signal) (w : ℕ) (s : Bool) (parts : Source) → AreLawful ss parts → width_of (width_in ss) (sized ss w s parts) ≡ own_width ss parts
width-parts ss w s Empty h = refl
width-parts ss w s (Beside a others) h =
    rw (width-sized ss (own_width ss a) (own_sign ss a) a h.0, width-parts ss w s others h.2)
width-parts ss w s (Number spot bits t z) h = absurd h
width-parts ss w s (Whole spot i) h = absurd h
width-parts ss w s (BitAt spot i k) h = absurd h
width-parts ss w s (BitBy spot i e) h = absurd h
width-parts ss w s (Part spot i low n) h = absurd h
width-parts ss w s (Turned spot o a) h = absurd h
width-parts ss w s (Joined spot o a b) h = absurd h
width-parts ss w s (Compared spot o a b) h = absurd h
width-parts ss w s (Linked spot o a b) h = absurd h
width-parts ss w s (Folded spot o a) h = absurd h
width-parts ss w s (Shifted spot o a b) h = absurd h
width-parts ss w s (Chosen spot c a b) h = absurd h
width-parts ss w s (Concat spot parts) h = absurd h
width-parts ss w s (Repeated spot k a) h = absurd h
width-parts ss w s (Recast spot t a) h = absurd h

-- parts of a concatenation take no width from their context
in_a_row : (ss : List Signal) (w : ℕ) (s : Bool) (parts : Source) → AreLawful ss parts → takes_context (sized ss w s parts) ≡ false
in_a_row ss w s Empty h = refl
in_a_row ss w s (Beside a others) h = refl
in_a_row ss w s (Number spot bits t z) h = absurd h
in_a_row ss w s (Whole spot i) h = absurd h
in_a_row ss w s (BitAt spot i k) h = absurd h
in_a_row ss w s (BitBy spot i e) h = absurd h
in_a_row ss w s (Part spot i low n) h = absurd h
in_a_row ss w s (Turned spot o a) h = absurd h
in_a_row ss w s (Joined spot o a b) h = absurd h
in_a_row ss w s (Compared spot o a b) h = absurd h
in_a_row ss w s (Linked spot o a b) h = absurd h
in_a_row ss w s (Folded spot o a) h = absurd h
in_a_row ss w s (Shifted spot o a b) h = absurd h
in_a_row ss w s (Chosen spot c a b) h = absurd h
in_a_row ss w s (Concat spot parts) h = absurd h
in_a_row ss w s (Repeated spot k a) h = absurd h
in_a_row ss w s (Recast spot t a) h = absurd h

mutual
  pub is_sized : (ss : List Signal) → HaveBits ss → (w : ℕ) (s : Bool) (e : Source) → IsLawful ss e → own_width ss e ≤ w → w ≤ 128 → IsSized (length ss) (width_in ss) (sized ss w s e)
  is_sized ss has w s (Number spot bits t z) h below top =
      (top, in_context _ w _ (omega arith) (length-literal_at w s z bits), tt)
  is_sized ss has w s (Whole spot i) h below top =
      (top, by_itself _ w _ refl (has i h) below, h)
  is_sized ss has w s (BitAt spot i k) h below top =
      (top, by_itself _ w _ refl (omega arith) below, h)
  is_sized ss has w s (BitBy spot i e) h below top =
      (top, by_itself _ w _ refl (omega arith) below, (h.0, is_sized ss has (own_width ss e) (own_sign ss e) e h.1 (omega arith) h.2))
  is_sized ss has w s (Part spot i low n) h below top =
      (top, by_itself _ w _ refl h.1 below, (h.0, h.2))
  is_sized ss has w s (Turned spot o a) h below top =
      let one = some_bit ss has a h in
      (top, in_context _ w _ (omega arith) (width-sized ss w s a h), is_sized ss has w s a h below top)
  is_sized ss has w s (Joined spot o a b) h below top =
      let one = some_bit ss has a h.0 in
      (top, in_context _ w _ (omega arith) (width-sized ss w s a h.0), (width-sized ss w s a h.0 ∙ sym (width-sized ss w s b h.1), is_sized ss has w s a h.0 (omega arith) top, is_sized ss has w s b h.1 (omega arith) top))
  is_sized ss has w s (Compared spot o a b) h below top =
      let both = max (own_width ss a) (own_width ss b) in
      let sign = own_sign ss a && own_sign ss b in
      (top, by_itself _ w _ refl (omega arith) below, (width-sized ss both sign a h.0 ∙ sym (width-sized ss both sign b h.1), is_sized ss has both sign a h.0 (omega arith) h.2, is_sized ss has both sign b h.1 (omega arith) h.2))
  is_sized ss has w s (Linked spot o a b) h below top =
      (top, by_itself _ w _ refl (omega arith) below, (is_sized ss has (own_width ss a) (own_sign ss a) a h.0 (omega arith) h.2, is_sized ss has (own_width ss b) (own_sign ss b) b h.1 (omega arith) h.3))
  is_sized ss has w s (Folded spot o a) h below top =
      (top, by_itself _ w _ refl (omega arith) below, is_sized ss has (own_width ss a) (own_sign ss a) a h.0 (omega arith) h.1)
  is_sized ss has w s (Shifted spot o a b) h below top =
      let one = some_bit ss has a h.0 in
      (top, in_context _ w _ (omega arith) (width-sized ss w s a h.0), (rw (width-sized ss w s a h.0) (omega arith), is_sized ss has w s a h.0 below top, is_sized ss has (own_width ss b) (own_sign ss b) b h.1 (omega arith) h.2))
  is_sized ss has w s (Chosen spot c a b) h below top =
      let one = some_bit ss has a h.1 in
      (top, in_context _ w _ (omega arith) (width-sized ss w s a h.1), (width-sized ss w s a h.1 ∙ sym (width-sized ss w s b h.2), is_sized ss has (own_width ss c) (own_sign ss c) c h.0 (omega arith) h.3, is_sized ss has w s a h.1 (omega arith) top, is_sized ss has w s b h.2 (omega arith) top))
  is_sized ss has w s (Concat spot parts) h below top =
      let same = width-parts ss w s parts h.0 in
      (top, by_itself _ w _ (in_a_row ss w s parts h.0) (omega arith) (omega arith), parts_sized ss has w s parts h.0)
  is_sized ss has w s Empty h below top = absurd h
  is_sized ss has w s (Beside a others) h below top = absurd h
  is_sized ss has w s (Repeated spot k a) h below top =
      let same = width-sized ss (own_width ss a) (own_sign ss a) a h.0 in
      (top, by_itself _ w _ refl (rw same h.1) (rw same below), is_sized ss has (own_width ss a) (own_sign ss a) a h.0 (omega arith) h.2)
  is_sized ss has w s (Recast spot t a) h below top =
      let one = some_bit ss has a h.0 in
      let same = width-sized ss (own_width ss a) (own_sign ss a) a h.0 in
      (top, by_itself _ w _ refl (omega arith) (omega arith), is_sized ss has (own_width ss a) (own_sign ss a) a h.0 (omega arith) h.1)

  pub parts_sized : (ss : List Signal) → HaveBits ss → (w : ℕ) (s : Bool) (parts : Source) → AreLawful ss parts → IsSized (length ss) (width_in ss) (sized ss w s parts)
  parts_sized ss has w s Empty h = tt
  parts_sized ss has w s (Beside a others) h =
      (is_sized ss has (own_width ss a) (own_sign ss a) a h.0 (omega arith) h.1, parts_sized ss has w s others h.2)
  parts_sized ss has w s (Number spot bits t z) h = absurd h
  parts_sized ss has w s (Whole spot i) h = absurd h
  parts_sized ss has w s (BitAt spot i k) h = absurd h
  parts_sized ss has w s (BitBy spot i e) h = absurd h
  parts_sized ss has w s (Part spot i low n) h = absurd h
  parts_sized ss has w s (Turned spot o a) h = absurd h
  parts_sized ss has w s (Joined spot o a b) h = absurd h
  parts_sized ss has w s (Compared spot o a b) h = absurd h
  parts_sized ss has w s (Linked spot o a b) h = absurd h
  parts_sized ss has w s (Folded spot o a) h = absurd h
  parts_sized ss has w s (Shifted spot o a b) h = absurd h
  parts_sized ss has w s (Chosen spot c a b) h = absurd h
  parts_sized ss has w s (Concat spot parts) h = absurd h
  parts_sized ss has w s (Repeated spot k a) h = absurd h
  parts_sized ss has w s (Recast spot t a) h = absurd h
