-- What is sized from the root downwards has lawful signs, and says of signals what they are.
use Rattle.std.proofs.Common.{◌≡◌, ◌∙◌, ℕ, zero, suc, ◌<◌, ◌≤◌, max, Bool, true, false, ◌&&◌, List, [], ◌∷◌, length, refl, sym, arith}
use Rattle.std.proofs.lemmas.Bool.{true≢false}
use Rattle.rtl_flat.specs.declared.signal.Signal.{Signal}
use Rattle.rtl_flat.specs.Signs.{Has, sign_of, MayHaveSign, IsDeclared, IsExpression}
use Rattle.rtl_flat.specs.Sizing.{Source, Number, Whole, BitAt, BitBy, Part, Turned, Joined, Compared, Linked, Folded, Shifted, Chosen, Concat, Empty, Beside, Repeated, Recast, signed_in, low_in, own_width, own_sign, sized, IsLawful, AreLawful, HaveBits, alone}
use Rattle.rtl_flat.proofs.Sized.{is_sized}

-- an expression has the sign that it is given
sign-sized : (ss : List Signal) (w : ℕ) (s : Bool) (e : Source) → IsLawful ss e → sign_of (sized ss w s e) ≡ s
sign-sized ss w s (Number spot bits t z) _ = refl
sign-sized ss w s (Whole spot i) _ = refl
sign-sized ss w s (BitAt spot i k) _ = refl
sign-sized ss w s (BitBy spot i e) _ = refl
sign-sized ss w s (Part spot i low n) _ = refl
sign-sized ss w s (Turned spot o a) _ = refl
sign-sized ss w s (Joined spot o a b) _ = refl
sign-sized ss w s (Compared spot o a b) _ = refl
sign-sized ss w s (Linked spot o a b) _ = refl
sign-sized ss w s (Folded spot o a) _ = refl
sign-sized ss w s (Shifted spot o a b) _ = refl
sign-sized ss w s (Chosen spot c a b) _ = refl
sign-sized ss w s (Concat spot parts) _ = refl
sign-sized ss w s (Repeated spot k a) _ = refl
sign-sized ss w s (Recast spot t a) _ = refl
sign-sized ss w s Empty h = absurd h
sign-sized ss w s (Beside a others) h = absurd h

signed_there : (ss : List Signal) (i : ℕ) → signed_in ss i ≡ true → Has (λ x. x.signed ≡ true) ss i
signed_there [] i h = absurd (true≢false (sym h))
signed_there (x ∷ ss) zero h = h
signed_there (x ∷ ss) (suc i) h = signed_there ss i h

low_there : (ss : List Signal) (i : ℕ) → i < length ss → Has (λ x. x.low ≡ low_in ss i) ss i
low_there [] i h = absurd (omega arith)
low_there (x ∷ ss) zero h = refl
low_there (x ∷ ss) (suc i) h = low_there ss i (omega arith)

-- a sign that only what is false allows
unsigned : (s : Bool) → (s ≡ true → false ≡ true) → s ≡ false
unsigned true h = absurd (true≢false (sym (h refl)))
unsigned false h = refl

left_true : (a b : Bool) → (a && b) ≡ true → a ≡ true
left_true true b h = refl
left_true false b h = h

right_true : (a b : Bool) → (a && b) ≡ true → b ≡ true
right_true true b h = h
right_true false b h = absurd (true≢false (sym h))

-- a concatenation is unsigned
row_unsigned : (ss : List Signal) (w : ℕ) (s : Bool) (parts : Source) → AreLawful ss parts → s ≡ false → MayHaveSign ss s (sized ss w s parts)
row_unsigned ss w s Empty h is = is
row_unsigned ss w s (Beside a others) h is = is
row_unsigned ss w s (Number spot bits t z) h is = absurd h
row_unsigned ss w s (Whole spot i) h is = absurd h
row_unsigned ss w s (BitAt spot i k) h is = absurd h
row_unsigned ss w s (BitBy spot i e) h is = absurd h
row_unsigned ss w s (Part spot i low n) h is = absurd h
row_unsigned ss w s (Turned spot o a) h is = absurd h
row_unsigned ss w s (Joined spot o a b) h is = absurd h
row_unsigned ss w s (Compared spot o a b) h is = absurd h
row_unsigned ss w s (Linked spot o a b) h is = absurd h
row_unsigned ss w s (Folded spot o a) h is = absurd h
row_unsigned ss w s (Shifted spot o a b) h is = absurd h
row_unsigned ss w s (Chosen spot c a b) h is = absurd h
row_unsigned ss w s (Concat spot parts) h is = absurd h
row_unsigned ss w s (Repeated spot k a) h is = absurd h
row_unsigned ss w s (Recast spot t a) h is = absurd h

mutual
  pub is_declared : (ss : List Signal) (w : ℕ) (s : Bool) (e : Source) → IsLawful ss e → (s ≡ true → own_sign ss e ≡ true) → IsDeclared ss (sized ss w s e)
  is_declared ss w s (Number spot bits t z) h may = (tt, tt)
  is_declared ss w s (Whole spot i) h may = (λ is. signed_there ss i (may is), tt)
  is_declared ss w s (BitAt spot i k) h may = (unsigned s may, low_there ss i h)
  is_declared ss w s (BitBy spot i e) h may =
      (unsigned s may, (low_there ss i h.0, is_declared ss (own_width ss e) (own_sign ss e) e h.1 (λ x. x)))
  is_declared ss w s (Part spot i low n) h may = (unsigned s may, tt)
  is_declared ss w s (Turned spot o a) h may =
      (sign-sized ss w s a h, is_declared ss w s a h may)
  is_declared ss w s (Joined spot o a b) h may =
      ((sign-sized ss w s a h.0, sign-sized ss w s b h.1), (is_declared ss w s a h.0 (λ x. left_true (own_sign ss a) (own_sign ss b) (may x)), is_declared ss w s b h.1 (λ x. right_true (own_sign ss a) (own_sign ss b) (may x))))
  is_declared ss w s (Compared spot o a b) h may =
      let both = max (own_width ss a) (own_width ss b) in
      let sign = own_sign ss a && own_sign ss b in
      (unsigned s may, (sign-sized ss both sign a h.0 ∙ sym (sign-sized ss both sign b h.1), is_declared ss both sign a h.0 (left_true (own_sign ss a) (own_sign ss b)), is_declared ss both sign b h.1 (right_true (own_sign ss a) (own_sign ss b))))
  is_declared ss w s (Linked spot o a b) h may =
      (unsigned s may, (is_declared ss (own_width ss a) (own_sign ss a) a h.0 (λ x. x), is_declared ss (own_width ss b) (own_sign ss b) b h.1 (λ x. x)))
  is_declared ss w s (Folded spot o a) h may =
      (unsigned s may, is_declared ss (own_width ss a) (own_sign ss a) a h.0 (λ x. x))
  is_declared ss w s (Shifted spot o a b) h may =
      (sign-sized ss w s a h.0, (is_declared ss w s a h.0 may, is_declared ss (own_width ss b) (own_sign ss b) b h.1 (λ x. x)))
  is_declared ss w s (Chosen spot c a b) h may =
      ((sign-sized ss w s a h.1, sign-sized ss w s b h.2), (is_declared ss (own_width ss c) (own_sign ss c) c h.0 (λ x. x), is_declared ss w s a h.1 (λ x. left_true (own_sign ss a) (own_sign ss b) (may x)), is_declared ss w s b h.2 (λ x. right_true (own_sign ss a) (own_sign ss b) (may x))))
  is_declared ss w s (Concat spot parts) h may =
      (row_unsigned ss w s parts h.0 (unsigned s may), parts_declared ss w s parts h.0)
  is_declared ss w s Empty h may = absurd h
  is_declared ss w s (Beside a others) h may = absurd h
  is_declared ss w s (Repeated spot k a) h may =
      (unsigned s may, is_declared ss (own_width ss a) (own_sign ss a) a h.0 (λ x. x))
  is_declared ss w s (Recast spot t a) h may =
      (tt, is_declared ss (own_width ss a) (own_sign ss a) a h.0 (λ x. x))

  pub parts_declared : (ss : List Signal) (w : ℕ) (s : Bool) (parts : Source) → AreLawful ss parts → IsDeclared ss (sized ss w s parts)
  parts_declared ss w s Empty h = tt
  parts_declared ss w s (Beside a others) h =
      (is_declared ss (own_width ss a) (own_sign ss a) a h.0 (λ x. x), parts_declared ss w s others h.2)
  parts_declared ss w s (Number spot bits t z) h = absurd h
  parts_declared ss w s (Whole spot i) h = absurd h
  parts_declared ss w s (BitAt spot i k) h = absurd h
  parts_declared ss w s (BitBy spot i e) h = absurd h
  parts_declared ss w s (Part spot i low n) h = absurd h
  parts_declared ss w s (Turned spot o a) h = absurd h
  parts_declared ss w s (Joined spot o a b) h = absurd h
  parts_declared ss w s (Compared spot o a b) h = absurd h
  parts_declared ss w s (Linked spot o a b) h = absurd h
  parts_declared ss w s (Folded spot o a) h = absurd h
  parts_declared ss w s (Shifted spot o a b) h = absurd h
  parts_declared ss w s (Chosen spot c a b) h = absurd h
  parts_declared ss w s (Concat spot parts) h = absurd h
  parts_declared ss w s (Repeated spot k a) h = absurd h
  parts_declared ss w s (Recast spot t a) h = absurd h

-- what elaboration accepts has the sizes and signs of the standard, where a context that is signed
-- takes none but signed operands
pub is_expression : (ss : List Signal) → HaveBits ss → (w : ℕ) (s : Bool) (e : Source) → IsLawful ss e → own_width ss e ≤ w → w ≤ 128 → (s ≡ true → own_sign ss e ≡ true) → IsExpression ss (sized ss w s e)
is_expression ss has w s e h below top may =
    record { widths = is_sized ss has w s e h below top; signs = is_declared ss w s e h may }

-- an expression that is sized by itself
pub alone_is_expression : (ss : List Signal) → HaveBits ss → (e : Source) → IsLawful ss e → own_width ss e ≤ 128 → IsExpression ss (alone ss e)
alone_is_expression ss has e h top =
    is_expression ss has (own_width ss e) (own_sign ss e) e h (omega arith) top (λ x. x)
