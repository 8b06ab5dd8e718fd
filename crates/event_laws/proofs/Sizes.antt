-- The value of an expression has as many bits as the expression.
use Rattle.std.proofs.Common.{◌≡◌, ◌∙◌, ◌+◌, ◌-◌, ◌*◌, ◌/◌, ◌%◌, ◌^◌, int_div, int_rem, ◌<◌, ◌≤◌, ℕ, ℤ, pos, negsuc, Bool, true, false, cond, List, [], ◌∷◌, ◌++◌, length, take, drop, replicate, refl, sym, ap, suc, arith}
use Rattle.std.proofs.lemmas.List.{length-append, length-drop, length-map, length-replicate, length-take}
use Rattle.rtl_bits.specs.declared.Bit.{Bit}
use Rattle.rtl_bits.specs.declared.Bit.TheVariants.{Zero, One, X, Z}
use Rattle.rtl_bits.specs.Bit.{merge_bit, not_bit}
use Rattle.rtl_bits.specs.Bits.{all_x, arithmetic, bits_of, bits_of_signed, division, extended, has_unknown, number, selected, shifted_left, shifted_right, signed_division, signed_number, top_bit, zip_with}
use Rattle.rtl_bits.specs.Inside.{length-tabulate}
use Rattle.rtl_bits.proofs.Lists.{length-copies}
use Rattle.rtl_flat.specs.declared.expr.Turn.{Turn}
use Rattle.rtl_flat.specs.declared.expr.Turn.TheVariants.{Plus, Minus, Complement}
use Rattle.rtl_flat.specs.declared.expr.Join.{Join}
use Rattle.rtl_flat.specs.declared.expr.Join.TheVariants as join
use Rattle.rtl_flat.specs.declared.expr.Shift.{Shift}
use Rattle.rtl_flat.specs.declared.expr.Shift.TheVariants as shift
use Rattle.rtl_flat.specs.Expression.{Tree, Sized, Literal, Whole, BitAt, BitBy, Part, Turned, Joined, Compared, Linked, Folded, Shifted, Chosen, Empty, Beside, Repeated, Recast}
use Rattle.rtl_flat.specs.Sizes.{IsSized, width_of}
use Rattle.rtl_flat.specs.Value.{chosen, joined, shifted, turned, value}
use Rattle.event_model.specs.Writes.{Values}

-- ---- operators

either_length : (b : Bool) (x y : List Bit) (n : ℕ) → length x ≡ n → length y ≡ n → length (cond b x y) ≡ n
either_length true x y n left right = left
either_length false x y n left right = right

arithmetic_length : (f : ℕ → ℕ → ℕ) (a b : List Bit) → length (arithmetic f a b) ≡ length a
arithmetic_length f a b =
    either_length _ (all_x (length a)) (bits_of (length a) (f (number a) (number b))) (length a) (length-replicate (length a) X) (length-tabulate (length a) _)

division_length : (f : ℕ → ℕ → ℕ) (a b : List Bit) → length (division f a b) ≡ length a
division_length f a b =
    either_length _ (all_x (length a)) (arithmetic f a b) (length a) (length-replicate (length a) X) (arithmetic_length f a b)

signed_length : (width : ℕ) (n : ℤ) → length (bits_of_signed width n) ≡ width
signed_length width (pos n) = length-tabulate width _
signed_length width (negsuc n) = length-tabulate width _

signed_division_length : (f : ℤ → ℤ → ℤ) (a b : List Bit) → length (signed_division f a b) ≡ length a
signed_division_length f a b =
    either_length _ (all_x (length a)) (bits_of_signed (length a) (f (signed_number a) (signed_number b))) (length a) (length-replicate (length a) X)
    (signed_length (length a) (f (signed_number a) (signed_number b)))

pub zip_length : (f : Bit → Bit → Bit) (a b : List Bit) → length a ≡ length b → length (zip_with f a b) ≡ length a
zip_length f [] b same = refl
zip_length f (x ∷ a) [] same = absurd (omega (arith, same))
zip_length f (x ∷ a) (y ∷ b) same = ap suc (zip_length f a b (omega (arith, same)))

turned_length : (operator : Turn) (a : List Bit) → length (turned operator a) ≡ length a
turned_length Plus a =
    either_length (has_unknown a) (all_x (length a)) a (length a) (length-replicate (length a) X) refl
turned_length Minus a =
    either_length (has_unknown a) (all_x (length a)) (bits_of (length a) _) (length a) (length-replicate (length a) X) (length-tabulate (length a) _)
turned_length Complement a = length-map a not_bit

joined_length : (operator : Join) (signed : Bool) (a b : List Bit) → length a ≡ length b → length (joined operator signed a b) ≡ length a
joined_length join.Add signed a b same = arithmetic_length (λ m n. m + n) a b
joined_length join.Subtract signed a b same = arithmetic_length (λ m n. m + (2 ^ length a - n)) a b
joined_length join.Multiply signed a b same = arithmetic_length (λ m n. m * n) a b
joined_length join.Divide signed a b same =
    either_length signed _ _ (length a) (signed_division_length int_div a b) (division_length (λ m n. m / n) a b)
joined_length join.Remainder signed a b same =
    either_length signed _ _ (length a) (signed_division_length int_rem a b) (division_length (λ m n. m % n) a b)
joined_length join.And signed a b same = zip_length _ a b same
joined_length join.Or signed a b same = zip_length _ a b same
joined_length join.Xor signed a b same = zip_length _ a b same
joined_length join.Xnor signed a b same = length-map (zip_with _ a b) not_bit ∙ zip_length _ a b same

left_length : (a amount : List Bit) → length (shifted_left a amount) ≡ length a
left_length a amount =
    let filled = replicate (number amount) Zero ++ a in
    let all = length-append (replicate (number amount) Zero) a in
    let cut = length-take (length a) filled in
    either_length (has_unknown amount) (all_x (length a)) (take (length a) filled) (length a) (length-replicate (length a) X) (omega (arith, all, cut))

right_length : (fill : Bit) (a amount : List Bit) → length (shifted_right fill a amount) ≡ length a
right_length fill a amount =
    let n = number amount in
    let filled = drop n a ++ replicate n fill in
    let all = length-append (drop n a) (replicate n fill) in
    let kept = length-drop n a in
    let new = length-replicate n fill in
    let cut = length-take (length a) filled in
    either_length (has_unknown amount) (all_x (length a)) (take (length a) filled) (length a) (length-replicate (length a) X) (omega (arith, all, kept, new, cut))

shifted_length : (operator : Shift) (signed : Bool) (a amount : List Bit) → length (shifted operator signed a amount) ≡ length a
shifted_length shift.Left signed a amount = left_length a amount
shifted_length shift.Right signed a amount = right_length Zero a amount
shifted_length shift.ArithmeticRight signed a amount =
    right_length (cond signed (top_bit a) Zero) a amount

chosen_length : (c : Bit) (a b : List Bit) → length a ≡ length b → length (chosen c a b) ≡ length a
chosen_length One a b same = refl
chosen_length Zero a b same = sym same
chosen_length X a b same = zip_length merge_bit a b same
chosen_length Z a b same = zip_length merge_bit a b same

pub extended_length : (width : ℕ) (signed : Bool) (a : List Bit) → length (extended width signed a) ≡ width
extended_length width signed a =
    let all = length-append (take width a) (replicate (width - length a) (cond signed (top_bit a) Zero)) in
    let front = length-take width a in
    let back = length-replicate (width - length a) (cond signed (top_bit a) Zero) in
    omega (arith, all, front, back)

-- so many bits are selected where the signal has them
pub selected_length : (at width : ℕ) (a : List Bit) → at + width ≤ length a → length (selected at width a) ≡ width
selected_length at width a inside =
    let front = length-take width (drop at a) in
    let back = length-drop at a in
    omega (arith, inside, front, back)

-- ---- expressions

module _ (n : ℕ) (ws : ℕ → ℕ) (v : Values) (sizes : (i : ℕ) → i < n → length (v i) ≡ ws i) where
  pub value_size : (e : Tree) → IsSized n ws e → length (value v e) ≡ width_of ws e
  value_size (Sized width signed spot e) sized = extended_length width signed (value v e)
  value_size (Literal bits) sized = refl
  value_size (Whole i) sized = sizes i sized
  value_size (BitAt i low index) sized = refl
  value_size (BitBy i low signed index) sized = refl
  value_size (Part i low width) sized =
      let size = sizes i sized.0 in
      let inside = sized.1 in
      selected_length low width (v i) (omega (arith, size, inside))
  value_size (Turned operator a) sized =
      turned_length operator (value v a) ∙ value_size a sized
  value_size (Joined operator signed a b) sized =
      joined_length operator signed (value v a) (value v b) (value_size a sized.1 ∙ sized.0 ∙ sym (value_size b sized.2))
      ∙ value_size a sized.1
  value_size (Compared operator signed a b) sized = refl
  value_size (Linked operator a b) sized = refl
  value_size (Folded operator a) sized = refl
  value_size (Shifted operator signed a amount) sized =
      shifted_length operator signed (value v a) (value v amount) ∙ value_size a sized.1
  value_size (Chosen c a b) sized =
      chosen_length _ (value v a) (value v b) (value_size a sized.2 ∙ sized.0 ∙ sym (value_size b sized.3)) ∙ value_size a sized.2
  value_size Empty sized = refl
  value_size (Beside a others) sized =
      let front = value_size a sized.0 in
      let back = value_size others sized.1 in
      let all = length-append (value v others) (value v a) in
      omega (arith, front, back, all)
  value_size (Repeated times a) sized =
      length-copies times (value v a) ∙ ap (λ w. times * w) (value_size a sized)
  value_size (Recast a) sized = value_size a sized
