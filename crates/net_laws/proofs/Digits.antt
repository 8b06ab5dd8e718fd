-- The number of an expression has as many digits as the expression has bits.
use Rattle.std.proofs.Common.{◌≡◌, ◌∙◌, ◌*◌, List, [], ◌∷◌, length, refl, sym, ap, arith}
use Rattle.std.proofs.lemmas.List.{length-append, length-map}
use Rattle.rtl_bits.specs.declared.Bit.{Bit}
use Rattle.rtl_bits.specs.declared.Bit.TheVariants.{Zero, One, X, Z}
use Rattle.rtl_bits.specs.Bits.{truth_bit}
use Rattle.rtl_bits.proofs.Lists.{length-copies}
use Rattle.rtl_flat.specs.Expression.{Tree, Sized, Literal, Whole, BitAt, BitBy, Part, Turned, Joined, Compared, Linked, Folded, Shifted, Chosen, Empty, Beside, Repeated, Recast}
use Rattle.rtl_flat.specs.Sizes.{IsSized, width_of}
use Rattle.rtl_flat.specs.Value.{joined, value}
use Rattle.rtl_flat.specs.Flats.{Flat, widths}
use Rattle.event_model.specs.Writes.{Values}
use Rattle.event_laws.proofs.Sizes.{extended_length, value_size}
use Rattle.net_model.specs.declared.fill.Fill.{Fill}
use Rattle.net_model.specs.declared.fill.Fill.TheVariants as fill
use Rattle.net_model.specs.Numbers.{AreNumbers, digits, fill_bit, filled, filled_bit}
use Rattle.net_laws.proofs.Known.{Known, KnownBit, chosen_known, compared_known, copies_known, extended_known, folded_known, known_append, known_cons, known_one, linked_known, selected_known, shifted_known, truth_known, turned_known}

pub fill_known : (f : Fill) → KnownBit (fill_bit f)
fill_known fill.Zero = refl
fill_known fill.One = refl

filled_bit_known : (f : Fill) (b : Bit) → KnownBit (filled_bit f b)
filled_bit_known f Zero = refl
filled_bit_known f One = refl
filled_bit_known f X = fill_known f
filled_bit_known f Z = fill_known f

filled_known : (f : Fill) (a : List Bit) → Known (filled f a)
filled_known f [] = refl
filled_known f (b ∷ a) =
    known_cons (filled_bit f b) (filled f a) (filled_bit_known f b) (filled_known f a)

module _ (d : Flat) (f : Fill) (n : Values) (are : AreNumbers d n) where
  -- the lengths of what operators make of digits, as of literals
  made_size : (e : Tree) → IsSized (length d.signals) (widths d) e → length (value n e) ≡ width_of (widths d) e
  made_size e sized = value_size (length d.signals) (widths d) n (λ i below. are.wide i) e sized

  pub digits_size : (e : Tree) → IsSized (length d.signals) (widths d) e → length (digits f n e) ≡ width_of (widths d) e
  digits_size (Sized width signed spot e) sized = extended_length width signed (digits f n e)
  digits_size (Literal bits) sized = length-map bits (filled_bit f)
  digits_size (Whole i) sized = are.wide i
  digits_size (BitAt i low index) sized = refl
  digits_size (BitBy i low signed index) sized = refl
  digits_size (Part i low width) sized = made_size (Part i low width) sized
  digits_size (Turned operator a) sized =
      made_size (Turned operator (Literal (digits f n a))) tt ∙ digits_size a sized
  digits_size (Joined operator signed a b) sized =
      let left = digits_size a sized.1 in
      let right = digits_size b sized.2 in
      length-map (joined operator signed (digits f n a) (digits f n b)) (filled_bit f)
      ∙ made_size (Joined operator signed (Literal (digits f n a)) (Literal (digits f n b))) (left ∙ sized.0 ∙ sym right, tt, tt) ∙ left
  digits_size (Compared operator signed a b) sized = refl
  digits_size (Linked operator a b) sized = refl
  digits_size (Folded operator a) sized = refl
  digits_size (Shifted operator signed a amount) sized =
      let left = digits_size a sized.1 in
      let some = sized.0 in
      made_size (Shifted operator signed (Literal (digits f n a)) (Literal (digits f n amount))) (omega (arith, left, some), tt, tt) ∙ left
  digits_size (Chosen c a b) sized =
      let left = digits_size a sized.2 in
      let right = digits_size b sized.3 in
      made_size (Chosen (Literal (digits f n c)) (Literal (digits f n a)) (Literal (digits f n b))) (left ∙ sized.0 ∙ sym right, tt, tt, tt) ∙ left
  digits_size Empty sized = refl
  digits_size (Beside a others) sized =
      let front = digits_size a sized.0 in
      let back = digits_size others sized.1 in
      let all = length-append (digits f n others) (digits f n a) in
      omega (arith, front, back, all)
  digits_size (Repeated times a) sized =
      length-copies times (digits f n a) ∙ ap (λ w. times * w) (digits_size a sized)
  digits_size (Recast a) sized = digits_size a sized

  -- and all of them are known
  pub digits_known : (e : Tree) → IsSized (length d.signals) (widths d) e → Known (digits f n e)
  digits_known (Sized width signed spot e) sized =
      let long = digits_size e sized.2 in
      let some = sized.1.not_empty in
      extended_known width signed (digits f n e) (omega (arith, long, some)) (digits_known e sized.2)
  digits_known (Literal bits) sized = filled_known f bits
  digits_known (Whole i) sized = are.known i
  digits_known (BitAt i low index) sized = known_one _ (filled_bit_known f _)
  digits_known (BitBy i low signed index) sized = known_one _ (filled_bit_known f _)
  digits_known (Part i low width) sized = selected_known low width (n i) (are.known i)
  digits_known (Turned operator a) sized =
      turned_known operator (digits f n a) (digits_known a sized)
  digits_known (Joined operator signed a b) sized =
      filled_known f (joined operator signed (digits f n a) (digits f n b))
  digits_known (Compared operator signed a b) sized =
      known_one _ (compared_known operator signed (digits f n a) (digits f n b) (digits_known a sized.1) (digits_known b sized.2))
  digits_known (Linked operator a b) sized =
      known_one _ (linked_known operator (digits f n a) (digits f n b) (digits_known a sized.0) (digits_known b sized.1))
  digits_known (Folded operator a) sized =
      known_one _ (folded_known operator (digits f n a) (digits_known a sized))
  digits_known (Shifted operator signed a amount) sized =
      let long = digits_size a sized.1 in
      let some = sized.0 in
      shifted_known operator signed (digits f n a) (digits f n amount) (omega (arith, long, some)) (digits_known a sized.1) (digits_known amount sized.2)
  digits_known (Chosen c a b) sized =
      chosen_known (truth_bit (digits f n c)) (digits f n a) (digits f n b) (truth_known (digits f n c) (digits_known c sized.1)) (digits_known a sized.2) (digits_known b sized.3)
  digits_known Empty sized = refl
  digits_known (Beside a others) sized =
      known_append (digits f n others) (digits f n a) (digits_known others sized.1) (digits_known a sized.0)
  digits_known (Repeated times a) sized =
      copies_known times (digits f n a) (digits_known a sized)
  digits_known (Recast a) sized = digits_known a sized
