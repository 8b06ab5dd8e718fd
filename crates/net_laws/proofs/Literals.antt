-- Labels that are one literal.
use Rattle.std.proofs.Common.{◌≡◌, ◌∙◌, ◌⊎◌, ◌-◌, ℕ, Bool, cond, List, [], ◌∷◌, ◌++◌, length, take, replicate, refl, ap, inl, inr, arith}
use Rattle.std.proofs.lemmas.List.{append-nil, take_all}
use Rattle.rtl_bits.specs.declared.Bit.{Bit}
use Rattle.rtl_bits.specs.declared.Bit.TheVariants.{Zero}
use Rattle.rtl_bits.specs.Bits.{extended, top_bit}
use Rattle.rtl_flat.specs.Expression.{Tree, Sized, Literal, Whole, BitAt, BitBy, Part, Turned, Joined, Compared, Linked, Folded, Shifted, Chosen, Empty, Beside, Repeated, Recast}
use Rattle.rtl_flat.specs.Flows.{literal}
use Rattle.rtl_flat.specs.Sizes.{IsSized}
use Rattle.rtl_flat.specs.Value.{value}
use Rattle.rtl_flat.specs.Flats.{Flat, widths}
use Rattle.event_model.specs.Writes.{Values}

-- bits at their own width
pub extended_whole : (width : ℕ) (signed : Bool) (a : List Bit) → length a ≡ width → extended width signed a ≡ a
extended_whole width signed a whole =
    let none : width - length a ≡ 0 = omega (arith, whole) in
    ap (λ n. take width a ++ replicate n (cond signed (top_bit a) Zero)) none
    ∙ append-nil (take width a) ∙ take_all width a (omega (arith, whole))

-- a label is no literal, or one
pub form_of : (label : Tree) → (literal label ≡ []) ⊎ ((bits : List Bit) × (literal label ≡ bits ∷ []))
form_of (Sized width signed spot (Literal bits)) = inr (bits, refl)
form_of (Sized width signed spot (Sized w s at e)) = inl refl
form_of (Sized width signed spot (Whole i)) = inl refl
form_of (Sized width signed spot (BitAt i low index)) = inl refl
form_of (Sized width signed spot (BitBy i low s index)) = inl refl
form_of (Sized width signed spot (Part i low w)) = inl refl
form_of (Sized width signed spot (Turned o a)) = inl refl
form_of (Sized width signed spot (Joined o s a b)) = inl refl
form_of (Sized width signed spot (Compared o s a b)) = inl refl
form_of (Sized width signed spot (Linked o a b)) = inl refl
form_of (Sized width signed spot (Folded o a)) = inl refl
form_of (Sized width signed spot (Shifted o s a b)) = inl refl
form_of (Sized width signed spot (Chosen c a b)) = inl refl
form_of (Sized width signed spot Empty) = inl refl
form_of (Sized width signed spot (Beside a b)) = inl refl
form_of (Sized width signed spot (Repeated n a)) = inl refl
form_of (Sized width signed spot (Recast a)) = inl refl
form_of (Literal bits) = inl refl
form_of (Whole i) = inl refl
form_of (BitAt i low index) = inl refl
form_of (BitBy i low s index) = inl refl
form_of (Part i low w) = inl refl
form_of (Turned o a) = inl refl
form_of (Joined o s a b) = inl refl
form_of (Compared o s a b) = inl refl
form_of (Linked o a b) = inl refl
form_of (Folded o a) = inl refl
form_of (Shifted o s a b) = inl refl
form_of (Chosen c a b) = inl refl
form_of Empty = inl refl
form_of (Beside a b) = inl refl
form_of (Repeated n a) = inl refl
form_of (Recast a) = inl refl

module _ (d : Flat) (v : Values) where
  -- the bits of a literal are its value
  pub literal_is : (label : Tree) → IsSized (length d.signals) (widths d) label → (bits : List Bit) → literal label ≡ bits ∷ [] → value v label ≡ bits
  literal_is (Sized width signed spot (Literal all)) sized bits is =
      let same : all ≡ bits = cc in
      extended_whole width signed all (sized.1.whole refl) ∙ same
  literal_is (Sized width signed spot (Sized w s at e)) sized bits is = absurd (cc)
  literal_is (Sized width signed spot (Whole i)) sized bits is = absurd (cc)
  literal_is (Sized width signed spot (BitAt i low index)) sized bits is = absurd (cc)
  literal_is (Sized width signed spot (BitBy i low s index)) sized bits is = absurd (cc)
  literal_is (Sized width signed spot (Part i low w)) sized bits is = absurd (cc)
  literal_is (Sized width signed spot (Turned o a)) sized bits is = absurd (cc)
  literal_is (Sized width signed spot (Joined o s a b)) sized bits is = absurd (cc)
  literal_is (Sized width signed spot (Compared o s a b)) sized bits is = absurd (cc)
  literal_is (Sized width signed spot (Linked o a b)) sized bits is = absurd (cc)
  literal_is (Sized width signed spot (Folded o a)) sized bits is = absurd (cc)
  literal_is (Sized width signed spot (Shifted o s a b)) sized bits is = absurd (cc)
  literal_is (Sized width signed spot (Chosen c a b)) sized bits is = absurd (cc)
  literal_is (Sized width signed spot Empty) sized bits is = absurd (cc)
  literal_is (Sized width signed spot (Beside a b)) sized bits is = absurd (cc)
  literal_is (Sized width signed spot (Repeated n a)) sized bits is = absurd (cc)
  literal_is (Sized width signed spot (Recast a)) sized bits is = absurd (cc)
  literal_is (Literal all) sized bits is = absurd (cc)
  literal_is (Whole i) sized bits is = absurd (cc)
  literal_is (BitAt i low index) sized bits is = absurd (cc)
  literal_is (BitBy i low s index) sized bits is = absurd (cc)
  literal_is (Part i low w) sized bits is = absurd (cc)
  literal_is (Turned o a) sized bits is = absurd (cc)
  literal_is (Joined o s a b) sized bits is = absurd (cc)
  literal_is (Compared o s a b) sized bits is = absurd (cc)
  literal_is (Linked o a b) sized bits is = absurd (cc)
  literal_is (Folded o a) sized bits is = absurd (cc)
  literal_is (Shifted o s a b) sized bits is = absurd (cc)
  literal_is (Chosen c a b) sized bits is = absurd (cc)
  literal_is Empty sized bits is = absurd (cc)
  literal_is (Beside a b) sized bits is = absurd (cc)
  literal_is (Repeated n a) sized bits is = absurd (cc)
  literal_is (Recast a) sized bits is = absurd (cc)
