-- The value of an expression may be its value from what the signals may be.
use Rattle.std.proofs.Common.{◌≡◌, ◌∙◌, ℕ, pos, length, sym}
use Rattle.std.specs.Prelude.{◌-ℤ◌}
use Rattle.rtl_bits.specs.Bits.{truth_bit}
use Rattle.rtl_flat.specs.Expression.{Tree, Sized, Literal, Whole, BitAt, BitBy, Part, Turned, Joined, Compared, Linked, Folded, Shifted, Chosen, Empty, Beside, Repeated, Recast}
use Rattle.rtl_flat.specs.Flats.{Flat, widths}
use Rattle.rtl_flat.specs.Sizes.{IsSized, width_of}
use Rattle.rtl_flat.specs.Value.{value}
use Rattle.event_model.specs.Writes.{Values}
use Rattle.event_laws.specs.Steady.{HaveWidths}
use Rattle.event_laws.proofs.Sizes.{value_size}
use Rattle.event_covers.specs.Covers.{AllMayBe, IsPlainTree, StoresMayBe}
use Rattle.event_covers.proofs.MayBe.{all_refl, append_may, copies_may, each_may, selected_may}
use Rattle.event_covers.proofs.Operators.{bit_by_may, bit_may, chosen_may, compared_may, extended_may, folded_may, joined_may, linked_may, shifted_may, truth_may, turned_may}

module _ (d : Flat) (v u : Values) (have : HaveWidths d v) (have' : HaveWidths d u) (may : StoresMayBe v u) where
  size_v : (e : Tree) → IsSized (length d.signals) (widths d) e → length (value v e) ≡ width_of (widths d) e
  size_v e sized = value_size (length d.signals) (widths d) v (λ i below. have i) e sized

  size_u : (e : Tree) → IsSized (length d.signals) (widths d) e → length (value u e) ≡ width_of (widths d) e
  size_u e sized = value_size (length d.signals) (widths d) u (λ i below. have' i) e sized

  pub signal_may : (i : ℕ) → AllMayBe (v i) (u i)
  signal_may i = each_may (v i) (u i) (have i ∙ sym (have' i)) (may i)

  pub tree_may : (e : Tree) → IsSized (length d.signals) (widths d) e → IsPlainTree e → AllMayBe (value v e) (value u e)
  tree_may (Sized width signed spot e) sized plain =
      extended_may width signed (value v e) (value u e) (tree_may e sized.2 plain)
  tree_may (Literal bits) sized plain = all_refl bits
  tree_may (Whole i) sized plain = signal_may i
  tree_may (BitAt i low index) sized plain = (bit_may (v i) (u i) (index -ℤ pos low) (signal_may i), tt)
  tree_may (BitBy i low signed index) sized plain =
      (bit_by_may (v i) (u i) low signed (value v index) (value u index) (signal_may i) (tree_may index sized.1 plain), tt)
  tree_may (Part i low width) sized plain = selected_may low width (v i) (u i) (signal_may i)
  tree_may (Turned operator a) sized plain =
      turned_may operator (value v a) (value u a) (size_u (Turned operator a) sized ∙ sym (size_v a sized))
      (tree_may a sized plain)
  tree_may (Joined operator signed a b) sized plain =
      joined_may operator signed (value v a) (value v b) (value u a) (value u b)
      (size_u (Joined operator signed a b) sized ∙ sym (size_v a sized.1))
      (tree_may a sized.1 plain.0) (tree_may b sized.2 plain.1)
  tree_may (Compared operator signed a b) sized plain = (
    compared_may operator signed (value v a) (value v b) (value u a) (value u b) plain.0 (tree_may a sized.1 plain.1)
        (tree_may b sized.2 plain.2),
    tt,
  )
  tree_may (Linked operator a b) sized plain = (
    linked_may operator (value v a) (value v b) (value u a) (value u b) (tree_may a sized.0 plain.0)
        (tree_may b sized.1 plain.1),
    tt,
  )
  tree_may (Folded operator a) sized plain = (folded_may operator (value v a) (value u a) (tree_may a sized plain), tt)
  tree_may (Shifted operator signed a amount) sized plain =
      shifted_may operator signed (value v a) (value v amount) (value u a) (value u amount)
      (size_u (Shifted operator signed a amount) sized ∙ sym (size_v a sized.1))
      (tree_may a sized.1 plain.0) (tree_may amount sized.2 plain.1)
  tree_may (Chosen c a b) sized plain =
      chosen_may (value v a) (value v b) (value u a) (value u b) (tree_may a sized.2 plain.1) (tree_may b sized.3 plain.2)
      (size_u a sized.2 ∙ sized.0 ∙ sym (size_u b sized.3)) (truth_bit (value v c)) (truth_bit (value u c))
      (truth_may (value v c) (value u c) (tree_may c sized.1 plain.0))
  tree_may Empty sized plain = tt
  tree_may (Beside a others) sized plain =
      append_may (value v others) (value v a) (value u others) (value u a) (tree_may others sized.1 plain.1)
      (tree_may a sized.0 plain.0)
  tree_may (Repeated times a) sized plain = copies_may times (value v a) (value u a) (tree_may a sized plain)
  tree_may (Recast a) sized plain = tree_may a sized plain
