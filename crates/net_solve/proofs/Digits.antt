-- The number of an expression depends on what it reads.
use Rattle.std.proofs.Common.{◌≡◌, ◌∙◌, ℕ, true, [], ◌∷◌, ◌++◌, length, refl, ap}
use Rattle.std.proofs.lemmas.Bool.{or_left, or_right}
use Rattle.rtl_bits.specs.Bits.{copies, extended, truth_bit}
use Rattle.rtl_flat.specs.Expression.{Tree, Sized, Literal, Turned, Joined, Compared, Linked, Folded, Shifted, Chosen, Empty, Beside, Repeated, Recast}
use Rattle.rtl_flat.specs.Expression as tree
use Rattle.rtl_flat.specs.Flows.{all_bits, reads}
use Rattle.rtl_flat.specs.Paths.{BitSet, either}
use Rattle.rtl_flat.specs.Sizes.{IsSized}
use Rattle.rtl_flat.specs.Value.{bit_by, chosen, compared, folded, joined, linked, shifted, turned, value}
use Rattle.rtl_flat.specs.Flats.{Flat, widths}
use Rattle.event_model.specs.Traces.{Same}
use Rattle.event_model.specs.Writes.{Values}
use Rattle.net_rest.specs.event_laws.Steady.{HaveWidths}
use Rattle.net_rest.proofs.event_laws_proofs.Agreement.{value_agrees}
use Rattle.net_model.specs.declared.fill.Fill.{Fill}
use Rattle.net_model.specs.Numbers.{digits, filled, filled_bit}
use Rattle.net_rest.proofs.net_laws_proofs.Known.{both}

-- whether two values have the same bits of a set
abbrev pub AgreeOn : Values → Values → BitSet → Type 0
AgreeOn n m bits = (i k : ℕ) → bits i k ≡ true → Same n m i k

on_left : (n m : Values) (a b : BitSet) → AgreeOn n m (either a b) → AgreeOn n m a
on_left n m a b same i k is = same i k (or_left (a i k) (b i k) is)

on_right : (n m : Values) (a b : BitSet) → AgreeOn n m (either a b) → AgreeOn n m b
on_right n m a b same i k is = same i k (or_right (a i k) (b i k) is)

module _ (d : Flat) (f : Fill) (n m : Values) (wide : HaveWidths d n) (wide' : HaveWidths d m) where
  same_value : (e : Tree) → IsSized (length d.signals) (widths d) e → AgreeOn n m (reads (widths d) e) → value n e ≡ value m e
  same_value e sized same =
      value_agrees (length d.signals) (widths d) n m (λ i below. wide i) (λ i below. wide' i) e sized same

  pub same_digits : (e : Tree) → IsSized (length d.signals) (widths d) e → AgreeOn n m (reads (widths d) e) → digits f n e ≡ digits f m e
  same_digits (Sized width signed spot e) sized same =
      ap (extended width signed) (same_digits e sized.2 same)
  same_digits (Literal bits) sized same = refl
  same_digits (tree.Whole i) sized same = same_value (tree.Whole i) sized same
  same_digits (tree.BitAt i low index) sized same =
      ap (filled f) (same_value (tree.BitAt i low index) sized same)
  same_digits (tree.BitBy i low signed index) sized same =
      both (λ a b. filled_bit f (bit_by a low signed b) ∷ []) (n i) (m i) (digits f n index) (digits f m index)
      (same_value (tree.Whole i) sized.0 (on_right n m (reads (widths d) index) (all_bits (widths d) i) same))
      (same_digits index sized.1 (on_left n m (reads (widths d) index) (all_bits (widths d) i) same))
  same_digits (tree.Part i low width) sized same = same_value (tree.Part i low width) sized same
  same_digits (Turned operator a) sized same = ap (turned operator) (same_digits a sized same)
  same_digits (Joined operator signed a b) sized same =
      both (λ x y. filled f (joined operator signed x y)) (digits f n a) (digits f m a) (digits f n b) (digits f m b)
      (same_digits a sized.1 (on_left n m (reads (widths d) a) (reads (widths d) b) same)) (same_digits b sized.2 (on_right n m (reads (widths d) a) (reads (widths d) b) same))
  same_digits (Compared operator signed a b) sized same =
      both (λ x y. compared operator signed x y ∷ []) (digits f n a) (digits f m a) (digits f n b) (digits f m b)
      (same_digits a sized.1 (on_left n m (reads (widths d) a) (reads (widths d) b) same)) (same_digits b sized.2 (on_right n m (reads (widths d) a) (reads (widths d) b) same))
  same_digits (Linked operator a b) sized same =
      both (λ x y. linked operator x y ∷ []) (digits f n a) (digits f m a) (digits f n b) (digits f m b)
      (same_digits a sized.0 (on_left n m (reads (widths d) a) (reads (widths d) b) same)) (same_digits b sized.1 (on_right n m (reads (widths d) a) (reads (widths d) b) same))
  same_digits (Folded operator a) sized same =
      ap (λ x. folded operator x ∷ []) (same_digits a sized same)
  same_digits (Shifted operator signed a amount) sized same =
      both (shifted operator signed) (digits f n a) (digits f m a) (digits f n amount) (digits f m amount)
      (same_digits a sized.1 (on_left n m (reads (widths d) a) (reads (widths d) amount) same)) (same_digits amount sized.2 (on_right n m (reads (widths d) a) (reads (widths d) amount) same))
  same_digits (Chosen c a b) sized same =
      let arms = on_right n m (reads (widths d) c) (either (reads (widths d) a) (reads (widths d) b)) same in
      ap (λ x. chosen (truth_bit x) (digits f n a) (digits f n b)) (same_digits c sized.1 (on_left n m (reads (widths d) c) (either (reads (widths d) a) (reads (widths d) b)) same))
      ∙ both (chosen (truth_bit (digits f m c))) (digits f n a) (digits f m a) (digits f n b) (digits f m b)
      (same_digits a sized.2 (on_left n m (reads (widths d) a) (reads (widths d) b) arms)) (same_digits b sized.3 (on_right n m (reads (widths d) a) (reads (widths d) b) arms))
  same_digits Empty sized same = refl
  same_digits (Beside a rest) sized same =
      both (λ x y. y ++ x) (digits f n a) (digits f m a) (digits f n rest) (digits f m rest)
      (same_digits a sized.0 (on_left n m (reads (widths d) a) (reads (widths d) rest) same)) (same_digits rest sized.1 (on_right n m (reads (widths d) a) (reads (widths d) rest) same))
  same_digits (Repeated times a) sized same = ap (copies times) (same_digits a sized same)
  same_digits (Recast a) sized same = same_digits a sized same
