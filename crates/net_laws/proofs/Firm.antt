-- What the rules on expressions and cases give.
use Rattle.std.proofs.Common.{◌≡◌, ◌∙◌, ◌+◌, ◌^◌, ℕ, false, List, [], ◌∷◌, ◌++◌, length, All, refl, sym, ap, arith}
use Rattle.std.specs.List.{list_any}
use Rattle.std.proofs.lemmas.Bool.{false≢true}
use Rattle.std.proofs.lemmas.Nat.{pow_pos}
use Rattle.std.proofs.lemmas.List.Elements.{All-cons, All-head, All-nil, All-tail}
use Rattle.rtl_bits.specs.declared.Bit.{Bit}
use Rattle.rtl_bits.specs.declared.Bit.TheVariants.{Zero, One, X, Z}
use Rattle.rtl_bits.specs.Bits.{copies, extended, number, same_bit, truth_bit}
use Rattle.rtl_flat.specs.declared.expr.Join.{Join}
use Rattle.rtl_flat.specs.declared.expr.Join.TheVariants as join
use Rattle.rtl_flat.specs.Expression.{Tree, Sized, Literal, Whole, BitAt, BitBy, Part, Turned, Joined, Compared, Linked, Folded, Shifted, Chosen, Empty, Beside, Repeated, Recast}
use Rattle.rtl_flat.specs.Process.{Piece, Selection, Action, Set, If, Case, Block, Actions, Done, Then, Otherwise, Without, With, Branches, NoBranch, Branch}
use Rattle.rtl_flat.specs.Process as part
use Rattle.rtl_flat.specs.Signs.{IsExpression}
use Rattle.rtl_flat.specs.Sizes.{IsSized}
use Rattle.rtl_flat.specs.Value.{chosen, compared, folded, joined, linked, shifted, turned, value}
use Rattle.rtl_flat.specs.WellFormed.{AreBranches, IsAction, IsBody, IsOtherwise, IsSelection}
use Rattle.rtl_flat.specs.Flats.{Flat, widths}
use Rattle.event_model.specs.Writes.{Values}
use Rattle.event_laws.proofs.Inside.{AreSelections}
use Rattle.net_model.specs.Numbers.{digits, is_literal}
use Rattle.net_laws.specs.Rules.{DividesBy, DividesByPower, EachIn, EachItem, EachOf, EachOther, EachPart, HasNone, IsClear, IsFull, IsNoSignal, IsPower, OfIndex, OfLabels, OfStatement, SelectsInside}
use Rattle.net_laws.specs.Tame.{AreTame, AreTameItems, HasFirmIndex, IsDefinedBy, IsFirm, IsFirmLabel, IsNeverZero, IsTame, IsTameOther}
use Rattle.net_laws.proofs.Exact.{exact}
use Rattle.net_laws.proofs.Known.{Known, both}

-- ---- literals

known_literal : (bits : List Bit) → list_any (same_bit X) bits ≡ false → list_any (same_bit Z) bits ≡ false → Known bits
known_literal [] no_x no_z = refl
known_literal (Zero ∷ bits) no_x no_z = known_literal bits no_x no_z
known_literal (One ∷ bits) no_x no_z = known_literal bits no_x no_z
known_literal (X ∷ bits) no_x no_z = absurd (false≢true (sym no_x))
known_literal (Z ∷ bits) no_x no_z = absurd (false≢true (sym no_z))

-- ---- divisors

-- what reads no signal has one value
pub constant_value : (v u : Values) (e : Tree) → EachPart IsNoSignal e → value v e ≡ value u e
constant_value v u (Sized width signed spot e) none =
    ap (extended width signed) (constant_value v u e none.1)
constant_value v u (Literal bits) none = refl
constant_value v u (Whole i) none = absurd none
constant_value v u (BitAt i low index) none = absurd none
constant_value v u (BitBy i low signed index) none = absurd none.0
constant_value v u (Part i low width) none = absurd none
constant_value v u (Turned operator a) none =
    ap (turned operator) (constant_value v u a none.1)
constant_value v u (Joined operator signed a b) none =
    both (joined operator signed) (value v a) (value u a) (value v b) (value u b) (constant_value v u a none.1) (constant_value v u b none.2)
constant_value v u (Compared operator signed a b) none =
    both (λ x y. compared operator signed x y ∷ []) (value v a) (value u a) (value v b) (value u b) (constant_value v u a none.1) (constant_value v u b none.2)
constant_value v u (Linked operator a b) none =
    both (λ x y. linked operator x y ∷ []) (value v a) (value u a) (value v b) (value u b) (constant_value v u a none.1) (constant_value v u b none.2)
constant_value v u (Folded operator a) none =
    ap (λ x. folded operator x ∷ []) (constant_value v u a none.1)
constant_value v u (Shifted operator signed a amount) none =
    both (shifted operator signed) (value v a) (value u a) (value v amount) (value u amount) (constant_value v u a none.1) (constant_value v u amount none.2)
constant_value v u (Chosen c a b) none =
    ap (λ x. chosen (truth_bit x) (value v a) (value v b)) (constant_value v u c none.1)
    ∙ both (chosen (truth_bit (value u c))) (value v a) (value u a) (value v b) (value u b) (constant_value v u a none.2) (constant_value v u b none.3)
constant_value v u Empty none = refl
constant_value v u (Beside a others) none =
    both (λ x y. x ++ y) (value v others) (value u others) (value v a) (value u a) (constant_value v u others none.2) (constant_value v u a none.1)
constant_value v u (Repeated times a) none = ap (copies times) (constant_value v u a none.1)
constant_value v u (Recast a) none = constant_value v u a none.1

-- ---- expressions

module _ (d : Flat) where
  never_zero : (e : Tree) → IsSized (length d.signals) (widths d) e → IsFirm d e → IsPower e → IsNeverZero d e
  never_zero e sized firm power = λ f n are zero.
      let same = (exact d f n are e sized firm).same in
      let number_is : number (digits f n e) ≡ 2 ^ power.exponent = ap number (same ∙ constant_value n (λ i. []) e power.constant) ∙ power.is in
      let positive = pow_pos power.exponent in
      omega (arith, zero, number_is, positive)

  defined : (operator : Join) (b : Tree) → IsSized (length d.signals) (widths d) b → IsFirm d b → DividesBy operator b → IsDefinedBy d operator b
  defined join.Add b sized firm power = tt
  defined join.Subtract b sized firm power = tt
  defined join.Multiply b sized firm power = tt
  defined join.Divide b sized firm power = never_zero b sized firm power
  defined join.Remainder b sized firm power = never_zero b sized firm power
  defined join.And b sized firm power = tt
  defined join.Or b sized firm power = tt
  defined join.Xor b sized firm power = tt
  defined join.Xnor b sized firm power = tt

  firm_tree :
      (e : Tree) → IsSized (length d.signals) (widths d) e → EachPart (HasNone X) e → EachPart (HasNone Z) e → EachPart (SelectsInside d) e → EachPart DividesByPower e →
      IsFirm d e
  firm_tree (Sized width signed spot e) sized x1 z1 x2 x3 =
      firm_tree e sized.2 x1.1 z1.1 x2.1 x3.1
  firm_tree (Literal bits) sized x1 z1 x2 x3 = known_literal bits x1 z1
  firm_tree (Whole i) sized x1 z1 x2 x3 = tt
  firm_tree (BitAt i low index) sized x1 z1 x2 x3 = x2
  firm_tree (BitBy i low signed index) sized x1 z1 x2 x3 =
      (x2.0.0, x2.0.1, x2.0.2, firm_tree index sized.1 x1.1 z1.1 x2.1 x3.1)
  firm_tree (Part i low width) sized x1 z1 x2 x3 = tt
  firm_tree (Turned operator a) sized x1 z1 x2 x3 = firm_tree a sized x1.1 z1.1 x2.1 x3.1
  firm_tree (Joined operator signed a b) sized x1 z1 x2 x3 =
      let right = firm_tree b sized.2 x1.2 z1.2 x2.2 x3.2 in
      (firm_tree a sized.1 x1.1 z1.1 x2.1 x3.1, right, defined operator b sized.2 right x3.0)
  firm_tree (Compared operator signed a b) sized x1 z1 x2 x3 =
      (firm_tree a sized.1 x1.1 z1.1 x2.1 x3.1, firm_tree b sized.2 x1.2 z1.2 x2.2 x3.2)
  firm_tree (Linked operator a b) sized x1 z1 x2 x3 =
      (firm_tree a sized.0 x1.1 z1.1 x2.1 x3.1, firm_tree b sized.1 x1.2 z1.2 x2.2 x3.2)
  firm_tree (Folded operator a) sized x1 z1 x2 x3 = firm_tree a sized x1.1 z1.1 x2.1 x3.1
  firm_tree (Shifted operator signed a amount) sized x1 z1 x2 x3 =
      (firm_tree a sized.1 x1.1 z1.1 x2.1 x3.1, firm_tree amount sized.2 x1.2 z1.2 x2.2 x3.2)
  firm_tree (Chosen c a b) sized x1 z1 x2 x3 =
      (firm_tree c sized.1 x1.1 z1.1 x2.1 x3.1, firm_tree a sized.2 x1.2 z1.2 x2.2 x3.2, firm_tree b sized.3 x1.3 z1.3 x2.3 x3.3)
  firm_tree Empty sized x1 z1 x2 x3 = tt
  firm_tree (Beside a others) sized x1 z1 x2 x3 =
      (firm_tree a sized.0 x1.1 z1.1 x2.1 x3.1, firm_tree others sized.1 x1.2 z1.2 x2.2 x3.2)
  firm_tree (Repeated times a) sized x1 z1 x2 x3 = firm_tree a sized x1.1 z1.1 x2.1 x3.1
  firm_tree (Recast a) sized x1 z1 x2 x3 = firm_tree a sized x1.1 z1.1 x2.1 x3.1

  -- X1, Z1, X2 and X3
  pub firm : (e : Tree) → IsExpression d.signals e → IsClear d e → IsFirm d e
  firm e lawful clear = firm_tree e lawful.widths clear.x1 clear.z1 clear.x2 clear.x3

  -- ---- bodies

  firm_index : (i : ℕ) (selection : Selection) → IsSelection d.signals i selection → OfIndex (IsClear d) selection → HasFirmIndex d selection
  firm_index i part.Whole lawful clear = tt
  firm_index i (part.BitAt low index) lawful clear = tt
  firm_index i (part.BitBy low index) lawful clear = firm index lawful.1 clear
  firm_index i (part.Part low width) lawful clear = tt

  firm_targets : (target : List Piece) → AreSelections d.signals target → All (λ (piece : Piece). OfIndex (IsClear d) piece.selection) target → All (λ (piece : Piece). HasFirmIndex d piece.selection) target
  firm_targets [] lawful clear = All-nil (λ (piece : Piece). HasFirmIndex d piece.selection)
  firm_targets (piece ∷ others) lawful clear =
      All-cons (λ (one : Piece). HasFirmIndex d one.selection) piece others
      (firm_index piece.signal piece.selection (All-head (λ (one : Piece). IsSelection d.signals one.signal one.selection) piece others lawful) (All-head (λ (one : Piece). OfIndex (IsClear d) one.selection) piece others clear))
      (firm_targets others (All-tail (λ (one : Piece). IsSelection d.signals one.signal one.selection) piece others lawful) (All-tail (λ (one : Piece). OfIndex (IsClear d) one.selection) piece others clear))

  abbrev ClearLabel : Tree → Type 0
  ClearLabel label = is_literal label ≡ false → IsClear d label

  firm_labels : (labels : List Tree) → All (IsExpression d.signals) labels → All ClearLabel labels → All (IsFirmLabel d) labels
  firm_labels [] lawful clear = All-nil (IsFirmLabel d)
  firm_labels (label ∷ others) lawful clear =
      All-cons (IsFirmLabel d) label others
      (λ free. firm label (All-head (IsExpression d.signals) label others lawful) (All-head ClearLabel label others clear free))
      (firm_labels others (All-tail (IsExpression d.signals) label others lawful) (All-tail ClearLabel label others clear))

  mutual
    -- C1
    tame_action : (a : Action) → IsAction d.signals a → EachIn (OfStatement (IsClear d)) a → EachIn (IsFull d) a → IsTame d a
    tame_action (Set target e delayed spot) lawful clear full =
        (firm_targets target lawful.parts clear.0, firm e lawful.sized clear.1)
    tame_action (If test taken other spot) lawful clear full =
        (firm test lawful.0 clear.0, tame taken lawful.1 clear.1 full.1, tame_other other lawful.2 clear.2 full.2)
    tame_action (Case kind full parallel selector branches fallback spot) lawful clear honest =
        (firm selector lawful.0 clear.0.0, honest.0, tame_items selector branches lawful.1 clear.0.1 clear.1 honest.1, tame_other fallback lawful.2 clear.2 honest.2)
    tame_action (Block body) lawful clear full = tame body lawful clear.1 full.1

    pub tame : (body : Actions) → IsBody d.signals body → EachOf (OfStatement (IsClear d)) body → EachOf (IsFull d) body → AreTame d body
    tame Done lawful clear full = tt
    tame (Then first others) lawful clear full =
        (tame_action first lawful.0 clear.0 full.0, tame others lawful.1 clear.1 full.1)

    tame_other : (other : Otherwise) → IsOtherwise d.signals other → EachOther (OfStatement (IsClear d)) other → EachOther (IsFull d) other → IsTameOther d other
    tame_other Without lawful clear full = tt
    tame_other (With body) lawful clear full = tame body lawful clear full

    tame_items :
        (selector : Tree) (branches : Branches) → AreBranches d.signals selector branches → OfLabels (IsClear d) branches → EachItem (OfStatement (IsClear d)) branches → EachItem (IsFull d) branches →
        AreTameItems d branches
    tame_items selector NoBranch lawful labels clear full = tt
    tame_items selector (Branch list body others) lawful labels clear full =
        (firm_labels list lawful.0 labels.0, tame body lawful.3 clear.0 full.0, tame_items selector others lawful.4 labels.1 clear.1 full.1)
