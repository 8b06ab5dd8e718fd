-- Of disjoint items at most one matches.
use Rattle.std.proofs.Common.{◌≡◌, ◌∙◌, Bool, true, List, [], ◌∷◌, length, All, refl, sym, ap, subst, inl, inr, arith}
use Rattle.std.proofs.lemmas.Bool.{and_from, and_parts, false≢true, false_from_ne_true, or_cases}
use Rattle.std.proofs.lemmas.List.Elements.{All-append, All-head, All-nil, All-tail}
use Rattle.rtl_bits.specs.declared.Bit.{Bit}
use Rattle.rtl_bits.specs.declared.Bit.TheVariants.{Zero, One, X, Z}
use Rattle.rtl_bits.specs.Bits.{all_with, matches_but_z, may_equal, same_bit}
use Rattle.rtl_bits.proofs.Tables.{same_from_bit}
use Rattle.rtl_flat.specs.declared.act.CaseKind.{CaseKind}
use Rattle.rtl_flat.specs.declared.act.CaseKind.TheVariants as kind
use Rattle.rtl_flat.specs.Expression.{Tree}
use Rattle.rtl_flat.specs.Flows.{labels_of}
use Rattle.rtl_flat.specs.Labels.{label_matches}
use Rattle.rtl_flat.specs.Process.{Action, Set, If, Case, Block, Actions, Done, Then, Otherwise, Without, With, Branches, NoBranch, Branch}
use Rattle.rtl_flat.specs.Sizes.{IsSized, width_of}
use Rattle.rtl_flat.specs.Value.{value}
use Rattle.rtl_flat.specs.WellFormed.{AreBranches, IsAction, IsBody, IsOtherwise}
use Rattle.event_model.specs.Bodies.{some_matches}
use Rattle.rtl_flat.specs.Flats.{Flat, widths}
use Rattle.event_model.specs.Writes.{Values}
use Rattle.event_laws.proofs.Sizes.{value_size}
use Rattle.net_model.specs.declared.fill.Fill.TheVariants as fill
use Rattle.net_model.specs.Numbers.{AreNumbers}
use Rattle.net_laws.specs.Rules.{AreApart, AreDisjoint, EachIn, EachItem, EachOf, EachOther, HasDisjoint}
use Rattle.net_laws.specs.Tame.{AreExclusive, AreExclusiveItems, AreTame, AreTameItems, IsExclusive, IsExclusiveOther, IsFirm, IsTame, IsTameOther, OneMatches}
use Rattle.net_laws.proofs.Exact.{exact}
use Rattle.net_laws.proofs.Known.{Known, KnownBit, first_known, others_known}
use Rattle.net_laws.proofs.Literals.{literal_is}

-- ---- labels that match known bits

same_may : (s a : Bit) → same_bit s a ≡ true → may_equal s a ≡ true
same_may s a h = subst (λ b. may_equal s b ≡ true) (same_from_bit s a h) (alone s)
  where
    alone : (b : Bit) → may_equal b b ≡ true
    alone Zero = refl
    alone One = refl
    alone X = refl
    alone Z = refl

z_may : (s a : Bit) → KnownBit s → matches_but_z s a ≡ true → may_equal s a ≡ true
z_may Zero Zero known h = refl
z_may Zero One known h = h
z_may Zero X known h = refl
z_may Zero Z known h = refl
z_may One Zero known h = h
z_may One One known h = refl
z_may One X known h = refl
z_may One Z known h = refl
z_may X a known h = cc
z_may Z a known h = cc

all_may : (test : Bit → Bit → Bool) → ((s a : Bit) → KnownBit s → test s a ≡ true → may_equal s a ≡ true) → (bits label : List Bit) → Known bits → all_with test bits label ≡ true → all_with may_equal bits label ≡ true
all_may test each [] label known h = refl
all_may test each (s ∷ bits) [] known h = refl
all_may test each (s ∷ bits) (a ∷ label) known h =
    let (here, there) = and_parts (test s a) (all_with test bits label) h in
    and_from (may_equal s a) (all_with may_equal bits label) (each s a (first_known s bits known) here) (all_may test each bits label (others_known s bits known) there)

matches_may : (kind : CaseKind) (bits label : List Bit) → Known bits → label_matches kind bits label ≡ true → all_with may_equal bits label ≡ true
matches_may kind.Plain bits label known h =
    all_may same_bit (λ s a is. same_may s a) bits label known h
matches_may kind.Z bits label known h = all_may matches_but_z z_may bits label known h
matches_may kind.X bits label known h = h

meet : (s a b : Bit) → KnownBit s → may_equal s a ≡ true → may_equal s b ≡ true → may_equal a b ≡ true
meet Zero Zero b known left right = right
meet Zero One b known left right = absurd (false≢true left)
meet Zero X b known left right = refl
meet Zero Z b known left right = refl
meet One Zero b known left right = absurd (false≢true left)
meet One One b known left right = right
meet One X b known left right = refl
meet One Z b known left right = refl
meet X a b known left right = cc
meet Z a b known left right = cc

-- two labels that both may be the bits may be each other
all_meet : (bits a b : List Bit) → Known bits → length a ≡ length bits → length b ≡ length bits → all_with may_equal bits a ≡ true → all_with may_equal bits b ≡ true → all_with may_equal a b ≡ true
all_meet bits [] b known long long' left right = refl
all_meet bits (x ∷ a) [] known long long' left right = refl
all_meet [] (x ∷ a) (y ∷ b) known long long' left right = absurd (omega (arith, long))
all_meet (s ∷ bits) (x ∷ a) (y ∷ b) known long long' left right =
    let (here, there) = and_parts (may_equal s x) (all_with may_equal bits a) left in
    let (here', there') = and_parts (may_equal s y) (all_with may_equal bits b) right in
    and_from (may_equal x y) (all_with may_equal a b) (meet s x y (first_known s bits known) here here')
    (all_meet bits a b (others_known s bits known) (omega (arith, long)) (omega (arith, long')) there there')

-- ---- items

module _ (d : Flat) where
  -- a label that is sized as its selector is
  abbrev IsLike : Tree → Tree → Type 0
  IsLike selector label =
      IsSized (length d.signals) (widths d) label × (width_of (widths d) label ≡ width_of (widths d) selector)

  all_like : (selector : Tree) (branches : Branches) → AreBranches d.signals selector branches → All (IsLike selector) (labels_of branches)
  all_like selector NoBranch lawful = All-nil (IsLike selector)
  all_like selector (Branch labels body others) lawful =
      All-append (IsLike selector) labels (labels_of others) (λ k e below. ((lawful.0 k e below).widths, lawful.1 k e below)) (all_like selector others lawful.4)

  module _ (v : Values) (are : AreNumbers d v) (kind : CaseKind) (selector : Tree) (sized : IsSized (length d.signals) (widths d) selector) (firm : IsFirm d selector) where
    long_label : (label : Tree) → IsLike selector label → length (value v label) ≡ length (value v selector)
    long_label label like =
        value_size (length d.signals) (widths d) v (λ i below. are.wide i) label like.0 ∙ like.1
        ∙ sym (value_size (length d.signals) (widths d) v (λ i below. are.wide i) selector sized)

    abbrev Matches : Tree → Type 0
    Matches label = label_matches kind (value v selector) (value v label) ≡ true

    not_both : (a b : Tree) → IsLike selector a → IsLike selector b → AreApart a b → Matches a → Matches b → ⊥
    not_both a b like like' apart left right =
        let known = (exact d fill.Zero v are selector sized firm).known in
        let bits = value v selector in
        let left_is = literal_is d v a like.0 apart.left apart.is_left in
        let right_is = literal_is d v b like'.0 apart.right apart.is_right in
        let may = all_meet bits (value v a) (value v b) known (long_label a like) (long_label b like') (matches_may kind bits (value v a) known left) (matches_may kind bits (value v b) known right) in
        false≢true (sym apart.differ ∙ sym (ap (λ x. all_with may_equal x apart.right) left_is) ∙ sym (ap (all_with may_equal (value v a)) right_is) ∙ may)

    none_with : (a : Tree) → IsLike selector a → Matches a → (others : List Tree) → All (IsLike selector) others → All (AreApart a) others → some_matches kind v (value v selector) others ≡ true → ⊥
    none_with a like matches [] likes apart h = false≢true h
    none_with a like matches (b ∷ others) likes apart h =
        elim (or_cases (label_matches kind (value v selector) (value v b)) (some_matches kind v (value v selector) others) h) [
          | inl here ↦ not_both a b like (All-head (IsLike selector) b others likes) (All-head (AreApart a) b others apart) matches here
          | inr there ↦ none_with a like matches others (All-tail (IsLike selector) b others likes) (All-tail (AreApart a) b others apart) there
        ]

    no_two : (labels others : List Tree) → All (IsLike selector) labels → All (IsLike selector) others → All (λ (a : Tree). All (AreApart a) others) labels → some_matches kind v (value v selector) labels ≡ true → some_matches kind v (value v selector) others ≡ true → ⊥
    no_two [] others likes likes' apart h h' = false≢true h
    no_two (a ∷ labels) others likes likes' apart h h' =
        elim (or_cases (label_matches kind (value v selector) (value v a)) (some_matches kind v (value v selector) labels) h) [
          | inl here ↦
              none_with a (All-head (IsLike selector) a labels likes) here others likes' (All-head (λ (a : Tree). All (AreApart a) others) a labels apart) h'
          | inr there ↦
              no_two labels others (All-tail (IsLike selector) a labels likes) likes' (All-tail (λ (a : Tree). All (AreApart a) others) a labels apart) there h'
        ]

    one_of : (branches : Branches) → AreBranches d.signals selector branches → AreDisjoint branches → OneMatches kind v (value v selector) branches
    one_of NoBranch lawful apart = tt
    one_of (Branch labels body others) lawful apart = (
      λ here. false_from_ne_true (some_matches kind v (value v selector) (labels_of others))
          (no_two labels (labels_of others) (λ k e below. ((lawful.0 k e below).widths, lawful.1 k e below)) (all_like selector others lawful.4) apart.0 here),
      one_of others lawful.4 apart.1,
    )

  -- ---- bodies

  mutual
    exclusive_action : (a : Action) → IsAction d.signals a → IsTame d a → EachIn HasDisjoint a → IsExclusive d a
    exclusive_action (Set target e delayed spot) lawful tame apart = tt
    exclusive_action (If test taken other spot) lawful tame apart =
        (exclusive taken lawful.1 tame.1 apart.1, exclusive_other other lawful.2 tame.2 apart.2)
    exclusive_action (Case kind full parallel selector branches fallback spot) lawful tame apart = (
      λ is n are. one_of n are kind selector lawful.0.widths tame.0 branches lawful.1 (apart.0 is),
      exclusive_items selector branches lawful.1 tame.2 apart.1,
      exclusive_other fallback lawful.2 tame.3 apart.2,
    )
    exclusive_action (Block body) lawful tame apart = exclusive body lawful tame apart.1

    -- C2
    pub exclusive : (body : Actions) → IsBody d.signals body → AreTame d body → EachOf HasDisjoint body → AreExclusive d body
    exclusive Done lawful tame apart = tt
    exclusive (Then first others) lawful tame apart =
        (exclusive_action first lawful.0 tame.0 apart.0, exclusive others lawful.1 tame.1 apart.1)

    exclusive_other : (other : Otherwise) → IsOtherwise d.signals other → IsTameOther d other → EachOther HasDisjoint other → IsExclusiveOther d other
    exclusive_other Without lawful tame apart = tt
    exclusive_other (With body) lawful tame apart = exclusive body lawful tame apart

    exclusive_items : (selector : Tree) (branches : Branches) → AreBranches d.signals selector branches → AreTameItems d branches → EachItem HasDisjoint branches → AreExclusiveItems d branches
    exclusive_items selector NoBranch lawful tame apart = tt
    exclusive_items selector (Branch labels body others) lawful tame apart =
        (exclusive body lawful.3 tame.1 apart.0, exclusive_items selector others lawful.4 tame.2 apart.1)
