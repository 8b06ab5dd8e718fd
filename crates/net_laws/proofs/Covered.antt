-- Of a case that is complete by its labels an item matches.
use Rattle.std.proofs.Common.{◌≡◌, ◌∙◌, ◌-◌, ◌^◌, ◌<◌, ◌==◌, ℕ, zero, suc, Bool, true, false, ◌&&◌, ◌||◌, nat_le, List, [], ◌∷◌, length, All, refl, sym, ap, subst, inl, inr, arith}
use Rattle.std.specs.List.{list_any, list_all}
use Rattle.std.proofs.lemmas.Bool.{and_from, and_parts, cases_eq, false≢true, or_cases, or_left, or_right}
use Rattle.std.proofs.lemmas.List.Elements.{All-append, All-head, All-nil, All-tail}
use Rattle.std.proofs.lemmas.List.Folds.{list_any-append}
use Rattle.rtl_bits.specs.declared.Bit.{Bit}
use Rattle.rtl_bits.specs.declared.Bit.TheVariants.{Zero, One, X, Z}
use Rattle.rtl_bits.specs.Bits.{all_with, bits_of, extended, may_equal, matches_but_z, number, same_bit}
use Rattle.rtl_bits.proofs.Known.{bits_of-number}
use Rattle.rtl_bits.proofs.Numbers.{number-lt}
use Rattle.rtl_flat.specs.declared.act.CaseKind.{CaseKind}
use Rattle.rtl_flat.specs.declared.act.CaseKind.TheVariants as kind
use Rattle.rtl_flat.specs.Expression.{Tree, Sized, Literal, Whole, BitAt, BitBy, Part, Turned, Joined, Compared, Linked, Folded, Shifted, Chosen, Empty, Beside, Repeated, Recast}
use Rattle.rtl_flat.specs.Flows.{complete_by_labels, cover, covers, each_below, is_wild, labels_of, literal, literal_matches, literals}
use Rattle.rtl_flat.specs.Labels.{label_matches}
use Rattle.rtl_flat.specs.Process.{Branches, NoBranch, Branch}
use Rattle.rtl_flat.specs.Signs.{IsExpression}
use Rattle.rtl_flat.specs.Sizes.{IsSized, width_of}
use Rattle.rtl_flat.specs.Value.{value}
use Rattle.rtl_flat.specs.WellFormed.{AreBranches}
use Rattle.event_model.specs.Bodies.{some_matches}
use Rattle.rtl_flat.specs.Flats.{Flat, widths}
use Rattle.event_model.specs.Writes.{Values}
use Rattle.event_laws.proofs.Sizes.{value_size}
use Rattle.net_model.specs.declared.fill.Fill.TheVariants as fill
use Rattle.net_model.specs.Numbers.{AreNumbers}
use Rattle.net_laws.specs.Tame.{IsFirm}
use Rattle.net_laws.proofs.Exact.{exact}
use Rattle.net_laws.proofs.Literals.{form_of, literal_is}

-- ---- labels that are literals

-- whether some literal of a list matches
abbrev MatchesOf : CaseKind → List Bit → List (List Bit) → Type 0
MatchesOf kind bits all = list_any (label_matches kind bits) all ≡ true

module _ (d : Flat) (v : Values) (kind : CaseKind) (bits : List Bit) where
  -- of a literal
  one_literal : (label : Tree) → IsSized (length d.signals) (widths d) label → MatchesOf kind bits (literal label) → label_matches kind bits (value v label) ≡ true
  one_literal label sized h =
      elim (form_of label) [
        | inl none ↦ absurd (false≢true (ap (list_any (label_matches kind bits)) (sym none) ∙ h))
        | inr form ↦
            ap (label_matches kind bits) (literal_is d v label sized form.0 form.1)
            ∙ alone (label_matches kind bits form.0) (ap (list_any (label_matches kind bits)) (sym form.1) ∙ h)
      ]
    where
      alone : (b : Bool) → (b || false) ≡ true → b ≡ true
      alone true is = refl
      alone false is = absurd (false≢true is)

  -- a literal among some labels that matches is a label that matches
  literals_match : (labels : List Tree) → All (IsSized (length d.signals) (widths d)) labels → MatchesOf kind bits (literals labels) → some_matches kind v bits labels ≡ true
  literals_match [] sized h = absurd (false≢true h)
  literals_match (label ∷ others) sized h =
      elim (or_cases (list_any (label_matches kind bits) (literal label)) (list_any (label_matches kind bits) (literals others)) (sym (list_any-append (label_matches kind bits) (literal label) (literals others)) ∙ h)) [
        | inl here ↦
            or_left (label_matches kind bits (value v label)) (some_matches kind v bits others)
            (one_literal label (All-head (IsSized (length d.signals) (widths d)) label others sized) here)
        | inr there ↦
            or_right (label_matches kind bits (value v label)) (some_matches kind v bits others)
            (literals_match others (All-tail (IsSized (length d.signals) (widths d)) label others sized) there)
      ]

-- ---- literals that are wild

wild_z : (a b : Bit) → is_wild kind.Z b ≡ true → matches_but_z a b ≡ true
wild_z Zero Z h = refl
wild_z One Z h = refl
wild_z X Z h = refl
wild_z Z Z h = refl
wild_z a Zero h = absurd (false≢true h)
wild_z a One h = absurd (false≢true h)
wild_z a X h = absurd (false≢true h)

wild_x : (a b : Bit) → is_wild kind.X b ≡ true → may_equal a b ≡ true
wild_x Zero X h = refl
wild_x One X h = refl
wild_x X X h = refl
wild_x Z X h = refl
wild_x Zero Z h = refl
wild_x One Z h = refl
wild_x X Z h = refl
wild_x Z Z h = refl
wild_x a Zero h = absurd (false≢true h)
wild_x a One h = absurd (false≢true h)

all_wild : (test : Bit → Bit → Bool) (wild : Bit → Bool) → ((a b : Bit) → wild b ≡ true → test a b ≡ true) → (bits label : List Bit) → list_all wild label ≡ true → all_with test bits label ≡ true
all_wild test wild each [] label h = refl
all_wild test wild each (a ∷ bits) [] h = refl
all_wild test wild each (a ∷ bits) (b ∷ label) h =
    let (first, others) = and_parts (wild b) (list_all wild label) h in
    and_from (test a b) (all_with test bits label) (each a b first) (all_wild test wild each bits label others)

wild_matches : (kind : CaseKind) (bits label : List Bit) → list_all (is_wild kind) label ≡ true → label_matches kind bits label ≡ true
wild_matches kind.Plain bits label h =
    all_wild same_bit (is_wild kind.Plain) (λ a b is. absurd (false≢true is)) bits label h
wild_matches kind.Z bits label h =
    all_wild matches_but_z (is_wild kind.Z) wild_z bits label h
wild_matches kind.X bits label h = all_wild may_equal (is_wild kind.X) wild_x bits label h

-- of a list in which one test implies another
any_implied : {A : Type 0} (p q : A → Bool) → ((x : A) → p x ≡ true → q x ≡ true) → (xs : List A) → list_any p xs ≡ true → list_any q xs ≡ true
any_implied p q each [] h = h
any_implied p q each (x ∷ xs) h =
    elim (or_cases (p x) (list_any p xs) h) [
      | inl here ↦ or_left (q x) (list_any q xs) (each x here)
      | inr there ↦ or_right (q x) (list_any q xs) (any_implied p q each xs there)
    ]

-- ---- literals that match every number

each_at : (n k : ℕ) (test : ℕ → Bool) → each_below n test ≡ true → k < n → test k ≡ true
unfolding each_below
each_at zero k test h below = absurd (omega (arith, below))
each_at (suc n) k test h below =
    let (last, others) = and_parts (test n) (each_below n test) h in
    elim (cases_eq k n) [
      | inl here ↦ ap test here ∙ last
      | inr other ↦ each_at n k test others (omega (arith, below, other))
    ]

cover_matches :
    (kind : CaseKind) (own width : ℕ) (signed : Bool) (all : List (List Bit)) (bits : List Bit) → length bits ≡ own → bits_of own (number bits) ≡ bits →
    cover kind own width signed all ≡ true → MatchesOf kind (extended width signed bits) all
cover_matches kind own width signed all bits long same h =
    let (some, rest) = and_parts (nat_le 1 own) _ h in
    let (few, rest') = and_parts (nat_le own 16) _ rest in
    let (inside, rest'') = and_parts (nat_le own width) _ rest' in
    let (most, each) = and_parts (nat_le width 128) _ rest'' in
    let test = λ (n : ℕ). list_any (literal_matches kind (extended width signed (bits_of own n))) all in
    let below : number bits < 2 ^ own = subst (λ n. number bits < 2 ^ n) long (number-lt bits) in
    let found : list_any (literal_matches kind (extended width signed (bits_of own (number bits)))) all ≡ true = each_at (2 ^ own) (number bits) test each below in
    let found' : list_any (literal_matches kind (extended width signed bits)) all ≡ true = subst (λ a. list_any (literal_matches kind (extended width signed a)) all ≡ true) same found in
    any_implied (literal_matches kind (extended width signed bits)) (label_matches kind (extended width signed bits))
    (λ label is. (and_parts (length (extended width signed bits) == length label) (label_matches kind (extended width signed bits) label) is).1) all found'

module _ (d : Flat) (v : Values) (are : AreNumbers d v) (kind : CaseKind) where
  by_covers : (selector : Tree) → IsSized (length d.signals) (widths d) selector → IsFirm d selector → (all : List (List Bit)) → covers (widths d) kind selector all ≡ true → MatchesOf kind (value v selector) all
  by_covers (Sized width signed spot e) sized firm all h =
      let known = (exact d fill.Zero v are e sized.2 firm).known in
      let long = value_size (length d.signals) (widths d) v (λ i below. are.wide i) e sized.2 in
      cover_matches kind (width_of (widths d) e) width signed all (value v e) long (subst (λ n. bits_of n (number (value v e)) ≡ value v e) long (bits_of-number (value v e) known)) h
  by_covers (Literal all) sized firm all' h = absurd (false≢true h)
  by_covers (Whole i) sized firm all h = absurd (false≢true h)
  by_covers (BitAt i low index) sized firm all h = absurd (false≢true h)
  by_covers (BitBy i low s index) sized firm all h = absurd (false≢true h)
  by_covers (Part i low w) sized firm all h = absurd (false≢true h)
  by_covers (Turned o a) sized firm all h = absurd (false≢true h)
  by_covers (Joined o s a b) sized firm all h = absurd (false≢true h)
  by_covers (Compared o s a b) sized firm all h = absurd (false≢true h)
  by_covers (Linked o a b) sized firm all h = absurd (false≢true h)
  by_covers (Folded o a) sized firm all h = absurd (false≢true h)
  by_covers (Shifted o s a b) sized firm all h = absurd (false≢true h)
  by_covers (Chosen c a b) sized firm all h = absurd (false≢true h)
  by_covers Empty sized firm all h = absurd (false≢true h)
  by_covers (Beside a b) sized firm all h = absurd (false≢true h)
  by_covers (Repeated n a) sized firm all h = absurd (false≢true h)
  by_covers (Recast a) sized firm all h = absurd (false≢true h)

  -- all labels of lawful items are sized
  labels_sized : (selector : Tree) (branches : Branches) → AreBranches d.signals selector branches → All (IsSized (length d.signals) (widths d)) (labels_of branches)
  labels_sized selector NoBranch lawful = All-nil (IsSized (length d.signals) (widths d))
  labels_sized selector (Branch labels body others) lawful =
      All-append (IsSized (length d.signals) (widths d)) labels (labels_of others) (λ k e below. (lawful.0 k e below).widths)
      (labels_sized selector others lawful.4)

  pub covered :
      (selector : Tree) (branches : Branches) → IsExpression d.signals selector → AreBranches d.signals selector branches → IsFirm d selector →
      complete_by_labels (widths d) kind selector branches ≡ true → some_matches kind v (value v selector) (labels_of branches) ≡ true
  covered selector branches sized lawful firm h =
      let all = literals (labels_of branches) in
      literals_match d v kind (value v selector) (labels_of branches) (labels_sized selector branches lawful)
      (elim (or_cases (list_any (list_all (is_wild kind)) all) (covers (widths d) kind selector all) h) [
        | inl wild ↦ any_implied (list_all (is_wild kind)) (label_matches kind (value v selector)) (wild_matches kind (value v selector)) all wild
        | inr every ↦ by_covers selector sized.widths firm all every
      ])
