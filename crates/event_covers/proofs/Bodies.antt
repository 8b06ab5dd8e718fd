-- Two runs that agree on what decides go the same way, and what one makes may be what the other makes.
use Rattle.std.proofs.Common.{◌≡◌, ◌∙◌, ℕ, Bool, true, false, ◌||◌, if◌then◌else◌, List, [], ◌∷◌, ◌++◌, All, refl, sym, ap, subst}
use Rattle.std.specs.List.{list_any}
use Rattle.std.proofs.Math.Bool.{or_assoc}
use Rattle.std.proofs.lemmas.Bool.{false_from_ne_true, or_left, or_parts, or_right, true≢false}
use Rattle.std.proofs.lemmas.List.Elements.{All-head, All-tail}
use Rattle.std.proofs.lemmas.List.Folds.{list_any-append}
use Rattle.rtl_bits.specs.declared.Bit.{Bit}
use Rattle.rtl_bits.specs.Bit.{is_one}
use Rattle.rtl_bits.specs.Bits.{truth_bit}
use Rattle.rtl_flat.specs.declared.act.CaseKind.{CaseKind}
use Rattle.rtl_flat.specs.Expression.{Tree}
use Rattle.rtl_flat.specs.Flats.{Flat, widths}
use Rattle.rtl_flat.specs.Flows.{labels_of, reads, reads_all}
use Rattle.rtl_flat.specs.Labels.{label_matches}
use Rattle.rtl_flat.specs.Paths.{BitSet, Step, Read, either}
use Rattle.rtl_flat.specs.Process.{Action, Set, If, Case, Block, Actions, Done, Then, Otherwise, Without, With, Branches, NoBranch, Branch}
use Rattle.rtl_flat.specs.Signs.{IsExpression}
use Rattle.rtl_flat.specs.Value.{value}
use Rattle.rtl_flat.specs.WellFormed.{AreBranches, IsAction, IsBody, IsOtherwise}
use Rattle.event_model.specs.Bodies.{Made, after_made, body_made, branches_made, made, other_made, some_matches}
use Rattle.event_model.specs.Traces.{body_trace, branches_trace, makes_now, other_trace, trace}
use Rattle.event_model.specs.Writes.{Values, writes}
use Rattle.event_laws.specs.Steady.{HaveWidths}
use Rattle.event_laws.proofs.Alike.{AgreeOn}
use Rattle.event_laws.proofs.Made.{made_within}
use Rattle.event_laws.proofs.Written.{have_after, kept_after}
use Rattle.event_covers.specs.Covers.{ArePlainActions, ArePlainBranches, ArePlainOtherwise, IsPlainAction, KeepsChoices, MadeMayBe, OneMayBe, RunMayBe, StoresMayBe, action_choices, body_choices, branch_choices, other_choices}
use Rattle.event_covers.proofs.MayBe.{at_may, zip_append}
use Rattle.event_covers.proofs.Values.{signal_may, tree_may}
use Rattle.event_covers.proofs.Writes.{SignalsMayBe, after_may, assigned_may, same_now, same_value, writes_may}

-- ---- what decides

abbrev IsInside : BitSet → BitSet → Type 0
IsInside a b = (i k : ℕ) → a i k ≡ true → b i k ≡ true

in_left : (a b : BitSet) → IsInside a (either a b)
in_left a b i k is = or_left (a i k) (b i k) is

in_right : (a b : BitSet) → IsInside b (either a b)
in_right a b i k is = or_right (a i k) (b i k) is

-- two stores agree on some bits
agree_in : (v u : Values) (a b : BitSet) → IsInside a b → AgreeOn v u b → AgreeOn v u a
agree_in v u a b inside same i k is = same i k (inside i k is)

-- and what is made writes none of them at once
record Chooses (v u : Values) (bits : BitSet) (ms : List Made) : Type 0 where
  same : AgreeOn v u bits
  kept : (i k : ℕ) → bits i k ≡ true → list_any (makes_now i k) ms ≡ false

chooses_in :
    (v u : Values) (a b : BitSet) (ms : List Made) → IsInside a b → Chooses v u b ms → Chooses v u a ms
chooses_in v u a b ms inside it =
    record { same = agree_in v u a b inside it.same; kept = λ i k is. it.kept i k (inside i k is) }

-- what is made first and what is made then write none
kept_parts :
    (ms ns : List Made) (i k : ℕ) → list_any (makes_now i k) (ms ++ ns) ≡ false →
    (list_any (makes_now i k) ms ≡ false) × (list_any (makes_now i k) ns ≡ false)
kept_parts ms ns i k none =
    or_parts (list_any (makes_now i k) ms) (list_any (makes_now i k) ns) (sym (list_any-append (makes_now i k) ms ns) ∙ none)

reads_append :
    (ws : ℕ → ℕ) (xs ys : List Tree) (i k : ℕ) → reads_all ws (xs ++ ys) i k ≡ (reads_all ws xs i k || reads_all ws ys i k)
reads_append ws [] ys i k = refl
reads_append ws (x ∷ xs) ys i k =
    ap (λ b. reads ws x i k || b) (reads_append ws xs ys i k)
    ∙ sym (or_assoc (reads ws x i k) (reads_all ws xs i k) (reads_all ws ys i k))

-- ---- branches

-- one run makes what another may make, and both go by the same steps
abbrev Beside : List Made → List Made → List Step → List Step → Type 0
Beside ms ns p q = MadeMayBe ms ns × (p ≡ q)

-- so it is where both take the same of two branches
same_way :
    (P : List Made → Type 0) (b c : Bool) (m n m' n' : List Made) (p q p' q' : List Step) → b ≡ c →
    (P m → Beside m m' p p') → (P n → Beside n n' q q') → P (if b then m else n) →
    Beside (if b then m else n) (if c then m' else n') (if b then p else q) (if c then p' else q')
same_way P true true m n m' n' p q p' q' same left right it = left it
same_way P true false m n m' n' p q p' q' same left right it = absurd (true≢false same)
same_way P false true m n m' n' p q p' q' same left right it = absurd (true≢false (sym same))
same_way P false false m n m' n' p q p' q' same left right it = right it

after_read : (x : Step) (ms ns : List Made) (p q : List Step) → Beside ms ns p q → Beside ms ns (x ∷ p) (x ∷ q)
after_read x ms ns p q it = (it.0, ap (λ path. x ∷ path) it.1)

-- ---- bodies

module _ (d : Flat) where
  abbrev ws : ℕ → ℕ
  ws = widths d

  -- two stores with the signals' widths, of which one may be the other
  record Stores (v u : Values) : Type 0 where
    wide : HaveWidths d v
    other : HaveWidths d u
    may : SignalsMayBe v u

  same_matches :
      (v u : Values) → Stores v u → (kind : CaseKind) (bits : List Bit) (labels : List Tree) →
      All (IsExpression d.signals) labels → AgreeOn v u (reads_all ws labels) →
      some_matches kind v bits labels ≡ some_matches kind u bits labels
  same_matches v u both kind bits [] lawful same = refl
  same_matches v u both kind bits (label ∷ others) lawful same =
      let a = reads ws label in
      let b = reads_all ws others in
      ap (λ x. label_matches kind bits x || some_matches kind v bits others)
      (same_value d v u both.wide both.other label (All-head (IsExpression d.signals) label others lawful)
      (agree_in v u a (either a b) (in_left a b) same))
      ∙ ap (λ x. label_matches kind bits (value u label) || x)
      (same_matches v u both kind bits others (All-tail (IsExpression d.signals) label others lawful)
      (agree_in v u b (either a b) (in_right a b) same))

  -- after a statement one store may be the other still, and bits that it keeps are the same
  stores_after :
      (v u : Values) → Stores v u → (a : Action) → IsAction d.signals a → MadeMayBe (made ws v a) (made ws u a) →
      Stores (after_made v (made ws v a)) (after_made u (made ws u a))
  stores_after v u both a lawful is =
      record {
        wide = have_after d v (made ws v a) both.wide (made_within d.signals v a lawful);
        other = have_after d u (made ws u a) both.other (made_within d.signals u a lawful);
        may = after_may v u (made ws v a) (made ws u a) is both.may;
      }

  agree_after :
      (v u : Values) → Stores v u → (a : Action) → IsAction d.signals a → MadeMayBe (made ws v a) (made ws u a) →
      (bits : BitSet) → Chooses v u bits (made ws v a) →
      AgreeOn (after_made v (made ws v a)) (after_made u (made ws u a)) bits
  agree_after v u both a lawful is bits it i k in_bits =
      let ms = made ws v a in
      let ns = made ws u a in
      let none = it.kept i k in_bits in
      kept_after d i k v ms both.wide (made_within d.signals v a lawful) none
      ∙ it.same i k in_bits
      ∙ sym (kept_after d i k u ns both.other (made_within d.signals u a lawful) (sym (same_now i k ms ns is) ∙ none))

  -- the choices of a statement, and those of the ones after it, which start from what it leaves
  first_chooses :
      (v u : Values) (first : Action) (others : Actions) →
      Chooses v u (body_choices ws (Then first others)) (body_made ws v (Then first others)) →
      Chooses v u (either (action_choices ws first) (body_choices ws others)) (made ws v first)
  first_chooses v u first others it =
      let rest = body_made ws (after_made v (made ws v first)) others in
      record { same = it.same; kept = λ i k is. (kept_parts (made ws v first) rest i k (it.kept i k is)).0 }

  others_choose :
      (v u : Values) → Stores v u → (first : Action) (others : Actions) → IsAction d.signals first →
      MadeMayBe (made ws v first) (made ws u first) →
      Chooses v u (body_choices ws (Then first others)) (body_made ws v (Then first others)) →
      Chooses (after_made v (made ws v first)) (after_made u (made ws u first)) (body_choices ws others)
      (body_made ws (after_made v (made ws v first)) others)
  others_choose v u both first others lawful is it =
      let a = action_choices ws first in
      let b = body_choices ws others in
      let ms = made ws v first in
      let here = chooses_in v u b (either a b) ms (in_right a b) (first_chooses v u first others it) in
      record {
        same = agree_after v u both first lawful is b here;
        kept = λ i k is. (kept_parts ms (body_made ws (after_made v ms) others) i k (it.kept i k (in_right a b i k is))).1;
      }

  -- of a case: of what runs where no item matches
  abbrev IsOther : Values → Values → Otherwise → Type 0
  IsOther v u fallback =
      Beside (other_made ws v fallback) (other_made ws u fallback) (other_trace ws v fallback) (other_trace ws u fallback)

  -- and of its items, where the selectors have these bits
  abbrev IsItems : Values → Values → CaseKind → List Bit → Otherwise → Branches → List Bit → Type 0
  IsItems v u kind bits fallback branches bits' =
      Beside (branches_made ws v kind bits (other_made ws v fallback) branches)
      (branches_made ws u kind bits' (other_made ws u fallback) branches)
      (branches_trace ws v kind bits (other_trace ws v fallback) branches)
      (branches_trace ws u kind bits' (other_trace ws u fallback) branches)

  mutual
    action_may :
        (v u : Values) → Stores v u → (a : Action) → IsAction d.signals a → IsPlainAction a →
        Chooses v u (action_choices ws a) (made ws v a) → Beside (made ws v a) (made ws u a) (trace ws v a) (trace ws u a)
    action_may v u both (Set target e delayed spot) lawful plain it =
        let stores : StoresMayBe v u = λ i k. at_may (v i) (u i) (both.may i) k in
        let bits = tree_may d v u both.wide both.other stores e lawful.sized.widths plain in
        let is = writes_may d v u both.wide both.other target lawful.parts it.same (value v e) (value u e) bits in
        (assigned_may delayed (writes ws v target (value v e)) (writes ws u target (value u e)) is, refl)
    action_may v u both (If test taken other spot) lawful plain it =
        let tests = reads ws test in
        let a = body_choices ws taken in
        let b = other_choices ws other in
        let all = either tests (either a b) in
        let on_taken : IsInside a all = λ i k is. in_right tests (either a b) i k (in_left a b i k is) in
        let on_other : IsInside b all = λ i k is. in_right tests (either a b) i k (in_right a b i k is) in
        let bits = same_value d v u both.wide both.other test lawful.0
        (agree_in v u tests all (in_left tests (either a b)) it.same) in
        after_read (Read tests) _ _ _ _
        (same_way (Chooses v u all) (is_one (truth_bit (value v test))) (is_one (truth_bit (value u test)))
        (body_made ws v taken) (other_made ws v other) (body_made ws u taken) (other_made ws u other)
        (body_trace ws v taken) (other_trace ws v other) (body_trace ws u taken) (other_trace ws u other)
        (ap (λ x. is_one (truth_bit x)) bits)
        (λ here. body_may v u both taken lawful.1 plain.0 (chooses_in v u a all _ on_taken here))
        (λ here. other_may v u both other lawful.2 plain.1 (chooses_in v u b all _ on_other here)) it)
    action_may v u both (Case kind full parallel selector branches fallback spot) lawful plain it =
        let labels = reads_all ws (labels_of branches) in
        let read = either (reads ws selector) labels in
        let a = branch_choices ws branches in
        let b = other_choices ws fallback in
        let all = either read (either a b) in
        let on_items : IsInside a all = λ i k is. in_right read (either a b) i k (in_left a b i k is) in
        let on_other : IsInside b all = λ i k is. in_right read (either a b) i k (in_right a b i k is) in
        let same : AgreeOn v u read = agree_in v u read all (in_left read (either a b)) it.same in
        let bits = same_value d v u both.wide both.other selector lawful.0
        (agree_in v u (reads ws selector) read (in_left (reads ws selector) labels) same) in
        let past : Chooses v u all (other_made ws v fallback) → IsOther v u fallback
        = λ here. other_may v u both fallback lawful.2 plain.1 (chooses_in v u b all _ on_other here) in
        after_read (Read read) _ _ _ _
        (subst (IsItems v u kind (value v selector) fallback branches) bits
        (branches_may v u both kind selector (value v selector) all fallback branches past lawful.1 plain.0
        (agree_in v u labels read (in_right (reads ws selector) labels) same) on_items it))
    action_may v u both (Block body) lawful plain it = body_may v u both body lawful plain it

    body_may :
        (v u : Values) → Stores v u → (body : Actions) → IsBody d.signals body → ArePlainActions body →
        Chooses v u (body_choices ws body) (body_made ws v body) →
        Beside (body_made ws v body) (body_made ws u body) (body_trace ws v body) (body_trace ws u body)
    body_may v u both Done lawful plain it = (tt, refl)
    body_may v u both (Then first others) lawful plain it =
        let ms = made ws v first in
        let ns = made ws u first in
        let a = action_choices ws first in
        let b = body_choices ws others in
        let here = action_may v u both first lawful.0 plain.0
        (chooses_in v u a (either a b) ms (in_left a b) (first_chooses v u first others it)) in
        let there = body_may (after_made v ms) (after_made u ns) (stores_after v u both first lawful.0 here.0)
        others lawful.1 plain.1 (others_choose v u both first others lawful.0 here.0 it) in (
          zip_append OneMayBe ms (body_made ws (after_made v ms) others) ns
              (body_made ws (after_made u ns) others) here.0 there.0,
          ap (λ p. p ++ body_trace ws (after_made v ms) others) here.1 ∙ ap (λ p. trace ws u first ++ p) there.1,
        )

    other_may :
        (v u : Values) → Stores v u → (other : Otherwise) → IsOtherwise d.signals other → ArePlainOtherwise other →
        Chooses v u (other_choices ws other) (other_made ws v other) →
        Beside (other_made ws v other) (other_made ws u other) (other_trace ws v other) (other_trace ws u other)
    other_may v u both Without lawful plain it = (tt, refl)
    other_may v u both (With body) lawful plain it = body_may v u both body lawful plain it

    -- `all` has what the branches choose by
    branches_may :
        (v u : Values) → Stores v u → (kind : CaseKind) (selector : Tree) (bits : List Bit) (all : BitSet)
        (fallback : Otherwise) (branches : Branches) → (Chooses v u all (other_made ws v fallback) → IsOther v u fallback) →
        AreBranches d.signals selector branches → ArePlainBranches branches →
        AgreeOn v u (reads_all ws (labels_of branches)) → IsInside (branch_choices ws branches) all →
        Chooses v u all (branches_made ws v kind bits (other_made ws v fallback) branches) →
        IsItems v u kind bits fallback branches bits
    branches_may v u both kind selector bits all fallback NoBranch past lawful plain read inside it = past it
    branches_may v u both kind selector bits all fallback (Branch labels body others) past lawful plain read inside it =
        let a = body_choices ws body in
        let b = branch_choices ws others in
        let here : IsInside a all = λ i k is. inside i k (in_left a b i k is) in
        let there : IsInside b all = λ i k is. inside i k (in_right a b i k is) in
        let first = reads_all ws labels in
        let rest = reads_all ws (labels_of others) in
        let joined = reads_append ws labels (labels_of others) in
        let none = other_made ws v fallback in
        let none' = other_made ws u fallback in
        let path = other_trace ws v fallback in
        let path' = other_trace ws u fallback in
        same_way (Chooses v u all) (some_matches kind v bits labels) (some_matches kind u bits labels)
        (body_made ws v body) (branches_made ws v kind bits none others)
        (body_made ws u body) (branches_made ws u kind bits none' others)
        (body_trace ws v body) (branches_trace ws v kind bits path others)
        (body_trace ws u body) (branches_trace ws u kind bits path' others)
        (same_matches v u both kind bits labels lawful.0 (λ i k is. read i k (joined i k ∙ or_left (first i k) (rest i k) is)))
        (λ taken. body_may v u both body lawful.3 plain.0 (chooses_in v u a all _ here taken))
        (λ passed. branches_may v u both kind selector bits all fallback others past lawful.4 plain.1
        (λ i k is. read i k (joined i k ∙ or_right (first i k) (rest i k) is)) there passed)
        it

  pub bodies_may :
      (v u : Values) → HaveWidths d v → HaveWidths d u → StoresMayBe v u →
      (body : Actions) → IsBody d.signals body → ArePlainActions body → AgreeOn v u (body_choices ws body) →
      KeepsChoices d body v → RunMayBe d body v u
  bodies_may v u have have' may body lawful plain same free =
      let ms = body_made ws v body in
      let ns = body_made ws u body in
      let both : Stores v u = record { wide = have; other = have'; may = signal_may d v u have have' may } in
      let it : Chooses v u (body_choices ws body) ms = record {
        same = same;
        kept = λ i k is. false_from_ne_true
            (list_any (makes_now i k) ms) (free i k is);
      } in
      let ran = body_may v u both body lawful plain it in
      let left = after_may v u ms ns ran.0 both.may in
      record { made = ran.0; steps = ran.1; after = λ i k. at_may (after_made v ms i) (after_made u ns i) (left i) k }
