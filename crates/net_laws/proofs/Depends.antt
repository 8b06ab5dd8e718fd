-- The function of any body depends on what it reads outside and on what it may write.
use Rattle.std.proofs.Common.{◌≡◌, ◌∙◌, ◌+◌, ◌-◌, ◌<◌, ◌≤◌, ℕ, ℤ, pos, negsuc, ◌-ℤ◌, Bool, true, false, cond, not, ◌&&◌, ◌||◌, nat_lt, if◌then◌else◌, List, [], ◌∷◌, ◌++◌, length, get_or, All, None, Some, refl, sym, ap, subst, inl, inr, arith}
use Rattle.std.specs.Prelude.{unwrap_or}
use Rattle.std.proofs.lemmas.Bool.{cases_Bool, cases_lt, ltb-true, or_left, or_right}
use Rattle.std.proofs.lemmas.List.{get_or_past}
use Rattle.std.proofs.lemmas.List.Elements.{All-append, All-cons, All-head, All-nil, All-tail}
use Rattle.rtl_bits.specs.declared.Bit.{Bit}
use Rattle.rtl_bits.specs.declared.Bit.TheVariants.{X}
use Rattle.rtl_bits.specs.Bit.{is_one, or_bit}
use Rattle.rtl_bits.specs.Bits.{copies, extended, selected, truth_bit}
use Rattle.rtl_bits.specs.Inside.{length-tabulate}
use Rattle.rtl_bits.proofs.Lists.{get_or-tabulate}
use Rattle.rtl_flat.specs.declared.act.CaseKind.{CaseKind}
use Rattle.rtl_flat.specs.Expression.{Tree, Sized, Literal, Turned, Joined, Compared, Linked, Folded, Shifted, Chosen, Empty, Beside, Repeated, Recast}
use Rattle.rtl_flat.specs.Expression as tree
use Rattle.rtl_flat.specs.Flows.{action_then, all_bits, body_flow, index_reads, labels_of, other_flow, reads, reads_all, target_reads}
use Rattle.rtl_flat.specs.Labels.{label_matches}
use Rattle.rtl_flat.specs.Paths.{BitSet, End, either, may_write_blocking, may_write_delayed, reads_bit}
use Rattle.rtl_flat.specs.Process.{Piece, Selection, Whole, BitAt, BitBy, Part, Action, Set, If, Case, Block, Actions, Done, Then, Otherwise, Without, With, Branches, NoBranch, Branch}
use Rattle.rtl_flat.specs.Signs.{IsExpression, sign_of}
use Rattle.rtl_flat.specs.Sizes.{IsSized}
use Rattle.rtl_flat.specs.Value.{bit_by, chosen, compared, folded, index_number, joined, linked, shifted, turned, value}
use Rattle.rtl_flat.specs.WellFormed.{AreBranches, IsAction, IsBody, IsOtherwise, IsSelection}
use Rattle.rtl_flat.specs.Flats.{Flat, widths}
use Rattle.event_model.specs.Traces.{Same, covers}
use Rattle.event_model.specs.Writes.{Values, Write, bit_inside, count_of, counts, write_at, written}
use Rattle.event_laws.specs.Steady.{HaveWidths, IsWithin}
use Rattle.event_laws.proofs.Agreement.{value_agrees}
use Rattle.event_laws.proofs.Inside.{AreSelections, at_most, has_width}
use Rattle.event_laws.proofs.Lengths.{have_written}
use Rattle.event_laws.proofs.Written.{written_in, written_out}
use Rattle.net_model.specs.declared.fill.Fill.{Fill}
use Rattle.net_model.specs.Block.{Maps, act, act_arms, act_first, act_other, acts, arm_bits, arms_late, arms_write, bit_after, digit_writes, filled_case, fresh, item_meets, joined_arms, some_meets, span_by, with_bits, write_each, write_next, write_now}
use Rattle.net_model.specs.Numbers.{bit, digits, fill_bit, filled, filled_bit, is_literal, label_digits, label_meets}
use Rattle.net_laws.proofs.Known.{both}
use Rattle.net_laws.proofs.Parts.{Gives, GivesItems, fallback_gives, first_gives, item_gives, items_give, later_give, other_gives, others_give, taken_gives}

-- ---- expressions

-- whether two values have the same bits of a set
abbrev AgreeOn : Values → Values → BitSet → Type 0
AgreeOn n m bits = (i k : ℕ) → bits i k ≡ true → Same n m i k

on_left : (n m : Values) (a b : BitSet) → AgreeOn n m (either a b) → AgreeOn n m a
on_left n m a b same i k is = same i k (or_left (a i k) (b i k) is)

on_right : (n m : Values) (a b : BitSet) → AgreeOn n m (either a b) → AgreeOn n m b
on_right n m a b same i k is = same i k (or_right (a i k) (b i k) is)

all_left : (ws : ℕ → ℕ) (n m : Values) (xs ys : List Tree) → AgreeOn n m (reads_all ws (xs ++ ys)) → AgreeOn n m (reads_all ws xs)
all_left ws n m xs ys same i k is = same i k (front xs is)
  where
    front : (zs : List Tree) → reads_all ws zs i k ≡ true → reads_all ws (zs ++ ys) i k ≡ true
    front [] h = absurd (cc)
    front (z ∷ zs) h =
        elim (cases_Bool (reads ws z i k)) [
          | inl here ↦ or_left (reads ws z i k) (reads_all ws (zs ++ ys) i k) here
          | inr none ↦ or_right (reads ws z i k) (reads_all ws (zs ++ ys) i k) (front zs (rw none at h))
        ]

all_right : (ws : ℕ → ℕ) (n m : Values) (xs ys : List Tree) → AgreeOn n m (reads_all ws (xs ++ ys)) → AgreeOn n m (reads_all ws ys)
all_right ws n m [] ys same = same
all_right ws n m (x ∷ xs) ys same =
    all_right ws n m xs ys (on_right n m (reads ws x) (reads_all ws (xs ++ ys)) same)

module _ (d : Flat) (f : Fill) (n m : Values) (wide : HaveWidths d n) (wide' : HaveWidths d m) where
  same_value : (e : Tree) → IsSized (length d.signals) (widths d) e → AgreeOn n m (reads (widths d) e) → value n e ≡ value m e
  same_value e sized same =
      value_agrees (length d.signals) (widths d) n m (λ i below. wide i) (λ i below. wide' i) e sized same

  same_digits : (e : Tree) → IsSized (length d.signals) (widths d) e → AgreeOn n m (reads (widths d) e) → digits f n e ≡ digits f m e
  same_digits (Sized width signed spot e) sized same =
      ap (extended width signed) (same_digits e sized.2 same)
  same_digits (Literal bits) sized same = refl
  same_digits (tree.Whole i) sized same = same_value (tree.Whole i) sized same
  same_digits (tree.BitAt i low index) sized same =
      ap (filled f) (same_value (tree.BitAt i low index) sized same)
  same_digits (tree.BitBy i low signed index) sized same =
      both (λ a b. filled_bit f (bit_by a low signed b) ∷ []) (n i) (m i) (digits f n index) (digits f m index)
      (same_value (tree.Whole i) sized.0 (on_right n m (reads (widths d) index) (all_bits (widths d) i) same))
      (same_digits index sized.1 (on_left n m (reads (widths d) index) (all_bits (widths d) i) same))
  same_digits (tree.Part i low width) sized same = same_value (tree.Part i low width) sized same
  same_digits (Turned operator a) sized same = ap (turned operator) (same_digits a sized same)
  same_digits (Joined operator signed a b) sized same =
      both (λ x y. filled f (joined operator signed x y)) (digits f n a) (digits f m a) (digits f n b) (digits f m b)
      (same_digits a sized.1 (on_left n m (reads (widths d) a) (reads (widths d) b) same)) (same_digits b sized.2 (on_right n m (reads (widths d) a) (reads (widths d) b) same))
  same_digits (Compared operator signed a b) sized same =
      both (λ x y. compared operator signed x y ∷ []) (digits f n a) (digits f m a) (digits f n b) (digits f m b)
      (same_digits a sized.1 (on_left n m (reads (widths d) a) (reads (widths d) b) same)) (same_digits b sized.2 (on_right n m (reads (widths d) a) (reads (widths d) b) same))
  same_digits (Linked operator a b) sized same =
      both (λ x y. linked operator x y ∷ []) (digits f n a) (digits f m a) (digits f n b) (digits f m b)
      (same_digits a sized.0 (on_left n m (reads (widths d) a) (reads (widths d) b) same)) (same_digits b sized.1 (on_right n m (reads (widths d) a) (reads (widths d) b) same))
  same_digits (Folded operator a) sized same =
      ap (λ x. folded operator x ∷ []) (same_digits a sized same)
  same_digits (Shifted operator signed a amount) sized same =
      both (shifted operator signed) (digits f n a) (digits f m a) (digits f n amount) (digits f m amount)
      (same_digits a sized.1 (on_left n m (reads (widths d) a) (reads (widths d) amount) same)) (same_digits amount sized.2 (on_right n m (reads (widths d) a) (reads (widths d) amount) same))
  same_digits (Chosen c a b) sized same =
      let arms = on_right n m (reads (widths d) c) (either (reads (widths d) a) (reads (widths d) b)) same in
      ap (λ x. chosen (truth_bit x) (digits f n a) (digits f n b)) (same_digits c sized.1 (on_left n m (reads (widths d) c) (either (reads (widths d) a) (reads (widths d) b)) same))
      ∙ both (chosen (truth_bit (digits f m c))) (digits f n a) (digits f m a) (digits f n b) (digits f m b)
      (same_digits a sized.2 (on_left n m (reads (widths d) a) (reads (widths d) b) arms)) (same_digits b sized.3 (on_right n m (reads (widths d) a) (reads (widths d) b) arms))
  same_digits Empty sized same = refl
  same_digits (Beside a rest) sized same =
      both (λ x y. y ++ x) (digits f n a) (digits f m a) (digits f n rest) (digits f m rest)
      (same_digits a sized.0 (on_left n m (reads (widths d) a) (reads (widths d) rest) same)) (same_digits rest sized.1 (on_right n m (reads (widths d) a) (reads (widths d) rest) same))
  same_digits (Repeated times a) sized same = ap (copies times) (same_digits a sized same)
  same_digits (Recast a) sized same = same_digits a sized same

  -- ---- targets and labels

  same_span : (signal : ℕ) (selection : Selection) → IsSelection d.signals signal selection → AgreeOn n m (index_reads (widths d) selection) → span_by (widths d) f n signal selection ≡ span_by (widths d) f m signal selection
  same_span signal Whole lawful same = refl
  same_span signal (BitAt low index) lawful same = refl
  same_span signal (BitBy low index) lawful same =
      ap (λ a. bit_inside (widths d signal) (index_number (sign_of index) a -ℤ pos low)) (same_digits index lawful.1.widths same)
  same_span signal (Part low width) lawful same = refl

  same_writes : (target : List Piece) → AreSelections d.signals target → AgreeOn n m (target_reads (widths d) target) → (bits : List Bit) → digit_writes (widths d) f n target bits ≡ digit_writes (widths d) f m target bits
  same_writes [] lawful same bits = refl
  same_writes (piece ∷ others) lawful same bits =
      let ws = widths d in
      let part = selected (counts ws others) (count_of ws piece.signal piece.selection) bits in
      ap (λ at. write_at piece.signal at part ++ digit_writes ws f n others bits)
      (same_span piece.signal piece.selection (All-head (λ (one : Piece). IsSelection d.signals one.signal one.selection) piece others lawful)
      (on_left n m (index_reads ws piece.selection) (target_reads ws others) same))
      ∙ ap (λ us. write_at piece.signal (span_by ws f m piece.signal piece.selection) part ++ us)
      (same_writes others (All-tail (λ (one : Piece). IsSelection d.signals one.signal one.selection) piece others lawful)
      (on_right n m (index_reads ws piece.selection) (target_reads ws others) same) bits)

  same_label : (label : Tree) → IsExpression d.signals label → AgreeOn n m (reads (widths d) label) → label_digits f n label ≡ label_digits f m label
  same_label label lawful same =
      both (λ x y. cond (is_literal label) x y) (value n label) (value m label) (digits f n label) (digits f m label)
      (same_value label lawful.widths same) (same_digits label lawful.widths same)

  same_meets : (kind : CaseKind) (bits : List Bit) (labels : List Tree) → All (IsExpression d.signals) labels → AgreeOn n m (reads_all (widths d) labels) → some_meets f n kind bits labels ≡ some_meets f m kind bits labels
  same_meets kind bits [] lawful same = refl
  same_meets kind bits (label ∷ others) lawful same =
      let ws = widths d in
      ap (λ a. label_matches kind bits a || some_meets f n kind bits others)
      (same_label label (All-head (IsExpression d.signals) label others lawful) (on_left n m (reads ws label) (reads_all ws others) same))
      ∙ ap (λ b. label_meets f m kind bits label || b)
      (same_meets kind bits others (All-tail (IsExpression d.signals) label others lawful) (on_right n m (reads ws label) (reads_all ws others) same))

  same_items : (kind : CaseKind) (selector : Tree) (bits : List Bit) (branches : Branches) → AreBranches d.signals selector branches → AgreeOn n m (reads_all (widths d) (labels_of branches)) → item_meets f n kind bits branches ≡ item_meets f m kind bits branches
  same_items kind selector bits NoBranch lawful same = refl
  same_items kind selector bits (Branch labels body others) lawful same =
      ap (λ b. b || item_meets f n kind bits others) (same_meets kind bits labels lawful.0 (all_left (widths d) n m labels (labels_of others) same))
      ∙ ap (λ b. some_meets f m kind bits labels || b) (same_items kind selector bits others lawful.4 (all_right (widths d) n m labels (labels_of others) same))

-- ---- what is written ends inside its signal

module _ (d : Flat) (f : Fill) where
  bit_within : (i : ℕ) (z : ℤ) (bits : List Bit) → length bits ≤ 1 → All (IsWithin (widths d)) (write_at i (bit_inside (widths d i) z) bits)
  bit_within i (negsuc k) bits few = All-nil (IsWithin (widths d))
  bit_within i (pos k) bits few = by_place (nat_lt k (widths d i)) refl
    where
      by_place : (b : Bool) → nat_lt k (widths d i) ≡ b → All (IsWithin (widths d)) (write_at i (if b then Some (record { at = k; count = 1 }) else None) bits)
      by_place false e = All-nil (IsWithin (widths d))
      by_place true e =
          let below : k < widths d i = ltb-true k (widths d i) e in
          All-cons (IsWithin (widths d)) (record { signal = i; at = k; bits = bits }) [] (omega (arith, below, few)) (All-nil (IsWithin (widths d)))

  span_within : (n : Values) (i : ℕ) (selection : Selection) (bits : List Bit) → IsSelection d.signals i selection → length bits ≤ count_of (widths d) i selection → All (IsWithin (widths d)) (write_at i (span_by (widths d) f n i selection) bits)
  span_within n i Whole bits lawful few =
      All-cons (IsWithin (widths d)) (record { signal = i; at = 0; bits = bits }) [] (omega (arith, few)) (All-nil (IsWithin (widths d)))
  span_within n i (BitAt low index) bits lawful few = bit_within i (index -ℤ pos low) bits few
  span_within n i (BitBy low index) bits lawful few =
      bit_within i (index_number (sign_of index) (digits f n index) -ℤ pos low) bits few
  span_within n i (Part low width) bits lawful few =
      let room = has_width (low + width) d.signals i lawful.1 in
      All-cons (IsWithin (widths d)) (record { signal = i; at = low; bits = bits }) [] (omega (arith, room, few)) (All-nil (IsWithin (widths d)))

  pub writes_within : (n : Values) (target : List Piece) → AreSelections d.signals target → (bits : List Bit) → All (IsWithin (widths d)) (digit_writes (widths d) f n target bits)
  writes_within n [] lawful bits = All-nil (IsWithin (widths d))
  writes_within n (piece ∷ others) lawful bits =
      let ws = widths d in
      let count = count_of ws piece.signal piece.selection in
      let part = selected (counts ws others) count bits in
      All-append (IsWithin ws) (write_at piece.signal (span_by ws f n piece.signal piece.selection) part) (digit_writes ws f n others bits)
      (span_within n piece.signal piece.selection part (All-head (λ (one : Piece). IsSelection d.signals one.signal one.selection) piece others lawful) (at_most (counts ws others) count bits))
      (writes_within n others (All-tail (λ (one : Piece). IsSelection d.signals one.signal one.selection) piece others lawful) bits)

-- ---- maps that are alike in some bits

pub record AreAlike (d : Flat) (P : ℕ → ℕ → Type 0) (a b : Maps) : Type 0 where
  pub wide : HaveWidths d a.now
  pub wide' : HaveWidths d b.now
  pub now : (i k : ℕ) → P i k → Same a.now b.now i k
  pub next : (i k : ℕ) → P i k → a.next i k ≡ b.next i k
  pub wrote : (i k : ℕ) → P i k → a.wrote i k ≡ b.wrote i k
  pub late : (i k : ℕ) → P i k → a.late i k ≡ b.late i k

module _ (d : Flat) (P : ℕ → ℕ → Type 0) where
  either_alike : (c : Bool) (a b a' b' : Maps) → AreAlike d P a b → AreAlike d P a' b' → AreAlike d P (if c then a else a') (if c then b else b')
  either_alike true a b a' b' left right = left
  either_alike false a b a' b' left right = right

  fresh_alike : (a b : Maps) → AreAlike d P a b → AreAlike d P (fresh a) (fresh b)
  fresh_alike a b alike =
      record { wide = alike.wide; wide' = alike.wide'; now = alike.now; next = alike.next; wrote = λ i k p. refl; late = λ i k p. refl }

  write_same : (n m : Values) (w : Write) (i k : ℕ) → HaveWidths d n → HaveWidths d m → IsWithin (widths d) w → Same n m i k → Same (written n w) (written m w) i k
  write_same n m w i k wide wide' inside same =
      elim (cases_Bool (covers i k w)) [
        | inl over ↦ written_in d n w wide inside i k over ∙ sym (written_in d m w wide' inside i k over)
        | inr not_over ↦ written_out d n w wide inside i k not_over ∙ same ∙ sym (written_out d m w wide' inside i k not_over)
      ]

  now_alike : (a b : Maps) (w : Write) → IsWithin (widths d) w → AreAlike d P a b → AreAlike d P (write_now a w) (write_now b w)
  now_alike a b w inside alike =
      record {
        wide = have_written d a.now w alike.wide inside;
        wide' = have_written d b.now w alike.wide' inside;
        now = λ i k p. write_same a.now b.now w i k alike.wide alike.wide' inside (alike.now i k p);
        next = alike.next;
        wrote = λ i k p. ap (λ x. covers i k w || x) (alike.wrote i k p);
        late = alike.late;
      }

  next_alike : (a b : Maps) (w : Write) → AreAlike d P a b → AreAlike d P (write_next a w) (write_next b w)
  next_alike a b w alike =
      record {
        wide = alike.wide;
        wide' = alike.wide';
        now = alike.now;
        next = λ i k p. ap (λ x. cond (covers i k w) (Some (get_or w.bits (k - w.at) X)) x) (alike.next i k p);
        wrote = λ i k p. ap (λ x. covers i k w || x) (alike.wrote i k p);
        late = λ i k p. ap (λ x. covers i k w || x) (alike.late i k p);
      }

  each_alike : (delayed : Bool) (a b : Maps) (us : List Write) → All (IsWithin (widths d)) us → AreAlike d P a b → AreAlike d P (write_each delayed a us) (write_each delayed b us)
  each_alike delayed a b [] inside alike = alike
  each_alike true a b (w ∷ us) inside alike =
      each_alike true (write_next a w) (write_next b w) us (All-tail (IsWithin (widths d)) w us inside) (next_alike a b w alike)
  each_alike false a b (w ∷ us) inside alike =
      each_alike false (write_now a w) (write_now b w) us (All-tail (IsWithin (widths d)) w us inside)
      (now_alike a b w (All-head (IsWithin (widths d)) w us inside) alike)

  -- ---- maps of cases

  pub with_wide : (n : Values) (bits : BitSet) (new : ℕ → ℕ → Bit) → HaveWidths d n → HaveWidths d (with_bits n bits new)
  with_wide n bits new wide i =
      length-tabulate (length (n i)) (λ k. cond (bits i k) (new i k) (bit n i k)) ∙ wide i

  with_same :
      (n m : Values) (bits bits' : BitSet) (new new' : ℕ → ℕ → Bit) (i k : ℕ) → HaveWidths d n → HaveWidths d m → bits i k ≡ bits' i k → new i k ≡ new' i k → Same n m i k →
      Same (with_bits n bits new) (with_bits m bits' new') i k
  with_same n m bits bits' new new' i k wide wide' same_bits same_new same =
      elim (cases_lt k (widths d i)) [
        | inl below ↦
            let long = wide i in
            let long' = wide' i in
            get_or-tabulate (length (n i)) (λ j. cond (bits i j) (new i j) (bit n i j)) k X (omega (arith, below, long))
            ∙ ap (λ c. cond c (new i k) (bit n i k)) same_bits
            ∙ both (λ x y. cond (bits' i k) x y) (new i k) (new' i k) (bit n i k) (bit m i k) same_new same
            ∙ sym (get_or-tabulate (length (m i)) (λ j. cond (bits' i j) (new' i j) (bit m i j)) k X (omega (arith, below, long')))
        | inr past ↦
            let long = with_wide n bits new wide i in
            let long' = with_wide m bits' new' wide' i in
            get_or_past (with_bits n bits new i) k X (omega (arith, past, long)) ∙ sym (get_or_past (with_bits m bits' new' i) k X (omega (arith, past, long')))
      ]

  filled_alike : (f : Fill) (at_once later : BitSet) (a b : Maps) → AreAlike d P a b → AreAlike d P (filled_case f at_once later a) (filled_case f at_once later b)
  filled_alike f at_once later a b alike =
      record {
        wide = with_wide a.now at_once (λ i k. fill_bit f) alike.wide;
        wide' = with_wide b.now at_once (λ i k. fill_bit f) alike.wide';
        now = λ i k p. with_same a.now b.now at_once at_once (λ i k. fill_bit f) (λ i k. fill_bit f) i k alike.wide alike.wide' refl refl (alike.now i k p);
        next = λ i k p. ap (λ x. cond (later i k) (Some (fill_bit f)) x) (alike.next i k p);
        wrote = λ i k p. ap (λ x. (at_once i k || later i k) || x) (alike.wrote i k p);
        late = λ i k p. ap (λ x. later i k || x) (alike.late i k p);
      }

  promised_alike : (full : Bool) (f : Fill) (at_once later : BitSet) (a b : Maps) → AreAlike d P a b → AreAlike d P (cond full (filled_case f at_once later a) a) (cond full (filled_case f at_once later b) b)
  promised_alike true f at_once later a b alike = filled_alike f at_once later a b alike
  promised_alike false f at_once later a b alike = alike

  -- arms that are alike one by one
  abbrev AllAlike : List Maps → List Maps → Type 0
  AllAlike [] [] = Unit {0}
  AllAlike [] (b ∷ ys) = ⊥
  AllAlike (a ∷ xs) [] = ⊥
  AllAlike (a ∷ xs) (b ∷ ys) = AreAlike d P a b × AllAlike xs ys

  pub same_after : (a b : Maps) (i k : ℕ) → P i k → AreAlike d P a b → bit_after a i k ≡ bit_after b i k
  same_after a b i k p alike =
      both unwrap_or (a.next i k) (b.next i k) (bit a.now i k) (bit b.now i k) (alike.next i k p) (alike.now i k p)

  same_arms : (xs ys : List Maps) → AllAlike xs ys → (i k : ℕ) → P i k → (arm_bits xs i k ≡ arm_bits ys i k) × (arms_write xs i k ≡ arms_write ys i k) × (arms_late xs i k ≡ arms_late ys i k)
  same_arms [] [] alike i k p = (refl, refl, refl)
  same_arms [] (y ∷ ys) alike i k p = absurd alike
  same_arms (x ∷ xs) [] alike i k p = absurd alike
  same_arms (x ∷ xs) (y ∷ ys) alike i k p =
      let rest = same_arms xs ys alike.1 i k p in (
        both or_bit (bit_after x i k) (bit_after y i k) (arm_bits xs i k) (arm_bits ys i k) (same_after x y i k p alike.0) rest.0,
        both (λ u v. u || v) (x.wrote i k) (y.wrote i k) (arms_write xs i k) (arms_write ys i k) (alike.0.wrote i k p) rest.1,
        both (λ u v. u || v) (x.late i k) (y.late i k) (arms_late xs i k) (arms_late ys i k) (alike.0.late i k p) rest.2,
      )

  joined_alike : (a b : Maps) (xs ys : List Maps) → AreAlike d P a b → AllAlike xs ys → AreAlike d P (joined_arms a xs) (joined_arms b ys)
  joined_alike a b xs ys alike arms =
      record {
        wide = with_wide a.now (λ i k. arms_write xs i k && not (arms_late xs i k)) (arm_bits xs) alike.wide;
        wide' = with_wide b.now (λ i k. arms_write ys i k && not (arms_late ys i k)) (arm_bits ys) alike.wide';
        now = λ i k p.
            let same = same_arms xs ys arms i k p in
            with_same a.now b.now (λ i k. arms_write xs i k && not (arms_late xs i k)) (λ i k. arms_write ys i k && not (arms_late ys i k)) (arm_bits xs) (arm_bits ys) i k alike.wide alike.wide'
            (both (λ u v. u && not v) (arms_write xs i k) (arms_write ys i k) (arms_late xs i k) (arms_late ys i k) same.1 same.2) same.0 (alike.now i k p);
        next = λ i k p.
            let same = same_arms xs ys arms i k p in
            ap (λ c. cond c (Some (arm_bits xs i k)) (a.next i k)) same.2
            ∙ both (λ x o. cond (arms_late ys i k) (Some x) o) (arm_bits xs i k) (arm_bits ys i k) (a.next i k) (b.next i k) same.0 (alike.next i k p);
        wrote = λ i k p. both (λ u v. u || v) (arms_write xs i k) (arms_write ys i k) (a.wrote i k) (b.wrote i k) (same_arms xs ys arms i k p).1 (alike.wrote i k p);
        late = λ i k p. both (λ u v. u || v) (arms_late xs i k) (arms_late ys i k) (a.late i k) (b.late i k) (same_arms xs ys arms i k p).2 (alike.late i k p);
      }

  either_arms : (c : Bool) (x y : Maps) (xs ys : List Maps) → AreAlike d P x y → AllAlike xs ys → AllAlike (if c then x ∷ xs else xs) (if c then y ∷ ys else ys)
  either_arms true x y xs ys first others = (first, others)
  either_arms false x y xs ys first others = others

-- ---- statements

module _ (d : Flat) (f : Fill) (P : ℕ → ℕ → Type 0) where
  abbrev ws : ℕ → ℕ
  ws = widths d

  mutual
    pub action_alike :
        (a b : Maps) → AreAlike d P a b → (one : Action) → IsAction d.signals one → Gives reads_bit P (action_then ws one End) →
        AreAlike d P (act ws f a one) (act ws f b one)
    action_alike a b alike (Set target e delayed spot) lawful read =
        let all : AgreeOn a.now b.now (either (reads ws e) (target_reads ws target)) = λ i k is. alike.now i k (read i k (or_left (reads ws e i k || target_reads ws target i k) _ is)) in
        let same = ap (digit_writes ws f a.now target) (same_digits d f a.now b.now alike.wide alike.wide' e lawful.sized.widths (on_left a.now b.now (reads ws e) (target_reads ws target) all))
        ∙ same_writes d f a.now b.now alike.wide alike.wide' target lawful.parts (on_right a.now b.now (reads ws e) (target_reads ws target) all) (digits f b.now e) in
        subst (λ us. AreAlike d P (write_each delayed a us) (write_each delayed b (digit_writes ws f b.now target (digits f b.now e)))) (sym same)
        (each_alike d P delayed a b (digit_writes ws f b.now target (digits f b.now e)) (writes_within d f b.now target lawful.parts (digits f b.now e)) alike)
    action_alike a b alike (If test taken other spot) lawful read =
        let all : AgreeOn a.now b.now (reads ws test) = λ i k is. alike.now i k (read i k (or_left (reads ws test i k) _ is)) in
        let same = same_digits d f a.now b.now alike.wide alike.wide' test lawful.0.widths all in
        subst (λ xs. AreAlike d P (if is_one (truth_bit xs) then acts ws f a taken else act_other ws f a a other) (if is_one (truth_bit (digits f b.now test)) then acts ws f b taken else act_other ws f b b other)) (sym same)
        (either_alike d P (is_one (truth_bit (digits f b.now test))) (acts ws f a taken) (acts ws f b taken) (act_other ws f a a other) (act_other ws f b b other)
        (body_alike a b alike taken lawful.1 (taken_gives ws reads_bit P test taken other spot read))
        (other_alike a b alike a b alike other lawful.2 (other_gives ws reads_bit P test taken other spot read)))
    action_alike a b alike (Case kind full parallel selector branches fallback spot) lawful read =
        let all : AgreeOn a.now b.now (either (reads ws selector) (reads_all ws (labels_of branches)))
        = λ i k is. alike.now i k (read i k (or_left (reads ws selector i k || reads_all ws (labels_of branches) i k) _ is)) in
        let labels = on_right a.now b.now (reads ws selector) (reads_all ws (labels_of branches)) all in
        let same = same_digits d f a.now b.now alike.wide alike.wide' selector lawful.0.widths (on_left a.now b.now (reads ws selector) (reads_all ws (labels_of branches)) all) in
        let bits = digits f b.now selector in
        let flow = action_then ws (Case kind full parallel selector branches fallback spot) End in
        let past = λ (m : Maps). cond full (filled_case f (may_write_blocking flow) (may_write_delayed flow) m) m in
        let items = items_give ws reads_bit P kind full parallel selector branches fallback spot read in
        subst (λ xs. AreAlike d P (if parallel && item_meets f a.now kind xs branches then joined_arms a (act_arms ws f a kind xs branches) else act_first ws f a kind xs (act_other ws f a (past a) fallback) branches) (if parallel && item_meets f b.now kind bits branches then joined_arms b (act_arms ws f b kind bits branches) else act_first ws f b kind bits (act_other ws f b (past b) fallback) branches)) (sym same)
        (subst (λ c. AreAlike d P (if parallel && c then joined_arms a (act_arms ws f a kind bits branches) else act_first ws f a kind bits (act_other ws f a (past a) fallback) branches) (if parallel && item_meets f b.now kind bits branches then joined_arms b (act_arms ws f b kind bits branches) else act_first ws f b kind bits (act_other ws f b (past b) fallback) branches))
        (sym (same_items d f a.now b.now alike.wide alike.wide' kind selector bits branches lawful.1 labels))
        (either_alike d P (parallel && item_meets f b.now kind bits branches) (joined_arms a (act_arms ws f a kind bits branches)) (joined_arms b (act_arms ws f b kind bits branches))
        (act_first ws f a kind bits (act_other ws f a (past a) fallback) branches) (act_first ws f b kind bits (act_other ws f b (past b) fallback) branches)
        (joined_alike d P a b (act_arms ws f a kind bits branches) (act_arms ws f b kind bits branches) alike (arms_alike a b alike kind selector bits branches lawful.1 labels items))
        (items_alike a b alike kind selector bits (act_other ws f a (past a) fallback) (act_other ws f b (past b) fallback)
        (other_alike a b alike (past a) (past b) (promised_alike d P full f (may_write_blocking flow) (may_write_delayed flow) a b alike) fallback lawful.2 (fallback_gives ws reads_bit P kind full parallel selector branches fallback spot read))
        branches lawful.1 labels items)))
    action_alike a b alike (Block body) lawful read = body_alike a b alike body lawful read

    pub body_alike :
        (a b : Maps) → AreAlike d P a b → (body : Actions) → IsBody d.signals body → Gives reads_bit P (body_flow ws body) →
        AreAlike d P (acts ws f a body) (acts ws f b body)
    body_alike a b alike Done lawful read = alike
    body_alike a b alike (Then first others) lawful read =
        body_alike (act ws f a first) (act ws f b first) (action_alike a b alike first lawful.0 (first_gives ws reads_bit P first others read)) others lawful.1
        (others_give ws reads_bit P first others read)

    other_alike :
        (a b : Maps) → AreAlike d P a b → (past past' : Maps) → AreAlike d P past past' → (other : Otherwise) → IsOtherwise d.signals other → Gives reads_bit P (other_flow ws other) →
        AreAlike d P (act_other ws f a past other) (act_other ws f b past' other)
    other_alike a b alike past past' without Without lawful read = without
    other_alike a b alike past past' without (With body) lawful read =
        body_alike a b alike body lawful read

    items_alike :
        (a b : Maps) → AreAlike d P a b → (kind : CaseKind) (selector : Tree) (bits : List Bit) (none none' : Maps) → AreAlike d P none none' → (branches : Branches) →
        AreBranches d.signals selector branches → AgreeOn a.now b.now (reads_all ws (labels_of branches)) → GivesItems ws reads_bit P branches →
        AreAlike d P (act_first ws f a kind bits none branches) (act_first ws f b kind bits none' branches)
    items_alike a b alike kind selector bits none none' past NoBranch lawful labels read = past
    items_alike a b alike kind selector bits none none' past (Branch list body others) lawful labels read =
        let there = items_alike a b alike kind selector bits none none' past others lawful.4 (all_right ws a.now b.now list (labels_of others) labels) (later_give ws reads_bit P list body others read) in
        subst (λ c. AreAlike d P (if c then acts ws f a body else act_first ws f a kind bits none others) (if some_meets f b.now kind bits list then acts ws f b body else act_first ws f b kind bits none' others))
        (sym (same_meets d f a.now b.now alike.wide alike.wide' kind bits list lawful.0 (all_left ws a.now b.now list (labels_of others) labels)))
        (either_alike d P (some_meets f b.now kind bits list) (acts ws f a body) (acts ws f b body) (act_first ws f a kind bits none others) (act_first ws f b kind bits none' others)
        (body_alike a b alike body lawful.3 (item_gives ws reads_bit P list body others read)) there)

    arms_alike :
        (a b : Maps) → AreAlike d P a b → (kind : CaseKind) (selector : Tree) (bits : List Bit) (branches : Branches) →
        AreBranches d.signals selector branches → AgreeOn a.now b.now (reads_all ws (labels_of branches)) → GivesItems ws reads_bit P branches →
        AllAlike d P (act_arms ws f a kind bits branches) (act_arms ws f b kind bits branches)
    arms_alike a b alike kind selector bits NoBranch lawful labels read = tt
    arms_alike a b alike kind selector bits (Branch list body others) lawful labels read =
        let there = arms_alike a b alike kind selector bits others lawful.4 (all_right ws a.now b.now list (labels_of others) labels) (later_give ws reads_bit P list body others read) in
        subst (λ c. AllAlike d P (if c then acts ws f (fresh a) body ∷ act_arms ws f a kind bits others else act_arms ws f a kind bits others) (if some_meets f b.now kind bits list then acts ws f (fresh b) body ∷ act_arms ws f b kind bits others else act_arms ws f b kind bits others))
        (sym (same_meets d f a.now b.now alike.wide alike.wide' kind bits list lawful.0 (all_left ws a.now b.now list (labels_of others) labels)))
        (either_arms d P (some_meets f b.now kind bits list) (acts ws f (fresh a) body) (acts ws f (fresh b) body) (act_arms ws f a kind bits others) (act_arms ws f b kind bits others)
        (body_alike (fresh a) (fresh b) (fresh_alike d P a b alike) body lawful.3 (item_gives ws reads_bit P list body others read)) there)
