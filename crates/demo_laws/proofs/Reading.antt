-- Numbers that agree on what is read make the same writes and take the same items.
use Rattle.std.proofs.Common.{◌≡◌, ◌∙◌, ◌≤◌, ◌==◌, ℕ, ℤ, pos, ◌-ℤ◌, true, cond, ◌||◌, nat_le, nat_lt, List, [], ◌∷◌, ◌++◌, length, All, refl, sym, ap, inl, inr, arith}
use Rattle.std.specs.List.{list_any}
use Rattle.std.proofs.lemmas.Bool.{and_from, and_parts, false≢true, le-leb, or_cases, or_left, or_right}
use Rattle.std.proofs.lemmas.List.Elements.{All-head, All-tail}
use Rattle.std.proofs.lemmas.List.Folds.{list_any-append}
use Rattle.rtl_bits.specs.declared.Bit.{Bit}
use Rattle.rtl_bits.specs.Bits.{selected}
use Rattle.rtl_flat.specs.declared.act.CaseKind.{CaseKind}
use Rattle.rtl_flat.specs.Expression.{Tree}
use Rattle.rtl_flat.specs.Flows.{index_reads, labels_of, may_select, may_target, reads, reads_all, selects, target_reads, targets}
use Rattle.rtl_flat.specs.Labels.{label_matches}
use Rattle.rtl_flat.specs.Paths.{BitSet, either}
use Rattle.rtl_flat.specs.Process.{Piece, Selection, Whole, BitAt, BitBy, Part, Branches, NoBranch, Branch}
use Rattle.rtl_flat.specs.Signs.{IsExpression, sign_of}
use Rattle.rtl_flat.specs.Value.{index_number, value}
use Rattle.rtl_flat.specs.WellFormed.{AreBranches, IsSelection}
use Rattle.rtl_flat.specs.Flats.{Flat, widths}
use Rattle.event_model.specs.Traces.{covers}
use Rattle.event_model.specs.Writes.{Values, bit_inside, count_of, counts, write_at}
use Rattle.demo_clean.specs.event_laws.Steady.{HaveWidths, IsWithin}
use Rattle.demo_clean.proofs.event_laws_proofs.Agreement.{value_agrees}
use Rattle.demo_clean.proofs.event_laws_proofs.Inside.{AreSelections, at_most}
use Rattle.demo_clean.proofs.event_laws_proofs.Sizes.{selected_length}
use Rattle.demo_clean.proofs.event_laws_proofs.Targets as target
use Rattle.demo_clean.proofs.event_laws_proofs.Targets.{IsOver, left_within, none_over, right_within}
use Rattle.net_model.specs.declared.fill.Fill.{Fill}
use Rattle.net_model.specs.Block.{digit_writes, item_meets, some_meets, span_by}
use Rattle.net_model.specs.Numbers.{digits, is_literal, label_digits, label_meets}
use Rattle.demo_clean.proofs.net_laws_proofs.Known.{both}
use Rattle.demo_clean.proofs.net_solve_proofs.Digits.{AgreeOn, same_digits}

pub on_left : (n m : Values) (a b : BitSet) → AgreeOn n m (either a b) → AgreeOn n m a
on_left n m a b same i k is = same i k (or_left (a i k) (b i k) is)

pub on_right : (n m : Values) (a b : BitSet) → AgreeOn n m (either a b) → AgreeOn n m b
on_right n m a b same i k is = same i k (or_right (a i k) (b i k) is)

all_left : (ws : ℕ → ℕ) (n m : Values) (xs ys : List Tree) → AgreeOn n m (reads_all ws (xs ++ ys)) → AgreeOn n m (reads_all ws xs)
all_left ws n m xs ys same i k is = same i k (front xs is)
  where
    front : (zs : List Tree) → reads_all ws zs i k ≡ true → reads_all ws (zs ++ ys) i k ≡ true
    front [] h = absurd (cc)
    front (z ∷ zs) h =
        elim (or_cases (reads ws z i k) (reads_all ws zs i k) h) [
          | inl here ↦ or_left (reads ws z i k) (reads_all ws (zs ++ ys) i k) here
          | inr there ↦ or_right (reads ws z i k) (reads_all ws (zs ++ ys) i k) (front zs there)
        ]

all_right : (ws : ℕ → ℕ) (n m : Values) (xs ys : List Tree) → AgreeOn n m (reads_all ws (xs ++ ys)) → AgreeOn n m (reads_all ws ys)
all_right ws n m [] ys same = same
all_right ws n m (x ∷ xs) ys same =
    all_right ws n m xs ys (on_right n m (reads ws x) (reads_all ws (xs ++ ys)) same)

-- ---- writes and items

module _ (d : Flat) (f : Fill) (n m : Values) (wide : HaveWidths d n) (wide' : HaveWidths d m) where
  same_span : (signal : ℕ) (selection : Selection) → IsSelection d.signals signal selection → AgreeOn n m (index_reads (widths d) selection) → span_by (widths d) f n signal selection ≡ span_by (widths d) f m signal selection
  same_span signal Whole lawful same = refl
  same_span signal (BitAt low index) lawful same = refl
  same_span signal (BitBy low index) lawful same =
      ap (λ a. bit_inside (widths d signal) (index_number (sign_of index) a -ℤ pos low)) (same_digits d f n m wide wide' index lawful.1.widths same)
  same_span signal (Part low width) lawful same = refl

  pub same_writes : (target : List Piece) → AreSelections d.signals target → AgreeOn n m (target_reads (widths d) target) → (bits : List Bit) → digit_writes (widths d) f n target bits ≡ digit_writes (widths d) f m target bits
  same_writes [] lawful same bits = refl
  same_writes (piece ∷ others) lawful same bits =
      let ws = widths d in
      let part = selected (counts ws others) (count_of ws piece.signal piece.selection) bits in
      ap (λ at. write_at piece.signal at part ++ digit_writes ws f n others bits)
      (same_span piece.signal piece.selection (All-head (λ (one : Piece). IsSelection d.signals one.signal one.selection) piece others lawful)
      (on_left n m (index_reads ws piece.selection) (target_reads ws others) same))
      ∙ ap (λ us. write_at piece.signal (span_by ws f m piece.signal piece.selection) part ++ us)
      (same_writes others (All-tail (λ (one : Piece). IsSelection d.signals one.signal one.selection) piece others lawful)
      (on_right n m (index_reads ws piece.selection) (target_reads ws others) same) bits)

  same_label : (label : Tree) → IsExpression d.signals label → AgreeOn n m (reads (widths d) label) → label_digits f n label ≡ label_digits f m label
  same_label label lawful same =
      both (λ x y. cond (is_literal label) x y) (value n label) (value m label) (digits f n label) (digits f m label)
      (value_agrees (length d.signals) (widths d) n m (λ i below. wide i) (λ i below. wide' i) label lawful.widths same)
      (same_digits d f n m wide wide' label lawful.widths same)

  same_meets : (kind : CaseKind) (bits : List Bit) (labels : List Tree) → All (IsExpression d.signals) labels → AgreeOn n m (reads_all (widths d) labels) → some_meets f n kind bits labels ≡ some_meets f m kind bits labels
  same_meets kind bits [] lawful same = refl
  same_meets kind bits (label ∷ others) lawful same =
      let ws = widths d in
      ap (λ a. label_matches kind bits a || some_meets f n kind bits others)
      (same_label label (All-head (IsExpression d.signals) label others lawful) (on_left n m (reads ws label) (reads_all ws others) same))
      ∙ ap (λ b. label_meets f m kind bits label || b)
      (same_meets kind bits others (All-tail (IsExpression d.signals) label others lawful) (on_right n m (reads ws label) (reads_all ws others) same))

  -- each item is met by both, or by none
  abbrev pub SameItems : CaseKind → List Bit → Branches → Type 0
  SameItems kind bits NoBranch = Unit {0}
  SameItems kind bits (Branch labels body others) =
      (some_meets f n kind bits labels ≡ some_meets f m kind bits labels) × SameItems kind bits others

  pub same_items : (kind : CaseKind) (selector : Tree) (bits : List Bit) (branches : Branches) → AreBranches d.signals selector branches → AgreeOn n m (reads_all (widths d) (labels_of branches)) → SameItems kind bits branches
  same_items kind selector bits NoBranch lawful same = tt
  same_items kind selector bits (Branch labels body others) lawful same = (
    same_meets kind bits labels lawful.0 (all_left (widths d) n m labels (labels_of others) same),
    same_items kind selector bits others lawful.4 (all_right (widths d) n m labels (labels_of others) same),
  )

  pub same_some : (kind : CaseKind) (bits : List Bit) (branches : Branches) → SameItems kind bits branches → item_meets f n kind bits branches ≡ item_meets f m kind bits branches
  same_some kind bits NoBranch same = refl
  same_some kind bits (Branch labels body others) same =
      both (λ x y. x || y) (some_meets f n kind bits labels) (some_meets f m kind bits labels) (item_meets f n kind bits others) (item_meets f m kind bits others)
      same.0 (same_some kind bits others same.1)

-- ---- which bits the writes of a target are over

module _ (ws : ℕ → ℕ) (f : Fill) (n : Values) where
  part_over :
      (signal : ℕ) (selection : Selection) (i k : ℕ) (bits : List Bit) → length bits ≡ count_of ws signal selection →
      selects ws signal selection i k ≡ true → IsOver i k (write_at signal (span_by ws f n signal selection) bits)
  part_over signal Whole i k bits size is = target.part_over ws n signal Whole i k bits size is
  part_over signal (BitAt low index) i k bits size is = target.part_over ws n signal (BitAt low index) i k bits size is
  part_over signal (BitBy low index) i k bits size is = absurd (false≢true is)
  part_over signal (Part low width) i k bits size is = target.part_over ws n signal (Part low width) i k bits size is

  pub target_over :
      (pieces : List Piece) (bits : List Bit) → counts ws pieces ≤ length bits → (i k : ℕ) →
      targets ws pieces i k ≡ true → IsOver i k (digit_writes ws f n pieces bits)
  target_over [] bits enough i k is = absurd (false≢true is)
  target_over (piece ∷ others) bits enough i k is =
      let count = count_of ws piece.signal piece.selection in
      let part = selected (counts ws others) count bits in
      let here = write_at piece.signal (span_by ws f n piece.signal piece.selection) part in
      list_any-append (covers i k) here (digit_writes ws f n others bits)
      ∙ elim (or_cases (selects ws piece.signal piece.selection i k) (targets ws others i k) is) [
        | inl chosen ↦
            or_left (list_any (covers i k) here) _
            (part_over piece.signal piece.selection i k part (selected_length (counts ws others) count bits (omega (arith, enough))) chosen)
        | inr there ↦
            or_right (list_any (covers i k) here) _ (target_over others bits (omega (arith, enough)) i k there)
      ]

  -- the bit that a computed index means is one of the signal's
  any_bit : (signal low i k : ℕ) (index : ℤ) → may_select ws signal (BitAt low index) i k ≡ true → (e : Tree) → may_select ws signal (BitBy low e) i k ≡ true
  any_bit signal low i k index is e =
      let (here, inside) = and_parts (i == signal) _ is in
      let (below, place) = and_parts (nat_lt k (ws signal)) _ inside in
      and_from (i == signal) _ here (and_from (nat_le 0 k) _ (le-leb 0 k (omega arith)) (and_from (nat_lt k (ws signal)) _ below below))

  part_may :
      (signal : ℕ) (selection : Selection) (i k : ℕ) (bits : List Bit) → length bits ≤ count_of ws signal selection →
      All (IsWithin ws) (write_at signal (span_by ws f n signal selection) bits) → IsOver i k (write_at signal (span_by ws f n signal selection) bits) →
      may_select ws signal selection i k ≡ true
  part_may signal Whole i k bits few within over = target.part_may ws n signal Whole i k bits few within over
  part_may signal (BitAt low index) i k bits few within over = target.part_may ws n signal (BitAt low index) i k bits few within over
  part_may signal (BitBy low index) i k bits few within over =
      let place = index_number (sign_of index) (digits f n index) in
      any_bit signal low i k place (target.part_may ws n signal (BitAt low place) i k bits few within over) index
  part_may signal (Part low width) i k bits few within over = target.part_may ws n signal (Part low width) i k bits few within over

  pub all_may :
      (pieces : List Piece) (bits : List Bit) → All (IsWithin ws) (digit_writes ws f n pieces bits) → (i k : ℕ) →
      IsOver i k (digit_writes ws f n pieces bits) → may_target ws pieces i k ≡ true
  all_may [] bits within i k over = absurd (none_over i k over)
  all_may (piece ∷ others) bits within i k over =
      let count = count_of ws piece.signal piece.selection in
      let part = selected (counts ws others) count bits in
      let here = write_at piece.signal (span_by ws f n piece.signal piece.selection) part in
      elim (or_cases (list_any (covers i k) here) (list_any (covers i k) (digit_writes ws f n others bits)) (sym (list_any-append (covers i k) here (digit_writes ws f n others bits)) ∙ over)) [
        | inl first ↦
            or_left (may_select ws piece.signal piece.selection i k) _
            (part_may piece.signal piece.selection i k part (at_most (counts ws others) count bits) (left_within ws here (digit_writes ws f n others bits) within) first)
        | inr there ↦
            or_right (may_select ws piece.signal piece.selection i k) _ (all_may others bits (right_within ws here (digit_writes ws f n others bits) within) i k there)
      ]
