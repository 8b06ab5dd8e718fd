-- Masks of what may be written, and marks that are filled by them.
use Rattle.std.proofs.Common.{◌≡◌, ◌≢◌, ◌∙◌, ℕ, ◌+◌, ◌<◌, ◌==◌, Bool, true, false, cond, not, ◌&&◌, ◌||◌, nat_le, nat_lt, List, [], length, get_or, set, replicate, Option, Some, None, refl, sym, ap, inl, inr}
use Rattle.std.proofs.lemmas.Bool.{and_parts, cases_eq, eq-eqb, ltb-true, ne_eqb}
use Rattle.std.proofs.lemmas.List.{get_or-set_same, get_or-set_other}
use mathlib.Core.Path.{fun_ext}
use Rattle.rtl_bits.specs.declared.Bit.{Bit}
use Rattle.rtl_bits.specs.declared.Bit.TheVariants.{X}
use Rattle.rtl_bits.specs.Bits.{is_one_at, tabulate}
use Rattle.rtl_bits.proofs.Lists.{tabulate-congr}
use Rattle.rtl_flat.specs.Flows.{is_place, may_select}
use Rattle.rtl_flat.specs.Paths.{BitSet}
use Rattle.rtl_flat.specs.Process.{Selection, Whole, BitAt, BitBy, Part}
use Rattle.rtl_flat.specs.Value.{store}
use Rattle.rtl_scan.specs.declared.bits.Row.{Row}
use Rattle.rtl_scan.specs.Sets.{has_row}
use Rattle.net_model.specs.declared.fill.Fill.{Fill}
use Rattle.net_model.specs.Block.{filled_case, with_bits}
use Rattle.net_model.specs.Numbers.{bit, fill_bit}
use Rattle.net_body.specs.declared.mark.Mark.{Mark}
use Rattle.net_body.specs.Marks.{maps, next_bit, view_at}
use Rattle.net_body.proofs.Filled.{or_none, tabulate_own, with_none}
use Rattle.net_body.proofs.Merging.{pick_filled}
use Rattle.net_body.proofs.Seen.{same_maps, seen_kept, seen_other, seen_read, seen_same}

-- ---- masks

pub may_other : (ws : ℕ → ℕ) (signal : ℕ) (selection : Selection) (s k : ℕ) → s ≢ signal → may_select ws signal selection s k ≡ false
may_other ws signal Whole s k apart =
    ap (λ b. b && (nat_le 0 k && (nat_lt k (ws signal) && nat_lt k (ws signal)))) (ne_eqb s signal apart)
may_other ws signal (BitAt low index) s k apart =
    ap (λ b. b && (nat_lt k (ws signal) && is_place low index k)) (ne_eqb s signal apart)
may_other ws signal (BitBy low index) s k apart =
    ap (λ b. b && (nat_le 0 k && (nat_lt k (ws signal) && nat_lt k (ws signal)))) (ne_eqb s signal apart)
may_other ws signal (Part low width) s k apart =
    ap (λ b. b && (nat_le low k && (nat_lt k (low + width) && nat_lt k (ws signal)))) (ne_eqb s signal apart)

in_span : (a b c e : Bool) → (a && (b && (c && e))) ≡ true → e ≡ true
in_span a b c e h = (and_parts c e (and_parts b (c && e) (and_parts a (b && (c && e)) h).1).1).1

may_within : (ws : ℕ → ℕ) (signal : ℕ) (selection : Selection) (s k : ℕ) → may_select ws signal selection s k ≡ true → k < ws signal
may_within ws signal Whole s k h =
    ltb-true k (ws signal) (in_span (s == signal) (nat_le 0 k) (nat_lt k (ws signal)) (nat_lt k (ws signal)) h)
may_within ws signal (BitAt low index) s k h =
    ltb-true k (ws signal) (and_parts (nat_lt k (ws signal)) (is_place low index k) (and_parts (s == signal) (nat_lt k (ws signal) && is_place low index k) h).1).0
may_within ws signal (BitBy low index) s k h =
    ltb-true k (ws signal) (in_span (s == signal) (nat_le 0 k) (nat_lt k (ws signal)) (nat_lt k (ws signal)) h)
may_within ws signal (Part low width) s k h =
    ltb-true k (ws signal) (in_span (s == signal) (nat_le low k) (nat_lt k (low + width)) (nat_lt k (ws signal)) h)

module _ (ws : ℕ → ℕ) (signal : ℕ) (selection : Selection) (row : Row) (is : (s k : ℕ) → has_row row s k ≡ may_select ws signal selection s k) where
  own_row : (s k : ℕ) → s ≡ row.signal.0 → has_row row s k ≡ is_one_at row.mask k
  own_row s k here = ap (λ b. b && is_one_at row.mask k) (eq-eqb s row.signal.0 here)

  -- the mask of a row is of its signal
  pub may_mask : (s k : ℕ) → may_select ws signal selection s k ≡ ((s == signal) && is_one_at row.mask k)
  may_mask s k =
      elim (cases_eq s signal) as (λ _. may_select ws signal selection s k ≡ ((s == signal) && is_one_at row.mask k)) [
        | inl same ↦
            elim (cases_eq s row.signal.0) as (λ _. may_select ws signal selection s k ≡ ((s == signal) && is_one_at row.mask k)) [
              | inl here ↦ sym (is s k) ∙ own_row s k here ∙ sym (ap (λ b. b && is_one_at row.mask k) (eq-eqb s signal same))
              | inr other ↦
                  sym (is s k) ∙ ap (λ b. b && is_one_at row.mask k) (ne_eqb s row.signal.0 other)
                  ∙ sym (ap (λ b. b && is_one_at row.mask k) (eq-eqb s signal same) ∙ sym (own_row row.signal.0 k refl) ∙ is row.signal.0 k
                  ∙ may_other ws signal selection row.signal.0 k (λ e. other (same ∙ sym e)))
            ]
        | inr apart ↦ may_other ws signal selection s k apart ∙ sym (ap (λ b. b && is_one_at row.mask k) (ne_eqb s signal apart))
      ]

  pub mask_within : (k : ℕ) → is_one_at row.mask k ≡ true → k < ws signal
  mask_within k h =
      may_within ws signal selection signal k (may_mask signal k ∙ ap (λ b. b && is_one_at row.mask k) (eq-eqb signal signal refl) ∙ h)

-- ---- what a mask fills

-- what changes in the places of a mask of one signal
at_mask : {A : Type 0} → (op : Bool → A → A) (f g : ℕ → ℕ → A) (i mask : ℕ) (may : BitSet) → ((a : A) → op false a ≡ a) → ((k : ℕ) → g i k ≡ op (is_one_at mask k) (f i k)) → ((j : ℕ) → j ≢ i → g j ≡ f j) → ((j k : ℕ) → may j k ≡ ((j == i) && is_one_at mask k)) → (j k : ℕ) → g j k ≡ op (may j k) (f j k)
at_mask op f g i mask may none here other is j k =
    elim (cases_eq j i) as (λ _. g j k ≡ op (may j k) (f j k)) [
      | inl same ↦
          ap (λ s. g s k) same ∙ here k ∙ ap (λ s. op (is_one_at mask k) (f s k)) (sym same)
          ∙ sym (ap (λ b. op b (f j k)) (is j k ∙ ap (λ b. b && is_one_at mask k) (eq-eqb j i same)))
      | inr apart ↦
          ap (λ (h : ℕ → _). h k) (other j apart) ∙ sym (none (f j k))
          ∙ sym (ap (λ b. op b (f j k)) (is j k ∙ ap (λ b. b && is_one_at mask k) (ne_eqb j i apart)))
    ]

abbrev add : Bool → Bool → Bool
add b a = b || a

abbrev give : Bit → Bool → Option Bit → Option Bit
give new b a = cond b (Some new) a

module _ (numbers : List (List Bit)) (marks : List Mark) (i mask : ℕ) (f : Fill) (may : BitSet) (may_is : (j k : ℕ) → may j k ≡ ((j == i) && is_one_at mask k)) (m n : Mark) (marked : i < length marks) (is : m ≡ get_or marks i m) where
  seen_mask : (g : Mark → ℕ → Bool) → ((k : ℕ) → g n k ≡ (is_one_at mask k || g m k)) → (j k : ℕ) → view_at g (λ x. false) (set marks i n) j k ≡ (may j k || view_at g (λ x. false) marks j k)
  seen_mask g here =
      at_mask add (view_at g (λ x. false) marks) (view_at g (λ x. false) (set marks i n)) i mask may (λ a. refl)
      (λ k. ap (λ (h : ℕ → Bool). h k) (seen_same g (λ x. false) marks i n marked) ∙ here k
      ∙ ap (λ (h : ℕ → Bool). is_one_at mask k || h k) (seen_read g (λ x. false) marks i m marked is))
      (λ j apart. seen_other g (λ x. false) marks i n j apart) may_is

  pub fill_next_is :
      ((k : ℕ) → next_bit n k ≡ cond (is_one_at mask k) (Some (fill_bit f)) (next_bit m k)) →
      ((k : ℕ) → is_one_at n.wrote k ≡ (is_one_at mask k || is_one_at m.wrote k)) →
      ((k : ℕ) → is_one_at n.late k ≡ (is_one_at mask k || is_one_at m.late k)) →
      maps numbers (set marks i n) ≡ filled_case f (λ j k. not true && may j k) (λ j k. true && may j k) (maps numbers marks)
  fill_next_is next wrote late =
      same_maps (maps numbers (set marks i n)) (filled_case f (λ j k. not true && may j k) (λ j k. true && may j k) (maps numbers marks))
      (sym (with_none (store numbers) (λ j k. fill_bit f)))
      (fun_ext (λ j. fun_ext (λ k. at_mask (give (fill_bit f)) (view_at next_bit (λ x. None) marks) (view_at next_bit (λ x. None) (set marks i n)) i mask may (λ a. refl)
      (λ l. ap (λ (h : ℕ → Option Bit). h l) (seen_same next_bit (λ x. None) marks i n marked) ∙ next l
      ∙ ap (λ (h : ℕ → Option Bit). cond (is_one_at mask l) (Some (fill_bit f)) (h l)) (seen_read next_bit (λ x. None) marks i m marked is))
      (λ l apart. seen_other next_bit (λ x. None) marks i n l apart) may_is j k)))
      (fun_ext (λ j. fun_ext (λ k. seen_mask (λ mark. is_one_at mark.wrote) wrote j k)))
      (fun_ext (λ j. fun_ext (λ k. seen_mask (λ mark. is_one_at mark.late) late j k)))

  filled_numbers : (filled bits : List Bit) → i < length numbers → filled ≡ replicate (length (store numbers i)) (fill_bit f) → bits ≡ tabulate (length (store numbers i)) (λ k. cond (is_one_at mask k) (get_or filled k X) (get_or (store numbers i) k X)) → store (set numbers i bits) ≡ with_bits (store numbers) may (λ j k. fill_bit f)
  filled_numbers filled bits there filled_is bits_are =
      fun_ext (λ j. elim (cases_eq j i) as (λ _. store (set numbers i bits) j ≡ with_bits (store numbers) may (λ s k. fill_bit f) j) [
        | inl same ↦
            ap (store (set numbers i bits)) same ∙ get_or-set_same numbers i bits [] there ∙ bits_are
            ∙ tabulate-congr (length (store numbers i)) (λ k. cond (is_one_at mask k) (get_or filled k X) (get_or (store numbers i) k X)) (λ k. cond (may i k) (fill_bit f) (bit (store numbers) i k))
            (λ k below. pick_filled mask (length (store numbers i)) (fill_bit f) (get_or (store numbers i) k X) filled k filled_is below
            ∙ sym (ap (λ b. cond b (fill_bit f) (bit (store numbers) i k)) (may_is i k ∙ ap (λ b. b && is_one_at mask k) (eq-eqb i i refl))))
            ∙ sym (ap (with_bits (store numbers) may (λ s k. fill_bit f)) same)
        | inr apart ↦
            get_or-set_other numbers i j bits [] apart ∙ sym (tabulate_own (store numbers j))
            ∙ tabulate-congr (length (store numbers j)) (λ k. get_or (store numbers j) k X) (λ k. cond (may j k) (fill_bit f) (bit (store numbers) j k))
            (λ k below. sym (ap (λ b. cond b (fill_bit f) (bit (store numbers) j k)) (may_is j k ∙ ap (λ b. b && is_one_at mask k) (ne_eqb j i apart))))
      ])

  pub fill_now_is :
      (filled bits : List Bit) → i < length numbers → filled ≡ replicate (length (store numbers i)) (fill_bit f) →
      bits ≡ tabulate (length (store numbers i)) (λ k. cond (is_one_at mask k) (get_or filled k X) (get_or (store numbers i) k X)) →
      n.next ≡ m.next → n.has_next ≡ m.has_next → ((k : ℕ) → is_one_at n.wrote k ≡ (is_one_at mask k || is_one_at m.wrote k)) → n.late ≡ m.late →
      maps (set numbers i bits) (set marks i n) ≡ filled_case f (λ j k. not false && may j k) (λ j k. false && may j k) (maps numbers marks)
  fill_now_is filled bits there filled_is bits_are next has_next wrote late =
      same_maps (maps (set numbers i bits) (set marks i n)) (filled_case f (λ j k. not false && may j k) (λ j k. false && may j k) (maps numbers marks))
      (filled_numbers filled bits there filled_is bits_are)
      (seen_kept next_bit (λ k. None) marks i n marked
      (fun_ext (λ k. ap (λ (h : ℕ). cond (is_one_at h k) (Some (get_or n.next k X)) None) has_next ∙ ap (λ (xs : List Bit). cond (is_one_at m.has_next k) (Some (get_or xs k X)) None) next)
      ∙ seen_read next_bit (λ k. None) marks i m marked is))
      (fun_ext (λ j. fun_ext (λ k. seen_mask (λ mark. is_one_at mark.wrote) wrote j k
      ∙ sym (ap (λ b. b || view_at (λ mark. is_one_at mark.wrote) (λ x. false) marks j k) (or_none (may j k))))))
      (seen_kept (λ mark. is_one_at mark.late) (λ k. false) marks i n marked
      (ap is_one_at late ∙ seen_read (λ mark. is_one_at mark.late) (λ k. false) marks i m marked is))
