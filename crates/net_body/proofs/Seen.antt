-- Digits and marks of which one is set.
use Rattle.std.proofs.Common.{◌≡◌, ◌≢◌, ◌∙◌, ℕ, zero, suc, ◌<◌, ◌-◌, Bool, false, cond, ◌&&◌, ◌||◌, List, [], ◌∷◌, length, get_or, set, Option, Some, None, refl, sym, ap, inl, inr, arith}
use Rattle.std.proofs.lemmas.Bool.{cases_eq, eq-eqb, ne_eqb}
use Rattle.std.proofs.lemmas.List.{get_or-set_same, get_or-set_other, length-set}
use mathlib.Core.Path.{fun_ext}
use Rattle.rtl_bits.specs.declared.Bit.{Bit}
use Rattle.rtl_bits.specs.declared.Bit.TheVariants.{X}
use Rattle.rtl_bits.specs.Bits.{is_one_at, replaced}
use Rattle.rtl_flat.specs.declared.signal.Signal.{Signal}
use Rattle.rtl_flat.specs.Paths.{BitSet, either}
use Rattle.rtl_flat.specs.Signs.{width_in}
use Rattle.rtl_flat.specs.Value.{store, widths}
use Rattle.event_model.specs.Traces.{covers}
use Rattle.event_model.specs.Writes.{Values, Write, put}
use Rattle.net_number.proofs.event_laws_proofs.Lengths.{put_at, put_other}
use Rattle.net_model.specs.Block.{Maps, write_next, write_now}
use Rattle.net_body.specs.declared.mark.Mark.{Mark}
use Rattle.net_body.specs.Marks.{AreKept, AreStored, is_over, maps, next_bit, view_at}

-- ---- maps from their parts

pub same_maps : (a b : Maps) → a.now ≡ b.now → a.next ≡ b.next → a.wrote ≡ b.wrote → a.late ≡ b.late → a ≡ b
same_maps a b now next wrote late =
    ap (λ (x : Values). record { now = x; next = a.next; wrote = a.wrote; late = a.late }) now
    ∙ ap (λ (x : ℕ → ℕ → Option Bit). record { now = b.now; next = x; wrote = a.wrote; late = a.late }) next
    ∙ ap (λ (x : BitSet). record { now = b.now; next = b.next; wrote = x; late = a.late }) wrote
    ∙ ap (λ (x : BitSet). record { now = b.now; next = b.next; wrote = b.wrote; late = x }) late

-- a function that differs from another at one place
pub put_is : {A : Type 0} → (f g : ℕ → A) (i : ℕ) (a : A) → g i ≡ a → ((j : ℕ) → j ≢ i → g j ≡ f j) → g ≡ put f i a
put_is f g i a here other =
    fun_ext (λ j. elim (cases_eq j i) as (λ _. g j ≡ put f i a j) [
      | inl same ↦ ap g same ∙ here ∙ sym (put_at f i j a same)
      | inr apart ↦ other j apart ∙ sym (put_other f i j a apart)
    ])

-- ---- one that is set

pub seen_same : {A B : Type 0} → (f : B → A) (none : A) (marks : List B) (i : ℕ) (m : B) → i < length marks → view_at f none (set marks i m) i ≡ f m
seen_same f none [] i m h = absurd (omega (arith, h))
seen_same f none (x ∷ marks) zero m h = refl
seen_same f none (x ∷ marks) (suc i) m h = seen_same f none marks i m (omega (arith, h))

pub seen_other : {A B : Type 0} → (f : B → A) (none : A) (marks : List B) (i : ℕ) (m : B) (j : ℕ) → j ≢ i → view_at f none (set marks i m) j ≡ view_at f none marks j
seen_other f none [] i m j apart = refl
seen_other f none (x ∷ marks) zero m zero apart = absurd (apart refl)
seen_other f none (x ∷ marks) zero m (suc j) apart = refl
seen_other f none (x ∷ marks) (suc i) m zero apart = refl
seen_other f none (x ∷ marks) (suc i) m (suc j) apart =
    seen_other f none marks i m j (λ e. apart (ap suc e))

pub seen_read : {A B : Type 0} → (f : B → A) (none : A) (marks : List B) (i : ℕ) (m : B) → i < length marks → m ≡ get_or marks i m → f m ≡ view_at f none marks i
seen_read f none [] i m h is = absurd (omega (arith, h))
seen_read f none (x ∷ marks) zero m h is = ap f is
seen_read f none (x ∷ marks) (suc i) m h is = seen_read f none marks i m (omega (arith, h)) is

pub store_set : (numbers : List (List Bit)) (i : ℕ) (bits : List Bit) → i < length numbers → store (set numbers i bits) ≡ put (store numbers) i bits
store_set numbers i bits h =
    put_is (store numbers) (store (set numbers i bits)) i bits (get_or-set_same numbers i bits [] h) (λ j apart. get_or-set_other numbers i j bits [] apart)

-- nothing is seen to change
pub seen_kept : {A B : Type 0} → (f : B → A) (none : A) (marks : List B) (i : ℕ) (m : B) → i < length marks → f m ≡ view_at f none marks i → view_at f none (set marks i m) ≡ view_at f none marks
seen_kept f none marks i m h is =
    fun_ext (λ j. elim (cases_eq j i) as (λ _. view_at f none (set marks i m) j ≡ view_at f none marks j) [
      | inl same ↦ ap (view_at f none (set marks i m)) same ∙ seen_same f none marks i m h ∙ is ∙ sym (ap (view_at f none marks) same)
      | inr apart ↦ seen_other f none marks i m j apart
    ])

-- ---- a write

-- what changes where a write is over a bit
pub at_write : {A : Type 0} → (op : Bool → ℕ → A → A) (f g : ℕ → ℕ → A) (w : Write) → ((k : ℕ) (a : A) → op false k a ≡ a) → ((k : ℕ) → g w.signal k ≡ op (is_over w.at (length w.bits) k) k (f w.signal k)) → ((j : ℕ) → j ≢ w.signal → g j ≡ f j) → g ≡ (λ j k. op (covers j k w) k (f j k))
at_write op f g w none here other =
    fun_ext (λ j. fun_ext (λ k. elim (cases_eq j w.signal) as (λ _. g j k ≡ op (covers j k w) k (f j k)) [
      | inl same ↦
          ap (λ s. g s k) same ∙ here k ∙ ap (λ s. op (is_over w.at (length w.bits) k) k (f s k)) (sym same)
          ∙ sym (ap (λ b. op (b && is_over w.at (length w.bits) k) k (f j k)) (eq-eqb w.signal j (sym same)))
      | inr apart ↦
          ap (λ (h : ℕ → _). h k) (other j apart) ∙ sym (none k (f j k))
          ∙ sym (ap (λ b. op (b && is_over w.at (length w.bits) k) k (f j k)) (ne_eqb w.signal j (λ e. apart (sym e))))
    ]))

abbrev add_bit : Bool → ℕ → Bool → Bool
add_bit b k a = b || a

abbrev give_bit : Write → Bool → ℕ → Option Bit → Option Bit
give_bit w b k a = cond b (Some (get_or w.bits (k - w.at) X)) a

module _ (numbers : List (List Bit)) (marks : List Mark) (w : Write) (m n : Mark) (marked : w.signal < length marks) (is : m ≡ get_or marks w.signal m) where
  wrote_is : (f : Mark → ℕ → Bool) → ((k : ℕ) → f n k ≡ (is_over w.at (length w.bits) k || f m k)) → view_at f (λ k. false) (set marks w.signal n) ≡ either (λ i k. covers i k w) (view_at f (λ k. false) marks)
  wrote_is f here =
      at_write add_bit (view_at f (λ k. false) marks) (view_at f (λ k. false) (set marks w.signal n)) w (λ k a. refl)
      (λ k. ap (λ (h : ℕ → Bool). h k) (seen_same f (λ k. false) marks w.signal n marked) ∙ here k
      ∙ ap (λ (h : ℕ → Bool). is_over w.at (length w.bits) k || h k) (seen_read f (λ k. false) marks w.signal m marked is))
      (λ j apart. seen_other f (λ k. false) marks w.signal n j apart)

  pub now_is :
      w.signal < length numbers → n.next ≡ m.next → n.has_next ≡ m.has_next →
      ((k : ℕ) → is_one_at n.wrote k ≡ (is_over w.at (length w.bits) k || is_one_at m.wrote k)) → n.late ≡ m.late →
      maps (set numbers w.signal (replaced w.at w.bits (store numbers w.signal))) (set marks w.signal n) ≡ write_now (maps numbers marks) w
  now_is stored next has_next wrote late =
      same_maps (maps (set numbers w.signal (replaced w.at w.bits (store numbers w.signal))) (set marks w.signal n)) (write_now (maps numbers marks) w)
      (store_set numbers w.signal (replaced w.at w.bits (store numbers w.signal)) stored)
      (seen_kept next_bit (λ k. None) marks w.signal n marked
      (fun_ext (λ k. ap (λ (h : ℕ). cond (is_one_at h k) (Some (get_or n.next k X)) None) has_next ∙ ap (λ (bits : List Bit). cond (is_one_at m.has_next k) (Some (get_or bits k X)) None) next)
      ∙ seen_read next_bit (λ k. None) marks w.signal m marked is))
      (wrote_is (λ mark. is_one_at mark.wrote) wrote)
      (seen_kept (λ mark. is_one_at mark.late) (λ k. false) marks w.signal n marked
      (ap is_one_at late ∙ seen_read (λ mark. is_one_at mark.late) (λ k. false) marks w.signal m marked is))

  pub next_is :
      ((k : ℕ) → next_bit n k ≡ cond (is_over w.at (length w.bits) k) (Some (get_or w.bits (k - w.at) X)) (next_bit m k)) →
      ((k : ℕ) → is_one_at n.wrote k ≡ (is_over w.at (length w.bits) k || is_one_at m.wrote k)) →
      ((k : ℕ) → is_one_at n.late k ≡ (is_over w.at (length w.bits) k || is_one_at m.late k)) →
      maps numbers (set marks w.signal n) ≡ write_next (maps numbers marks) w
  next_is next wrote late =
      same_maps (maps numbers (set marks w.signal n)) (write_next (maps numbers marks) w) refl
      (at_write (give_bit w) (view_at next_bit (λ k. None) marks) (view_at next_bit (λ k. None) (set marks w.signal n)) w (λ k a. refl)
      (λ k. ap (λ (h : ℕ → Option Bit). h k) (seen_same next_bit (λ k. None) marks w.signal n marked) ∙ next k
      ∙ ap (λ (h : ℕ → Option Bit). give_bit w (is_over w.at (length w.bits) k) k (h k)) (seen_read next_bit (λ k. None) marks w.signal m marked is))
      (λ j apart. seen_other next_bit (λ k. None) marks w.signal n j apart))
      (wrote_is (λ mark. is_one_at mark.wrote) wrote)
      (wrote_is (λ mark. is_one_at mark.late) late)

-- ---- widths

pub kept_number : (signals : List Signal) (numbers : List (List Bit)) (marks : List Mark) (i : ℕ) (bits : List Bit) → AreKept signals numbers marks → i < length signals → length bits ≡ width_in signals i → AreKept signals (set numbers i bits) marks
kept_number signals numbers marks i bits kept there wide =
    let same = length-set numbers i bits in
    let all = kept.stored in
    record {
      stored = all ∙ sym same;
      marked = kept.marked;
      each = λ j. elim (cases_eq j i) as (λ _. width_in signals j ≡ widths (set numbers i bits) j) [
        | inl here ↦ ap (width_in signals) here ∙ sym wide ∙ sym (ap (λ n. length (store (set numbers i bits) n)) here ∙ ap length (get_or-set_same numbers i bits [] (omega (arith, there, all))))
        | inr apart ↦ kept.each j ∙ sym (ap length (get_or-set_other numbers i j bits [] apart))
      ];
      next = kept.next;
    }

pub kept_mark : (signals : List Signal) (numbers : List (List Bit)) (marks : List Mark) (i : ℕ) (m : Mark) → AreKept signals numbers marks → i < length signals → length m.next ≡ width_in signals i → AreKept signals numbers (set marks i m)
kept_mark signals numbers marks i m kept there wide =
    let same = length-set marks i m in
    let all = kept.marked in
    record {
      stored = kept.stored;
      marked = all ∙ sym same;
      each = kept.each;
      next = λ j. elim (cases_eq j i) as (λ _. width_in signals j ≡ view_at (λ mark. length mark.next) 0 (set marks i m) j) [
        | inl here ↦ ap (width_in signals) here ∙ sym wide ∙ sym (ap (view_at (λ mark. length mark.next) 0 (set marks i m)) here ∙ seen_same (λ mark. length mark.next) 0 marks i m (omega (arith, there, all)))
        | inr apart ↦ kept.next j ∙ sym (seen_other (λ mark. length mark.next) 0 marks i m j apart)
      ];
    }

pub stored_number : (signals : List Signal) (numbers : List (List Bit)) (i : ℕ) (bits : List Bit) → AreStored signals numbers → i < length signals → length bits ≡ width_in signals i → AreStored signals (set numbers i bits)
stored_number signals numbers i bits kept there wide =
    let same = length-set numbers i bits in
    let all = kept.stored in
    record {
      stored = all ∙ sym same;
      each = λ j. elim (cases_eq j i) as (λ _. width_in signals j ≡ widths (set numbers i bits) j) [
        | inl here ↦ ap (width_in signals) here ∙ sym wide ∙ sym (ap (λ n. length (store (set numbers i bits) n)) here ∙ ap length (get_or-set_same numbers i bits [] (omega (arith, there, all))))
        | inr apart ↦ kept.each j ∙ sym (ap length (get_or-set_other numbers i j bits [] apart))
      ];
    }
