-- What a case keeps of each signal while its items run side by side.
use Rattle.std.proofs.Common.{◌≡◌, ◌∙◌, ℕ, zero, suc, ◌+◌, ◌<◌, ◌≤◌, Bool, true, false, cond, not, ◌&&◌, ◌||◌, List, [], ◌∷◌, length, get_or, set, replicate, Option, Some, None, refl, sym, ap, subst, inl, inr, arith}
use Rattle.std.specs.Prelude.{unwrap_or}
use Rattle.std.proofs.lemmas.Bool.{cases_Bool, cases_eq, cases_lt, false≢true}
use Rattle.std.proofs.lemmas.List.{get_or-set_same, get_or-set_other}
use mathlib.Core.Path.{fun_ext}
use Rattle.rtl_bits.specs.declared.Bit.{Bit}
use Rattle.rtl_bits.specs.declared.Bit.TheVariants.{X, Zero}
use Rattle.rtl_bits.specs.Bit.{or_bit}
use Rattle.rtl_bits.specs.Bits.{is_one_at, tabulate, zip_with}
use Rattle.rtl_bits.specs.Inside.{length-tabulate}
use Rattle.rtl_bits.proofs.Lists.{get_or-tabulate, replicate-tabulate, tabulate-congr, zip_with-tabulate}
use Rattle.rtl_flat.specs.Value.{store, widths}
use Rattle.net_model.specs.Block.{Maps, arm_bits, arms_late, arms_write, bit_after, joined_arms}
use Rattle.net_body.specs.declared.arms.Aside.{Aside}
use Rattle.net_body.specs.declared.mark.Mark.{Mark}
use Rattle.net_body.specs.Asides.{AreAside, IsBounded}
use Rattle.net_body.specs.Marks.{maps, next_bit, view_at}
use Rattle.net_body.proofs.Ending.{seen_past, store_past}
use Rattle.net_body.proofs.Merging.{past_end}
use Rattle.net_body.proofs.Seen.{seen_read}

-- ---- each of a list

-- a fact of each element below a place
abbrev pub EachBelow : {B : Type 0} → (ℕ → B → Type 0) → ℕ → List B → Type 0
EachBelow {B} P n xs = (i : ℕ) (a : B) → i < n → a ≡ get_or xs i a → P i a

pub each_set : {B : Type 0} (P : ℕ → B → Type 0) (xs : List B) (place : ℕ) (x : B) → place < length xs → P place x → EachBelow P place xs → EachBelow P (place + 1) (set xs place x)
each_set P xs place x there fact before i a below is =
    elim (cases_eq i place) as (λ _. P i a) [
      | inl same ↦ subst (λ j. P j a) (sym same) (subst (P place) (sym (is ∙ ap (λ j. get_or (set xs place x) j a) same ∙ get_or-set_same xs place x a there)) fact)
      | inr apart ↦ before i a (omega (arith, below, apart)) (is ∙ get_or-set_other xs place i x a apart)
    ]

pub seen_each : {A B : Type 0} (f : B → A) (none : A) (g : ℕ → A) (xs : List B) → EachBelow (λ i a. f a ≡ g i) (length xs) xs → (i : ℕ) → i < length xs → view_at f none xs i ≡ g i
seen_each f none g [] h i below = absurd (omega (arith, below))
seen_each f none g (x ∷ xs) h zero below = h zero x below refl
seen_each f none g (x ∷ xs) h (suc i) below =
    seen_each f none (λ j. g (suc j)) xs (λ j a b e. h (suc j) a (omega (arith, b)) e) i (omega (arith, below))

-- for every place, where past the end there is nothing
pub seen_all : {A B : Type 0} (f : B → A) (none : A) (g : ℕ → A) (xs : List B) → EachBelow (λ i a. f a ≡ g i) (length xs) xs → ((i : ℕ) → length xs ≤ i → g i ≡ none) → (i : ℕ) → view_at f none xs i ≡ g i
seen_all f none g xs h past i =
    elim (cases_lt i (length xs)) as (λ _. view_at f none xs i ≡ g i) [
      | inl below ↦ seen_each f none g xs h i below
      | inr over ↦ seen_past f none xs i over ∙ sym (past i over)
    ]

-- ---- one signal

pub record IsAt (m : Maps) (arms : List Maps) (i : ℕ) (a : Aside) : Type 0 where
  pub number : a.number ≡ m.now i
  pub next : (k : ℕ) → next_bit a.mark k ≡ m.next i k
  pub wrote : (k : ℕ) → is_one_at a.mark.wrote k ≡ m.wrote i k
  pub late : (k : ℕ) → is_one_at a.mark.late k ≡ m.late i k
  pub sum : a.sum ≡ tabulate (length (m.now i)) (arm_bits arms i)
  pub arms_wrote : (k : ℕ) → is_one_at a.wrote k ≡ arms_write arms i k
  pub arms_late : (k : ℕ) → is_one_at a.late k ≡ arms_late arms i k

-- nothing is past the end
pub record IsOver (m : Maps) (arms : List Maps) (n : ℕ) : Type 0 where
  pub now : (i : ℕ) → n ≤ i → m.now i ≡ []
  pub next : (i : ℕ) → n ≤ i → m.next i ≡ (λ k. None)
  pub wrote : (i : ℕ) → n ≤ i → m.wrote i ≡ (λ k. false)
  pub late : (i : ℕ) → n ≤ i → m.late i ≡ (λ k. false)
  pub arms_wrote : (i : ℕ) → n ≤ i → arms_write arms i ≡ (λ k. false)
  pub arms_late : (i : ℕ) → n ≤ i → arms_late arms i ≡ (λ k. false)

-- ---- all signals

pub all_aside : (m : Maps) (arms : List Maps) (asides : List Aside) → EachBelow (IsAt m arms) (length asides) asides → IsOver m arms (length asides) → AreAside m arms asides
all_aside m arms asides each over =
    record {
      now = seen_all (λ aside. aside.number) [] m.now asides (λ i a b e. (each i a b e).number) over.now;
      next = λ i k. ap (λ (h : ℕ → Option Bit). h k) (seen_all (λ aside. next_bit aside.mark) (λ j. None) m.next asides (λ i a b e. fun_ext (each i a b e).next) over.next i);
      wrote = λ i k. ap (λ (h : ℕ → Bool). h k) (seen_all (λ aside. is_one_at aside.mark.wrote) (λ j. false) m.wrote asides (λ i a b e. fun_ext (each i a b e).wrote) over.wrote i);
      late = λ i k. ap (λ (h : ℕ → Bool). h k) (seen_all (λ aside. is_one_at aside.mark.late) (λ j. false) m.late asides (λ i a b e. fun_ext (each i a b e).late) over.late i);
      sum = seen_all (λ aside. aside.sum) [] (λ i. tabulate (length (m.now i)) (arm_bits arms i)) asides (λ i a b e. (each i a b e).sum) (λ i past. ap (λ (bits : List Bit). tabulate (length bits) (arm_bits arms i)) (over.now i past));
      arms_wrote = λ i k. ap (λ (h : ℕ → Bool). h k) (seen_all (λ aside. is_one_at aside.wrote) (λ j. false) (arms_write arms) asides (λ i a b e. fun_ext (each i a b e).arms_wrote) over.arms_wrote i);
      arms_late = λ i k. ap (λ (h : ℕ → Bool). h k) (seen_all (λ aside. is_one_at aside.late) (λ j. false) (arms_late arms) asides (λ i a b e. fun_ext (each i a b e).arms_late) over.arms_late i);
    }

pub one_aside : (m : Maps) (arms : List Maps) (asides : List Aside) → AreAside m arms asides → EachBelow (IsAt m arms) (length asides) asides
one_aside m arms asides all i a below is =
    record {
      number = seen_read (λ aside. aside.number) [] asides i a below is ∙ all.now i;
      next = λ k. ap (λ (h : ℕ → Option Bit). h k) (seen_read (λ aside. next_bit aside.mark) (λ j. None) asides i a below is) ∙ all.next i k;
      wrote = λ k. ap (λ (h : ℕ → Bool). h k) (seen_read (λ aside. is_one_at aside.mark.wrote) (λ j. false) asides i a below is) ∙ all.wrote i k;
      late = λ k. ap (λ (h : ℕ → Bool). h k) (seen_read (λ aside. is_one_at aside.mark.late) (λ j. false) asides i a below is) ∙ all.late i k;
      sum = seen_read (λ aside. aside.sum) [] asides i a below is ∙ all.sum i;
      arms_wrote = λ k. ap (λ (h : ℕ → Bool). h k) (seen_read (λ aside. is_one_at aside.wrote) (λ j. false) asides i a below is) ∙ all.arms_wrote i k;
      arms_late = λ k. ap (λ (h : ℕ → Bool). h k) (seen_read (λ aside. is_one_at aside.late) (λ j. false) asides i a below is) ∙ all.arms_late i k;
    }

pub over_aside : (m : Maps) (arms : List Maps) (asides : List Aside) → AreAside m arms asides → IsOver m arms (length asides)
over_aside m arms asides all =
    record {
      now = λ i past. sym (all.now i) ∙ seen_past (λ aside. aside.number) [] asides i past;
      next = λ i past. fun_ext (λ k. sym (all.next i k) ∙ ap (λ (h : ℕ → Option Bit). h k) (seen_past (λ aside. next_bit aside.mark) (λ j. None) asides i past));
      wrote = λ i past. fun_ext (λ k. sym (all.wrote i k) ∙ ap (λ (h : ℕ → Bool). h k) (seen_past (λ aside. is_one_at aside.mark.wrote) (λ j. false) asides i past));
      late = λ i past. fun_ext (λ k. sym (all.late i k) ∙ ap (λ (h : ℕ → Bool). h k) (seen_past (λ aside. is_one_at aside.mark.late) (λ j. false) asides i past));
      arms_wrote = λ i past. fun_ext (λ k. sym (all.arms_wrote i k) ∙ ap (λ (h : ℕ → Bool). h k) (seen_past (λ aside. is_one_at aside.wrote) (λ j. false) asides i past));
      arms_late = λ i past. fun_ext (λ k. sym (all.arms_late i k) ∙ ap (λ (h : ℕ → Bool). h k) (seen_past (λ aside. is_one_at aside.late) (λ j. false) asides i past));
    }

-- ---- one item more

or_none_left : (x : Bool) → x ≡ false → (b : Bool) → b ≡ false → (x || b) ≡ false
or_none_left true e b f = e
or_none_left false e b f = f

pub add_one : (m : Maps) (arms : List Maps) (numbers : List (List Bit)) (marks : List Mark) (i : ℕ) (old new : Aside) (number : List Bit) (mark : Mark) →
    IsAt m arms i old → i < length marks → number ≡ store numbers i → mark ≡ get_or marks i mark → length number ≡ length (m.now i) →
    new.number ≡ old.number → new.mark ≡ old.mark →
    new.sum ≡ zip_with or_bit (tabulate (length number) (λ k. unwrap_or (next_bit mark k) (get_or number k X))) old.sum →
    ((k : ℕ) → is_one_at new.wrote k ≡ (is_one_at mark.wrote k || is_one_at old.wrote k)) → ((k : ℕ) → is_one_at new.late k ≡ (is_one_at mark.late k || is_one_at old.late k)) →
    IsAt m (maps numbers marks ∷ arms) i new
add_one m arms numbers marks i old new number mark at marked number_is mark_is wide same_number same_mark sum wrote late =
    let arm = maps numbers marks in
    record {
      number = same_number ∙ at.number;
      next = λ k. ap (λ (x : Mark). next_bit x k) same_mark ∙ at.next k;
      wrote = λ k. ap (λ (x : Mark). is_one_at x.wrote k) same_mark ∙ at.wrote k;
      late = λ k. ap (λ (x : Mark). is_one_at x.late k) same_mark ∙ at.late k;
      sum = sum ∙ ap (zip_with or_bit (tabulate (length number) (λ k. unwrap_or (next_bit mark k) (get_or number k X)))) at.sum
          ∙ ap (λ n. zip_with or_bit (tabulate n (λ k. unwrap_or (next_bit mark k) (get_or number k X))) (tabulate (length (m.now i)) (arm_bits arms i))) wide
          ∙ zip_with-tabulate or_bit (length (m.now i)) (λ k. unwrap_or (next_bit mark k) (get_or number k X)) (arm_bits arms i)
          ∙ tabulate-congr (length (m.now i)) (λ k. or_bit (unwrap_or (next_bit mark k) (get_or number k X)) (arm_bits arms i k)) (arm_bits (arm ∷ arms) i)
          (λ k below. ap (λ b. or_bit b (arm_bits arms i k))
          (ap (λ (h : ℕ → Option Bit). unwrap_or (h k) (get_or number k X)) (seen_read next_bit (λ j. None) marks i mark marked mark_is)
          ∙ ap (λ (bits : List Bit). unwrap_or (arm.next i k) (get_or bits k X)) number_is));
      arms_wrote = λ k. wrote k ∙ ap (λ b. is_one_at mark.wrote k || b) (at.arms_wrote k)
          ∙ ap (λ (h : ℕ → Bool). h k || arms_write arms i k) (seen_read (λ x. is_one_at x.wrote) (λ j. false) marks i mark marked mark_is);
      arms_late = λ k. late k ∙ ap (λ b. is_one_at mark.late k || b) (at.arms_late k)
          ∙ ap (λ (h : ℕ → Bool). h k || arms_late arms i k) (seen_read (λ x. is_one_at x.late) (λ j. false) marks i mark marked mark_is);
    }

-- ---- bits past the width of a signal

give_x : (has : Bool) (b : Bit) → b ≡ X → unwrap_or (cond has (Some b) None) X ≡ X
give_x true b is = is
give_x false b is = refl

next_past : (marks : List Mark) (i k : ℕ) → view_at (λ mark. length mark.next) 0 marks i ≤ k → unwrap_or (view_at next_bit (λ j. None) marks i k) X ≡ X
next_past [] i k past = refl
next_past (x ∷ marks) zero k past = give_x (is_one_at x.has_next k) (get_or x.next k X) (past_end x.next k past)
next_past (x ∷ marks) (suc i) k past = next_past marks i k past

after_past : (numbers : List (List Bit)) (marks : List Mark) (i k : ℕ) → widths numbers i ≡ view_at (λ mark. length mark.next) 0 marks i → widths numbers i ≤ k → bit_after (maps numbers marks) i k ≡ X
after_past numbers marks i k same past =
    ap (unwrap_or (view_at next_bit (λ j. None) marks i k)) (past_end (store numbers i) k past)
    ∙ next_past marks i k (subst (λ n. n ≤ k) same past)

pub bounded_none : (m : Maps) → IsBounded m []
bounded_none m = record { nothing = λ i k past. refl; late = λ i k past h. absurd (false≢true h) }

pub bounded_more : (m : Maps) (arms : List Maps) (numbers : List (List Bit)) (marks : List Mark) → IsBounded m arms → ((i : ℕ) → widths numbers i ≡ view_at (λ mark. length mark.next) 0 marks i) → ((i : ℕ) → widths numbers i ≡ length (m.now i)) → IsBounded m (maps numbers marks ∷ arms)
bounded_more m arms numbers marks bounded same wide =
    let after : (i k : ℕ) → length (m.now i) ≤ k → bit_after (maps numbers marks) i k ≡ X = λ i k past. after_past numbers marks i k (same i) (subst (λ n. n ≤ k) (sym (wide i)) past) in
    let all : (i k : ℕ) → length (m.now i) ≤ k → arm_bits (maps numbers marks ∷ arms) i k ≡ X = λ i k past. ap (λ b. or_bit b (arm_bits arms i k)) (after i k past) ∙ bounded.nothing i k past in
    record { nothing = λ i k past. ap (or_bit X) (all i k past); late = λ i k past h. all i k past }

-- ---- the join

pub joined_number_is : (m : Maps) (arms : List Maps) (i : ℕ) (a : Aside) (rep : List Bit) → IsAt m arms i a →
    rep ≡ tabulate (length a.number) (λ k. cond (is_one_at a.wrote k && not (is_one_at a.late k)) (get_or a.sum k X) (get_or a.number k X)) → rep ≡ (joined_arms m arms).now i
joined_number_is m arms i a rep at is =
    let f : List Bit → ℕ → Bit = λ bits k. cond (is_one_at a.wrote k && not (is_one_at a.late k)) (get_or a.sum k X) (get_or bits k X) in
    is ∙ ap (λ (bits : List Bit). tabulate (length bits) (f bits)) at.number
    ∙ tabulate-congr (length (m.now i)) (f (m.now i)) (λ k. cond (arms_write arms i k && not (arms_late arms i k)) (arm_bits arms i k) (get_or (m.now i) k X))
    (λ k below.
    ap (λ b. cond (b && not (is_one_at a.late k)) (get_or a.sum k X) (get_or (m.now i) k X)) (at.arms_wrote k)
    ∙ ap (λ b. cond (arms_write arms i k && not b) (get_or a.sum k X) (get_or (m.now i) k X)) (at.arms_late k)
    ∙ ap (λ b. cond (arms_write arms i k && not (arms_late arms i k)) b (get_or (m.now i) k X)) (ap (λ (bits : List Bit). get_or bits k X) at.sum ∙ get_or-tabulate (length (m.now i)) (arm_bits arms i) k X below))

sum_at : (m : Maps) (arms : List Maps) (i k : ℕ) (a : Aside) → IsAt m arms i a → IsBounded m arms → arms_late arms i k ≡ true → get_or a.sum k X ≡ arm_bits arms i k
sum_at m arms i k a at bounded late =
    ap (λ (bits : List Bit). get_or bits k X) at.sum
    ∙ elim (cases_lt k (length (m.now i))) as (λ _. get_or (tabulate (length (m.now i)) (arm_bits arms i)) k X ≡ arm_bits arms i k) [
      | inl below ↦ get_or-tabulate (length (m.now i)) (arm_bits arms i) k X below
      | inr past ↦ past_end (tabulate (length (m.now i)) (arm_bits arms i)) k (subst (λ n. n ≤ k) (sym (length-tabulate (length (m.now i)) (arm_bits arms i))) past) ∙ sym (bounded.late i k past late)
    ]

pub joined_next_is : (m : Maps) (arms : List Maps) (i k : ℕ) (a : Aside) (next : Option Bit) → IsAt m arms i a → IsBounded m arms →
    next ≡ cond (is_one_at a.late k) (Some (get_or a.sum k X)) (next_bit a.mark k) → next ≡ (joined_arms m arms).next i k
joined_next_is m arms i k a next at bounded is =
    is ∙ ap (λ b. cond b (Some (get_or a.sum k X)) (next_bit a.mark k)) (at.arms_late k)
    ∙ ap (cond (arms_late arms i k) (Some (get_or a.sum k X))) (at.next k)
    ∙ elim (cases_Bool (arms_late arms i k)) as (λ _. cond (arms_late arms i k) (Some (get_or a.sum k X)) (m.next i k) ≡ cond (arms_late arms i k) (Some (arm_bits arms i k)) (m.next i k)) [
      | inl late ↦ ap (λ b. cond (arms_late arms i k) (Some b) (m.next i k)) (sum_at m arms i k a at bounded late)
      | inr not_late ↦ ap (λ b. cond b (Some (get_or a.sum k X)) (m.next i k)) not_late ∙ sym (ap (λ b. cond b (Some (arm_bits arms i k)) (m.next i k)) not_late)
    ]

-- ---- before any item

pub new_one : (numbers : List (List Bit)) (marks : List Mark) (i : ℕ) (number : List Bit) (mark : Mark) (a : Aside) →
    i < length marks → number ≡ store numbers i → mark ≡ get_or marks i mark → a.number ≡ number → a.mark ≡ mark → a.sum ≡ replicate (length number) Zero →
    ((k : ℕ) → is_one_at a.wrote k ≡ false) → ((k : ℕ) → is_one_at a.late k ≡ false) → IsAt (maps numbers marks) [] i a
new_one numbers marks i number mark a marked number_is mark_is same_number same_mark sum wrote late =
    record {
      number = same_number ∙ number_is;
      next = λ k. ap (λ (x : Mark). next_bit x k) same_mark ∙ ap (λ (h : ℕ → Option Bit). h k) (seen_read next_bit (λ j. None) marks i mark marked mark_is);
      wrote = λ k. ap (λ (x : Mark). is_one_at x.wrote k) same_mark ∙ ap (λ (h : ℕ → Bool). h k) (seen_read (λ x. is_one_at x.wrote) (λ j. false) marks i mark marked mark_is);
      late = λ k. ap (λ (x : Mark). is_one_at x.late k) same_mark ∙ ap (λ (h : ℕ → Bool). h k) (seen_read (λ x. is_one_at x.late) (λ j. false) marks i mark marked mark_is);
      sum = sum ∙ ap (λ (bits : List Bit). replicate (length bits) Zero) number_is ∙ replicate-tabulate (length (store numbers i)) Zero;
      arms_wrote = wrote;
      arms_late = late;
    }

pub over_maps : (numbers : List (List Bit)) (marks : List Mark) (n : ℕ) → length numbers ≡ n → length marks ≡ n → IsOver (maps numbers marks) [] n
over_maps numbers marks n count same =
    record {
      now = λ i past. store_past numbers i (subst (λ m. m ≤ i) (sym count) past);
      next = λ i past. seen_past next_bit (λ j. None) marks i (subst (λ m. m ≤ i) (sym same) past);
      wrote = λ i past. seen_past (λ x. is_one_at x.wrote) (λ j. false) marks i (subst (λ m. m ≤ i) (sym same) past);
      late = λ i past. seen_past (λ x. is_one_at x.late) (λ j. false) marks i (subst (λ m. m ≤ i) (sym same) past);
      arms_wrote = λ i past. refl;
      arms_late = λ i past. refl;
    }

-- past the end an item writes nothing
pub over_more : (m : Maps) (arms : List Maps) (numbers : List (List Bit)) (marks : List Mark) (n : ℕ) → length marks ≡ n → IsOver m arms n → IsOver m (maps numbers marks ∷ arms) n
over_more m arms numbers marks n same over =
    record {
      now = over.now;
      next = over.next;
      wrote = over.wrote;
      late = over.late;
      arms_wrote = λ i past. fun_ext (λ k. or_none_left (view_at (λ x. is_one_at x.wrote) (λ j. false) marks i k) (ap (λ (h : ℕ → Bool). h k) (seen_past (λ x. is_one_at x.wrote) (λ j. false) marks i (subst (λ l. l ≤ i) (sym same) past))) (arms_write arms i k) (ap (λ (h : ℕ → Bool). h k) (over.arms_wrote i past)));
      arms_late = λ i past. fun_ext (λ k. or_none_left (view_at (λ x. is_one_at x.late) (λ j. false) marks i k) (ap (λ (h : ℕ → Bool). h k) (seen_past (λ x. is_one_at x.late) (λ j. false) marks i (subst (λ l. l ≤ i) (sym same) past))) (arms_late arms i k) (ap (λ (h : ℕ → Bool). h k) (over.arms_late i past)));
    }

-- ---- past the end

pub joined_past : (m : Maps) (arms : List Maps) (asides : List Aside) → AreAside m arms asides → (i : ℕ) → length asides ≤ i → (joined_arms m arms).now i ≡ []
joined_past m arms asides are i past =
    ap (λ (bits : List Bit). tabulate (length bits) (λ k. cond (arms_write arms i k && not (arms_late arms i k)) (arm_bits arms i k) (get_or bits k X))) ((over_aside m arms asides are).now i past)

pub joined_next_past : (m : Maps) (arms : List Maps) (asides : List Aside) → AreAside m arms asides → (i : ℕ) → length asides ≤ i → (joined_arms m arms).next i ≡ (λ k. None)
joined_next_past m arms asides are i past =
    let over = over_aside m arms asides are in
    let h : (ℕ → Bool) → ℕ → Option Bit = λ late k. cond (late k) (Some (arm_bits arms i k)) (m.next i k) in
    ap h (over.arms_late i past) ∙ over.next i past

pub joined_wrote_past : (m : Maps) (arms : List Maps) (asides : List Aside) → AreAside m arms asides → (i : ℕ) → length asides ≤ i → (joined_arms m arms).wrote i ≡ (λ k. false)
joined_wrote_past m arms asides are i past =
    let over = over_aside m arms asides are in
    let h : (ℕ → Bool) → ℕ → Bool = λ bits k. bits k || m.wrote i k in
    ap h (over.arms_wrote i past) ∙ over.wrote i past

pub joined_late_past : (m : Maps) (arms : List Maps) (asides : List Aside) → AreAside m arms asides → (i : ℕ) → length asides ≤ i → (joined_arms m arms).late i ≡ (λ k. false)
joined_late_past m arms asides are i past =
    let over = over_aside m arms asides are in
    let h : (ℕ → Bool) → ℕ → Bool = λ bits k. bits k || m.late i k in
    ap h (over.arms_late i past) ∙ over.late i past

pub length_seen : {B : Type 0} (f : B → List Bit) (xs : List B) (i : ℕ) → length (view_at f [] xs i) ≡ view_at (λ x. length (f x)) 0 xs i
length_seen f [] i = refl
length_seen f (x ∷ xs) zero = refl
length_seen f (x ∷ xs) (suc i) = length_seen f xs i
