-- All signals at the end of a body, whether a target names them or not.
use Rattle.std.proofs.Common.{◌≡◌, ◌≢◌, ◌⊎◌, ◌∙◌, ◌||◌, ℕ, ◌<◌, Bool, true, false, cond, List, [], ◌∷◌, ◌++◌, length, get_or, set, Option, None, refl, sym, ap, subst, inl, inr, arith}
use Rattle.std.specs.Prelude.{unwrap_or}
use Rattle.std.proofs.lemmas.Bool.{cases_Bool, cases_eq, false≢true, ne_eqb}
use Rattle.std.proofs.lemmas.List.{ext_get_or, get_or_default}
use mathlib.Core.Path.{fun_ext}
use Rattle.rtl_bits.specs.declared.Bit.{Bit}
use Rattle.rtl_bits.specs.declared.Bit.TheVariants.{X}
use Rattle.rtl_bits.specs.Bit.{is_unknown, xor_bit}
use Rattle.rtl_bits.specs.Bits.{is_one_at, tabulate, zip_with}
use Rattle.rtl_bits.specs.Inside.{length-tabulate}
use Rattle.rtl_bits.proofs.Lists.{get_or-tabulate, tabulate-congr}
use Rattle.rtl_flat.specs.Process.{Actions}
use Rattle.rtl_flat.specs.Value.{store}
use Rattle.rtl_flat.specs.WellFormed.{IsBody}
use Rattle.net_number.proofs.event_laws_proofs.Lengths.{put_at, put_other}
use Rattle.rtl_flat.specs.Flats.{Flat, widths}
use Rattle.event_model.specs.Writes.{Values, put}
use Rattle.net_model.specs.declared.fill.Fill.{Fill}
use Rattle.net_model.specs.Block.{Maps, acts, first_maps, bit_after, block_bit}
use Rattle.net_model.specs.Numbers.{AreNumbers, bit}
use Rattle.net_number.proofs.net_laws_proofs.Known.{Known, known_at, known_each}
use Rattle.net_number.proofs.net_laws_proofs.Laws.{block_known}
use Rattle.net_body.specs.declared.mark.Mark.{Mark}
use Rattle.net_body.specs.Ends.{Ending, bits_after, changed_digits, ending, ending_after, ending_after_one}
use Rattle.net_body.specs.Marks.{maps, next_bit, view_at}
use Rattle.net_body.specs.Named.{body_signals, is_among}
use Rattle.net_body.proofs.Changed.{changed_at, changed_length, xor_known, xor_left}
use Rattle.net_body.proofs.Ending.{clear_maps}
use Rattle.net_body.proofs.Filled.{tabulate_own}
use Rattle.net_body.proofs.Seen.{put_is, same_maps, seen_other, seen_same, store_set}
use Rattle.net_body.proofs.Untouched.{body_stays}

-- ---- from one part to the next

ended_append : (aside : Bool) (before : Values) (e : Ending) (xs ys : List ℕ) → ending_after aside before e (xs ++ ys) ≡ ending_after aside before (ending_after aside before e xs) ys
ended_append aside before e [] ys = refl
ended_append aside before e (x ∷ xs) ys =
    ended_append aside before (ending_after_one aside before e x) xs ys

pub ended_more : (aside : Bool) (before : Values) (e e' : Ending) (xs ys : List ℕ) → e' ≡ ending_after aside before e xs → ending_after aside before e' ys ≡ ending_after aside before e (xs ++ ys)
ended_more aside before e e' xs ys is =
    ap (λ (x : Ending). ending_after aside before x ys) is ∙ sym (ended_append aside before e xs ys)

-- ---- one signal in the lists

seen_put : {A B : Type 0} → (f : B → A) (none : A) (marks : List B) (i : ℕ) (m : B) (a : A) → i < length marks → f m ≡ a → view_at f none (set marks i m) ≡ put (view_at f none marks) i a
seen_put f none marks i m a there is =
    put_is (view_at f none marks) (view_at f none (set marks i m)) i a (seen_same f none marks i m there ∙ is) (λ j apart. seen_other f none marks i m j apart)

pub cleared_is : (numbers : List (List Bit)) (marks : List Mark) (i : ℕ) (bits bits' : List Bit) (n : Mark) → i < length numbers → i < length marks → bits ≡ bits' →
    ((k : ℕ) → next_bit n k ≡ None) → ((k : ℕ) → is_one_at n.wrote k ≡ false) → ((k : ℕ) → is_one_at n.late k ≡ false) →
    maps (set numbers i bits) (set marks i n) ≡ record {
      now = put (store numbers) i bits';
      next = put (maps numbers marks).next i (λ k. None);
      wrote = put (maps numbers marks).wrote i (λ k. false);
      late = put (maps numbers marks).late i (λ k. false);
    }
cleared_is numbers marks i bits bits' n there marked is next wrote late =
    same_maps (maps (set numbers i bits) (set marks i n)) (record {
      now = put (store numbers) i bits';
      next = put (maps numbers marks).next i (λ k. None);
      wrote = put (maps numbers marks).wrote i (λ k. false);
      late = put (maps numbers marks).late i (λ k. false);
    })
    (store_set numbers i bits there ∙ ap (put (store numbers) i) is)
    (seen_put next_bit (λ k. None) marks i n (λ k. None) marked (fun_ext next))
    (seen_put (λ mark. is_one_at mark.wrote) (λ k. false) marks i n (λ k. false) marked (fun_ext wrote))
    (seen_put (λ mark. is_one_at mark.late) (λ k. false) marks i n (λ k. false) marked (fun_ext late))

pub number_read : (numbers : List (List Bit)) (i : ℕ) (bits : List Bit) → i < length numbers → bits ≡ get_or numbers i bits → bits ≡ store numbers i
number_read numbers i bits there is = is ∙ get_or_default numbers i bits [] there

-- digits of which a run's are put aside
pub beside_is : (old run after ran kept both outcome : List Bit) → old ≡ kept → ran ≡ run → both ≡ zip_with xor_bit old ran → outcome ≡ zip_with xor_bit after both → outcome ≡ changed_digits kept run after
beside_is old run after ran kept both outcome same same' inner outer =
    outer ∙ ap (zip_with xor_bit after) (inner ∙ ap (λ (x : List Bit). zip_with xor_bit x ran) same ∙ ap (zip_with xor_bit kept) same')

-- ---- numbers

-- digits of a width
pub record Fits (w : ℕ) (bits : List Bit) : Type 0 where
  pub wide : length bits ≡ w
  pub known : Known bits

-- what a run changed of a signal
pub changed_number : (w : ℕ) (old ran after : List Bit) → length old ≡ w → length ran ≡ w → length after ≡ w → Known old → Known ran → Known after → (length (changed_digits old ran after) ≡ w) × Known (changed_digits old ran after)
changed_number w old ran after wide wide' wide'' known known' known'' =
    let size = changed_length old ran after (wide' ∙ sym wide) (wide'' ∙ sym wide) in (
      size ∙ wide'',
      known_each (changed_digits old ran after) (λ k below.
          let inside : k < length after = omega (arith, below, size) in
          ap is_unknown (changed_at old ran after k inside (wide' ∙ sym wide) (wide'' ∙ sym wide))
          ∙ xor_known (get_or after k X) (xor_bit (get_or old k X) (get_or ran k X)) (known_at after k known'' inside)
          (xor_known (get_or old k X) (get_or ran k X) (known_at old k known (omega (arith, inside, wide, wide''))) (known_at ran k known' (omega (arith, inside, wide', wide''))))),
    )

fits_changed : (w : ℕ) (old ran after : List Bit) → Fits w old → Fits w ran → Fits w after → Fits w (changed_digits old ran after)
fits_changed w old ran after o r a =
    let both = changed_number w old ran after o.wide r.wide a.wide o.known r.known a.known in
    record { wide = both.0; known = both.1 }

-- nothing was changed
changed_none : (w : ℕ) (old after : List Bit) → Fits w old → Fits w after → changed_digits old old after ≡ after
changed_none w old after o a =
    let size = changed_length old old after refl (a.wide ∙ sym o.wide) in
    ext_get_or X (changed_digits old old after) after size (λ k below.
    let inside : k < length after = omega (arith, below, size) in
    let wide = o.wide in
    let wide' = a.wide in
    changed_at old old after k inside refl (a.wide ∙ sym o.wide)
    ∙ xor_left (get_or after k X) (get_or old k X) (known_at after k a.known inside) (known_at old k o.known (omega (arith, inside, wide, wide'))))

-- what a body makes of digits are digits
pub fits_block : (d : Flat) (f : Fill) (n : Values) (body : Actions) → AreNumbers d n → IsBody d.signals body → (i : ℕ) → Fits (widths d i) (tabulate (widths d i) (block_bit (widths d) f n body i))
fits_block d f n body are lawful i =
    let bits = block_bit (widths d) f n body i in
    let size = length-tabulate (widths d i) bits in
    record {
      wide = size;
      known = known_each (tabulate (widths d i) bits) (λ k below.
          let inside : k < widths d i = omega (arith, below, size) in
          ap is_unknown (get_or-tabulate (widths d i) bits k X inside) ∙ block_known d f n body i k are lawful inside);
    }

-- ---- one signal

-- nothing is written of it
pub record IsClear (i : ℕ) (m : Maps) : Type 0 where
  pub next : (k : ℕ) → m.next i k ≡ None
  pub wrote : (k : ℕ) → m.wrote i k ≡ false
  pub late : (k : ℕ) → m.late i k ≡ false

settled_with : (m : Maps) (i : ℕ) (bits : List Bit) → m.now i ≡ bits → ((k : ℕ) → m.next i k ≡ None) → bits_after m i ≡ bits
settled_with m i bits is none =
    tabulate-congr (length (m.now i)) (bit_after m i) (λ k. get_or (m.now i) k X)
    (λ k below. ap (λ (o : Option Bit). unwrap_or o (bit m.now i k)) (none k))
    ∙ tabulate_own (m.now i) ∙ is

clear_settled : (i : ℕ) (m : Maps) → IsClear i m → bits_after m i ≡ m.now i
clear_settled i m clear = settled_with m i (m.now i) refl clear.next

module _ (aside : Bool) (before : Values) (e : Ending) (i : ℕ) where
  abbrev then : ℕ → Maps
  then j = (ending_after_one aside before e j).maps

  clear_here : (j : ℕ) → i ≡ j → IsClear i (then j)
  clear_here j here = record {
    next = λ k. ap (λ (g : ℕ → Option Bit). g k) (put_at e.maps.next j i (λ l. None) here);
    wrote = λ k. ap (λ (g : ℕ → Bool). g k) (put_at e.maps.wrote j i (λ l. false) here);
    late = λ k. ap (λ (g : ℕ → Bool). g k) (put_at e.maps.late j i (λ l. false) here);
  }

  clear_there : (j : ℕ) → i ≢ j → IsClear i e.maps → IsClear i (then j)
  clear_there j apart clear = record {
    next = λ k. ap (λ (g : ℕ → Option Bit). g k) (put_other e.maps.next j i (λ l. None) apart) ∙ clear.next k;
    wrote = λ k. ap (λ (g : ℕ → Bool). g k) (put_other e.maps.wrote j i (λ l. false) apart) ∙ clear.wrote k;
    late = λ k. ap (λ (g : ℕ → Bool). g k) (put_other e.maps.late j i (λ l. false) apart) ∙ clear.late k;
  }

  clear_one : (j : ℕ) → IsClear i e.maps → IsClear i (then j)
  clear_one j clear =
      elim (cases_eq i j) as (λ _. IsClear i (then j)) [
        | inl here ↦ clear_here j here
        | inr apart ↦ clear_there j apart clear
      ]

  now_here : (j : ℕ) → i ≡ j → (then j).now i ≡ cond aside (before i) (bits_after e.maps i)
  now_here j here =
      put_at e.maps.now j i (cond aside (before j) (bits_after e.maps j)) here
      ∙ ap (λ s. cond aside (before s) (bits_after e.maps s)) (sym here)

  now_there : (j : ℕ) → i ≢ j → (then j).now i ≡ e.maps.now i
  now_there j apart = put_other e.maps.now j i (cond aside (before j) (bits_after e.maps j)) apart

  settled_there : (j : ℕ) → i ≢ j → bits_after (then j) i ≡ bits_after e.maps i
  settled_there j apart =
      ap (λ (bits : List Bit). tabulate (length bits) (λ k. unwrap_or ((then j).next i k) (get_or bits k X))) (now_there j apart)
      ∙ ap (λ (g : ℕ → Option Bit). tabulate (length (e.maps.now i)) (λ k. unwrap_or (g k) (bit e.maps.now i k))) (put_other e.maps.next j i (λ l. None) apart)

  settled_here : (j : ℕ) → i ≡ j → bits_after (then j) i ≡ cond aside (before i) (bits_after e.maps i)
  settled_here j here =
      settled_with (then j) i (cond aside (before i) (bits_after e.maps i)) (now_here j here) (clear_here j here).next

-- a signal that is named, or of which nothing is written
all_clear : (aside : Bool) (before : Values) (i : ℕ) (e : Ending) (xs : List ℕ) → (is_among i xs ≡ true) ⊎ IsClear i e.maps → IsClear i (ending_after aside before e xs).maps
all_clear aside before i e [] (inl h) = absurd (false≢true h)
all_clear aside before i e [] (inr clear) = clear
all_clear aside before i e (j ∷ xs) (inr clear) =
    all_clear aside before i (ending_after_one aside before e j) xs (inr (clear_one aside before e i j clear))
all_clear aside before i e (j ∷ xs) (inl h) =
    elim (cases_eq i j) as (λ _. IsClear i (ending_after aside before (ending_after_one aside before e j) xs).maps) [
      | inl here ↦ all_clear aside before i (ending_after_one aside before e j) xs (inr (clear_here aside before e i j here))
      | inr apart ↦
          all_clear aside before i (ending_after_one aside before e j) xs
          (inl (sym (ap (λ b. b || is_among i xs) (ne_eqb j i (λ same. apart (sym same)))) ∙ h))
    ]

-- ---- digits that stay

settled_kept : (before : Values) (i : ℕ) (e : Ending) (xs : List ℕ) → bits_after (ending_after false before e xs).maps i ≡ bits_after e.maps i
settled_kept before i e [] = refl
settled_kept before i e (j ∷ xs) =
    settled_kept before i (ending_after_one false before e j) xs
    ∙ elim (cases_eq i j) as (λ _. bits_after (ending_after_one false before e j).maps i ≡ bits_after e.maps i) [
      | inl here ↦ settled_here false before e i j here
      | inr apart ↦ settled_there false before e i j apart
    ]

-- ---- digits that are put aside

module _ (before : Values) (i : ℕ) where
  now_one : (e : Ending) (j : ℕ) → e.maps.now i ≡ before i → (ending_after_one true before e j).maps.now i ≡ before i
  now_one e j same =
      elim (cases_eq i j) as (λ _. (ending_after_one true before e j).maps.now i ≡ before i) [
        | inl here ↦ now_here true before e i j here
        | inr apart ↦ now_there true before e i j apart ∙ same
      ]

  -- the old digits are there again
  all_back : (e : Ending) (xs : List ℕ) → (is_among i xs ≡ true) ⊎ (e.maps.now i ≡ before i) → (ending_after true before e xs).maps.now i ≡ before i
  all_back e [] (inl h) = absurd (false≢true h)
  all_back e [] (inr same) = same
  all_back e (j ∷ xs) (inr same) =
      all_back (ending_after_one true before e j) xs (inr (now_one e j same))
  all_back e (j ∷ xs) (inl h) =
      elim (cases_eq i j) as (λ _. (ending_after true before (ending_after_one true before e j) xs).maps.now i ≡ before i) [
        | inl here ↦ all_back (ending_after_one true before e j) xs (inr (now_here true before e i j here))
        | inr apart ↦
            all_back (ending_after_one true before e j) xs
            (inl (sym (ap (λ b. b || is_among i xs) (ne_eqb j i (λ same. apart (sym same)))) ∙ h))
      ]

  module _ (w : ℕ) (old : Fits w (before i)) where
    abbrev made : Ending → List Bit
    made e = changed_digits (before i) (bits_after e.maps i) (e.after i)

    record AreFit (e : Ending) : Type 0 where
      pub ran : Fits w (bits_after e.maps i)
      pub after : Fits w (e.after i)

    after_here : (e : Ending) (j : ℕ) → i ≡ j → (ending_after_one true before e j).after i ≡ made e
    after_here e j here =
        put_at e.after j i (changed_digits (before j) (bits_after e.maps j) (e.after j)) here
        ∙ ap (λ s. changed_digits (before s) (bits_after e.maps s) (e.after s)) (sym here)

    after_there : (e : Ending) (j : ℕ) → i ≢ j → (ending_after_one true before e j).after i ≡ e.after i
    after_there e j apart =
        put_other e.after j i (changed_digits (before j) (bits_after e.maps j) (e.after j)) apart

    fit_one : (e : Ending) (j : ℕ) → AreFit e → AreFit (ending_after_one true before e j)
    fit_one e j are =
        elim (cases_eq i j) as (λ _. AreFit (ending_after_one true before e j)) [
          | inl here ↦ record {
            ran = subst (Fits w) (sym (settled_here true before e i j here)) old;
            after = subst (Fits w) (sym (after_here e j here)) (fits_changed w (before i) (bits_after e.maps i) (e.after i) old are.ran are.after);
          }
          | inr apart ↦ record {
            ran = subst (Fits w) (sym (settled_there true before e i j apart)) are.ran;
            after = subst (Fits w) (sym (after_there e j apart)) are.after;
          }
        ]

    made_one : (e : Ending) (j : ℕ) → AreFit e → made (ending_after_one true before e j) ≡ made e
    made_one e j are =
        elim (cases_eq i j) as (λ _. made (ending_after_one true before e j) ≡ made e) [
          | inl here ↦
              ap (λ (ran : List Bit). changed_digits (before i) ran ((ending_after_one true before e j).after i)) (settled_here true before e i j here)
              ∙ ap (changed_digits (before i) (before i)) (after_here e j here)
              ∙ changed_none w (before i) (made e) old (fits_changed w (before i) (bits_after e.maps i) (e.after i) old are.ran are.after)
          | inr apart ↦
              ap (λ (ran : List Bit). changed_digits (before i) ran ((ending_after_one true before e j).after i)) (settled_there true before e i j apart)
              ∙ ap (changed_digits (before i) (bits_after e.maps i)) (after_there e j apart)
        ]

    all_fit : (e : Ending) (xs : List ℕ) → AreFit e → AreFit (ending_after true before e xs)
    all_fit e [] are = are
    all_fit e (j ∷ xs) are = all_fit (ending_after_one true before e j) xs (fit_one e j are)

    all_made : (e : Ending) (xs : List ℕ) → AreFit e → made (ending_after true before e xs) ≡ made e
    all_made e [] are = refl
    all_made e (j ∷ xs) are =
        all_made (ending_after_one true before e j) xs (fit_one e j are) ∙ made_one e j are

    pub put_beside : (e : Ending) (xs : List ℕ) → Fits w (bits_after e.maps i) → Fits w (e.after i) → IsClear i (ending_after true before e xs).maps → (ending_after true before e xs).maps.now i ≡ before i → (ending_after true before e xs).after i ≡ changed_digits (before i) (bits_after e.maps i) (e.after i)
    put_beside e xs ran after clear back =
        let are : AreFit e = record { ran = ran; after = after } in
        let last = ending_after true before e xs in
        sym (changed_none w (before i) (last.after i) old (all_fit e xs are).after)
        ∙ ap (λ (bits : List Bit). changed_digits (before i) bits (last.after i)) (sym (clear_settled i last.maps clear ∙ back))
        ∙ all_made e xs are

-- ---- a whole body

module _ (ws : ℕ → ℕ) (f : Fill) (n : Values) (body : Actions) (e : Ending) (ran : e.maps ≡ acts ws f (first_maps n) body) (i : ℕ) where
  -- what isn't named is as it was
  named_or_clear : (is_among i (body_signals body) ≡ true) ⊎ IsClear i e.maps
  named_or_clear =
      elim (cases_Bool (is_among i (body_signals body))) as (λ _. (is_among i (body_signals body) ≡ true) ⊎ IsClear i e.maps) [
        | inl there ↦ inl there
        | inr none ↦ inr (subst (IsClear i) (sym ran) (record {
          next = (body_stays ws f i (first_maps n) body none).next;
          wrote = (body_stays ws f i (first_maps n) body none).wrote;
          late = (body_stays ws f i (first_maps n) body none).late;
        }))
      ]

  named_or_same : (before : Values) → n i ≡ before i → (is_among i (body_signals body) ≡ true) ⊎ (e.maps.now i ≡ before i)
  named_or_same before same =
      elim (cases_Bool (is_among i (body_signals body))) as (λ _. (is_among i (body_signals body) ≡ true) ⊎ (e.maps.now i ≡ before i)) [
        | inl there ↦ inl there
        | inr none ↦ inr (ap (λ (m : Maps). m.now i) ran ∙ (body_stays ws f i (first_maps n) body none).now ∙ same)
      ]

  pub settled_block : length (e.maps.now i) ≡ ws i → bits_after e.maps i ≡ tabulate (ws i) (block_bit ws f n body i)
  settled_block wide =
      ap (λ w. tabulate w (bit_after e.maps i)) wide
      ∙ ap (λ (m : Maps). tabulate (ws i) (bit_after m i)) ran

  pub ended_clear : (aside : Bool) (before : Values) → IsClear i (ending_after aside before e (body_signals body)).maps
  ended_clear aside before = all_clear aside before i e (body_signals body) named_or_clear

  pub ended_now : (before : Values) → (ending_after false before e (body_signals body)).maps.now i ≡ bits_after e.maps i
  ended_now before =
      sym (clear_settled i (ending_after false before e (body_signals body)).maps (ended_clear false before))
      ∙ settled_kept before i e (body_signals body)

  pub ended_back : (before : Values) → n i ≡ before i → (ending_after true before e (body_signals body)).maps.now i ≡ before i
  ended_back before same = all_back before i e (body_signals body) (named_or_same before same)

  pub ended_aside : (before : Values) (w : ℕ) → n i ≡ before i → Fits w (before i) → Fits w (bits_after e.maps i) → Fits w (e.after i) → (ending_after true before e (body_signals body)).after i ≡ changed_digits (before i) (bits_after e.maps i) (e.after i)
  ended_aside before w same old run after =
      put_beside before i w old e (body_signals body) run after (ended_clear true before) (ended_back before same)

-- maps at their end
pub all_ended : (ws : ℕ → ℕ) (f : Fill) (n : Values) (body : Actions) (e : Ending) → e.maps ≡ acts ws f (first_maps n) body → (aside : Bool) (before : Values) (numbers : List (List Bit)) (marks : List Mark) (after : List (List Bit)) → ending numbers marks after ≡ ending_after aside before e (body_signals body) → maps numbers marks ≡ first_maps (store numbers)
all_ended ws f n body e ran aside before numbers marks after is =
    clear_maps numbers marks
    (λ i k. ap (λ (x : Ending). x.maps.next i k) is ∙ (ended_clear ws f n body e ran i aside before).next k)
    (λ i k. ap (λ (x : Ending). x.maps.wrote i k) is ∙ (ended_clear ws f n body e ran i aside before).wrote k)
    (λ i k. ap (λ (x : Ending). x.maps.late i k) is ∙ (ended_clear ws f n body e ran i aside before).late k)
