-- The maps of synthesis beside what a run makes.
use Rattle.std.proofs.Common.{◌≡◌, ◌∙◌, ◌+◌, ◌-◌, ◌<◌, ℕ, Bool, true, false, cond, not, ◌&&◌, ◌||◌, if◌then◌else◌, List, [], ◌∷◌, ◌++◌, length, map, get_or, All, None, Some, refl, sym, ap, arith}
use Rattle.std.specs.Prelude.{unwrap_or}
use Rattle.std.specs.List.{list_any}
use Rattle.std.proofs.lemmas.Bool.{false≢true}
use Rattle.std.proofs.lemmas.List.{append-nil, ext_get_or}
use Rattle.std.proofs.lemmas.List.Folds.{list_any-append}
use Rattle.rtl_bits.specs.declared.Bit.{Bit}
use Rattle.rtl_bits.specs.declared.Bit.TheVariants.{Zero, One, X, Z}
use Rattle.rtl_bits.specs.Bit.{or_bit}
use Rattle.rtl_bits.specs.Inside.{length-tabulate}
use Rattle.rtl_bits.proofs.Lists.{get_or-tabulate}
use Rattle.event_model.specs.Bodies.{Made, Now, after_made, assigned}
use Rattle.rtl_flat.specs.Flats.{Flat, widths}
use Rattle.event_model.specs.Traces.{covers, makes, makes_late, makes_now}
use Rattle.event_model.specs.Writes.{Values, Write}
use Rattle.event_laws.proofs.Written.{AreMadeWithin, kept_after}
use Rattle.net_model.specs.Block.{Maps, arm_bits, arms_late, arms_write, fresh, joined_arms, with_bits, write_each, write_next, write_now}
use Rattle.net_model.specs.Numbers.{AreNumbers, bit}
use Rattle.net_laws.specs.Laws.{last_written, late_writes}
use Rattle.net_laws.proofs.Known.{KnownBit, known_at}
use Rattle.net_laws.proofs.Late.{after_append, any_late, last_append, late_append, late_known, none_last, some_last}
use Rattle.net_laws.proofs.Numbers.{IsMadeKnown, numbers_made}

-- some maps after what a run makes from others
pub record IsAfter (m : Maps) (ms : List Made) (after : Maps) : Type 0 where
  pub now : after.now ≡ after_made m.now ms
  pub next : (i k : ℕ) → after.next i k ≡ last_written i k (m.next i k) (late_writes ms)
  pub wrote : (i k : ℕ) → after.wrote i k ≡ (list_any (makes i k) ms || m.wrote i k)
  pub late : (i k : ℕ) → after.late i k ≡ (list_any (makes_late i k) ms || m.late i k)

pub after_none : (m : Maps) → IsAfter m [] m
after_none m = record { now = refl; next = λ i k. refl; wrote = λ i k. refl; late = λ i k. refl }

-- the later of two lists is asked first
both_any : {A : Type 0} (f : A → Bool) (xs ys : List A) (old : Bool) → (list_any f ys || (list_any f xs || old)) ≡ (list_any f (xs ++ ys) || old)
both_any f xs ys old =
    turn (list_any f xs) (list_any f ys) old ∙ ap (λ b. b || old) (sym (list_any-append f xs ys))
  where
    turn : (a b c : Bool) → (b || (a || c)) ≡ ((a || b) || c)
    turn true true c = refl
    turn true false c = refl
    turn false b c = refl

pub after_both : (m : Maps) (ms : List Made) (middle : Maps) (ns : List Made) (after : Maps) → IsAfter m ms middle → IsAfter middle ns after → IsAfter m (ms ++ ns) after
after_both m ms middle ns after first second =
    record {
      now = second.now ∙ ap (λ v. after_made v ns) first.now ∙ sym (after_append m.now ms ns);
      next = λ i k. second.next i k ∙ ap (λ old. last_written i k old (late_writes ns)) (first.next i k)
          ∙ sym (last_append i k (m.next i k) (late_writes ms) (late_writes ns))
          ∙ ap (last_written i k (m.next i k)) (sym (late_append ms ns));
      wrote = λ i k. second.wrote i k ∙ ap (λ b. list_any (makes i k) ns || b) (first.wrote i k) ∙ both_any (makes i k) ms ns (m.wrote i k);
      late = λ i k. second.late i k ∙ ap (λ b. list_any (makes_late i k) ns || b) (first.late i k) ∙ both_any (makes_late i k) ms ns (m.late i k);
    }

pub either_after : (m : Maps) (b : Bool) (p q : List Made) (x y : Maps) → (b ≡ true → IsAfter m p x) → (b ≡ false → IsAfter m q y) → IsAfter m (if b then p else q) (if b then x else y)
either_after m true p q x y left right = left refl
either_after m false p q x y left right = right refl

-- ---- assignments

or_none : (b : Bool) → (b || false) ≡ b
or_none true = refl
or_none false = refl

written_now : (m : Maps) (w : Write) → IsAfter m (Now w ∷ []) (write_now m w)
written_now m w =
    record {
      now = refl;
      next = λ i k. refl;
      wrote = λ i k. ap (λ b. b || m.wrote i k) (sym (or_none (covers i k w || false) ∙ or_none (covers i k w)));
      late = λ i k. refl;
    }

all_now : (m : Maps) (us : List Write) → IsAfter m (map Now us) (write_each false m us)
all_now m [] = after_none m
all_now m (w ∷ us) =
    after_both m (Now w ∷ []) (write_now m w) (map Now us) (write_each false (write_now m w) us) (written_now m w) (all_now (write_now m w) us)

-- what nonblocking writes leave
record AreLater (m : Maps) (us : List Write) (after : Maps) : Type 0 where
  now : after.now ≡ m.now
  next : (i k : ℕ) → after.next i k ≡ last_written i k (m.next i k) us
  wrote : (i k : ℕ) → after.wrote i k ≡ (list_any (covers i k) us || m.wrote i k)
  late : (i k : ℕ) → after.late i k ≡ (list_any (covers i k) us || m.late i k)

all_later : (m : Maps) (us : List Write) → AreLater m us (write_each true m us)
all_later m [] = record { now = refl; next = λ i k. refl; wrote = λ i k. refl; late = λ i k. refl }
all_later m (w ∷ us) =
    let rest = all_later (write_next m w) us in
    record {
      now = rest.now;
      next = rest.next;
      wrote = λ i k. rest.wrote i k ∙ turn (covers i k w) (list_any (covers i k) us) (m.wrote i k);
      late = λ i k. rest.late i k ∙ turn (covers i k w) (list_any (covers i k) us) (m.late i k);
    }
  where
    turn : (a b c : Bool) → (b || (a || c)) ≡ ((a || b) || c)
    turn true true c = refl
    turn true false c = refl
    turn false b c = refl

pub after_set : (m : Maps) (delayed : Bool) (us : List Write) → IsAfter m (assigned delayed us) (write_each delayed m us)
after_set m false us = all_now m us
after_set m true us =
    let later = all_later m us in
    record {
      now = later.now;
      next = λ i k. later.next i k ∙ ap (last_written i k (m.next i k)) (sym (append-nil us));
      wrote = λ i k. later.wrote i k ∙ ap (λ b. b || m.wrote i k) (sym (or_none (list_any (covers i k) us)));
      late = λ i k. later.late i k ∙ ap (λ b. b || m.late i k) (sym (or_none (list_any (covers i k) us)));
    }

-- ---- one arm

-- what is made is made in one of the two ways
pub made_either : (i k : ℕ) (ms : List Made) → list_any (makes i k) ms ≡ (list_any (makes_now i k) ms || list_any (makes_late i k) ms)
made_either i k [] = refl
made_either i k (m ∷ ms) =
    ap (λ b. (makes_now i k m || makes_late i k m) || b) (made_either i k ms)
    ∙ turn (makes_now i k m) (makes_late i k m) (list_any (makes_now i k) ms) (list_any (makes_late i k) ms)
  where
    turn : (a b c e : Bool) → ((a || b) || (c || e)) ≡ ((a || c) || (b || e))
    turn true b c e = refl
    turn false true true e = refl
    turn false true false e = refl
    turn false false c e = refl

or_zero : (b : Bit) → KnownBit b → or_bit b Zero ≡ b
or_zero Zero known = refl
or_zero One known = refl
or_zero X known = cc
or_zero Z known = cc

module _ (d : Flat) (m : Maps) (are : AreNumbers d m.now) (ms : List Made) (inside : AreMadeWithin d ms) (new : All IsMadeKnown ms) (arm : Maps) (is : IsAfter (fresh m) ms arm) (apart : (i k : ℕ) → list_any (makes_now i k) ms ≡ true → (m.next i k ≡ None) × (list_any (makes_late i k) ms ≡ false)) where
  armed_wrote : (i k : ℕ) → arms_write (arm ∷ []) i k ≡ list_any (makes i k) ms
  armed_wrote i k =
      or_none (arm.wrote i k) ∙ is.wrote i k ∙ or_none (list_any (makes i k) ms)

  armed_late : (i k : ℕ) → arms_late (arm ∷ []) i k ≡ list_any (makes_late i k) ms
  armed_late i k =
      or_none (arm.late i k) ∙ is.late i k ∙ or_none (list_any (makes_late i k) ms)

  armed_next : (i k : ℕ) → arm.next i k ≡ last_written i k (m.next i k) (late_writes ms)
  armed_next i k = is.next i k

  -- a bit that is written late
  armed_some : (i k : ℕ) → list_any (makes_late i k) ms ≡ true → Some (arm_bits (arm ∷ []) i k) ≡ last_written i k (m.next i k) (late_writes ms)
  armed_some i k late =
      let (b, last, known) = some_last i k (m.next i k) (late_writes ms) (late_known ms new) (any_late i k ms ∙ late) in
      ap (λ o. Some (or_bit (unwrap_or o (bit arm.now i k)) Zero)) (armed_next i k ∙ last) ∙ ap Some (or_zero b known) ∙ sym last

  armed_next_is : (i k : ℕ) (late : Bool) → list_any (makes_late i k) ms ≡ late → cond late (Some (arm_bits (arm ∷ []) i k)) (m.next i k) ≡ last_written i k (m.next i k) (late_writes ms)
  armed_next_is i k true e = armed_some i k e
  armed_next_is i k false e =
      sym (none_last i k (m.next i k) (late_writes ms) (any_late i k ms ∙ e))

  -- a bit that is written at once
  armed_now : (i k : ℕ) → k < widths d i → list_any (makes_now i k) ms ≡ true → arm_bits (arm ∷ []) i k ≡ bit (after_made m.now ms) i k
  armed_now i k below now =
      let (none, not_late) = apart i k now in
      let next : arm.next i k ≡ None = armed_next i k ∙ none_last i k (m.next i k) (late_writes ms) (any_late i k ms ∙ not_late) ∙ none in
      let numbers = numbers_made d m.now ms are inside new in
      let wide = numbers.wide i in
      ap (λ o. or_bit (unwrap_or o (bit arm.now i k)) Zero) next
      ∙ ap (λ (v : Values). or_bit (bit v i k) Zero) is.now
      ∙ or_zero (bit (after_made m.now ms) i k) (known_at (after_made m.now ms i) k (numbers.known i) (omega (arith, below, wide)))

  armed_bit :
      (i k : ℕ) → k < widths d i → (now late : Bool) → list_any (makes_now i k) ms ≡ now → list_any (makes_late i k) ms ≡ late →
      cond ((now || late) && not late) (arm_bits (arm ∷ []) i k) (bit m.now i k) ≡ bit (after_made m.now ms) i k
  armed_bit i k below true true is_now is_late =
      absurd (false≢true (sym (apart i k is_now).1 ∙ is_late))
  armed_bit i k below true false is_now is_late = armed_now i k below is_now
  armed_bit i k below false true is_now is_late =
      sym (kept_after d i k m.now ms are.wide inside is_now)
  armed_bit i k below false false is_now is_late =
      sym (kept_after d i k m.now ms are.wide inside is_now)

  joined_now : (i : ℕ) → with_bits m.now (λ j k. arms_write (arm ∷ []) j k && not (arms_late (arm ∷ []) j k)) (arm_bits (arm ∷ [])) i ≡ after_made m.now ms i
  joined_now i =
      let size = length-tabulate (length (m.now i)) (λ k. cond (arms_write (arm ∷ []) i k && not (arms_late (arm ∷ []) i k)) (arm_bits (arm ∷ []) i k) (bit m.now i k)) in
      let wide = (numbers_made d m.now ms are inside new).wide i in
      let before = are.wide i in
      ext_get_or X (with_bits m.now (λ j k. arms_write (arm ∷ []) j k && not (arms_late (arm ∷ []) j k)) (arm_bits (arm ∷ [])) i) (after_made m.now ms i)
      (size ∙ before ∙ sym wide) (λ k below. at k (omega (arith, below, size)) (omega (arith, below, size, before)))
    where
      at : (k : ℕ) → k < length (m.now i) → k < widths d i → get_or (with_bits m.now (λ j k. arms_write (arm ∷ []) j k && not (arms_late (arm ∷ []) j k)) (arm_bits (arm ∷ [])) i) k X ≡ get_or (after_made m.now ms i) k X
      at k below inside' =
          get_or-tabulate (length (m.now i)) (λ j. cond (arms_write (arm ∷ []) i j && not (arms_late (arm ∷ []) i j)) (arm_bits (arm ∷ []) i j) (bit m.now i j)) k X below
          ∙ ap (λ b. cond (b && not (arms_late (arm ∷ []) i k)) (arm_bits (arm ∷ []) i k) (bit m.now i k)) (armed_wrote i k ∙ made_either i k ms)
          ∙ ap (λ b. cond ((list_any (makes_now i k) ms || list_any (makes_late i k) ms) && not b) (arm_bits (arm ∷ []) i k) (bit m.now i k)) (armed_late i k)
          ∙ armed_bit i k inside' (list_any (makes_now i k) ms) (list_any (makes_late i k) ms) refl refl

  -- one arm makes what it makes alone
  pub after_arm : IsAfter m ms (joined_arms m (arm ∷ []))
  after_arm =
      record {
        now = λ x i. joined_now i x;
        next = λ i k. ap (λ b. cond b (Some (arm_bits (arm ∷ []) i k)) (m.next i k)) (armed_late i k) ∙ armed_next_is i k (list_any (makes_late i k) ms) refl;
        wrote = λ i k. ap (λ b. b || m.wrote i k) (armed_wrote i k);
        late = λ i k. ap (λ b. b || m.late i k) (armed_late i k);
      }
