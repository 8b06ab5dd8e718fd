-- The function of a body, from numbers that agree on what it reads before it has written it.
use Rattle.std.proofs.Common.{◌≡◌, ◌∙◌, ◌⊎◌, ◌<◌, ◌-◌, ℕ, Bool, true, false, cond, not, ◌&&◌, ◌||◌, if◌then◌else◌, List, [], ◌∷◌, length, get_or, All, Some, refl, sym, ap, subst, inl, inr, arith}
use Rattle.std.specs.Prelude.{unwrap_or}
use Rattle.std.proofs.lemmas.Bool.{and_from, and_parts, cases_Bool, cases_lt, false≢true, not_from_false, or_cases, or_left, or_right}
use Rattle.std.proofs.lemmas.List.{get_or_past}
use Rattle.std.proofs.lemmas.List.Elements.{All-head, All-tail}
use Rattle.rtl_bits.specs.declared.Bit.{Bit}
use Rattle.rtl_bits.specs.declared.Bit.TheVariants.{X}
use Rattle.rtl_bits.specs.Bit.{is_one, or_bit}
use Rattle.rtl_bits.specs.Bits.{truth_bit}
use Rattle.rtl_bits.proofs.Lists.{get_or-tabulate}
use Rattle.text_ground.specs.declared.text.Spot.{Spot}
use Rattle.rtl_flat.specs.declared.act.CaseKind.{CaseKind}
use Rattle.rtl_flat.specs.Expression.{Tree}
use Rattle.rtl_flat.specs.Flows.{action_then, body_flow, complete_by_labels, is_complete, labels_of, may_target, other_flow, reads, reads_all, target_reads, targets, way_past, ways}
use Rattle.rtl_flat.specs.Paths.{BitSet, Flow, End, either, every, every_way, first, first_way, may_write_blocking, may_write_delayed, may_write_late, reads_bit, writes_now}
use Rattle.rtl_flat.specs.Process.{Action, Set, If, Case, Block, Actions, Done, Then, Otherwise, Without, With, Branches, NoBranch, Branch}
use Rattle.rtl_flat.specs.WellFormed.{AreBranches, IsAction, IsBody, IsOtherwise}
use Rattle.rtl_flat.proofs.Flows.{every_action, first_action}
use Rattle.rtl_flat.specs.Flats.{Flat, widths}
use Rattle.event_model.specs.Traces.{Same, covers}
use Rattle.event_model.specs.Writes.{Values, Write, written}
use Rattle.demo_clean.specs.event_laws.Steady.{HaveWidths, IsWithin}
use Rattle.demo_clean.proofs.event_laws_proofs.Lengths.{have_written}
use Rattle.demo_clean.proofs.event_laws_proofs.Targets.{IsOver, same_count}
use Rattle.demo_clean.proofs.event_laws_proofs.Written.{written_in, written_out}
use Rattle.net_model.specs.declared.fill.Fill.{Fill}
use Rattle.net_model.specs.Block.{Maps, act, act_arms, act_first, act_other, acts, arm_bits, arms_late, arms_write, first_maps, bit_after, block_bit, digit_writes, filled_case, fresh, item_meets, joined_arms, some_meets, with_bits, write_each, write_next, write_now}
use Rattle.net_model.specs.Numbers.{AreNumbers, bit, digits, fill_bit}
use Rattle.demo_clean.proofs.net_laws_proofs.Depends.{with_wide, writes_within}
use Rattle.demo_clean.proofs.net_laws_proofs.Digits.{digits_size}
use Rattle.demo_clean.proofs.net_laws_proofs.Known.{both}
use Rattle.demo_clean.proofs.net_laws_proofs.Numeric.{IsNumeric, body_numeric}
use Rattle.demo_clean.proofs.net_laws_proofs.Parts.{Gives, GivesItems, fallback_gives, first_gives, item_gives, items_give, later_give, other_gives, others_give, taken_gives}
use Rattle.demo_clean.proofs.net_solve_proofs.Digits.{AgreeOn, same_digits}
use Rattle.demo_laws.proofs.Complete.{complete_meets}
use Rattle.demo_laws.proofs.Reading.{SameItems, all_may, on_left, on_right, same_items, same_some, same_writes, target_over}
use Rattle.demo_laws.proofs.Sure.{AllRead, AllSure, Reads, ReadsWays, action_sure, past_reads, past_sure, ways_read, ways_sure}

-- maps that agree: on the bits of one set from the beginning, and on those of another since they were written. All that
-- is for the end agrees, and is of bits in a third set
record IsAlike (d : Flat) (P Q S : ℕ → ℕ → Type 0) (a b : Maps) : Type 0 where
  wide : HaveWidths d a.now
  wide' : HaveWidths d b.now
  now : (i k : ℕ) → Q i k → Same a.now b.now i k
  new : (i k : ℕ) → S i k → Same a.now b.now i k
  done : (i k : ℕ) → S i k → a.wrote i k ≡ true
  next : (i k : ℕ) → a.next i k ≡ b.next i k
  wrote : (i k : ℕ) → a.wrote i k ≡ b.wrote i k
  late : (i k : ℕ) → a.late i k ≡ b.late i k
  few : (i k : ℕ) → a.late i k ≡ true → P i k

-- a bit in one of two sets
abbrev Or : (ℕ → ℕ → Type 0) → (ℕ → ℕ → Type 0) → ℕ → ℕ → Type 0
Or Q S i k = Q i k ⊎ S i k

abbrev Never : ℕ → ℕ → Type 0
Never i k = ⊥

module _ (d : Flat) (P Q : ℕ → ℕ → Type 0) (sub : (i k : ℕ) → P i k → Q i k) where
  fewer : (S T : ℕ → ℕ → Type 0) (a b : Maps) → ((i k : ℕ) → T i k → S i k) → IsAlike d P Q S a b → IsAlike d P Q T a b
  fewer S T a b to alike =
      record {
        wide = alike.wide;
        wide' = alike.wide';
        now = alike.now;
        new = λ i k t. alike.new i k (to i k t);
        done = λ i k t. alike.done i k (to i k t);
        next = alike.next;
        wrote = alike.wrote;
        late = alike.late;
        few = alike.few;
      }

  fresh_alike : (S : ℕ → ℕ → Type 0) (a b : Maps) → IsAlike d P Q S a b → IsAlike d P (Or Q S) Never (fresh a) (fresh b)
  fresh_alike S a b alike =
      record {
        wide = alike.wide;
        wide' = alike.wide';
        now = λ i k either. elim either as (λ _. Same a.now b.now i k) [ inl q ↦ alike.now i k q | inr s ↦ alike.new i k s ];
        new = λ i k none. absurd none;
        done = λ i k none. absurd none;
        next = alike.next;
        wrote = λ i k. refl;
        late = λ i k. refl;
        few = λ i k none. absurd (false≢true none);
      }

  -- ---- writes

  kept_same : (n m : Values) (w : Write) (i k : ℕ) → HaveWidths d n → HaveWidths d m → IsWithin (widths d) w → (covers i k w ≡ false → Same n m i k) → Same (written n w) (written m w) i k
  kept_same n m w i k wide wide' inside same =
      elim (cases_Bool (covers i k w)) [
        | inl over ↦ written_in d n w wide inside i k over ∙ sym (written_in d m w wide' inside i k over)
        | inr not_over ↦ written_out d n w wide inside i k not_over ∙ same not_over ∙ sym (written_out d m w wide' inside i k not_over)
      ]

  now_alike : (S : ℕ → ℕ → Type 0) (a b : Maps) (w : Write) → IsWithin (widths d) w → IsAlike d P Q S a b → IsAlike d P Q (λ i k. S i k ⊎ (covers i k w ≡ true)) (write_now a w) (write_now b w)
  now_alike S a b w inside alike =
      record {
        wide = have_written d a.now w alike.wide inside;
        wide' = have_written d b.now w alike.wide' inside;
        now = λ i k q. kept_same a.now b.now w i k alike.wide alike.wide' inside (λ _. alike.now i k q);
        new = λ i k h. kept_same a.now b.now w i k alike.wide alike.wide' inside
            (λ none. elim h as (λ _. Same a.now b.now i k) [ inl s ↦ alike.new i k s | inr over ↦ absurd (false≢true (sym none ∙ over)) ]);
        done = λ i k h. elim h as (λ _. (covers i k w || a.wrote i k) ≡ true) [
          | inl s ↦ or_right (covers i k w) (a.wrote i k) (alike.done i k s)
          | inr over ↦ or_left (covers i k w) (a.wrote i k) over
        ];
        next = alike.next;
        wrote = λ i k. ap (λ x. covers i k w || x) (alike.wrote i k);
        late = alike.late;
        few = alike.few;
      }

  next_alike : (S : ℕ → ℕ → Type 0) (a b : Maps) (w : Write) → ((i k : ℕ) → covers i k w ≡ true → P i k) → IsAlike d P Q S a b → IsAlike d P Q S (write_next a w) (write_next b w)
  next_alike S a b w of alike =
      record {
        wide = alike.wide;
        wide' = alike.wide';
        now = alike.now;
        new = alike.new;
        done = λ i k s. or_right (covers i k w) (a.wrote i k) (alike.done i k s);
        next = λ i k. ap (λ x. cond (covers i k w) (Some (get_or w.bits (k - w.at) X)) x) (alike.next i k);
        wrote = λ i k. ap (λ x. covers i k w || x) (alike.wrote i k);
        late = λ i k. ap (λ x. covers i k w || x) (alike.late i k);
        few = λ i k h. elim (or_cases (covers i k w) (a.late i k) h) [ inl over ↦ of i k over | inr before ↦ alike.few i k before ];
      }

  each_now : (S : ℕ → ℕ → Type 0) (a b : Maps) (us : List Write) → All (IsWithin (widths d)) us → IsAlike d P Q S a b → IsAlike d P Q (λ i k. S i k ⊎ IsOver i k us) (write_each false a us) (write_each false b us)
  each_now S a b [] inside alike =
      fewer S (λ i k. S i k ⊎ IsOver i k []) a b (λ i k h. elim h as (λ _. S i k) [ inl s ↦ s | inr none ↦ absurd (false≢true none) ]) alike
  each_now S a b (w ∷ us) inside alike =
      fewer (λ i k. (S i k ⊎ (covers i k w ≡ true)) ⊎ IsOver i k us) (λ i k. S i k ⊎ IsOver i k (w ∷ us)) (write_each false (write_now a w) us) (write_each false (write_now b w) us)
      (λ i k h. elim h as (λ _. (S i k ⊎ (covers i k w ≡ true)) ⊎ IsOver i k us) [
        | inl s ↦ inl (inl s)
        | inr over ↦ elim (or_cases (covers i k w) _ over) [ inl here ↦ inl (inr here) | inr there ↦ inr there ]
      ])
      (each_now (λ i k. S i k ⊎ (covers i k w ≡ true)) (write_now a w) (write_now b w) us (All-tail (IsWithin (widths d)) w us inside)
      (now_alike S a b w (All-head (IsWithin (widths d)) w us inside) alike))

  each_next : (S : ℕ → ℕ → Type 0) (a b : Maps) (us : List Write) → ((i k : ℕ) → IsOver i k us → P i k) → IsAlike d P Q S a b → IsAlike d P Q S (write_each true a us) (write_each true b us)
  each_next S a b [] of alike = alike
  each_next S a b (w ∷ us) of alike =
      each_next S (write_next a w) (write_next b w) us (λ i k over. of i k (or_right (covers i k w) _ over))
      (next_alike S a b w (λ i k over. of i k (or_left (covers i k w) _ over)) alike)

  -- ---- maps of cases

  with_bit : (n : Values) (bits : BitSet) (new : ℕ → ℕ → Bit) (i k : ℕ) → HaveWidths d n → k < widths d i → bit (with_bits n bits new) i k ≡ cond (bits i k) (new i k) (bit n i k)
  with_bit n bits new i k wide below =
      let long = wide i in
      get_or-tabulate (length (n i)) (λ j. cond (bits i j) (new i j) (bit n i j)) k X (omega (arith, below, long))

  with_same :
      (n m : Values) (bits bits' : BitSet) (new new' : ℕ → ℕ → Bit) (i k : ℕ) → HaveWidths d n → HaveWidths d m → bits i k ≡ bits' i k →
      (bits' i k ≡ true → new i k ≡ new' i k) → (bits' i k ≡ false → Same n m i k) →
      Same (with_bits n bits new) (with_bits m bits' new') i k
  with_same n m bits bits' new new' i k wide wide' same chosen left =
      elim (cases_lt k (widths d i)) [
        | inl below ↦
            with_bit n bits new i k wide below ∙ ap (λ c. cond c (new i k) (bit n i k)) same
            ∙ by (bits' i k) chosen left
            ∙ sym (with_bit m bits' new' i k wide' below)
        | inr past ↦
            let long = with_wide d (λ _ _. ⊥) n bits new wide i in
            let long' = with_wide d (λ _ _. ⊥) m bits' new' wide' i in
            get_or_past (with_bits n bits new i) k X (omega (arith, past, long)) ∙ sym (get_or_past (with_bits m bits' new' i) k X (omega (arith, past, long')))
      ]
    where
      by : (c : Bool) → (c ≡ true → new i k ≡ new' i k) → (c ≡ false → Same n m i k) → cond c (new i k) (bit n i k) ≡ cond c (new' i k) (bit m i k)
      by true chosen left = chosen refl
      by false chosen left = left refl

  filled_alike :
      (S : ℕ → ℕ → Type 0) (f : Fill) (at_once later : BitSet) (a b : Maps) → ((i k : ℕ) → later i k ≡ true → P i k) → IsAlike d P Q S a b →
      IsAlike d P Q (λ i k. S i k ⊎ (at_once i k ≡ true)) (filled_case f at_once later a) (filled_case f at_once later b)
  filled_alike S f at_once later a b of alike =
      record {
        wide = with_wide d (λ _ _. ⊥) a.now at_once (λ i k. fill_bit f) alike.wide;
        wide' = with_wide d (λ _ _. ⊥) b.now at_once (λ i k. fill_bit f) alike.wide';
        now = λ i k q. with_same a.now b.now at_once at_once (λ i k. fill_bit f) (λ i k. fill_bit f) i k alike.wide alike.wide' refl (λ _. refl) (λ _. alike.now i k q);
        new = λ i k h. with_same a.now b.now at_once at_once (λ i k. fill_bit f) (λ i k. fill_bit f) i k alike.wide alike.wide' refl (λ _. refl)
            (λ none. elim h as (λ _. Same a.now b.now i k) [ inl s ↦ alike.new i k s | inr is ↦ absurd (false≢true (sym none ∙ is)) ]);
        done = λ i k h. elim h as (λ _. ((at_once i k || later i k) || a.wrote i k) ≡ true) [
          | inl s ↦ or_right (at_once i k || later i k) (a.wrote i k) (alike.done i k s)
          | inr is ↦ or_left (at_once i k || later i k) (a.wrote i k) (or_left (at_once i k) (later i k) is)
        ];
        next = λ i k. ap (λ x. cond (later i k) (Some (fill_bit f)) x) (alike.next i k);
        wrote = λ i k. ap (λ x. (at_once i k || later i k) || x) (alike.wrote i k);
        late = λ i k. ap (λ x. later i k || x) (alike.late i k);
        few = λ i k h. elim (or_cases (later i k) (a.late i k) h) [ inl is ↦ of i k is | inr before ↦ alike.few i k before ];
      }

-- ---- arms

module _ (d : Flat) (P : ℕ → ℕ → Type 0) where
  -- arms that are alike one by one
  abbrev AllAlike : (ℕ → ℕ → Type 0) → (ℕ → ℕ → Type 0) → List Maps → List Maps → Type 0
  AllAlike Q T [] [] = Unit {0}
  AllAlike Q T [] (b ∷ ys) = ⊥
  AllAlike Q T (a ∷ xs) [] = ⊥
  AllAlike Q T (a ∷ xs) (b ∷ ys) = IsAlike d P Q T a b × AllAlike Q T xs ys

  module _ (Q T : ℕ → ℕ → Type 0) where
    same_after : (a b : Maps) (i k : ℕ) → Or Q T i k → IsAlike d P Q T a b → bit_after a i k ≡ bit_after b i k
    same_after a b i k h alike =
        both unwrap_or (a.next i k) (b.next i k) (bit a.now i k) (bit b.now i k) (alike.next i k)
        (elim h as (λ _. Same a.now b.now i k) [ inl q ↦ alike.now i k q | inr t ↦ alike.new i k t ])

    same_bits : (xs ys : List Maps) → AllAlike Q T xs ys → (i k : ℕ) → Or Q T i k → arm_bits xs i k ≡ arm_bits ys i k
    same_bits [] [] alike i k h = refl
    same_bits [] (y ∷ ys) alike i k h = absurd alike
    same_bits (x ∷ xs) [] alike i k h = absurd alike
    same_bits (x ∷ xs) (y ∷ ys) alike i k h =
        both or_bit (bit_after x i k) (bit_after y i k) (arm_bits xs i k) (arm_bits ys i k) (same_after x y i k h alike.0) (same_bits xs ys alike.1 i k h)

    same_arms : (xs ys : List Maps) → AllAlike Q T xs ys → (i k : ℕ) → (arms_write xs i k ≡ arms_write ys i k) × (arms_late xs i k ≡ arms_late ys i k)
    same_arms [] [] alike i k = (refl, refl)
    same_arms [] (y ∷ ys) alike i k = absurd alike
    same_arms (x ∷ xs) [] alike i k = absurd alike
    same_arms (x ∷ xs) (y ∷ ys) alike i k =
        let rest = same_arms xs ys alike.1 i k in (
          both (λ u v. u || v) (x.wrote i k) (y.wrote i k) (arms_write xs i k) (arms_write ys i k) (alike.0.wrote i k) rest.0,
          both (λ u v. u || v) (x.late i k) (y.late i k) (arms_late xs i k) (arms_late ys i k) (alike.0.late i k) rest.1,
        )

    late_few : (xs ys : List Maps) → AllAlike Q T xs ys → (i k : ℕ) → arms_late xs i k ≡ true → P i k
    late_few [] [] alike i k h = absurd (false≢true h)
    late_few [] (y ∷ ys) alike i k h = absurd alike
    late_few (x ∷ xs) [] alike i k h = absurd alike
    late_few (x ∷ xs) (y ∷ ys) alike i k h =
        elim (or_cases (x.late i k) (arms_late xs i k) h) [ inl here ↦ alike.0.few i k here | inr there ↦ late_few xs ys alike.1 i k there ]

    -- there is an arm
    abbrev pub IsSome : List Maps → Type 0
    IsSome [] = ⊥
    IsSome (x ∷ xs) = Unit {0}

    arms_done : (xs ys : List Maps) → AllAlike Q T xs ys → IsSome xs → (i k : ℕ) → T i k → arms_write xs i k ≡ true
    arms_done [] ys alike some i k t = absurd some
    arms_done (x ∷ xs) [] alike some i k t = absurd alike
    arms_done (x ∷ xs) (y ∷ ys) alike some i k t =
        or_left (x.wrote i k) (arms_write xs i k) (alike.0.done i k t)

  module _ (Q S T : ℕ → ℕ → Type 0) (sub : (i k : ℕ) → P i k → Q i k) (a b : Maps) (xs ys : List Maps) (alike : IsAlike d P Q S a b) (arms : AllAlike (Or Q S) T xs ys) (some : IsSome (Or Q S) T xs) where
    abbrev chosen : List Maps → ℕ → ℕ → Bool
    chosen all i k = arms_write all i k && not (arms_late all i k)

    same_chosen : (i k : ℕ) → chosen xs i k ≡ chosen ys i k
    same_chosen i k =
        let same = same_arms (Or Q S) T xs ys arms i k in
        both (λ u v. u && not v) (arms_write xs i k) (arms_write ys i k) (arms_late xs i k) (arms_late ys i k) same.0 same.1

    joined_same : (i k : ℕ) → Or (Or Q S) T i k → (chosen ys i k ≡ false → Same a.now b.now i k) → Same (with_bits a.now (chosen xs) (arm_bits xs)) (with_bits b.now (chosen ys) (arm_bits ys)) i k
    joined_same i k h left =
        with_same d P Q sub a.now b.now (chosen xs) (chosen ys) (arm_bits xs) (arm_bits ys) i k alike.wide alike.wide' (same_chosen i k)
        (λ _. same_bits (Or Q S) T xs ys arms i k h) left

    -- a bit that all arms wrote at once was written, or is for the end
    not_left : (i k : ℕ) → T i k → chosen ys i k ≡ false → Same a.now b.now i k
    not_left i k t none =
        elim (cases_Bool (arms_late xs i k)) [
          | inl is ↦ alike.now i k (sub i k (late_few (Or Q S) T xs ys arms i k is))
          | inr isnt ↦
              absurd (false≢true (sym none ∙ (sym (same_chosen i k) ∙ and_from (arms_write xs i k) (not (arms_late xs i k)) (arms_done (Or Q S) T xs ys arms some i k t) (not_from_false (arms_late xs i k) isnt))))
        ]

    joined_next : (i k : ℕ) → cond (arms_late xs i k) (Some (arm_bits xs i k)) (a.next i k) ≡ cond (arms_late ys i k) (Some (arm_bits ys i k)) (b.next i k)
    joined_next i k =
        ap (λ c. cond c (Some (arm_bits xs i k)) (a.next i k)) (same_arms (Or Q S) T xs ys arms i k).1
        ∙ by (arms_late ys i k) (λ is. same_bits (Or Q S) T xs ys arms i k (inl (inl (sub i k (late_few (Or Q S) T xs ys arms i k ((same_arms (Or Q S) T xs ys arms i k).1 ∙ is))))))
      where
        by : (c : Bool) → (c ≡ true → arm_bits xs i k ≡ arm_bits ys i k) → cond c (Some (arm_bits xs i k)) (a.next i k) ≡ cond c (Some (arm_bits ys i k)) (b.next i k)
        by true same = ap (λ (x : Bit). Some x) (same refl)
        by false same = alike.next i k

    joined_alike : IsAlike d P Q (Or S T) (joined_arms a xs) (joined_arms b ys)
    joined_alike =
        record {
          wide = with_wide d (λ _ _. ⊥) a.now (chosen xs) (arm_bits xs) alike.wide;
          wide' = with_wide d (λ _ _. ⊥) b.now (chosen ys) (arm_bits ys) alike.wide';
          now = λ i k q. joined_same i k (inl (inl q)) (λ _. alike.now i k q);
          new = λ i k h. elim h as (λ _. Same (joined_arms a xs).now (joined_arms b ys).now i k) [
            | inl s ↦ joined_same i k (inl (inr s)) (λ _. alike.new i k s)
            | inr t ↦ joined_same i k (inr t) (not_left i k t)
          ];
          done = λ i k h. elim h as (λ _. (arms_write xs i k || a.wrote i k) ≡ true) [
            | inl s ↦ or_right (arms_write xs i k) (a.wrote i k) (alike.done i k s)
            | inr t ↦ or_left (arms_write xs i k) (a.wrote i k) (arms_done (Or Q S) T xs ys arms some i k t)
          ];
          next = joined_next;
          wrote = λ i k. both (λ u v. u || v) (arms_write xs i k) (arms_write ys i k) (a.wrote i k) (b.wrote i k) (same_arms (Or Q S) T xs ys arms i k).0 (alike.wrote i k);
          late = λ i k. both (λ u v. u || v) (arms_late xs i k) (arms_late ys i k) (a.late i k) (b.late i k) (same_arms (Or Q S) T xs ys arms i k).1 (alike.late i k);
          few = λ i k h. elim (or_cases (arms_late xs i k) (a.late i k) h) [ inl is ↦ late_few (Or Q S) T xs ys arms i k is | inr before ↦ alike.few i k before ];
        }

-- ---- statements

-- a bit that every path of a flow writes at once
abbrev SureOf : Flow → ℕ → ℕ → Type 0
SureOf flow i k = every (writes_now i k) flow ≡ true

some_arm : (ws : ℕ → ℕ) (d : Flat) (P Q T : ℕ → ℕ → Type 0) (f : Fill) (a : Maps) (kind : CaseKind) (bits : List Bit) (branches : Branches) → item_meets f a.now kind bits branches ≡ true → IsSome d P Q T (act_arms ws f a kind bits branches)
some_arm ws d P Q T f a kind bits NoBranch h = absurd (false≢true h)
some_arm ws d P Q T f a kind bits (Branch labels body others) h =
    by (some_arm ws d P Q T f a kind bits others) (some_meets f a.now kind bits labels) h
  where
    by : (item_meets f a.now kind bits others ≡ true → IsSome d P Q T (act_arms ws f a kind bits others)) → (c : Bool) → (c || item_meets f a.now kind bits others) ≡ true → IsSome d P Q T (if c then acts ws f (fresh a) body ∷ act_arms ws f a kind bits others else act_arms ws f a kind bits others)
    by rest true h = tt
    by rest false h = rest h

module _ (d : Flat) (f : Fill) (P : ℕ → ℕ → Type 0) where
  abbrev ws : ℕ → ℕ
  ws = widths d

  agree : (Q S : ℕ → ℕ → Type 0) (a b : Maps) → IsAlike d P Q S a b → (i k : ℕ) → Or Q S i k → Same a.now b.now i k
  agree Q S a b alike i k either =
      elim either as (λ _. Same a.now b.now i k) [ inl q ↦ alike.now i k q | inr s ↦ alike.new i k s ]

  -- a fork of two
  two_alike : (Q T : ℕ → ℕ → Type 0) (c : Bool) (a b a' b' : Maps) → IsAlike d P Q T a b → IsAlike d P Q T a' b' → IsAlike d P Q T (if c then a else a') (if c then b else b')
  two_alike Q T true a b a' b' left right = left
  two_alike Q T false a b a' b' left right = right

  -- the writes of an assignment
  set_alike :
      (Q S : ℕ → ℕ → Type 0) → ((i k : ℕ) → P i k → Q i k) → (a b : Maps) → IsAlike d P Q S a b → (delayed : Bool) (us : List Write) → All (IsWithin ws) us →
      (may sure : BitSet) → ((i k : ℕ) → IsOver i k us → may i k ≡ true) → ((i k : ℕ) → sure i k ≡ true → IsOver i k us) →
      ((i k : ℕ) → ((delayed && may i k) || false) ≡ true → P i k) →
      IsAlike d P Q (Or S (λ i k. ((not delayed && sure i k) || false) ≡ true)) (write_each delayed a us) (write_each delayed b us)
  set_alike Q S sub a b alike true us within may sure inside over late =
      fewer d P Q sub S (Or S (λ i k. false ≡ true)) (write_each true a us) (write_each true b us)
      (λ i k h. elim h as (λ _. S i k) [ inl s ↦ s | inr none ↦ absurd (false≢true none) ])
      (each_next d P Q sub S a b us (λ i k is. late i k (or_left (may i k) false (inside i k is))) alike)
  set_alike Q S sub a b alike false us within may sure inside over late =
      fewer d P Q sub (Or S (λ i k. IsOver i k us)) (Or S (λ i k. (sure i k || false) ≡ true)) (write_each false a us) (write_each false b us)
      (λ i k h. elim h as (λ _. S i k ⊎ IsOver i k us) [
        | inl s ↦ inl s
        | inr is ↦ elim (or_cases (sure i k) false is) [ inl here ↦ inr (over i k here) | inr none ↦ absurd (false≢true none) ]
      ])
      (each_now d P Q sub S a b us within alike)

  by_way :
      (Q T : ℕ → ℕ → Type 0) (parallel some : Bool) (a b a' b' : Maps) → (some ≡ true → IsAlike d P Q T a b) → IsAlike d P Q T a' b' →
      IsAlike d P Q T (if parallel && some then a else a') (if parallel && some then b else b')
  by_way Q T true true a b a' b' left right = left refl
  by_way Q T true false a b a' b' left right = right
  by_way Q T false some a b a' b' left right = right

  one_or_other :
      (Q T : ℕ → ℕ → Type 0) (c : Bool) (a b a' b' : Maps) → IsAlike d P Q T a b → (c ≡ false → IsAlike d P Q T a' b') →
      IsAlike d P Q T (if c then a else a') (if c then b else b')
  one_or_other Q T true a b a' b' left right = left
  one_or_other Q T false a b a' b' left right = right refl

  arm_or_none :
      (Q T : ℕ → ℕ → Type 0) (c : Bool) (x y : Maps) (xs ys : List Maps) → IsAlike d P Q T x y → AllAlike d P Q T xs ys →
      AllAlike d P Q T (if c then x ∷ xs else xs) (if c then y ∷ ys else ys)
  arm_or_none Q T true x y xs ys one others = (one, others)
  arm_or_none Q T false x y xs ys one others = others

  -- where no item is met
  past_alike :
      (Q S : ℕ → ℕ → Type 0) → ((i k : ℕ) → P i k → Q i k) → (a b : Maps) → IsAlike d P Q S a b → IsNumeric d a →
      (kind : CaseKind) (full parallel : Bool) (selector : Tree) (branches : Branches) (fallback : Otherwise) (spot : Spot) →
      IsAction d.signals (Case kind full parallel selector branches fallback spot) →
      IsAlike d P Q (Or S (SureOf (other_flow ws fallback))) (act_other ws f a a fallback) (act_other ws f b b fallback) →
      Gives may_write_late P (action_then ws (Case kind full parallel selector branches fallback spot) End) →
      item_meets f a.now kind (digits f a.now selector) branches ≡ false →
      IsAlike d P Q (Or S (SureOf (action_then ws (Case kind full parallel selector branches fallback spot) End)))
      (act_other ws f a (cond full (filled_case f (may_write_blocking (action_then ws (Case kind full parallel selector branches fallback spot) End)) (may_write_delayed (action_then ws (Case kind full parallel selector branches fallback spot) End)) a) a) fallback)
      (act_other ws f b (cond full (filled_case f (may_write_blocking (action_then ws (Case kind full parallel selector branches fallback spot) End)) (may_write_delayed (action_then ws (Case kind full parallel selector branches fallback spot) End)) b) b) fallback)
  past_alike Q S sub a b alike numeric kind full parallel selector branches (With body) spot lawful fall late unmet =
      let flow = action_then ws (Case kind full parallel selector branches (With body) spot) End in
      fewer d P Q sub (Or S (SureOf (body_flow ws body))) (Or S (SureOf flow)) (acts ws f a body) (acts ws f b body)
      (λ i k h. elim h as (λ _. Or S (SureOf (body_flow ws body)) i k) [
        | inl s ↦ inl s
        | inr is ↦ elim (or_cases (every_way (writes_now i k) (ways ws (Some (body_flow ws body)) branches)) false is) [
          | inl here ↦ inr (past_sure ws i k (body_flow ws body) branches here)
          | inr none ↦ absurd (false≢true none)
        ]
      ])
      fall
  past_alike Q S sub a b alike numeric kind true parallel selector branches Without spot lawful fall late unmet =
      let one = Case kind true parallel selector branches Without spot in
      let flow = action_then ws one End in
      fewer d P Q sub (Or S (λ i k. may_write_blocking flow i k ≡ true)) (Or S (SureOf flow)) (filled_case f (may_write_blocking flow) (may_write_delayed flow) a) (filled_case f (may_write_blocking flow) (may_write_delayed flow) b)
      (λ i k h. elim h as (λ _. Or S (λ i k. may_write_blocking flow i k ≡ true) i k) [ inl s ↦ inl s | inr is ↦ inr (action_sure ws i k one is) ])
      (filled_alike d P Q sub S f (may_write_blocking flow) (may_write_delayed flow) a b late alike)
  past_alike Q S sub a b alike numeric kind false parallel selector branches Without spot lawful fall late unmet =
      unpromised (complete_by_labels ws kind selector branches) refl
    where
      unpromised : (complete : Bool) → complete_by_labels ws kind selector branches ≡ complete → IsAlike d P Q (Or S (λ i k. (every_way (writes_now i k) (ways ws (way_past ws complete Without) branches) || false) ≡ true)) a b
      unpromised true is =
          absurd (false≢true (sym unmet ∙ complete_meets d f a.now numeric.now kind selector branches lawful.0 lawful.1 is))
      unpromised false is =
          fewer d P Q sub S (Or S (λ i k. (every_way (writes_now i k) (ways ws (Some End) branches) || false) ≡ true)) a b
          (λ i k h. elim h as (λ _. S i k) [
            | inl s ↦ s
            | inr sure ↦ elim (or_cases (every_way (writes_now i k) (ways ws (Some End) branches)) false sure) [
              | inl here ↦ absurd (false≢true (past_sure ws i k End branches here))
              | inr none ↦ absurd (false≢true none)
            ]
          ]) alike

  fallback_read : (Q : ℕ → ℕ → Type 0) (complete : Bool) (fallback : Otherwise) (branches : Branches) → ReadsWays Q (ways ws (way_past ws complete fallback) branches) → Reads Q (other_flow ws fallback)
  fallback_read Q complete Without branches read = λ i k h. absurd (false≢true h)
  fallback_read Q complete (With body) branches read = past_reads Q ws (body_flow ws body) branches read

  mutual
    action_alike :
        (Q S : ℕ → ℕ → Type 0) → ((i k : ℕ) → P i k → Q i k) → (a b : Maps) → IsAlike d P Q S a b → IsNumeric d a → (one : Action) → IsAction d.signals one →
        Reads (Or Q S) (action_then ws one End) → Gives may_write_late P (action_then ws one End) →
        IsAlike d P Q (Or S (SureOf (action_then ws one End))) (act ws f a one) (act ws f b one)
    action_alike Q S sub a b alike numeric (Set target e delayed spot) lawful read late =
        let all : AgreeOn a.now b.now (either (reads ws e) (target_reads ws target)) = λ i k is. agree Q S a b alike i k (read i k (or_left (reads ws e i k || target_reads ws target i k) _ is)) in
        let same = ap (digit_writes ws f a.now target) (same_digits d f a.now b.now alike.wide alike.wide' e lawful.sized.widths (on_left a.now b.now (reads ws e) (target_reads ws target) all))
        ∙ same_writes d f a.now b.now alike.wide alike.wide' target lawful.parts (on_right a.now b.now (reads ws e) (target_reads ws target) all) (digits f b.now e) in
        let us = digit_writes ws f a.now target (digits f a.now e) in
        let within = writes_within d f a.now target lawful.parts (digits f a.now e) in
        let size = digits_size d f a.now numeric.now e lawful.sized.widths in
        let count = same_count d.signals target in
        let covered = lawful.covered in
        subst (λ (vs : List Write). IsAlike d P Q (Or S (SureOf (action_then ws (Set target e delayed spot) End))) (write_each delayed a us) (write_each delayed b vs)) same
        (set_alike Q S sub a b alike delayed us within (may_target ws target) (targets ws target)
        (all_may ws f a.now target (digits f a.now e) within)
        (target_over ws f a.now target (digits f a.now e) (omega (arith, size, count, covered)))
        late)
    action_alike Q S sub a b alike numeric (If test taken other spot) lawful read late =
        let all : AgreeOn a.now b.now (reads ws test) = λ i k is. agree Q S a b alike i k (read i k (or_left (reads ws test i k) _ is)) in
        let same = same_digits d f a.now b.now alike.wide alike.wide' test lawful.0.widths all in
        let flow = action_then ws (If test taken other spot) End in
        let sure : (i k : ℕ) → SureOf flow i k → (every (writes_now i k) (other_flow ws other) ≡ true) × (every (writes_now i k) (body_flow ws taken) ≡ true)
        = λ i k h. elim (or_cases (every (writes_now i k) (other_flow ws other) && every (writes_now i k) (body_flow ws taken)) false h) [
          | inl both' ↦ and_parts (every (writes_now i k) (other_flow ws other)) (every (writes_now i k) (body_flow ws taken)) both'
          | inr none ↦ absurd (false≢true none)
        ] in
        let ways_read' : (i k : ℕ) → (first (reads_bit i k) (writes_now i k) (other_flow ws other) || first (reads_bit i k) (writes_now i k) (body_flow ws taken)) ≡ true → Or Q S i k
        = λ i k h. read i k (or_right (reads ws test i k) _ (or_left (first (reads_bit i k) (writes_now i k) (other_flow ws other) || first (reads_bit i k) (writes_now i k) (body_flow ws taken)) _ h)) in
        subst (λ (xs : List Bit). IsAlike d P Q (Or S (SureOf flow)) (if is_one (truth_bit (digits f a.now test)) then acts ws f a taken else act_other ws f a a other) (if is_one (truth_bit xs) then acts ws f b taken else act_other ws f b b other)) same
        (two_alike Q (Or S (SureOf flow)) (is_one (truth_bit (digits f a.now test))) (acts ws f a taken) (acts ws f b taken) (act_other ws f a a other) (act_other ws f b b other)
        (fewer d P Q sub (Or S (SureOf (body_flow ws taken))) (Or S (SureOf flow)) (acts ws f a taken) (acts ws f b taken)
        (λ i k h. elim h as (λ _. Or S (SureOf (body_flow ws taken)) i k) [ inl s ↦ inl s | inr is ↦ inr (sure i k is).1 ])
        (body_alike Q S sub a b alike numeric taken lawful.1 (λ i k h. ways_read' i k (or_right (first (reads_bit i k) (writes_now i k) (other_flow ws other)) _ h)) (taken_gives ws may_write_late P test taken other spot late)))
        (fewer d P Q sub (Or S (SureOf (other_flow ws other))) (Or S (SureOf flow)) (act_other ws f a a other) (act_other ws f b b other)
        (λ i k h. elim h as (λ _. Or S (SureOf (other_flow ws other)) i k) [ inl s ↦ inl s | inr is ↦ inr (sure i k is).0 ])
        (other_alike Q S sub a b alike numeric other lawful.2 (λ i k h. ways_read' i k (or_left (first (reads_bit i k) (writes_now i k) (other_flow ws other)) _ h)) (other_gives ws may_write_late P test taken other spot late))))
    action_alike Q S sub a b alike numeric (Case kind full parallel selector branches fallback spot) lawful read late =
        let all : AgreeOn a.now b.now (either (reads ws selector) (reads_all ws (labels_of branches)))
        = λ i k is. agree Q S a b alike i k (read i k (or_left (reads ws selector i k || reads_all ws (labels_of branches) i k) _ is)) in
        let labels = on_right a.now b.now (reads ws selector) (reads_all ws (labels_of branches)) all in
        let same = same_digits d f a.now b.now alike.wide alike.wide' selector lawful.0.widths (on_left a.now b.now (reads ws selector) (reads_all ws (labels_of branches)) all) in
        let bits = digits f a.now selector in
        let flow = action_then ws (Case kind full parallel selector branches fallback spot) End in
        let past = λ (m : Maps). cond full (filled_case f (may_write_blocking flow) (may_write_delayed flow) m) m in
        let way = way_past ws (is_complete ws kind full selector branches) fallback in
        let items = same_items d f a.now b.now alike.wide alike.wide' kind selector bits branches lawful.1 labels in
        let ways_read' : ReadsWays (Or Q S) (ways ws way branches) = λ i k h. read i k (or_right (reads ws selector i k || reads_all ws (labels_of branches) i k) _ (or_left (first_way (reads_bit i k) (writes_now i k) (ways ws way branches)) _ h)) in
        let each = ways_read (Or Q S) ws way branches ways_read' in
        let lates = items_give ws may_write_late P kind full parallel selector branches fallback spot late in
        let sure : (i k : ℕ) → SureOf flow i k → every_way (writes_now i k) (ways ws way branches) ≡ true
        = λ i k h. elim (or_cases (every_way (writes_now i k) (ways ws way branches)) false h) [ inl is ↦ is | inr none ↦ absurd (false≢true none) ] in
        let all_sure : (i k : ℕ) → SureOf flow i k → AllSure ws i k branches = λ i k h. ways_sure ws i k way branches (sure i k h) in
        let none = past_alike Q S sub a b alike numeric kind full parallel selector branches fallback spot lawful
        (other_alike Q S sub a b alike numeric fallback lawful.2 (fallback_read (Or Q S) (is_complete ws kind full selector branches) fallback branches ways_read') (fallback_gives ws may_write_late P kind full parallel selector branches fallback spot late)) late in
        let first_ones = items_alike Q S (SureOf flow) sub a b alike numeric kind selector bits (act_other ws f a (past a) fallback) (act_other ws f b (past b) fallback) branches lawful.1 items each lates all_sure none in
        let arms = arms_alike Q S (SureOf flow) sub a b alike numeric kind selector bits branches lawful.1 items each lates all_sure in
        let joined : item_meets f a.now kind bits branches ≡ true → IsAlike d P Q (Or S (SureOf flow)) (joined_arms a (act_arms ws f a kind bits branches)) (joined_arms b (act_arms ws f b kind bits branches))
        = λ some. joined_alike d P Q S (SureOf flow) sub a b (act_arms ws f a kind bits branches) (act_arms ws f b kind bits branches) alike arms (some_arm ws d P (Or Q S) (SureOf flow) f a kind bits branches some) in
        subst (λ (xs : List Bit). IsAlike d P Q (Or S (SureOf flow)) (if parallel && item_meets f a.now kind bits branches then joined_arms a (act_arms ws f a kind bits branches) else act_first ws f a kind bits (act_other ws f a (past a) fallback) branches) (if parallel && item_meets f b.now kind xs branches then joined_arms b (act_arms ws f b kind xs branches) else act_first ws f b kind xs (act_other ws f b (past b) fallback) branches)) same
        (subst (λ (x : Bool). IsAlike d P Q (Or S (SureOf flow)) (if parallel && item_meets f a.now kind bits branches then joined_arms a (act_arms ws f a kind bits branches) else act_first ws f a kind bits (act_other ws f a (past a) fallback) branches) (if parallel && x then joined_arms b (act_arms ws f b kind bits branches) else act_first ws f b kind bits (act_other ws f b (past b) fallback) branches))
        (same_some d f a.now b.now alike.wide alike.wide' kind bits branches items)
        (by_way Q (Or S (SureOf flow)) parallel (item_meets f a.now kind bits branches) (joined_arms a (act_arms ws f a kind bits branches)) (joined_arms b (act_arms ws f b kind bits branches))
        (act_first ws f a kind bits (act_other ws f a (past a) fallback) branches) (act_first ws f b kind bits (act_other ws f b (past b) fallback) branches) joined first_ones))
    action_alike Q S sub a b alike numeric (Block body) lawful read late = body_alike Q S sub a b alike numeric body lawful read late

    body_alike :
        (Q S : ℕ → ℕ → Type 0) → ((i k : ℕ) → P i k → Q i k) → (a b : Maps) → IsAlike d P Q S a b → IsNumeric d a → (body : Actions) → IsBody d.signals body →
        Reads (Or Q S) (body_flow ws body) → Gives may_write_late P (body_flow ws body) →
        IsAlike d P Q (Or S (SureOf (body_flow ws body))) (acts ws f a body) (acts ws f b body)
    body_alike Q S sub a b alike numeric Done lawful read late =
        fewer d P Q sub S (Or S (SureOf End)) a b (λ i k h. elim h as (λ _. S i k) [ inl s ↦ s | inr none ↦ absurd (false≢true none) ]) alike
    body_alike Q S sub a b alike numeric (Then one others) lawful read late =
        let T = Or S (SureOf (action_then ws one End)) in
        let here = action_alike Q S sub a b alike numeric one lawful.0
        (λ i k h. read i k (first_action (reads_bit i k) (writes_now i k) ws one (body_flow ws others) ∙ or_left (first (reads_bit i k) (writes_now i k) (action_then ws one End)) _ h))
        (first_gives ws may_write_late P one others late) in
        let later : Reads (Or Q T) (body_flow ws others)
        = λ i k h. elim (cases_Bool (every (writes_now i k) (action_then ws one End))) as (λ _. Or Q T i k) [
          | inl sure ↦ inr (inr sure)
          | inr unsure ↦ elim (read i k (first_action (reads_bit i k) (writes_now i k) ws one (body_flow ws others) ∙ or_right (first (reads_bit i k) (writes_now i k) (action_then ws one End)) _ (and_from (not (every (writes_now i k) (action_then ws one End))) _ (not_from_false (every (writes_now i k) (action_then ws one End)) unsure) h))) as (λ _. Or Q T i k) [ inl q ↦ inl q | inr s ↦ inr (inl s) ]
        ] in
        fewer d P Q sub (Or T (SureOf (body_flow ws others))) (Or S (SureOf (body_flow ws (Then one others)))) (acts ws f a (Then one others)) (acts ws f b (Then one others))
        (λ i k h. elim h as (λ _. Or T (SureOf (body_flow ws others)) i k) [
          | inl s ↦ inl (inl s)
          | inr is ↦ elim (or_cases (every (writes_now i k) (action_then ws one End)) (every (writes_now i k) (body_flow ws others)) (sym (every_action (writes_now i k) ws one (body_flow ws others)) ∙ is)) [ inl first' ↦ inl (inr first') | inr second ↦ inr second ]
        ])
        (body_alike Q T sub (act ws f a one) (act ws f b one) here (body_numeric d f a numeric (Then one Done) (lawful.0, tt)) others lawful.1 later (others_give ws may_write_late P one others late))

    other_alike :
        (Q S : ℕ → ℕ → Type 0) → ((i k : ℕ) → P i k → Q i k) → (a b : Maps) → IsAlike d P Q S a b → IsNumeric d a → (other : Otherwise) → IsOtherwise d.signals other →
        Reads (Or Q S) (other_flow ws other) → Gives may_write_late P (other_flow ws other) →
        IsAlike d P Q (Or S (SureOf (other_flow ws other))) (act_other ws f a a other) (act_other ws f b b other)
    other_alike Q S sub a b alike numeric Without lawful read late =
        fewer d P Q sub S (Or S (SureOf End)) a b (λ i k h. elim h as (λ _. S i k) [ inl s ↦ s | inr none ↦ absurd (false≢true none) ]) alike
    other_alike Q S sub a b alike numeric (With body) lawful read late = body_alike Q S sub a b alike numeric body lawful read late

    items_alike :
        (Q S U : ℕ → ℕ → Type 0) → ((i k : ℕ) → P i k → Q i k) → (a b : Maps) (alike : IsAlike d P Q S a b) → IsNumeric d a →
        (kind : CaseKind) (selector : Tree) (bits : List Bit) (none none' : Maps) (branches : Branches) → AreBranches d.signals selector branches →
        SameItems d f a.now b.now alike.wide alike.wide' kind bits branches → AllRead (Or Q S) ws branches → GivesItems ws may_write_late P branches →
        ((i k : ℕ) → U i k → AllSure ws i k branches) → (item_meets f a.now kind bits branches ≡ false → IsAlike d P Q (Or S U) none none') →
        IsAlike d P Q (Or S U) (act_first ws f a kind bits none branches) (act_first ws f b kind bits none' branches)
    items_alike Q S U sub a b alike numeric kind selector bits none none' NoBranch lawful same read late sure past = past refl
    items_alike Q S U sub a b alike numeric kind selector bits none none' (Branch labels body others) lawful same read late sure past =
        let here = fewer d P Q sub (Or S (SureOf (body_flow ws body))) (Or S U) (acts ws f a body) (acts ws f b body)
        (λ i k h. elim h as (λ _. Or S (SureOf (body_flow ws body)) i k) [ inl s ↦ inl s | inr u ↦ inr (sure i k u).0 ])
        (body_alike Q S sub a b alike numeric body lawful.3 read.0 (item_gives ws may_write_late P labels body others late)) in
        let there : some_meets f a.now kind bits labels ≡ false → IsAlike d P Q (Or S U) (act_first ws f a kind bits none others) (act_first ws f b kind bits none' others)
        = λ unmet. items_alike Q S U sub a b alike numeric kind selector bits none none' others lawful.4 same.1 read.1 (later_give ws may_write_late P labels body others late)
        (λ i k u. (sure i k u).1) (λ left. past (ap (λ x. x || item_meets f a.now kind bits others) unmet ∙ left)) in
        subst (λ (x : Bool). IsAlike d P Q (Or S U) (if some_meets f a.now kind bits labels then acts ws f a body else act_first ws f a kind bits none others) (if x then acts ws f b body else act_first ws f b kind bits none' others)) same.0
        (one_or_other Q (Or S U) (some_meets f a.now kind bits labels) (acts ws f a body) (acts ws f b body) (act_first ws f a kind bits none others) (act_first ws f b kind bits none' others) here there)

    arms_alike :
        (Q S U : ℕ → ℕ → Type 0) → ((i k : ℕ) → P i k → Q i k) → (a b : Maps) (alike : IsAlike d P Q S a b) → IsNumeric d a →
        (kind : CaseKind) (selector : Tree) (bits : List Bit) (branches : Branches) → AreBranches d.signals selector branches →
        SameItems d f a.now b.now alike.wide alike.wide' kind bits branches → AllRead (Or Q S) ws branches → GivesItems ws may_write_late P branches →
        ((i k : ℕ) → U i k → AllSure ws i k branches) →
        AllAlike d P (Or Q S) U (act_arms ws f a kind bits branches) (act_arms ws f b kind bits branches)
    arms_alike Q S U sub a b alike numeric kind selector bits NoBranch lawful same read late sure = tt
    arms_alike Q S U sub a b alike numeric kind selector bits (Branch labels body others) lawful same read late sure =
        let there = arms_alike Q S U sub a b alike numeric kind selector bits others lawful.4 same.1 read.1 (later_give ws may_write_late P labels body others late) (λ i k u. (sure i k u).1) in
        let sub' : (i k : ℕ) → P i k → Or Q S i k = λ i k p. inl (sub i k p) in
        let here = fewer d P (Or Q S) sub' (Or Never (SureOf (body_flow ws body))) U (acts ws f (fresh a) body) (acts ws f (fresh b) body)
        (λ i k u. inr (sure i k u).0)
        (body_alike (Or Q S) Never sub' (fresh a) (fresh b) (fresh_alike d P Q sub S a b alike) (record { now = numeric.now; next = numeric.next }) body lawful.3
        (λ i k h. inl (read.0 i k h)) (item_gives ws may_write_late P labels body others late)) in
        subst (λ (x : Bool). AllAlike d P (Or Q S) U (if some_meets f a.now kind bits labels then acts ws f (fresh a) body ∷ act_arms ws f a kind bits others else act_arms ws f a kind bits others) (if x then acts ws f (fresh b) body ∷ act_arms ws f b kind bits others else act_arms ws f b kind bits others)) same.0
        (arm_or_none (Or Q S) U (some_meets f a.now kind bits labels) (acts ws f (fresh a) body) (acts ws f (fresh b) body) (act_arms ws f a kind bits others) (act_arms ws f b kind bits others) here there)

  -- the function of a body
  pub same_bit :
      (n m : Values) → AreNumbers d n → HaveWidths d m → ((i k : ℕ) → P i k → Same n m i k) → (body : Actions) → IsBody d.signals body →
      Reads P (body_flow ws body) → Gives may_write_late P (body_flow ws body) → (i k : ℕ) → P i k →
      block_bit ws f n body i k ≡ block_bit ws f m body i k
  same_bit n m are wide same body lawful read late i k p =
      let start : IsAlike d P P Never (first_maps n) (first_maps m)
      = record { wide = are.wide; wide' = wide; now = same; new = λ i k none. absurd none; done = λ i k none. absurd none; next = λ i k. refl; wrote = λ i k. refl; late = λ i k. refl; few = λ i k none. absurd (false≢true none) } in
      same_after d P P (Or Never (SureOf (body_flow ws body))) (acts ws f (first_maps n) body) (acts ws f (first_maps m) body) i k (inl p)
      (body_alike P Never (λ i k p. p) (first_maps n) (first_maps m) start (record { now = are; next = λ i k b inside e. absurd (cc) }) body lawful (λ i k h. inl (read i k h)) late)
