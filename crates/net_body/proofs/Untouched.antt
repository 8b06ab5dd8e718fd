-- A body leaves all of a signal that none of its targets names.
use Rattle.std.proofs.Common.{◌≡◌, ◌≢◌, ◌∙◌, ℕ, ◌-◌, ◌==◌, Bool, true, false, cond, not, ◌&&◌, ◌||◌, if◌then◌else◌, List, [], ◌∷◌, ◌++◌, length, get_or, Option, None, Some, refl, sym, ap}
use Rattle.std.specs.List.{list_any}
use Rattle.std.proofs.lemmas.Bool.{eq-eqb, or_from, or_parts, true≢false}
use Rattle.std.proofs.lemmas.List.Folds.{list_any-append}
use Rattle.rtl_bits.specs.declared.Bit.{Bit}
use Rattle.rtl_bits.specs.declared.Bit.TheVariants.{X}
use Rattle.rtl_bits.specs.Bit.{is_one}
use Rattle.rtl_bits.specs.Bits.{replaced, selected, truth_bit}
use Rattle.rtl_bits.proofs.Lists.{tabulate-congr}
use Rattle.rtl_flat.specs.declared.act.CaseKind.{CaseKind}
use Rattle.rtl_flat.specs.Flows.{action_then, body_flow, is_complete, labels_of, may_select, may_target, other_flow, reads, reads_all, target_reads, targets, way_past, ways}
use Rattle.rtl_flat.specs.Paths.{BitSet, Step, Read, Write, End, either, may_write_blocking, may_write_delayed, may_write_late, may_write_now, some, some_way}
use Rattle.rtl_flat.specs.Process.{Piece, Action, Set, If, Case, Block, Actions, Done, Then, Otherwise, Without, With, Branches, NoBranch, Branch}
use Rattle.rtl_scan.specs.Scan.{some_item}
use Rattle.net_number.proofs.event_laws_proofs.Lengths.{put_other}
use Rattle.event_model.specs.Traces.{covers}
use Rattle.event_model.specs.Writes as writes
use Rattle.event_model.specs.Writes.{Span, Values, count_of, counts, write_at}
use Rattle.net_model.specs.declared.fill.Fill.{Fill}
use Rattle.net_model.specs.Block.{Maps, act, act_arms, act_first, act_other, acts, arm_bits, arms_late, arms_write, digit_writes, filled_case, fresh, item_meets, joined_arms, some_meets, span_by, with_bits, write_each, write_next, write_now}
use Rattle.net_model.specs.Numbers.{bit, digits, fill_bit}
use Rattle.net_body.specs.Marks.{is_over}
use Rattle.net_body.specs.Named.{action_signals, body_signals, branch_signals, is_among, other_signals, target_signals}
use Rattle.net_body.proofs.Filled.{some_case, some_then, tabulate_own}
use Rattle.net_body.proofs.May.{may_other}

and_none : (a b : Bool) → b ≡ false → (a && b) ≡ false
and_none true b h = h
and_none false b h = refl

-- a signal that isn't among some of two lists is in neither
none_append : (i : ℕ) (xs ys : List ℕ) → is_among i (xs ++ ys) ≡ false → (is_among i xs ≡ false) × (is_among i ys ≡ false)
none_append i xs ys h =
    or_parts (is_among i xs) (is_among i ys) (sym (list_any-append (λ signal. signal == i) xs ys) ∙ h)

apart_from : (j i : ℕ) → (j == i) ≡ false → i ≢ j
apart_from j i h e = true≢false (sym (eq-eqb j i (sym e)) ∙ h)

-- ---- what a body may write

module _ (ws : ℕ → ℕ) (i : ℕ) where
  target_none : (k : ℕ) (target : List Piece) → is_among i (target_signals target) ≡ false → may_target ws target i k ≡ false
  target_none k [] h = refl
  target_none k (piece ∷ others) h =
      let parts = or_parts (piece.signal == i) (is_among i (target_signals others)) h in
      or_from (may_select ws piece.signal piece.selection i k) (may_target ws others i k)
      (may_other ws piece.signal piece.selection i k (apart_from piece.signal i parts.0)) (target_none k others parts.1)

  -- no step of it passes a test that only writes of the signal pass
  module _ (t : Step → Bool) (on_read : (bits : BitSet) → t (Read bits) ≡ false) (on_write : (delayed : Bool) (target : List Piece) → is_among i (target_signals target) ≡ false → t (Write delayed (may_target ws target) (targets ws target)) ≡ false) where
    mutual
      action_none : (a : Action) → is_among i (action_signals a) ≡ false → some t (action_then ws a End) ≡ false
      action_none (Set target e delayed spot) h =
          or_from (t (Read (either (reads ws e) (target_reads ws target)))) (t (Write delayed (may_target ws target) (targets ws target)) || false)
          (on_read (either (reads ws e) (target_reads ws target)))
          (or_from (t (Write delayed (may_target ws target) (targets ws target))) false (on_write delayed target h) refl)
      action_none (If test taken other spot) h =
          let parts = none_append i (other_signals other) (body_signals taken) h in
          or_from (t (Read (reads ws test))) ((some t (other_flow ws other) || some t (body_flow ws taken)) || false) (on_read (reads ws test))
          (or_from (some t (other_flow ws other) || some t (body_flow ws taken)) false
          (or_from (some t (other_flow ws other)) (some t (body_flow ws taken)) (other_none other parts.0) (body_none taken parts.1)) refl)
      action_none (Case kind full parallel selector branches fallback spot) h =
          let parts = none_append i (other_signals fallback) (branch_signals branches) h in
          let complete = is_complete ws kind full selector branches in
          let bits = either (reads ws selector) (reads_all ws (labels_of branches)) in
          let all = some_way t (ways ws (way_past ws complete fallback) branches) in
          or_from (t (Read bits)) (all || false) (on_read bits)
          (or_from all false
          (some_case t ws complete fallback branches
          ∙ or_from (some t (other_flow ws fallback)) (some_item t ws branches) (other_none fallback parts.0) (items_none branches parts.1)) refl)
      action_none (Block body) h = body_none body h

      body_none : (body : Actions) → is_among i (body_signals body) ≡ false → some t (body_flow ws body) ≡ false
      body_none Done h = refl
      body_none (Then first others) h =
          let parts = none_append i (action_signals first) (body_signals others) h in
          some_then t ws first others
          ∙ or_from (some t (action_then ws first End)) (some t (body_flow ws others)) (action_none first parts.0) (body_none others parts.1)

      other_none : (other : Otherwise) → is_among i (other_signals other) ≡ false → some t (other_flow ws other) ≡ false
      other_none Without h = refl
      other_none (With body) h = body_none body h

      items_none : (branches : Branches) → is_among i (branch_signals branches) ≡ false → some_item t ws branches ≡ false
      items_none NoBranch h = refl
      items_none (Branch labels body others) h =
          let parts = none_append i (body_signals body) (branch_signals others) h in
          or_from (some t (body_flow ws body)) (some_item t ws others) (body_none body parts.0) (items_none others parts.1)

  now_none : (a : Action) → is_among i (action_signals a) ≡ false → (k : ℕ) → may_write_blocking (action_then ws a End) i k ≡ false
  now_none a h k =
      action_none (may_write_now i k) (λ bits. refl) (λ delayed target apart. and_none (not delayed) (may_target ws target i k) (target_none k target apart)) a h

  late_none : (a : Action) → is_among i (action_signals a) ≡ false → (k : ℕ) → may_write_delayed (action_then ws a End) i k ≡ false
  late_none a h k =
      action_none (may_write_late i k) (λ bits. refl) (λ delayed target apart. and_none delayed (may_target ws target i k) (target_none k target apart)) a h

-- ---- what it makes of the maps

-- maps that are the same at the signal
pub record Stays (i : ℕ) (m after : Maps) : Type 0 where
  pub now : after.now i ≡ m.now i
  pub next : (k : ℕ) → after.next i k ≡ m.next i k
  pub wrote : (k : ℕ) → after.wrote i k ≡ m.wrote i k
  pub late : (k : ℕ) → after.late i k ≡ m.late i k

module _ (ws : ℕ → ℕ) (f : Fill) (i : ℕ) where
  stays_same : (m : Maps) → Stays i m m
  stays_same m = record { now = refl; next = λ k. refl; wrote = λ k. refl; late = λ k. refl }

  stays_then : (a b c : Maps) → Stays i a b → Stays i b c → Stays i a c
  stays_then a b c one two = record {
    now = two.now ∙ one.now;
    next = λ k. two.next k ∙ one.next k;
    wrote = λ k. two.wrote k ∙ one.wrote k;
    late = λ k. two.late k ∙ one.late k;
  }

  stays_either : (c : Bool) (m a b : Maps) → Stays i m a → Stays i m b → Stays i m (if c then a else b)
  stays_either true m a b left right = left
  stays_either false m a b left right = right

  -- ---- writes

  over_none : (w : writes.Write) → (w.signal == i) ≡ false → (k : ℕ) → covers i k w ≡ false
  over_none w h k = ap (λ b. b && is_over w.at (length w.bits) k) h

  next_stays : (m : Maps) (w : writes.Write) → (w.signal == i) ≡ false → Stays i m (write_next m w)
  next_stays m w h = record {
    now = refl;
    next = λ k. ap (λ c. cond c (Some (get_or w.bits (k - w.at) X)) (m.next i k)) (over_none w h k);
    wrote = λ k. ap (λ c. c || m.wrote i k) (over_none w h k);
    late = λ k. ap (λ c. c || m.late i k) (over_none w h k);
  }

  now_stays : (m : Maps) (w : writes.Write) → (w.signal == i) ≡ false → Stays i m (write_now m w)
  now_stays m w h = record {
    now = put_other m.now w.signal i (replaced w.at w.bits (m.now w.signal)) (apart_from w.signal i h);
    next = λ k. refl;
    wrote = λ k. ap (λ c. c || m.wrote i k) (over_none w h k);
    late = λ k. refl;
  }

  each_stays : (delayed : Bool) (m : Maps) (us : List writes.Write) → list_any (λ w. w.signal == i) us ≡ false → Stays i m (write_each delayed m us)
  each_stays delayed m [] h = stays_same m
  each_stays true m (w ∷ us) h =
      let parts = or_parts (w.signal == i) (list_any (λ (u : writes.Write). u.signal == i) us) h in
      stays_then m (write_next m w) (write_each true (write_next m w) us) (next_stays m w parts.0) (each_stays true (write_next m w) us parts.1)
  each_stays false m (w ∷ us) h =
      let parts = or_parts (w.signal == i) (list_any (λ (u : writes.Write). u.signal == i) us) h in
      stays_then m (write_now m w) (write_each false (write_now m w) us) (now_stays m w parts.0) (each_stays false (write_now m w) us parts.1)

  part_apart : (signal : ℕ) (at : Option Span) (bits : List Bit) → (signal == i) ≡ false → list_any (λ w. w.signal == i) (write_at signal at bits) ≡ false
  part_apart signal None bits h = refl
  part_apart signal (Some at) bits h = or_from (signal == i) false h refl

  writes_apart : (n : Values) (target : List Piece) (bits : List Bit) → is_among i (target_signals target) ≡ false → list_any (λ w. w.signal == i) (digit_writes ws f n target bits) ≡ false
  writes_apart n [] bits h = refl
  writes_apart n (piece ∷ others) bits h =
      let parts = or_parts (piece.signal == i) (is_among i (target_signals others)) h in
      let part = selected (counts ws others) (count_of ws piece.signal piece.selection) bits in
      let here = write_at piece.signal (span_by ws f n piece.signal piece.selection) part in
      let later = digit_writes ws f n others bits in
      list_any-append (λ (w : writes.Write). w.signal == i) here later
      ∙ or_from (list_any (λ (w : writes.Write). w.signal == i) here) (list_any (λ (w : writes.Write). w.signal == i) later)
      (part_apart piece.signal (span_by ws f n piece.signal piece.selection) part parts.0) (writes_apart n others bits parts.1)

  -- ---- cases

  with_none_at : (n : Values) (bits : BitSet) (new : ℕ → ℕ → Bit) → ((k : ℕ) → bits i k ≡ false) → with_bits n bits new i ≡ n i
  with_none_at n bits new none =
      tabulate-congr (length (n i)) (λ k. cond (bits i k) (new i k) (bit n i k)) (λ k. get_or (n i) k X)
      (λ k below. ap (λ c. cond c (new i k) (bit n i k)) (none k))
      ∙ tabulate_own (n i)

  filled_stays : (at_once later : BitSet) (m : Maps) → ((k : ℕ) → at_once i k ≡ false) → ((k : ℕ) → later i k ≡ false) → Stays i m (filled_case f at_once later m)
  filled_stays at_once later m none none' = record {
    now = with_none_at m.now at_once (λ j l. fill_bit f) none;
    next = λ k. ap (λ c. cond c (Some (fill_bit f)) (m.next i k)) (none' k);
    wrote = λ k. ap (λ c. (c || later i k) || m.wrote i k) (none k) ∙ ap (λ c. c || m.wrote i k) (none' k);
    late = λ k. ap (λ c. c || m.late i k) (none' k);
  }

  promised_stays : (full : Bool) (at_once later : BitSet) (m : Maps) → ((k : ℕ) → at_once i k ≡ false) → ((k : ℕ) → later i k ≡ false) → Stays i m (cond full (filled_case f at_once later m) m)
  promised_stays true at_once later m none none' = filled_stays at_once later m none none'
  promised_stays false at_once later m none none' = stays_same m

  -- arms that wrote nothing of the signal
  abbrev AreFree : List Maps → Type 0
  AreFree [] = Unit {0}
  AreFree (arm ∷ arms) = ((k : ℕ) → (arm.wrote i k ≡ false) × (arm.late i k ≡ false)) × AreFree arms

  free_write : (arms : List Maps) → AreFree arms → (k : ℕ) → arms_write arms i k ≡ false
  free_write [] free k = refl
  free_write (arm ∷ arms) free k = or_from (arm.wrote i k) (arms_write arms i k) (free.0 k).0 (free_write arms free.1 k)

  free_late : (arms : List Maps) → AreFree arms → (k : ℕ) → arms_late arms i k ≡ false
  free_late [] free k = refl
  free_late (arm ∷ arms) free k = or_from (arm.late i k) (arms_late arms i k) (free.0 k).1 (free_late arms free.1 k)

  joined_stays : (m : Maps) (arms : List Maps) → AreFree arms → Stays i m (joined_arms m arms)
  joined_stays m arms free = record {
    now = with_none_at m.now (λ j l. arms_write arms j l && not (arms_late arms j l)) (arm_bits arms)
        (λ k. ap (λ c. c && not (arms_late arms i k)) (free_write arms free k));
    next = λ k. ap (λ c. cond c (Some (arm_bits arms i k)) (m.next i k)) (free_late arms free k);
    wrote = λ k. ap (λ c. c || m.wrote i k) (free_write arms free k);
    late = λ k. ap (λ c. c || m.late i k) (free_late arms free k);
  }

  free_either : (c : Bool) (arm : Maps) (arms : List Maps) → ((k : ℕ) → (arm.wrote i k ≡ false) × (arm.late i k ≡ false)) → AreFree arms → AreFree (if c then arm ∷ arms else arms)
  free_either true arm arms one others = (one, others)
  free_either false arm arms one others = others

  -- ---- statements

  mutual
    action_stays : (m : Maps) (a : Action) → is_among i (action_signals a) ≡ false → Stays i m (act ws f m a)
    action_stays m (Set target e delayed spot) h =
        let bits = digits f m.now e in
        each_stays delayed m (digit_writes ws f m.now target bits) (writes_apart m.now target bits h)
    action_stays m (If test taken other spot) h =
        let parts = none_append i (other_signals other) (body_signals taken) h in
        stays_either (is_one (truth_bit (digits f m.now test))) m (acts ws f m taken) (act_other ws f m m other)
        (body_stays m taken parts.1) (other_stays m m (stays_same m) other parts.0)
    action_stays m (Case kind full parallel selector branches fallback spot) h =
        let parts = none_append i (other_signals fallback) (branch_signals branches) h in
        let one = Case kind full parallel selector branches fallback spot in
        let bits = digits f m.now selector in
        let at_once : BitSet = may_write_blocking (action_then ws one End) in
        let later : BitSet = may_write_delayed (action_then ws one End) in
        let past = cond full (filled_case f at_once later m) m in
        stays_either (parallel && item_meets f m.now kind bits branches) m (joined_arms m (act_arms ws f m kind bits branches))
        (act_first ws f m kind bits (act_other ws f m past fallback) branches)
        (joined_stays m (act_arms ws f m kind bits branches) (arms_free m kind bits branches parts.1))
        (items_stay m kind bits (act_other ws f m past fallback)
        (other_stays m past (promised_stays full at_once later m (now_none ws i one h) (late_none ws i one h)) fallback parts.0) branches parts.1)
    action_stays m (Block body) h = body_stays m body h

    pub body_stays : (m : Maps) (body : Actions) → is_among i (body_signals body) ≡ false → Stays i m (acts ws f m body)
    body_stays m Done h = stays_same m
    body_stays m (Then first others) h =
        let parts = none_append i (action_signals first) (body_signals others) h in
        stays_then m (act ws f m first) (acts ws f (act ws f m first) others) (action_stays m first parts.0) (body_stays (act ws f m first) others parts.1)

    other_stays : (m past : Maps) → Stays i m past → (other : Otherwise) → is_among i (other_signals other) ≡ false → Stays i m (act_other ws f m past other)
    other_stays m past without Without h = without
    other_stays m past without (With body) h = body_stays m body h

    items_stay : (m : Maps) (kind : CaseKind) (bits : List Bit) (none : Maps) → Stays i m none → (branches : Branches) → is_among i (branch_signals branches) ≡ false → Stays i m (act_first ws f m kind bits none branches)
    items_stay m kind bits none past NoBranch h = past
    items_stay m kind bits none past (Branch labels body others) h =
        let parts = none_append i (body_signals body) (branch_signals others) h in
        stays_either (some_meets f m.now kind bits labels) m (acts ws f m body) (act_first ws f m kind bits none others)
        (body_stays m body parts.0) (items_stay m kind bits none past others parts.1)

    arms_free : (m : Maps) (kind : CaseKind) (bits : List Bit) (branches : Branches) → is_among i (branch_signals branches) ≡ false → AreFree (act_arms ws f m kind bits branches)
    arms_free m kind bits NoBranch h = tt
    arms_free m kind bits (Branch labels body others) h =
        let parts = none_append i (body_signals body) (branch_signals others) h in
        let arm = body_stays (fresh m) body parts.0 in
        free_either (some_meets f m.now kind bits labels) (acts ws f (fresh m) body) (act_arms ws f m kind bits others) (λ k. (arm.wrote k, arm.late k))
        (arms_free m kind bits others parts.1)
