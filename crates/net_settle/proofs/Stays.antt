-- The function of a body leaves what the body may not write.
use Rattle.std.proofs.Common.{◌≡◌, ◌∙◌, ◌-◌, ◌<◌, ◌≤◌, ℕ, Bool, true, false, cond, not, ◌&&◌, ◌||◌, if◌then◌else◌, List, [], ◌∷◌, length, get_or, All, Option, None, Some, refl, sym, ap, subst, inl, inr, arith}
use Rattle.std.specs.Prelude.{unwrap_or}
use Rattle.std.specs.List.{list_any}
use Rattle.std.proofs.lemmas.Bool.{and_from, cases_lt, eq-eqb, false_from_ne_true, false≢true, le-leb, lt-ltb, or_cases, or_left, or_right, true≢false}
use Rattle.std.proofs.lemmas.List.{get_or_past}
use Rattle.std.proofs.lemmas.List.Elements.{All-head, All-tail}
use Rattle.std.proofs.lemmas.List.Folds.{list_any-append}
use Rattle.rtl_bits.specs.declared.Bit.{Bit}
use Rattle.rtl_bits.specs.declared.Bit.TheVariants.{X}
use Rattle.rtl_bits.specs.Bit.{is_one}
use Rattle.rtl_bits.specs.Bits.{selected, truth_bit}
use Rattle.rtl_bits.specs.Inside.{length-tabulate}
use Rattle.rtl_bits.proofs.Lists.{get_or-tabulate}
use Rattle.rtl_flat.specs.declared.act.CaseKind.{CaseKind}
use Rattle.rtl_flat.specs.Expression.{Tree}
use Rattle.rtl_flat.specs.Flows.{action_then, body_flow, may_select, may_target, other_flow}
use Rattle.rtl_flat.specs.Paths.{BitSet, End, Flow, MayWrite, may_write_bit, may_write_blocking, may_write_delayed, some}
use Rattle.rtl_flat.specs.Process.{Piece, Selection, Whole, BitAt, BitBy, Part, Action, Set, If, Case, Block, Actions, Done, Then, Otherwise, Without, With, Branches, NoBranch, Branch}
use Rattle.rtl_flat.specs.WellFormed.{AreBranches, IsAction, IsBody, IsOtherwise}
use Rattle.rtl_flat.proofs.Paths.{decided}
use Rattle.rtl_flat.specs.Flats.{Flat, widths}
use Rattle.event_model.specs.Traces.{Same, covers}
use Rattle.event_model.specs.Writes.{Span, Values, Write, count_of, counts, write_at}
use Rattle.net_body.specs.event_laws.Steady.{HaveWidths, IsWithin}
use Rattle.net_body.proofs.event_laws_proofs.Inside.{at_most}
use Rattle.net_body.proofs.event_laws_proofs.Lengths.{have_written}
use Rattle.net_body.proofs.event_laws_proofs.Targets.{left_within, part_may, right_within}
use Rattle.net_body.proofs.event_laws_proofs.Written.{covered, written_out}
use Rattle.net_solve.proofs.event_runs_proofs.May.{late_may, now_may}
use Rattle.net_model.specs.declared.fill.Fill.{Fill}
use Rattle.net_model.specs.Block.{Maps, act, act_arms, act_first, act_other, acts, arm_bits, arms_late, arms_write, first_maps, block_bit, digit_writes, filled_case, fresh, item_meets, joined_arms, some_meets, span_by, with_bits, write_each, write_next, write_now}
use Rattle.net_model.specs.Numbers.{bit, digits, fill_bit}
use Rattle.net_body.proofs.net_laws_proofs.Depends.{writes_within}
use Rattle.net_body.proofs.net_laws_proofs.Parts.{Gives, GivesItems, fallback_gives, first_gives, item_gives, items_give, later_give, other_gives, others_give, taken_gives}

none_of : (a b : Bool) → (a || b) ≡ false → (a ≡ false) × (b ≡ false)
none_of true b h = absurd (true≢false h)
none_of false b h = (refl, h)

module _ (d : Flat) (f : Fill) (i k : ℕ) where
  abbrev ws : ℕ → ℕ
  ws = widths d

  -- maps that are the same at the bit
  record Stays (m after : Maps) : Type 0 where
    pub wide : HaveWidths d after.now
    pub now : Same after.now m.now i k
    pub next : after.next i k ≡ m.next i k
    pub wrote : after.wrote i k ≡ m.wrote i k
    pub late : after.late i k ≡ m.late i k

  stays_same : (m : Maps) → HaveWidths d m.now → Stays m m
  stays_same m wide = record { wide = wide; now = refl; next = refl; wrote = refl; late = refl }

  stays_then : (a b c : Maps) → Stays a b → Stays b c → Stays a c
  stays_then a b c one two = record {
    wide = two.wide;
    now = two.now ∙ one.now;
    next = two.next ∙ one.next;
    wrote = two.wrote ∙ one.wrote;
    late = two.late ∙ one.late;
  }

  stays_either : (c : Bool) (m a b : Maps) → Stays m a → Stays m b → Stays m (if c then a else b)
  stays_either true m a b left right = left
  stays_either false m a b left right = right

  -- ---- writes

  next_stays : (m : Maps) (w : Write) → HaveWidths d m.now → covers i k w ≡ false → Stays m (write_next m w)
  next_stays m w wide not_over = record {
    wide = wide;
    now = refl;
    next = ap (λ c. cond c (Some (get_or w.bits (k - w.at) X)) (m.next i k)) not_over;
    wrote = ap (λ c. c || m.wrote i k) not_over;
    late = ap (λ c. c || m.late i k) not_over;
  }

  now_stays : (m : Maps) (w : Write) → HaveWidths d m.now → IsWithin ws w → covers i k w ≡ false → Stays m (write_now m w)
  now_stays m w wide inside not_over = record {
    wide = have_written d m.now w wide inside;
    now = written_out d m.now w wide inside i k not_over;
    next = refl;
    wrote = ap (λ c. c || m.wrote i k) not_over;
    late = refl;
  }

  each_stays : (delayed : Bool) (m : Maps) (us : List Write) → HaveWidths d m.now → All (IsWithin ws) us → list_any (covers i k) us ≡ false → Stays m (write_each delayed m us)
  each_stays delayed m [] wide inside none = stays_same m wide
  each_stays true m (w ∷ us) wide inside none =
      let (here, there) = none_of (covers i k w) (list_any (covers i k) us) none in
      let one = next_stays m w wide here in
      stays_then m (write_next m w) (write_each true (write_next m w) us) one
      (each_stays true (write_next m w) us one.wide (All-tail (IsWithin ws) w us inside) there)
  each_stays false m (w ∷ us) wide inside none =
      let (here, there) = none_of (covers i k w) (list_any (covers i k) us) none in
      let one = now_stays m w wide (All-head (IsWithin ws) w us inside) here in
      stays_then m (write_now m w) (write_each false (write_now m w) us) one
      (each_stays false (write_now m w) us one.wide (All-tail (IsWithin ws) w us inside) there)

  -- ---- what a target may write

  over_one : (w : Write) → list_any (covers i k) (w ∷ []) ≡ true → covers i k w ≡ true
  over_one w h = elim (or_cases (covers i k w) false h) as (λ _. covers i k w ≡ true) [
    | inl here ↦ here
    | inr none ↦ absurd (false≢true none)
  ]

  span_inside : (signal : ℕ) (at : Option Span) (bits : List Bit) → All (IsWithin ws) (write_at signal at bits) → list_any (covers i k) (write_at signal at bits) ≡ true → (i ≡ signal) × (k < ws signal)
  span_inside signal None bits within over = absurd (false≢true over)
  span_inside signal (Some at) bits within over =
      let w : Write = record { signal = signal; at = at.at; bits = bits } in
      let inside = All-head (IsWithin ws) w [] within in
      let (here, from, below) = covered i k w (over_one w over) in
      (sym here, omega (arith, inside, below))

  part_over : (n : Values) (signal : ℕ) (selection : Selection) (bits : List Bit) → length bits ≤ count_of ws signal selection → All (IsWithin ws) (write_at signal (span_by ws f n signal selection) bits) → list_any (covers i k) (write_at signal (span_by ws f n signal selection) bits) ≡ true → may_select ws signal selection i k ≡ true
  part_over n signal Whole bits few within over = part_may ws n signal Whole i k bits few within over
  part_over n signal (BitAt low index) bits few within over =
      part_may ws n signal (BitAt low index) i k bits few within over
  part_over n signal (BitBy low index) bits few within over =
      let inside = span_inside signal (span_by ws f n signal (BitBy low index)) bits within over in
      let below = inside.1 in
      and_from _ _ (eq-eqb i signal inside.0) (and_from _ _ (le-leb 0 k (omega arith)) (and_from _ _ (lt-ltb k (ws signal) below) (lt-ltb k (ws signal) below)))
  part_over n signal (Part low width) bits few within over =
      part_may ws n signal (Part low width) i k bits few within over

  target_over : (n : Values) (target : List Piece) (bits : List Bit) → All (IsWithin ws) (digit_writes ws f n target bits) → list_any (covers i k) (digit_writes ws f n target bits) ≡ true → may_target ws target i k ≡ true
  target_over n [] bits within over = absurd (false≢true over)
  target_over n (piece ∷ others) bits within over =
      let count = count_of ws piece.signal piece.selection in
      let part = selected (counts ws others) count bits in
      let here = write_at piece.signal (span_by ws f n piece.signal piece.selection) part in
      let later = digit_writes ws f n others bits in
      elim (or_cases (list_any (covers i k) here) (list_any (covers i k) later) (sym (list_any-append (covers i k) here later) ∙ over)) as (λ _. may_target ws (piece ∷ others) i k ≡ true) [
        | inl first ↦
            or_left (may_select ws piece.signal piece.selection i k) _
            (part_over n piece.signal piece.selection part (at_most (counts ws others) count bits) (left_within ws here later within) first)
        | inr there ↦
            or_right (may_select ws piece.signal piece.selection i k) _ (target_over n others bits (right_within ws here later within) there)
      ]

  -- ---- cases

  with_wide : (n : Values) (bits : BitSet) (new : ℕ → ℕ → Bit) → HaveWidths d n → HaveWidths d (with_bits n bits new)
  with_wide n bits new wide j =
      length-tabulate (length (n j)) (λ l. cond (bits j l) (new j l) (bit n j l)) ∙ wide j

  with_out : (n : Values) (bits : BitSet) (new : ℕ → ℕ → Bit) → HaveWidths d n → bits i k ≡ false → Same (with_bits n bits new) n i k
  with_out n bits new wide none =
      elim (cases_lt k (widths d i)) as (λ _. Same (with_bits n bits new) n i k) [
        | inl below ↦
            let long = wide i in
            get_or-tabulate (length (n i)) (λ l. cond (bits i l) (new i l) (bit n i l)) k X (omega (arith, below, long))
            ∙ ap (λ c. cond c (new i k) (bit n i k)) none
        | inr past ↦
            let long = wide i in
            let long' = with_wide n bits new wide i in
            get_or_past (with_bits n bits new i) k X (omega (arith, past, long')) ∙ sym (get_or_past (n i) k X (omega (arith, past, long)))
      ]

  filled_stays : (at_once later : BitSet) (m : Maps) → HaveWidths d m.now → at_once i k ≡ false → later i k ≡ false → Stays m (filled_case f at_once later m)
  filled_stays at_once later m wide none none' = record {
    wide = with_wide m.now at_once (λ j l. fill_bit f) wide;
    now = with_out m.now at_once (λ j l. fill_bit f) wide none;
    next = ap (λ c. cond c (Some (fill_bit f)) (m.next i k)) none';
    wrote = ap (λ c. (c || later i k) || m.wrote i k) none ∙ ap (λ c. c || m.wrote i k) none';
    late = ap (λ c. c || m.late i k) none';
  }

  -- arms that didn't write the bit
  abbrev AreFree : List Maps → Type 0
  AreFree [] = Unit {0}
  AreFree (arm ∷ arms) = ((arm.wrote i k ≡ false) × (arm.late i k ≡ false)) × AreFree arms

  free_write : (arms : List Maps) → AreFree arms → arms_write arms i k ≡ false
  free_write [] free = refl
  free_write (arm ∷ arms) free = ap (λ c. c || arms_write arms i k) free.0.0 ∙ free_write arms free.1

  free_late : (arms : List Maps) → AreFree arms → arms_late arms i k ≡ false
  free_late [] free = refl
  free_late (arm ∷ arms) free = ap (λ c. c || arms_late arms i k) free.0.1 ∙ free_late arms free.1

  joined_stays : (m : Maps) (arms : List Maps) → HaveWidths d m.now → AreFree arms → Stays m (joined_arms m arms)
  joined_stays m arms wide free = record {
    wide = with_wide m.now (λ j l. arms_write arms j l && not (arms_late arms j l)) (arm_bits arms) wide;
    now = with_out m.now (λ j l. arms_write arms j l && not (arms_late arms j l)) (arm_bits arms) wide
        (ap (λ c. c && not (arms_late arms i k)) (free_write arms free));
    next = ap (λ c. cond c (Some (arm_bits arms i k)) (m.next i k)) (free_late arms free);
    wrote = ap (λ c. c || m.wrote i k) (free_write arms free);
    late = ap (λ c. c || m.late i k) (free_late arms free);
  }

  free_either : (c : Bool) (arm : Maps) (arms : List Maps) → (arm.wrote i k ≡ false) × (arm.late i k ≡ false) → AreFree arms → AreFree (if c then arm ∷ arms else arms)
  free_either true arm arms one others = (one, others)
  free_either false arm arms one others = others

  -- ---- statements

  -- any other bit
  abbrev Other : ℕ → ℕ → Type 0
  Other j l = ((j ≡ i) × (l ≡ k)) → ⊥

  cannot : (flow : Flow) → Gives may_write_bit Other flow → (b : Bool) → (b ≡ true → some (may_write_bit i k) flow ≡ true) → b ≡ false
  cannot flow gives b may = false_from_ne_true b (λ is. gives i k (may is) (refl, refl))

  none_now : (flow : Flow) → Gives may_write_bit Other flow → may_write_blocking flow i k ≡ false
  none_now flow gives =
      cannot flow gives (may_write_blocking flow i k) (λ is.
      (decided flow i k).writes.1 (now_may flow i k ((decided flow i k).now.0 is)))

  none_late : (flow : Flow) → Gives may_write_bit Other flow → may_write_delayed flow i k ≡ false
  none_late flow gives =
      cannot flow gives (may_write_delayed flow i k) (λ is.
      (decided flow i k).writes.1 (late_may flow i k ((decided flow i k).late.0 is)))

  promised_stays : (full : Bool) (flow : Flow) (m : Maps) → HaveWidths d m.now → Gives may_write_bit Other flow → Stays m (cond full (filled_case f (may_write_blocking flow) (may_write_delayed flow) m) m)
  promised_stays false flow m wide gives = stays_same m wide
  promised_stays true flow m wide gives =
      filled_stays (may_write_blocking flow) (may_write_delayed flow) m wide (none_now flow gives) (none_late flow gives)

  mutual
    action_stays : (m : Maps) → HaveWidths d m.now → (one : Action) → IsAction d.signals one → Gives may_write_bit Other (action_then ws one End) → Stays m (act ws f m one)
    action_stays m wide (Set target e delayed spot) lawful gives =
        let bits = digits f m.now e in
        let within = writes_within d f m.now target lawful.parts bits in
        each_stays delayed m (digit_writes ws f m.now target bits) wide within
        (false_from_ne_true (list_any (covers i k) (digit_writes ws f m.now target bits)) (λ over.
        gives i k (or_left (may_target ws target i k) false (target_over m.now target bits within over)) (refl, refl)))
    action_stays m wide (If test taken other spot) lawful gives =
        stays_either (is_one (truth_bit (digits f m.now test))) m (acts ws f m taken) (act_other ws f m m other)
        (body_stays m wide taken lawful.1 (taken_gives ws may_write_bit Other test taken other spot gives))
        (other_stays m wide m (stays_same m wide) other lawful.2 (other_gives ws may_write_bit Other test taken other spot gives))
    action_stays m wide (Case kind full parallel selector branches fallback spot) lawful gives =
        let bits = digits f m.now selector in
        let flow = action_then ws (Case kind full parallel selector branches fallback spot) End in
        let past = cond full (filled_case f (may_write_blocking flow) (may_write_delayed flow) m) m in
        let items = items_give ws may_write_bit Other kind full parallel selector branches fallback spot gives in
        stays_either (parallel && item_meets f m.now kind bits branches) m (joined_arms m (act_arms ws f m kind bits branches))
        (act_first ws f m kind bits (act_other ws f m past fallback) branches)
        (joined_stays m (act_arms ws f m kind bits branches) wide (arms_free m wide kind selector bits branches lawful.1 items))
        (items_stay m wide kind selector bits (act_other ws f m past fallback)
        (other_stays m wide past (promised_stays full flow m wide gives) fallback lawful.2 (fallback_gives ws may_write_bit Other kind full parallel selector branches fallback spot gives))
        branches lawful.1 items)
    action_stays m wide (Block body) lawful gives = body_stays m wide body lawful gives

    body_stays : (m : Maps) → HaveWidths d m.now → (body : Actions) → IsBody d.signals body → Gives may_write_bit Other (body_flow ws body) → Stays m (acts ws f m body)
    body_stays m wide Done lawful gives = stays_same m wide
    body_stays m wide (Then first others) lawful gives =
        let one = action_stays m wide first lawful.0 (first_gives ws may_write_bit Other first others gives) in
        stays_then m (act ws f m first) (acts ws f (act ws f m first) others) one
        (body_stays (act ws f m first) one.wide others lawful.1 (others_give ws may_write_bit Other first others gives))

    other_stays : (m : Maps) → HaveWidths d m.now → (past : Maps) → Stays m past → (other : Otherwise) → IsOtherwise d.signals other → Gives may_write_bit Other (other_flow ws other) → Stays m (act_other ws f m past other)
    other_stays m wide past without Without lawful gives = without
    other_stays m wide past without (With body) lawful gives = body_stays m wide body lawful gives

    items_stay : (m : Maps) → HaveWidths d m.now → (kind : CaseKind) (selector : Tree) (bits : List Bit) (none : Maps) → Stays m none → (branches : Branches) → AreBranches d.signals selector branches → GivesItems ws may_write_bit Other branches → Stays m (act_first ws f m kind bits none branches)
    items_stay m wide kind selector bits none past NoBranch lawful gives = past
    items_stay m wide kind selector bits none past (Branch list body others) lawful gives =
        stays_either (some_meets f m.now kind bits list) m (acts ws f m body) (act_first ws f m kind bits none others)
        (body_stays m wide body lawful.3 (item_gives ws may_write_bit Other list body others gives))
        (items_stay m wide kind selector bits none past others lawful.4 (later_give ws may_write_bit Other list body others gives))

    arms_free : (m : Maps) → HaveWidths d m.now → (kind : CaseKind) (selector : Tree) (bits : List Bit) (branches : Branches) → AreBranches d.signals selector branches → GivesItems ws may_write_bit Other branches → AreFree (act_arms ws f m kind bits branches)
    arms_free m wide kind selector bits NoBranch lawful gives = tt
    arms_free m wide kind selector bits (Branch list body others) lawful gives =
        let arm = body_stays (fresh m) wide body lawful.3 (item_gives ws may_write_bit Other list body others gives) in
        free_either (some_meets f m.now kind bits list) (acts ws f (fresh m) body) (act_arms ws f m kind bits others) (arm.wrote, arm.late)
        (arms_free m wide kind selector bits others lawful.4 (later_give ws may_write_bit Other list body others gives))

  pub block_stays : (n : Values) → HaveWidths d n → (body : Actions) → IsBody d.signals body → (MayWrite (body_flow ws body) i k → ⊥) → block_bit ws f n body i k ≡ bit n i k
  block_stays n wide body lawful none =
      let stays = body_stays (first_maps n) wide body lawful gives in
      ap (λ o. unwrap_or o (bit (acts ws f (first_maps n) body).now i k)) stays.next ∙ stays.now
    where
      gives : Gives may_write_bit Other (body_flow ws body)
      gives j l is (here, there) =
          let may = (decided (body_flow ws body) j l).writes.0 is in
          none (subst (λ b. MayWrite (body_flow ws body) i b) there (subst (λ a. MayWrite (body_flow ws body) a l) here may))
