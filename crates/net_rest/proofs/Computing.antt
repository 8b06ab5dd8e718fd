-- What assignments and blocks that compute make of numbers.
use Rattle.std.proofs.Common.{◌≡◌, ◌∙◌, ◌-◌, ◌<◌, ◌≤◌, ℕ, Bool, true, false, cond, List, [], ◌∷◌, length, Option, None, Some, sym, ap, subst, inl, inr, arith}
use Rattle.std.specs.Prelude.{◌⊎◌}
use Rattle.std.specs.List.{All, list_any}
use Rattle.std.proofs.lemmas.Bool.{false_from_ne_true, false≢true, or_cases, or_left, or_right, true≢false}
use Rattle.std.proofs.lemmas.List.{length-replicate}
use Rattle.std.proofs.lemmas.List.Elements.{All-append, All-cons, All-head, All-nil, All-tail}
use Rattle.rtl_bits.specs.declared.Bit.{Bit}
use Rattle.rtl_bits.specs.declared.Bit.TheVariants.{X, Z}
use Rattle.rtl_bits.specs.Bit.{is_unknown}
use Rattle.rtl_bits.specs.Bits.{same_bit, selected}
use Rattle.rtl_bits.specs.Inside.{length-tabulate}
use Rattle.rtl_bits.proofs.Lists.{get_or-tabulate}
use Rattle.rtl_flat.specs.Expression.{Tree}
use Rattle.rtl_flat.specs.Flows.{body_flow, may_select, may_target, reads, selects, targets}
use Rattle.rtl_flat.specs.Paths.{IsPath, MayWrite, may_write}
use Rattle.rtl_flat.specs.Process.{Actions, Assign, BitAt, BitBy, Comb, Part, Piece, Selection, Watched, Whole}
use Rattle.rtl_flat.specs.Value.{value}
use Rattle.rtl_flat.specs.WellFormed.{IsBody, IsFixed, IsProcess}
use Rattle.rtl_flat.proofs.Paths.{decided}
use Rattle.event_model.specs.Bodies.{Made, after_made, body_made}
use Rattle.event_model.specs.Queue.{doing_at}
use Rattle.rtl_flat.specs.Flats.{Flat, widths}
use Rattle.event_model.specs.Traces.{FollowsPath, Same, makes, makes_late, makes_now}
use Rattle.event_model.specs.Writes.{Span, Values, count_of, counts, driven, no_drive, span_of, write_at, writes}
use Rattle.event_runs.specs.event_laws.Steady.{HaveWidths}
use Rattle.event_runs.proofs.event_laws_proofs.Agreement.{value_agrees}
use Rattle.event_runs.proofs.event_laws_proofs.Inside.{writes_within}
use Rattle.event_runs.specs.event_laws.Laws.{AgreeOutside, MakesNow, RunAlike, after_body}
use Rattle.event_runs.proofs.event_laws_proofs.Laws.{depends, made_alike, made_out, may_late, may_now, outside_inside, sure_made, value_size, writes_inside}
use Rattle.event_runs.proofs.event_laws_proofs.Targets.{same_count, target_over}
use Rattle.event_runs.proofs.event_laws_proofs.Written.{covered}
use Rattle.net_model.specs.declared.fill.Fill.{Fill}
use Rattle.net_model.specs.Block.{block_bit}
use Rattle.net_model.specs.Gates.{Gate}
use Rattle.net_model.specs.Numbers.{AreNumbers, bit, digits}
use Rattle.net_model.specs.Solution.{IsLasting, start}
use Rattle.event_runs.proofs.May.{now_may}
use Rattle.event_runs.proofs.Resolved.{GivesSo, over_so}
use Rattle.net_laws.proofs.Known.{Known, KnownBit, known_at, known_each, selected_known}
use Rattle.net_laws.proofs.Laws.{block_is, exact, numbers_after, whole_path}
use Rattle.net_rest.specs.Rest.{IsComputing, IsGated, IsSolvable}
use Rattle.net_rest.proofs.Latches.{IsLive, branch_lawful, branch_tame, closed_makes, live_as, open_makes}

-- ---- writes of known bits

part_gives : (signal i k : ℕ) (span : Option Span) (bits : List Bit) → Known bits → All (GivesSo KnownBit i k) (write_at signal span bits)
part_gives signal i k None bits known = All-nil (GivesSo KnownBit i k)
part_gives signal i k (Some span) bits known =
    All-cons (GivesSo KnownBit i k) (record { signal = signal; at = span.at; bits = bits }) []
    (λ over. let (here, from, below) = covered i k (record { signal = signal; at = span.at; bits = bits }) over in
    known_at bits (k - span.at) known (omega (arith, from, below)))
    (All-nil (GivesSo KnownBit i k))

all_give :
    (ws : ℕ → ℕ) (v : Values) (i k : ℕ) (target : List Piece) (bits : List Bit) → Known bits → All (GivesSo KnownBit i k) (writes ws v target bits)
all_give ws v i k [] bits known = All-nil (GivesSo KnownBit i k)
all_give ws v i k (piece ∷ others) bits known =
    let count = count_of ws piece.signal piece.selection in
    let span = span_of ws v piece.signal piece.selection in
    let part = selected (counts ws others) count bits in
    All-append (GivesSo KnownBit i k) (write_at piece.signal span part) (writes ws v others bits)
    (part_gives piece.signal i k span part (selected_known (counts ws others) count bits known))
    (all_give ws v i k others bits known)

-- a fixed target has each of its bits whatever indices are
fixed_part : (ws : ℕ → ℕ) (signal : ℕ) (selection : Selection) → IsFixed selection → (i k : ℕ) → may_select ws signal selection i k ≡ true → selects ws signal selection i k ≡ true
fixed_part ws signal Whole fixed i k is = is
fixed_part ws signal (BitAt low index) fixed i k is = is
fixed_part ws signal (BitBy low index) fixed i k is = absurd fixed
fixed_part ws signal (Part low width) fixed i k is = is

fixed_target : (ws : ℕ → ℕ) (target : List Piece) → All (λ piece. IsFixed piece.selection) target → (i k : ℕ) → may_target ws target i k ≡ true → targets ws target i k ≡ true
fixed_target ws [] fixed i k is = is
fixed_target ws (piece ∷ others) fixed i k is =
    elim (or_cases (may_select ws piece.signal piece.selection i k) (may_target ws others i k) is) [
      | inl here ↦
          or_left (selects ws piece.signal piece.selection i k) _
          (fixed_part ws piece.signal piece.selection (All-head (λ (one : Piece). IsFixed one.selection) piece others fixed) i k here)
      | inr there ↦
          or_right (selects ws piece.signal piece.selection i k) _
          (fixed_target ws others (All-tail (λ (one : Piece). IsFixed one.selection) piece others fixed) i k there)
    ]

-- ---- what a run makes at once or late

now_or_late : (i k : ℕ) (ms : List Made) → list_any (makes i k) ms ≡ true → (list_any (makes_now i k) ms ≡ true) ⊎ (list_any (makes_late i k) ms ≡ true)
now_or_late i k [] made = absurd (false≢true made)
now_or_late i k (m ∷ ms) made =
    elim (or_cases (makes i k m) (list_any (makes i k) ms) made) [
      | inl here ↦
          elim (or_cases (makes_now i k m) (makes_late i k m) here) [
            | inl now ↦ inl (or_left (makes_now i k m) _ now)
            | inr late ↦ inr (or_left (makes_late i k m) _ late)
          ]
      | inr there ↦
          elim (now_or_late i k ms there) [
            | inl now ↦ inl (or_right (makes_now i k m) _ now)
            | inr late ↦ inr (or_right (makes_late i k m) _ late)
          ]
    ]

module _ (d : Flat) (level : ℕ → ℕ) (solvable : IsSolvable d level) where
  -- ---- continuous assignments

  module _ (p : ℕ) (target : List Piece) (e : Tree) (here : doing_at d p ≡ Some (Assign target e)) where
    -- a value depends on what is read
    pub value_same : (v u : Values) → HaveWidths d v → HaveWidths d u → ((j l : ℕ) → reads (widths d) e j l ≡ true → Same v u j l) → value v e ≡ value u e
    value_same v u wide wide' same =
        value_agrees (length d.signals) (widths d) v u (λ i below. wide i) (λ i below. wide' i) e
        (solvable.lawful p (Assign target e) here).0.sized.widths same

    -- of numbers it is known
    pub value_known : (f : Fill) (n : Values) → AreNumbers d n → Known (value n e)
    value_known f n are =
        (exact d f n e are (solvable.lawful p (Assign target e) here).0.sized (solvable.firm p target e here)).known

    -- and is its digits
    pub value_digits : (f : Fill) (n : Values) → AreNumbers d n → digits f n e ≡ value n e
    value_digits f n are =
        (exact d f n e are (solvable.lawful p (Assign target e) here).0.sized (solvable.firm p target e here)).same

    -- a known value gives known bits
    pub driven_known :
        (v : Values) → HaveWidths d v → Known (value v e) → (i k : ℕ) → may_target (widths d) target i k ≡ true →
        KnownBit (bit (driven (widths d) target (value v e)) i k)
    driven_known v wide known i k is =
        over_so d KnownBit i k (no_drive (widths d)) (writes (widths d) (no_drive (widths d)) target (value v e)) (λ j. length-replicate (widths d j) Z)
        (writes_within d.signals (no_drive (widths d)) target (value v e) lawful.0.parts)
        (all_give (widths d) (no_drive (widths d)) i k target (value v e) known)
        (inr (target_over (widths d) (no_drive (widths d)) target (value v e) enough i k (fixed_target (widths d) target lawful.1 i k is)))
      where
        lawful : IsProcess d.signals (Assign target e)
        lawful = solvable.lawful p (Assign target e) here

        enough : counts (widths d) target ≤ length (value v e)
        enough =
            let size = value_size d v e wide lawful.0.sized in
            let count = same_count d.signals target in
            let covered' = lawful.0.covered in
            omega (arith, size, count, covered')

  -- ---- blocks

  module _ (p : ℕ) (list : Option (List Watched)) (body : Actions) (here : doing_at d p ≡ Some (Comb list body)) where
    computing : IsComputing d p list body
    computing = solvable.computing p list body here

    lawful_body : IsBody d.signals body
    lawful_body = (solvable.lawful p (Comb list body) here).1

    -- a run from numbers, and one that finds the same outside
    pub run_alike : (n v : Values) → AreNumbers d n → HaveWidths d v → AgreeOutside d body n v → RunAlike d body n v
    run_alike n v are wide agree =
        depends d n v body are.wide wide lawful_body (whole_path d n body are lawful_body computing.tame) agree

    -- it takes a path
    pub takes_path : (n v : Values) → AreNumbers d n → HaveWidths d v → AgreeOutside d body n v → FollowsPath (widths d) v body
    takes_path n v are wide agree =
        subst (IsPath (body_flow (widths d) body)) (run_alike n v are wide agree).steps (whole_path d n body are lawful_body computing.tame)

    -- what it may write it makes
    live_made :
        (n : Values) → AreNumbers d n → IsLive d n body → (i k : ℕ) → MayWrite (body_flow (widths d) body) i k → IsLasting d i →
        list_any (makes i k) (body_made (widths d) n body) ≡ true
    live_made n are (inl computes) i k may lasts =
        sure_made d n body i k are.wide lawful_body (whole_path d n body are lawful_body computing.tame) (computes i k may lasts)
    live_made n are (inr (gate, gated, is)) i k may lasts =
        let lawful = branch_lawful d body gate gated lawful_body in
        ap (list_any (makes i k)) (open_makes d body gate gated n are.wide is)
        ∙ sure_made d n gated.branch i k are.wide lawful (whole_path d n gated.branch are lawful (branch_tame d body gate gated computing.tame)) (gated.sure i k may lasts)

    -- at once
    sure_now :
        (n : Values) → AreNumbers d n → IsLive d n body → (i k : ℕ) → MayWrite (body_flow (widths d) body) i k → IsLasting d i → MakesNow d n body i k
    sure_now n are live i k may lasts =
        elim (now_or_late i k (body_made (widths d) n body) (live_made n are live i k may lasts)) [
          | inl now ↦ now
          | inr late ↦ absurd (computing.plain.no_late i k (may_late d n body i k lawful_body late))
        ]

    -- so it leaves the same
    pub after_same :
        (n v : Values) → AreNumbers d n → HaveWidths d v → AgreeOutside d body n v → IsLive d n body →
        (i k : ℕ) → MayWrite (body_flow (widths d) body) i k → IsLasting d i → Same (after_body d n body) (after_body d v body) i k
    after_same n v are wide agree live i k may lasts =
        made_alike d n v body i k are.wide wide lawful_body (run_alike n v are wide agree).made (inr (sure_now n are live i k may lasts))

    -- and that is known
    pub after_known :
        (n v : Values) → AreNumbers d n → HaveWidths d v → AgreeOutside d body n v → IsLive d n body →
        (i k : ℕ) → MayWrite (body_flow (widths d) body) i k → IsLasting d i → KnownBit (bit (after_body d v body) i k)
    after_known n v are wide agree live i k may lasts =
        let left = numbers_after d n body are lawful_body computing.tame in
        let size = left.wide i in
        let inside = writes_inside d body i k lawful_body may in
        ap is_unknown (sym (after_same n v are wide agree live i k may lasts))
        ∙ known_at (after_body d n body i) k (left.known i) (omega (arith, size, inside))

    -- ---- where the function of the block begins

    module _ (held n : Values) (held_are : AreNumbers d held) (are : AreNumbers d n) where
      start_bit : (i k : ℕ) → k < widths d i → bit (start d body held n) i k ≡ cond (may_write (body_flow (widths d) body) i k) (bit held i k) (bit n i k)
      start_bit i k inside =
          get_or-tabulate (widths d i) (λ l. cond (may_write (body_flow (widths d) body) i l) (bit held i l) (bit n i l)) k X inside

      start_wide : (i : ℕ) → length (start d body held n i) ≡ widths d i
      start_wide i =
          length-tabulate (widths d i) (λ l. cond (may_write (body_flow (widths d) body) i l) (bit held i l) (bit n i l))

      either_known : (b : Bool) (x y : Bit) → KnownBit x → KnownBit y → KnownBit (cond b x y)
      either_known true x y left right = left
      either_known false x y left right = right

      known_bit_at : (m : Values) → AreNumbers d m → (i k : ℕ) → k < widths d i → KnownBit (bit m i k)
      known_bit_at m m_are i k inside = let size = m_are.wide i in known_at (m i) k (m_are.known i) (omega (arith, size, inside))

      start_are : AreNumbers d (start d body held n)
      start_are =
          record {
            wide = start_wide;
            known = λ i. known_each (start d body held n i) (λ k below.
                let size = start_wide i in
                let inside : k < widths d i = omega (arith, below, size) in
                ap is_unknown (start_bit i k inside)
                ∙ either_known (may_write (body_flow (widths d) body) i k) (bit held i k) (bit n i k) (known_bit_at held held_are i k inside)
                (known_bit_at n are i k inside));
          }

      -- it reads outside nothing that is held
      start_outside : AgreeOutside d body (start d body held n) n
      start_outside i k outside =
          start_bit i k (outside_inside d body i k lawful_body outside)
          ∙ ap (λ b. cond b (bit held i k) (bit n i k))
          (false_from_ne_true (may_write (body_flow (widths d) body) i k)
          (λ may. computing.plain.apart i k outside ((decided (body_flow (widths d) body) i k).writes.0 may)))

      -- what a run makes from there
      start_gives : (f : Fill) (i k : ℕ) → block_bit (widths d) f (start d body held n) body i k ≡ bit (after_body d (start d body held n) body) i k
      start_gives f i k =
          block_is d f (start d body held n) body i k start_are lawful_body computing.tame (record { at_once = computing.plain.no_late; exclusive = computing.exclusive })

      -- the function gives what a run makes that finds the same outside
      pub computed_bit :
          (f : Fill) (v : Values) → HaveWidths d v → AgreeOutside d body n v → IsLive d n body →
          (i k : ℕ) → MayWrite (body_flow (widths d) body) i k → IsLasting d i →
          block_bit (widths d) f (start d body held n) body i k ≡ bit (after_body d v body) i k
      computed_bit f v wide agree live i k may lasts =
          start_gives f i k
          ∙ after_same (start d body held n) v start_are wide (λ j l outside. start_outside j l outside ∙ agree j l outside)
          (live_as d body n (start d body held n) (λ j l outside. sym (start_outside j l outside)) live) i k may lasts

      -- that of a latch whose gate is closed gives what is held
      pub closed_bit :
          (gate : Gate) → IsGated d body gate → same_bit (bit n gate.signal 0) gate.opens ≡ false →
          (f : Fill) (i k : ℕ) → MayWrite (body_flow (widths d) body) i k → block_bit (widths d) f (start d body held n) body i k ≡ bit held i k
      closed_bit gate gated closed f i k may =
          let shut : same_bit (bit (start d body held n) gate.signal 0) gate.opens ≡ false
          = ap (λ b. same_bit b gate.opens) (start_outside gate.signal 0 gated.outside) ∙ closed in
          start_gives f i k
          ∙ ap (λ ms. bit (after_made (start d body held n) ms) i k) (closed_makes d body gate gated (start d body held n) start_wide shut)
          ∙ start_bit i k (writes_inside d body i k lawful_body may)
          ∙ ap (λ b. cond b (bit held i k) (bit n i k)) ((decided (body_flow (widths d) body) i k).writes.1 may)

    -- a latch whose gate is closed leaves all
    pub closed_stays :
        (gate : Gate) → IsGated d body gate → (v : Values) → HaveWidths d v → same_bit (bit v gate.signal 0) gate.opens ≡ false →
        (i k : ℕ) → Same (after_body d v body) v i k
    closed_stays gate gated v wide closed i k =
        ap (λ ms. bit (after_made v ms) i k) (closed_makes d body gate gated v wide closed)

    -- a body leaves what it may not write
    pub others_stay : (v : Values) → HaveWidths d v → (i k : ℕ) → may_write (body_flow (widths d) body) i k ≡ false → Same (after_body d v body) v i k
    others_stay v wide i k cannot =
        made_out d v body i k wide lawful_body
        (false_from_ne_true _ (λ made. true≢false (sym ((decided (body_flow (widths d) body) i k).writes.1 (now_may _ i k (may_now d v body i k lawful_body made))) ∙ cannot)))
