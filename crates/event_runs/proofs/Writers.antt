-- The writes of an event end inside their signals, and are over bits that the event may write.
use Rattle.std.proofs.Common.{◌≡◌, ◌∙◌, ℕ, true, false, List, [], ◌∷◌, Option, None, Some, refl, sym, ap, subst, inl, inr, arith}
use Rattle.std.specs.Prelude.{IsTrue}
use Rattle.std.specs.List.{All, list_any, slice_get}
use Rattle.std.specs.Option.{IsSomeAnd}
use Rattle.std.proofs.lemmas.Bool.{false≢true, or_cases, or_left, or_right}
use Rattle.std.proofs.lemmas.List.Elements.{All-cons, All-head, All-nil}
use Rattle.std.proofs.lemmas.List.Folds.{list_any-append}
use Rattle.rtl_bits.specs.declared.Bit.{Bit}
use Rattle.rtl_flat.specs.Expression.{Tree}
use Rattle.rtl_flat.specs.Flows.{flow_of, may_select, may_target}
use Rattle.rtl_flat.specs.Paths.{Flow, MayWrite, MayWriteNow}
use Rattle.rtl_flat.specs.PathSets.{OfProcess}
use Rattle.rtl_flat.specs.Process.{Piece, Doing, Assign, Comb, Edge', Task}
use Rattle.rtl_flat.specs.Signs.{width_in}
use Rattle.rtl_flat.specs.declared.signal.Signal.{Signal}
use Rattle.rtl_flat.proofs.Paths.{decided}
use Rattle.event_model.specs.Queue.{State, Event, Input, Evaluate, Update, Run, Delayed, Activate, IsThere, bits_in, doing_at, doing_of, is_input, net_writes, resolved}
use Rattle.rtl_flat.specs.Flats.{Flat, widths}
use Rattle.event_model.specs.Traces.{covers}
use Rattle.event_model.specs.Writes.{Values, Write, no_drive, put, span_of, write_at}
use Rattle.event_laws.specs.Steady.{AreLawful, IsWithin}
use Rattle.event_laws.proofs.Inside.{AreSelections, nets_within, part_count}
use Rattle.event_laws.proofs.Made.{body_within}
use Rattle.event_laws.proofs.Laws.{may_now}
use Rattle.event_laws.proofs.Targets.{IsOver, left_within, none_over, part_may, right_within}
use Rattle.event_laws.proofs.Written.{covered}
use Rattle.event_runs.specs.Effects.{drive_writes, event_writes, first_update, input_writes, nows, run_made, update_writes}
use Rattle.event_runs.specs.Writers.{CanWrite, IsLateBit, IsOrderly, are_over}
use Rattle.event_runs.proofs.Writes.{nows_cover, nows_within}

-- ---- processes by number

module _ (P : Flow → ℕ → ℕ → Type 0) (d : Flat) (p i k : ℕ) where
  pub to_process : (does : Doing) → doing_at d p ≡ Some does → P (flow_of (widths d) does) i k → OfProcess P d.signals d.tasks p i k
  to_process does here h = by_task (slice_get d.tasks p) here
    where
      by_task : (o : Option Task) → doing_of o ≡ Some does → IsSomeAnd o (λ task. P (flow_of (width_in d.signals) task.does) i k)
      by_task None is = absurd (cc)
      by_task (Some task) is =
          let same : does ≡ task.does = cc in
          subst (λ one. P (flow_of (width_in d.signals) one) i k) same h

  pub of_process : OfProcess P d.signals d.tasks p i k → (does : Doing) × (doing_at d p ≡ Some does) × P (flow_of (widths d) does) i k
  of_process h = by_task (slice_get d.tasks p) h
    where
      by_task : (o : Option Task) → IsSomeAnd o (λ task. P (flow_of (width_in d.signals) task.does) i k) → (does : Doing) × (doing_of o ≡ Some does) × P (flow_of (widths d) does) i k
      by_task None is = absurd is
      by_task (Some task) is = (task.does, refl, is)

  pub from_process : (does : Doing) → doing_at d p ≡ Some does → OfProcess P d.signals d.tasks p i k → P (flow_of (widths d) does) i k
  from_process does here h =
      let (other, there, is) = of_process h in
      subst (λ one. P (flow_of (widths d) one) i k) (same other there) is
    where
      same : (other : Doing) → doing_at d p ≡ Some other → other ≡ does
      same other there = let both : Some other ≡ Some does = sym there ∙ here in cc

-- what a continuous assignment drives, it may write
pub assign_may : (ws : ℕ → ℕ) (target : List Piece) (e : Tree) (i k : ℕ) → may_target ws target i k ≡ true → MayWrite (flow_of ws (Assign target e)) i k
assign_may ws target e i k is =
    (decided (flow_of ws (Assign target e)) i k).writes.0 (or_left (may_target ws target i k) false is)

-- ---- writes of nets

all_nets :
    (ws : ℕ → ℕ) (given : Values) (target : List Piece) → All (IsWithin ws) (net_writes ws given target) → (i k : ℕ) →
    IsOver i k (net_writes ws given target) → may_target ws target i k ≡ true
all_nets ws given [] within i k over = absurd (none_over i k over)
all_nets ws given (piece ∷ others) within i k over =
    let span = span_of ws (no_drive ws) piece.signal piece.selection in
    let part = bits_in span (given piece.signal) in
    let here = write_at piece.signal span part in
    elim (or_cases (list_any (covers i k) here) (list_any (covers i k) (net_writes ws given others)) (sym (list_any-append (covers i k) here (net_writes ws given others)) ∙ over)) [
      | inl first ↦
          or_left (may_select ws piece.signal piece.selection i k) _
          (part_may ws (no_drive ws) piece.signal piece.selection i k part (part_count ws (no_drive ws) piece.signal piece.selection (given piece.signal))
          (left_within ws here (net_writes ws given others) within) first)
      | inr there ↦
          or_right (may_select ws piece.signal piece.selection i k) _ (all_nets ws given others (right_within ws here (net_writes ws given others) within) i k there)
    ]

-- a net's write is over bits of the target
pub nets_may :
    (signals : List Signal) (given : Values) (target : List Piece) → AreSelections signals target → (i k : ℕ) →
    IsOver i k (net_writes (width_in signals) given target) → may_target (width_in signals) target i k ≡ true
nets_may signals given target lawful =
    all_nets (width_in signals) given target (nets_within signals given target lawful)

-- ---- writes of events

module _ (d : Flat) (lawful : AreLawful d) (s : State) (orderly : IsOrderly d s) where
  input_within : (i : ℕ) → IsTrue (is_input d i) → (new : Option (List Bit)) → s.offered i ≡ new → All (IsWithin (widths d)) (input_writes i new)
  input_within i input None is = All-nil (IsWithin (widths d))
  input_within i input (Some bits) is =
      let few = orderly.steady.within.offered i bits input is in
      All-cons (IsWithin (widths d)) (record { signal = i; at = 0; bits = bits }) [] (omega (arith, few)) (All-nil (IsWithin (widths d)))

  drive_within :
      (p : ℕ) (target : List Piece) (e : Tree) → doing_at d p ≡ Some (Assign target e) → (new : Option (List Bit)) →
      All (IsWithin (widths d)) (drive_writes d s.driver p target new)
  drive_within p target e here None = All-nil (IsWithin (widths d))
  drive_within p target e here (Some bits) =
      nets_within d.signals (resolved d (put s.driver p bits)) target (lawful p (Assign target e) here).0.parts

  update_within : (p : ℕ) (does : Option Doing) → doing_at d p ≡ does → All (IsWithin (widths d)) (update_writes d s p does)
  update_within p None here = All-nil (IsWithin (widths d))
  update_within p (Some (Comb list body)) here = All-nil (IsWithin (widths d))
  update_within p (Some (Edge' events body)) here = All-nil (IsWithin (widths d))
  update_within p (Some (Assign target e)) here = drive_within p target e here (s.pending p)

  run_within : (p : ℕ) (does : Option Doing) → doing_at d p ≡ does → All (IsWithin (widths d)) (nows (run_made d s.value does))
  run_within p None here = All-nil (IsWithin (widths d))
  run_within p (Some (Assign target e)) here = All-nil (IsWithin (widths d))
  run_within p (Some (Comb list body)) here =
      nows_within (widths d) _ (body_within d.signals s.value body (lawful p (Comb list body) here).1)
  run_within p (Some (Edge' events body)) here =
      nows_within (widths d) _ (body_within d.signals s.value body (lawful p (Edge' events body) here).2)

  delayed_within : (us : List (List Write)) → s.activated ≡ us → All (IsWithin (widths d)) (first_update us)
  delayed_within [] here = All-nil (IsWithin (widths d))
  delayed_within (us ∷ others) here =
      All-head (All (IsWithin (widths d))) us others (subst (All (All (IsWithin (widths d)))) here orderly.steady.within.activated)

  -- they end inside their signals
  pub event_within : (event : Event) → IsThere d s event → All (IsWithin (widths d)) (event_writes d s event)
  event_within (Input i) there = input_within i there.0 (s.offered i) refl
  event_within (Evaluate p) there = All-nil (IsWithin (widths d))
  event_within (Update p) there = update_within p (doing_at d p) refl
  event_within (Run p) there = run_within p (doing_at d p) refl
  event_within Delayed there = delayed_within s.activated refl
  event_within Activate there = All-nil (IsWithin (widths d))

  input_over : (j i k : ℕ) (new : Option (List Bit)) → IsOver i k (input_writes j new) → i ≡ j
  input_over j i k None over = absurd (none_over i k over)
  input_over j i k (Some bits) over =
      elim (or_cases (covers i k (record { signal = j; at = 0; bits = bits })) false over) [
        | inl here ↦ sym (covered i k (record { signal = j; at = 0; bits = bits }) here).0
        | inr none ↦ absurd (false≢true none)
      ]

  drive_over :
      (p : ℕ) (target : List Piece) (e : Tree) → doing_at d p ≡ Some (Assign target e) → (i k : ℕ) (new : Option (List Bit)) →
      IsOver i k (drive_writes d s.driver p target new) → OfProcess MayWrite d.signals d.tasks p i k
  drive_over p target e here i k None over = absurd (none_over i k over)
  drive_over p target e here i k (Some bits) over =
      to_process MayWrite d p i k (Assign target e) here
      (assign_may (widths d) target e i k
      (nets_may d.signals (resolved d (put s.driver p bits)) target (lawful p (Assign target e) here).0.parts i k over))

  update_over :
      (p : ℕ) (does : Option Doing) → doing_at d p ≡ does → (i k : ℕ) → IsOver i k (update_writes d s p does) →
      OfProcess MayWrite d.signals d.tasks p i k
  update_over p None here i k over = absurd (none_over i k over)
  update_over p (Some (Comb list body)) here i k over = absurd (none_over i k over)
  update_over p (Some (Edge' events body)) here i k over = absurd (none_over i k over)
  update_over p (Some (Assign target e)) here i k over = drive_over p target e here i k (s.pending p) over

  run_over :
      (p : ℕ) (does : Option Doing) → doing_at d p ≡ does → (i k : ℕ) → IsOver i k (nows (run_made d s.value does)) →
      OfProcess MayWriteNow d.signals d.tasks p i k
  run_over p None here i k over = absurd (none_over i k over)
  run_over p (Some (Assign target e)) here i k over = absurd (none_over i k over)
  run_over p (Some (Comb list body)) here i k over =
      to_process MayWriteNow d p i k (Comb list body) here
      (may_now d s.value body i k (lawful p (Comb list body) here).1 (nows_cover i k (run_made d s.value (Some (Comb list body))) ∙ over))
  run_over p (Some (Edge' events body)) here i k over =
      to_process MayWriteNow d p i k (Edge' events body) here
      (may_now d s.value body i k (lawful p (Edge' events body) here).2 (nows_cover i k (run_made d s.value (Some (Edge' events body))) ∙ over))

  delayed_over : (us : List (List Write)) → s.activated ≡ us → (i k : ℕ) → IsOver i k (first_update us) → IsLateBit d i k
  delayed_over [] here i k over = absurd (none_over i k over)
  delayed_over (us ∷ others) here i k over =
      orderly.late.activated i k (ap (are_over i k) here ∙ or_left (list_any (covers i k) us) (are_over i k others) over)

  -- and are over bits that the event may write
  pub event_over : (event : Event) (i k : ℕ) → IsOver i k (event_writes d s event) → CanWrite d event i k
  event_over (Input j) i k over = input_over j i k (s.offered j) over
  event_over (Evaluate p) i k over = none_over i k over
  event_over (Update p) i k over = update_over p (doing_at d p) refl i k over
  event_over (Run p) i k over = run_over p (doing_at d p) refl i k over
  event_over Delayed i k over = delayed_over s.activated refl i k over
  event_over Activate i k over = none_over i k over
