-- A quiet state stays quiet, so no clock, no reset and no register changes.
use Rattle.std.proofs.Common.{◌≡◌, ◌∙◌, ◌==◌, ◌||◌, ◌<◌, ℕ, Bool, true, false, List, [], ◌∷◌, Option, None, Some, All, refl, sym, ap, subst, inl, inr, arith}
use Rattle.std.specs.Prelude.{IsSome, is_some, if◌then◌else◌}
use Rattle.std.specs.List.{list_any}
use Rattle.std.proofs.lemmas.Bool.{eqb-true, false≢true, or_cases, or_left, or_right, true≢false}
use Rattle.std.proofs.lemmas.List.Elements.{All-head, All-tail}
use Rattle.std.proofs.lemmas.List.Folds.{list_any-append}
use Rattle.rtl_flat.specs.Expression.{Tree}
use Rattle.rtl_flat.specs.Flows.{may_target, reads}
use Rattle.rtl_flat.specs.Process.{Piece, Watched, Actions, Doing, Assign, Comb, Edge'}
use Rattle.event_model.specs.Bodies.{body_made}
use Rattle.event_model.specs.Queue.{State, Event, Input, Evaluate, Update, Run, Delayed, Activate, IsThere, after, doing_at, hears, is_assignment}
use Rattle.rtl_flat.specs.Flats.{Flat, widths}
use Rattle.event_model.specs.Traces.{Same, covers}
use Rattle.event_model.specs.Writes.{Values, Write, written}
use Rattle.event_runs.specs.event_laws.Steady.{HaveWidths, IsWithin}
use Rattle.event_runs.proofs.event_laws_proofs.Lengths.{have_written}
use Rattle.net_model.specs.Control.{InClockCone, IsClockOrReset, IsReached, Itself, Through, whole_of}
use Rattle.event_runs.proofs.event_laws_proofs.Laws.{may_late}
use Rattle.event_runs.proofs.event_laws_proofs.Targets.{IsOver}
use Rattle.event_runs.proofs.event_laws_proofs.Within.{target_inside}
use Rattle.event_runs.specs.Effects.{IsEffect, delayed_after, evaluates, event_writes, is_heard, laters, run_made, runs, takes, updates}
use Rattle.event_runs.specs.Writers.{CanWrite, IsOrderly, are_over}
use Rattle.event_runs.proofs.Laws.{effect, untouched}
use Rattle.event_runs.proofs.May.{process_now}
use Rattle.event_runs.proofs.Signals.{body_variable, late_variable, net_input, target_may, target_net}
use Rattle.event_runs.proofs.Writers.{event_over, event_within}
use Rattle.event_runs.proofs.Writes.{laters_cover}
use Rattle.event_edges.specs.Quiet.{IsQuiet}
use Rattle.event_edges.specs.Synchronous.{IsSynchronous, sensitive}
use Rattle.event_edges.proofs.Hearing.{falsely, hearing}
use Rattle.event_edges.proofs.Cone.{IsVariable, assign_writes, connection_does, item_in_cone, listed_item, port_written, reached_apart}

-- ---- choices

if_some : {A : Type 0} (b : Bool) (o : Option A) → IsSome (if b then None else o) → IsSome o
if_some false o h = h
if_some true o h = absurd (false≢true h)

pub if_false : (b x : Bool) → x ≡ false → (if b then false else x) ≡ false
if_false true x h = refl
if_false false x h = h

pub if_none : {A : Type 0} (e u : Bool) (x o : Option A) → e ≡ false → o ≡ None → (if e then x else if u then None else o) ≡ None
if_none false true x o h none = refl
if_none false false x o h none = none
if_none true u x o h none = absurd (true≢false h)

-- a process that isn't woken doesn't evaluate
pub not_evaluated : (d : Flat) (s : State) (event : Event) → IsThere d s event → (q : ℕ) → s.woken q ≡ false → evaluates event q ≡ false
not_evaluated d s (Input i) there q still = refl
not_evaluated d s (Evaluate p) there q still =
    falsely (q == p) (λ same. false≢true (sym still ∙ ap s.woken (eqb-true q p same) ∙ there.1))
not_evaluated d s (Update p) there q still = refl
not_evaluated d s (Run p) there q still = refl
not_evaluated d s Delayed there q still = refl
not_evaluated d s Activate there q still = refl

-- ---- writes that are heard

-- a bit that some write is over and to which a process is sensitive
pub record IsSomeHeard (d : Flat) (us : List Write) (does : Doing) : Type 0 where
  pub signal : ℕ
  pub bit : ℕ
  pub over : IsOver signal bit us
  pub listened : sensitive (widths d) does signal bit ≡ true

pub some_heard :
    (d : Flat) (does : Doing) (v : Values) (us : List Write) → HaveWidths d v → All (IsWithin (widths d)) us →
    is_heard d v us (Some does) ≡ true → IsSomeHeard d us does
some_heard d does v [] have inside h = absurd (false≢true h)
some_heard d does v (w ∷ us) have inside h =
    let here = All-head (IsWithin (widths d)) w us inside in
    elim (or_cases (hears (widths d) w.signal (v w.signal) (written v w w.signal) (Some does)) (is_heard d (written v w) us (Some does)) h) [
      | inl now ↦
          let one = hearing d v w does have here now in
          record { signal = w.signal; bit = one.bit; over = or_left (covers w.signal one.bit w) _ one.over; listened = one.listened }
      | inr later ↦
          let one = some_heard d does (written v w) us (have_written d v w have here) (All-tail (IsWithin (widths d)) w us inside) later in
          record { signal = one.signal; bit = one.bit; over = or_right (covers one.signal one.bit w) _ one.over; listened = one.listened }
    ]

module _ (d : Flat) (sync : IsSynchronous d) where
  no_variable : (i : ℕ) → InClockCone d i → IsVariable d i → ⊥
  no_variable i cone = reached_apart d sync cone.clock cone.is_clock.input i cone.reached

  -- who drives the cone reads the cone alone
  reads_cone :
      (q : ℕ) (target : List Piece) (e : Tree) → doing_at d q ≡ Some (Assign target e) → (j k : ℕ) → InClockCone d j → may_target (widths d) target j k ≡ true →
      (i n : ℕ) → reads (widths d) e i n ≡ true → InClockCone d i
  reads_cone q target e is j k cone may i n reading = by j cone.clock cone.is_clock cone.reached may
    where
      by : (j c : ℕ) → IsClockOrReset d c → IsReached d c j → may_target (widths d) target j k ≡ true → InClockCone d i
      by _ c clock Itself may = absurd (net_input d c (target_net d sync.lawful q target e is c k may) clock.input)
      by _ c clock (Through m j reached passed) may =
          record { clock = c; is_clock = clock; reached = subst (IsReached d c) (sym same) reached }
        where
          first : k ≡ 0
          first = let below : k < widths d j = target_inside (widths d) target j k may in let one = passed.port_bit in omega (arith, below, one)

          process : q ≡ passed.process
          process =
              sync.alone q passed.process _ _ is (connection_does d sync m j passed) j 0
              (assign_writes (widths d) target e j 0 (ap (may_target (widths d) target j) (sym first) ∙ may)) (port_written d sync m j passed)

          value : e ≡ passed.value
          value =
              let does : Some (Assign target e) ≡ Some (Assign (whole_of j passed.connection.spot) passed.value) = sym is ∙ ap (doing_at d) process ∙ connection_does d sync m j passed in
              cc

          same : i ≡ m
          same = passed.alone.alone i n (ap (λ t. reads (widths d) t i n) (sym value) ∙ reading)

  module _ (s : State) (order : IsOrderly d s) (quiet : IsQuiet d s) where
    -- no event may write a bit of the cone
    pub leaves_cone : (event : Event) → IsThere d s event → (i k : ℕ) → CanWrite d event i k → InClockCone d i → ⊥
    leaves_cone (Input j) there i k same cone =
        quiet.offered j there.0 there.1 (subst (InClockCone d) same cone)
    leaves_cone (Evaluate p) there i k can cone = can
    leaves_cone (Update p) there i k can cone = by (doing_at d p) refl there.0
      where
        by : (o : Option Doing) → doing_at d p ≡ o → is_assignment o ≡ true → ⊥
        by None is assigns = false≢true assigns
        by (Some (Comb list body)) is assigns = false≢true assigns
        by (Some (Edge' events body)) is assigns = false≢true assigns
        by (Some (Assign target e)) is assigns =
            let none = quiet.pending p target e is (record { signal = i; bit = k; in_cone = cone; may = target_may d sync.lawful p target e is i k can }) in
            false≢true (sym (ap is_some none) ∙ there.1)
    leaves_cone (Run p) there i k can cone =
        no_variable i cone (body_variable d sync.lawful p there.0 i k (process_now d p i k can))
    leaves_cone Delayed there i k can cone =
        no_variable i cone (late_variable d sync.lawful can.process i k can.may)
    leaves_cone Activate there i k can cone = can

    -- so it leaves the cone
    pub cone_kept : (event : Event) → IsThere d s event → (i k : ℕ) → InClockCone d i → Same (after d s event).value s.value i k
    cone_kept event there i k cone =
        untouched d sync.lawful s event i k there order (λ can. leaves_cone event there i k can cone)

    module _ (event : Event) (there : IsThere d s event) where
      made : IsEffect d s event (event_writes d s event) (after d s event)
      made = effect d s event there

      not_heard : (q : ℕ) (does : Doing) → doing_at d q ≡ Some does → ((i k : ℕ) → sensitive (widths d) does i k ≡ true → InClockCone d i) → is_heard d s.value (event_writes d s event) (doing_at d q) ≡ false
      not_heard q does is listens =
          falsely (is_heard d s.value (event_writes d s event) (doing_at d q))
          (λ h.
          let one = some_heard d does s.value (event_writes d s event) order.steady.widths (event_within d sync.lawful s order event there) (ap (is_heard d s.value (event_writes d s event)) (sym is) ∙ h) in
          leaves_cone event there one.signal one.bit (event_over d sync.lawful s order event one.signal one.bit one.over) (listens one.signal one.bit one.listened))

      waits : (q : ℕ) (does : Doing) → doing_at d q ≡ Some does → ((i k : ℕ) → sensitive (widths d) does i k ≡ true → InClockCone d i) → s.woken q ≡ false → (after d s event).woken q ≡ false
      waits q does is listens still =
          made.woken q
          ∙ if_false (evaluates event q || runs event q) _ (ap (λ x. x || is_heard d s.value (event_writes d s event) (doing_at d q)) still ∙ not_heard q does is listens)

      listens_block : (q : ℕ) (events : List Watched) (body : Actions) → doing_at d q ≡ Some (Edge' events body) → (i k : ℕ) → sensitive (widths d) (Edge' events body) i k ≡ true → InClockCone d i
      listens_block q events body is i k h =
          let one = listed_item (widths d) events i k h in
          subst (InClockCone d) (sym one.same) (item_in_cone d sync q events body one.item (record { does = is; place = one.place; there = one.there }))

    -- what a body that runs asks for later
    pub none_later : (p : ℕ) → s.woken p ≡ true → (i k : ℕ) → are_over i k (laters (run_made d s.value (doing_at d p))) ≡ true → ⊥
    none_later p woken i k = by (doing_at d p) refl
      where
        by : (o : Option Doing) → doing_at d p ≡ o → are_over i k (laters (run_made d s.value o)) ≡ true → ⊥
        by None is over = false≢true over
        by (Some (Assign target e)) is over = false≢true over
        by (Some (Comb list body)) is over =
            sync.no_late p list body is i k (may_late d s.value body i k (sync.lawful p (Comb list body) is).1 (laters_cover i k (body_made (widths d) s.value body) ∙ over))
        by (Some (Edge' events body)) is over = false≢true (sym (quiet.blocks p events body is) ∙ woken)

    none_delayed : (event : Event) → IsThere d s event → (i k : ℕ) → are_over i k (delayed_after d s event) ≡ true → ⊥
    none_delayed (Input j) there i k over = quiet.delayed i k over
    none_delayed (Evaluate p) there i k over = quiet.delayed i k over
    none_delayed (Update p) there i k over = quiet.delayed i k over
    none_delayed (Run p) there i k over =
        elim (or_cases (are_over i k s.delayed) (are_over i k (laters (run_made d s.value (doing_at d p)))) (sym (list_any-append (list_any (covers i k)) s.delayed (laters (run_made d s.value (doing_at d p)))) ∙ over)) [
          | inl before ↦ quiet.delayed i k before
          | inr new ↦ none_later p there.1 i k new
        ]
    none_delayed Delayed there i k over = quiet.delayed i k over
    none_delayed Activate there i k over = false≢true over

    pub quiet_after : (event : Event) → IsThere d s event → IsQuiet d (after d s event)
    quiet_after event there =
        record {
          offered = λ i input some cone.
              quiet.offered i input (if_some (takes event i) (s.offered i) (ap is_some (sym ((made event there).offered i)) ∙ some)) cone;
          blocks = λ p events body is.
              waits event there p (Edge' events body) is (listens_block event there p events body is) (quiet.blocks p events body is);
          ports = λ p target e is cone.
              waits event there p (Assign target e) is (λ i k h. reads_cone p target e is cone.signal cone.bit cone.in_cone cone.may i k h) (quiet.ports p target e is cone);
          pending = λ p target e is cone.
              (made event there).pending p
              ∙ if_none (evaluates event p) (updates event p) _ (s.pending p) (not_evaluated d s event there p (quiet.ports p target e is cone)) (quiet.pending p target e is cone);
          delayed = λ i k over. none_delayed event there i k (ap (are_over i k) (sym (made event there).delayed) ∙ over);
        }
