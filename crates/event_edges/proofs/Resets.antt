-- Where a reset is active, a register that it sets has its constant at rest, in every run.
use Rattle.std.proofs.Common.{◌≡◌, ◌∙◌, ◌||◌, ◌==◌, ℕ, Bool, true, false, List, [], ◌∷◌, Option, None, Some, All, length, get_or, refl, sym, ap, subst, inl, inr, arith}
use Rattle.std.specs.Prelude.{if◌then◌else◌, is_some}
use Rattle.std.specs.List.{slice_get}
use Rattle.std.proofs.lemmas.Bool.{cases_Bool, cases_eq, cases_lt, eqb-true, false≢true, or_parts, true≢false}
use Rattle.std.proofs.lemmas.List.{get_or-replicate, get_or_past, length-replicate}
use Rattle.std.proofs.lemmas.List.Elements.{All-head, All-tail}
use Rattle.rtl_bits.specs.declared.Bit.{Bit}
use Rattle.rtl_bits.specs.declared.Bit.TheVariants.{Zero, One, X, Z}
use Rattle.rtl_bits.specs.Bit.{is_unknown}
use Rattle.rtl_bits.specs.Bits.{replaced, same_bit}
use Rattle.rtl_flat.specs.declared.signal.Kind.{Kind}
use Rattle.rtl_flat.specs.declared.signal.Kind.TheVariants.{Net, TopInput, Var}
use Rattle.rtl_flat.specs.declared.signal.Signal.{Signal}
use Rattle.rtl_flat.specs.Paths.{MayWrite}
use Rattle.rtl_flat.specs.Process.{Doing, Edge'}
use Rattle.event_model.specs.Queue.{State, Event, Input, Evaluate, Update, Run, Delayed, Activate, CanRun, IsAtRest, IsThere, after, doing_at, first_bit, first_bits, hears, is_assignment, listens, offer, power_up, run}
use Rattle.rtl_flat.specs.Flats.{Flat, widths}
use Rattle.event_model.specs.Traces.{Same}
use Rattle.event_model.specs.Writes.{Values, Write, all_written, written}
use Rattle.event_runs.specs.event_laws.Steady.{AreLawful, HaveWidths, IsWithin}
use Rattle.event_runs.proofs.event_laws_proofs.Lengths.{fits, have_written, put_other, written_length}
use Rattle.event_runs.proofs.event_laws_proofs.Unheard.{same_bits, unheard_from}
use Rattle.net_model.specs.Numbers.{bit}
use Rattle.event_runs.specs.Effects.{evaluates, event_writes, is_heard, laters, run_made, runs}
use Rattle.event_runs.specs.Writers.{IsOrderly}
use Rattle.event_runs.proofs.Laws.{effect, offer_leaves, orderly_after, untouched}
use Rattle.event_runs.proofs.May.{process_now}
use Rattle.event_runs.proofs.Writers.{event_within, from_process}
use Rattle.event_edges.specs.Registers.{due_bit, updates_bit}
use Rattle.event_edges.specs.Reset.{IsReset, IsSet}
use Rattle.event_edges.proofs.Due.{due_after, due_rest}
use Rattle.event_edges.proofs.Hearing.{falsely}
use Rattle.event_edges.proofs.Registers.{updates_append}

same_itself : (b : Bit) → same_bit b b ≡ true
same_itself Zero = refl
same_itself One = refl
same_itself X = refl
same_itself Z = refl

taken : (b x : Bool) → b ≡ false → (if b then false else x) ≡ false → x ≡ false
taken false x is h = h
taken true x is h = absurd (true≢false is)

-- the first bit of each signal is unknown
first_kind : (kind : Kind) → is_unknown (first_bit kind) ≡ true
first_kind TopInput = refl
first_kind Net = refl
first_kind Var = refl

first_unknown : (o : Option Signal) → is_unknown (get_or (first_bits o) 0 X) ≡ true
first_unknown None = refl
first_unknown (Some signal) =
    elim (cases_lt 0 signal.width) [
      | inl inside ↦ ap is_unknown (get_or-replicate signal.width 0 (first_bit signal.kind) X inside) ∙ first_kind signal.kind
      | inr past ↦
          ap is_unknown (get_or_past (first_bits (Some signal)) 0 X (let size = length-replicate signal.width (first_bit signal.kind) in omega (arith, size, past)))
    ]

module _ (d : Flat) (lawful : AreLawful d) (p r : ℕ) (active : Bit) (i k : ℕ) (constant : Bit) (reset : IsReset d p r active i k constant) where
  abbrev does : Doing
  does = Edge' reset.list reset.body

  -- ---- a reset that becomes active is heard

  one_unheard :
      (v : Values) (w : Write) → HaveWidths d v → IsWithin (widths d) w → hears (widths d) w.signal (v w.signal) (written v w w.signal) (Some does) ≡ false →
      bit (written v w) r 0 ≡ active → bit v r 0 ≡ active
  one_unheard v w have inside deaf now =
      elim (cases_eq r w.signal) [
        | inr other ↦
            sym (ap (λ l. get_or l 0 X) (put_other v w.signal r (replaced w.at w.bits (v w.signal)) other)) ∙ now
        | inl same ↦
            let size : length (v w.signal) ≡ 1 = have w.signal ∙ ap (widths d) (sym same) ∙ reset.one_bit in
            let there = unheard_from (widths d) w.signal does 0 (v w.signal) (written v w w.signal) (sym (written_length v w (fits d v w have inside) w.signal)) deaf 0 (omega (arith, size)) in
            let here : listens (widths d) r 0 (bit v r 0) (bit (written v w) r 0) does ≡ false = ap (λ j. listens (widths d) j 0 (get_or (v j) 0 X) (get_or (written v w j) 0 X) does) same ∙ there in
            let missed : listens (widths d) r 0 (bit v r 0) active does ≡ false = ap (λ b. listens (widths d) r 0 (bit v r 0) b does) (sym now) ∙ here in
            elim (cases_Bool (same_bit (bit v r 0) active)) [
              | inl equal ↦ same_bits (bit v r 0) active equal
              | inr differs ↦
                  absurd (false≢true (sym missed ∙ reset.heard (bit v r 0) (λ e. false≢true (sym differs ∙ ap (λ b. same_bit b active) e ∙ same_itself active))))
            ]
      ]

  all_unheard :
      (v : Values) (us : List Write) → HaveWidths d v → All (IsWithin (widths d)) us → is_heard d v us (Some does) ≡ false →
      bit (all_written v us) r 0 ≡ active → bit v r 0 ≡ active
  all_unheard v [] have inside deaf now = now
  all_unheard v (w ∷ us) have inside deaf now =
      let here = All-head (IsWithin (widths d)) w us inside in
      let parts = or_parts (hears (widths d) w.signal (v w.signal) (written v w w.signal) (Some does)) (is_heard d (written v w) us (Some does)) deaf in
      one_unheard v w have here parts.0
      (all_unheard (written v w) us (have_written d v w have here) (All-tail (IsWithin (widths d)) w us inside) parts.1 now)

  -- ---- events

  module _ (s : State) (order : IsOrderly d s) (set : IsSet d p r active i k constant s) where
    -- its body runs
    ran : (q : ℕ) → q ≡ p → IsThere d s (Run q) → bit (after d s (Run q)).value r 0 ≡ active → due_bit (after d s (Run q)) i k ≡ constant
    ran q here there now =
        ap (λ us. updates_bit i k us (updates_bit i k t.activated (bit t.value i k))) (effect d s (Run q) there).delayed
        ∙ updates_append i k s.delayed (laters (run_made d s.value (doing_at d q))) (updates_bit i k t.activated (bit t.value i k))
        ∙ ap (λ o. updates_bit i k (laters (run_made d s.value o)) (updates_bit i k s.delayed (updates_bit i k t.activated (bit t.value i k)))) (ap (doing_at d) here ∙ reset.does)
        ∙ reset.asks s.value order.steady.widths (sym kept ∙ now) (updates_bit i k s.delayed (updates_bit i k t.activated (bit t.value i k)))
      where
        t : State
        t = after d s (Run q)

        kept : Same (after d s (Run q)).value s.value r 0
        kept =
            untouched d lawful s (Run q) r 0 there order
            (λ can. reset.unwritten 0 (from_process MayWrite d q r 0 does (ap (doing_at d) here ∙ reset.does) (process_now d q r 0 can)))

    -- it doesn't
    waits : (event : Event) → IsThere d s event → evaluates event p ≡ false → runs event p ≡ false → IsSet d p r active i k constant (after d s event)
    waits event there no_evaluation no_run still now =
        let made = effect d s event there in
        let unwoken : (s.woken p || is_heard d s.value (event_writes d s event) (doing_at d p)) ≡ false = taken (evaluates event p || runs event p) _ (ap (λ x. x || runs event p) no_evaluation ∙ no_run) (sym (made.woken p) ∙ still) in
        let parts = or_parts (s.woken p) (is_heard d s.value (event_writes d s event) (doing_at d p)) unwoken in
        let before = all_unheard s.value (event_writes d s event) order.steady.widths (event_within d lawful s order event there) (ap (is_heard d s.value (event_writes d s event)) (sym reset.does) ∙ parts.1) (ap (λ v. bit v r 0) (sym made.value) ∙ now) in
        due_after d lawful p reset.list reset.body reset.does i k reset.variable reset.sole s order event there no_run ∙ set parts.0 before

    by_run : (q : ℕ) → IsThere d s (Run q) → IsSet d p r active i k constant (after d s (Run q))
    by_run q there still now =
        elim (cases_Bool (p == q)) [
          | inl same ↦ ran q (sym (eqb-true p q same)) there now
          | inr other ↦ waits (Run q) there refl other still now
        ]

    pub set_after : (event : Event) → IsThere d s event → IsSet d p r active i k constant (after d s event)
    set_after (Input j) there = waits (Input j) there refl refl
    set_after (Evaluate q) there =
        waits (Evaluate q) there
        (falsely (p == q) (λ same. false≢true (sym (ap is_assignment (ap (doing_at d) (sym (eqb-true p q same)) ∙ reset.does)) ∙ there.0))) refl
    set_after (Update q) there = waits (Update q) there refl refl
    set_after (Run q) there = by_run q there
    set_after Delayed there = waits Delayed there refl refl
    set_after Activate there = waits Activate there refl refl

  pub set_run : (s : State) (events : List Event) → CanRun d s events → IsOrderly d s → IsSet d p r active i k constant s → IsSet d p r active i k constant (run d s events)
  set_run s [] can order set = set
  set_run s (event ∷ events) can order set =
      set_run (after d s event) events can.1 (orderly_after d lawful s event can.0 order) (set_after s order set event can.0)

  -- ---- starts and ends

  pub set_power_up : IsSet d p r active i k constant (power_up d)
  set_power_up still now =
      absurd (false≢true (sym reset.known ∙ ap is_unknown (sym now) ∙ first_unknown (slice_get d.signals r)))

  pub set_offer : (s : State) (step : List (ℕ × List Bit)) → IsSet d p r active i k constant s → IsSet d p r active i k constant (offer s step)
  set_offer s step set =
      subst (IsSet d p r active i k constant) (sym (offer_leaves d s step)) set

  pub set_at_rest : (s : State) → IsAtRest d s → IsSet d p r active i k constant s → bit s.value r 0 ≡ active → bit s.value i k ≡ constant
  set_at_rest s rest set now =
      sym (due_rest s i k rest.no_active.updates rest.no_delayed)
      ∙ set (rest.no_active.processes p (ap is_some reset.does)) now
