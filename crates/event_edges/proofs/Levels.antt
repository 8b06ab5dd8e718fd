-- Where each clock and each reset goes to one level, a body none of whose events is such a turn isn't woken.
use Rattle.std.proofs.Common.{◌≡◌, ◌∙◌, ◌||◌, ◌+◌, ◌<◌, ◌≤◌, ◌⊎◌, ℕ, Bool, true, false, if◌then◌else◌, List, [], ◌∷◌, Option, None, Some, length, get_or, refl, sym, ap, subst, inl, inr, arith}
use Rattle.std.specs.Prelude.{IsSome, IsTrue, is_some}
use Rattle.std.specs.List.{All, list_any}
use Rattle.std.proofs.lemmas.Bool.{and_parts, cases_Bool, cases_eq, eqb-true, false≢true, or_cases}
use Rattle.std.proofs.lemmas.List.Elements.{All-head, All-tail}
use Rattle.rtl_bits.specs.declared.Bit.{Bit}
use Rattle.rtl_bits.specs.declared.Bit.TheVariants.{X}
use Rattle.rtl_bits.specs.Bits.{extended, replaced, selected}
use Rattle.text_ground.specs.declared.text.Spot.{Spot}
use Rattle.rtl_flat.specs.Expression.{Tree, Sized}
use Rattle.rtl_flat.specs.Expression as tree
use Rattle.rtl_flat.specs.Flows.{body_flow, may_select, reads}
use Rattle.rtl_flat.specs.Paths.{MayWrite}
use Rattle.rtl_flat.specs.Process.{Piece, Watched, Actions, Assign, Edge', Whole}
use Rattle.rtl_flat.specs.Value.{value}
use Rattle.event_model.specs.Queue.{State, Event, Input, Evaluate, Update, Run, Delayed, Activate, IsThere, after, doing_at, drive_now, happens, hears, hears_from, is_assignment, is_input, item_hears, offer, resolved}
use Rattle.rtl_flat.specs.Flats.{Flat, widths}
use Rattle.event_model.specs.Traces.{covers}
use Rattle.event_model.specs.Writes.{Values, Write, put, written}
use Rattle.event_runs.specs.event_laws.Steady.{IsWithin}
use Rattle.event_runs.proofs.event_laws_proofs.Lengths.{put_at, put_other}
use Rattle.event_runs.proofs.event_laws_proofs.Targets.{IsOver, none_over}
use Rattle.event_runs.proofs.event_laws_proofs.Within.{reads_inside}
use Rattle.event_runs.proofs.event_laws_proofs.Written.{covered, covers_from}
use Rattle.net_model.specs.Control.{InClockCone, IsClockOrReset, IsPassedOn, IsReached, Itself, Through, whole_of}
use Rattle.net_model.specs.Numbers.{bit}
use Rattle.event_runs.specs.Effects.{IsEffect, drive_writes, evaluates, event_writes, input_writes, is_heard, runs, takes, update_writes, updates}
use Rattle.event_runs.specs.Nets.{AreWide, offered_after}
use Rattle.event_runs.specs.Writers.{CanWrite, IsOrderly}
use Rattle.event_runs.proofs.Laws.{driven_resolved, effect, offer_leaves, orderly_after, orderly_offer}
use Rattle.event_runs.proofs.May.{process_now}
use Rattle.event_runs.proofs.Signals.{assign_net, body_variable, late_variable, net_input}
use Rattle.event_runs.proofs.Writers.{event_over, event_within, of_process}
use Rattle.event_edges.specs.Levels.{CanMoveTo, GivesLevels, IsUnfired, UnfiredKeepDue}
use Rattle.event_edges.specs.Moves.{Give, Move, Take, move_all}
use Rattle.event_edges.specs.Registers.{due_bit, update_bit}
use Rattle.event_edges.specs.Synchronous.{IsItem, IsPort, IsSynchronous}
use Rattle.event_edges.specs.Turned.{IsReachedPort}
use Rattle.event_edges.proofs.Cone.{connection_does, item_in_cone, item_width, listed_item, of_signal, one_start, port_written, reached_apart}
use Rattle.event_edges.proofs.Due.{at_rest, due_after, its_sole, of_body}
use Rattle.event_edges.proofs.Hearing.{falsely, find, happens_same, or_none}
use Rattle.event_edges.proofs.Ports.{follows, one_bit, resolves}
use Rattle.event_edges.proofs.Quiet.{IsSomeHeard, some_heard}
use Rattle.event_edges.proofs.Registers.{all_written_bit, choose, not_updated, refuse}
use Rattle.event_edges.proofs.Turning.{turned}

-- ---- choices

some_of : {A : Type 0} (o : Option A) → IsSome o → (x : A) × (o ≡ Some x)
some_of (Some x) is = (x, refl)
some_of None is = absurd (false≢true is)

either_some : {A : Type 0} (b : Bool) (o : Option A) (x : A) → (if b then None else o) ≡ Some x → o ≡ Some x
either_some true o x e = absurd (cc)
either_some false o x e = e

either_woken : (b woken heard : Bool) → (if b then false else (woken || heard)) ≡ true → (woken || heard) ≡ true
either_woken true woken heard e = absurd (false≢true e)
either_woken false woken heard e = e

either_false : (b x : Bool) → x ≡ false → (if b then false else x) ≡ false
either_false true x h = refl
either_false false x h = h

abbrev first_signal : List Piece → ℕ
first_signal [] = 0
first_signal (piece ∷ others) = piece.signal

-- a bit that a write is over is one of its signal
over_inside : (d : Flat) (us : List Write) → All (IsWithin (widths d)) us → (i k : ℕ) → IsOver i k us → k < widths d i
over_inside d [] within i k over = absurd (none_over i k over)
over_inside d (w ∷ us) within i k over =
    elim (or_cases (covers i k w) (list_any (covers i k) us) over) [
      | inl here ↦
          let it = covered i k w here in
          let below = it.2 in
          let inside : w.at + length w.bits ≤ widths d w.signal = All-head (IsWithin (widths d)) w us within in
          let same : widths d w.signal ≡ widths d i = ap (widths d) it.0 in
          omega (arith, below, inside, same)
      | inr later ↦ over_inside d us (All-tail (IsWithin (widths d)) w us within) i k later
    ]

-- ---- states on the way

-- inputs are offered the bits to which they are to go; what is reached has the old bit or the new one; and what is to go
-- through a port is the new one
record IsMoving (d : Flat) (was to : ℕ → Bit) (s : State) : Type 0 where
  order : IsOrderly d s
  offered : (c : ℕ) (bits : List Bit) → IsClockOrReset d c → s.offered c ≡ Some bits → bits ≡ to c ∷ []
  behind :
      (c i : ℕ) → IsClockOrReset d c → IsReached d c i → (bit s.value i 0 ≡ was c) ⊎ (bit s.value i 0 ≡ to c)
  ports :
      (p : ℕ) (target : List Piece) (e : Tree) → doing_at d p ≡ Some (Assign target e) → s.woken p ≡ true →
      (c : ℕ) → IsClockOrReset d c → (port : IsReachedPort d c target e) → bit s.value port.from 0 ≡ to c
  pending :
      (p : ℕ) (target : List Piece) (e : Tree) → doing_at d p ≡ Some (Assign target e) →
      (bits : List Bit) → s.pending p ≡ Some bits →
      (c : ℕ) → IsClockOrReset d c → (port : IsReachedPort d c target e) → bits ≡ to c ∷ []

module _ (d : Flat) (sync : IsSynchronous d) (was to : ℕ → Bit) where
  abbrev cone : (c i : ℕ) → IsClockOrReset d c → IsReached d c i → InClockCone d i
  cone c i clock reached = record { clock = c; is_clock = clock; reached = reached }

  -- an input is reached from itself alone
  own_input : (c i : ℕ) → IsClockOrReset d c → IsReached d c i → IsTrue (is_input d i) → c ≡ i
  own_input c i clock reached input = one_start d sync c i i i clock.input input refl reached Itself

  -- what is reached has one bit
  width_one : (c i : ℕ) → IsClockOrReset d c → IsReached d c i → widths d c ≡ 1 → widths d i ≡ 1
  width_one c _ clock Itself one = one
  width_one c _ clock (Through k j reached passed) one = passed.port_bit

  module _ (s : State) (h : IsMoving d was to s) (event : Event) (there : IsThere d s event) where
    abbrev us : List Write
    us = event_writes d s event

    made : IsEffect d s event (event_writes d s event) (after d s event)
    made = effect d s event there

  -- ---- what an event writes

  module _ (s : State) (h : IsMoving d was to s) where
    by_input : (j c i : ℕ) → IsTrue (is_input d j) → IsClockOrReset d c → IsReached d c i → (o : Option (List Bit)) → s.offered j ≡ o → IsOver i 0 (input_writes j o) → input_writes j o ≡ turned i (to c) ∷ []
    by_input j c i input clock reached None due over = absurd (none_over i 0 over)
    by_input j c i input clock reached (Some bits) due over =
        elim (or_cases (covers i 0 w) false over) [
          | inl is ↦
              let at : j ≡ i = (covered i 0 w is).0 in
              let here : c ≡ j = own_input c j clock (subst (IsReached d c) (sym at) reached) input in
              let new : bits ≡ to c ∷ [] = h.offered c bits clock (ap s.offered here ∙ due) in
              ap (λ (n : ℕ). record { signal = n; at = 0; bits = bits } ∷ []) at ∙ ap (λ (l : List Bit). record { signal = i; at = 0; bits = l } ∷ []) new
          | inr never ↦ absurd (false≢true never)
        ]
      where
        w : Write
        w = record { signal = j; at = 0; bits = bits }

    by_port :
        (p k j : ℕ) (passed : IsPassedOn d k j) → p ≡ passed.process → (c : ℕ) → IsClockOrReset d c → IsReached d c k →
        IsSome (s.pending p) → update_writes d s p (doing_at d p) ≡ turned j (to c) ∷ []
    by_port p k j passed same c clock reached some =
        ap (update_writes d s p) is
        ∙ ap (drive_writes d s.driver p (whole_of j spot)) due.1
        ∙ ap (λ (l : List Bit). record { signal = j; at = 0; bits = l } ∷ []) shows
      where
        spot : Spot
        spot = passed.connection.spot

        is : doing_at d p ≡ Some (Assign (whole_of j spot) passed.value)
        is = ap (doing_at d) same ∙ connection_does d sync k j passed

        port : IsPort d (whole_of j spot) passed.value k
        port = sync.heard p (Assign (whole_of j spot) passed.value) is k passed.alone.bit (cone c k clock reached) passed.alone.read

        at : port.port ≡ j
        at = ap first_signal (sym port.link.whole)

        reached_port : IsReachedPort d c (whole_of j spot) passed.value
        reached_port = record { «from» = k; port = port.port; link = port.link; passed = port.passed; reached = reached }

        due : (bits : List Bit) × (s.pending p ≡ Some bits)
        due = some_of (s.pending p) some

        new : due.0 ≡ to c ∷ []
        new = h.pending p (whole_of j spot) passed.value is due.0 due.1 c clock reached_port

        shows : selected 0 (widths d j) (resolved d (put s.driver p due.0) j) ≡ to c ∷ []
        shows =
            subst (λ (n : ℕ). selected 0 (widths d n) (resolved d (put s.driver p due.0) n) ≡ to c ∷ []) at
            (resolves d sync (put s.driver p due.0) p (whole_of j spot) passed.value k port.port (to c) is port.link (put_at s.driver p p due.0 refl ∙ new))

    -- what is over a bit that is reached is one write of the new bit
    turns : (event : Event) → IsThere d s event → (c i : ℕ) → IsClockOrReset d c → IsReached d c i → IsOver i 0 (event_writes d s event) → event_writes d s event ≡ turned i (to c) ∷ []
    turns (Input j) there c i clock reached over = by_input j c i there.0 clock reached (s.offered j) refl over
    turns (Evaluate p) there c i clock reached over = absurd (none_over i 0 over)
    turns (Update p) there c i clock reached over =
        let can = event_over d sync.lawful s h.order (Update p) i 0 over in by i reached can
      where
        by : (i : ℕ) → IsReached d c i → CanWrite d (Update p) i 0 → update_writes d s p (doing_at d p) ≡ turned i (to c) ∷ []
        by _ Itself can = absurd (net_input d c (assign_net d sync.lawful p there.0 c 0 can) clock.input)
        by _ (Through k j reached' passed) can =
            let it = of_process MayWrite d p j 0 can in
            by_port p k j passed (sync.alone p passed.process it.0 _ it.1 (connection_does d sync k j passed) j 0 it.2 (port_written d sync k j passed)) c clock reached' there.1
    turns (Run p) there c i clock reached over =
        absurd (reached_apart d sync c clock.input i reached (body_variable d sync.lawful p there.0 i 0 (process_now d p i 0 (event_over d sync.lawful s h.order (Run p) i 0 over))))
    turns Delayed there c i clock reached over =
        let can = event_over d sync.lawful s h.order Delayed i 0 over in
        absurd (reached_apart d sync c clock.input i reached (late_variable d sync.lawful can.process i 0 can.may))
    turns Activate there c i clock reached over = absurd (none_over i 0 over)

  module _ (s : State) (h : IsMoving d was to s) (event : Event) (there : IsThere d s event) where
    -- ---- values behind it

    -- one that is written has the new bit
    new_bit : (c i : ℕ) → IsClockOrReset d c → IsReached d c i → IsOver i 0 (us s h event there) → bit (after d s event).value i 0 ≡ to c
    new_bit c i clock reached over =
        ap (λ (v : Values). bit v i 0) (made s h event there).value
        ∙ all_written_bit d i 0 s.value (us s h event there) h.order.steady.widths (event_within d sync.lawful s h.order event there)
        ∙ ap (λ (ws : List Write). update_bit i 0 ws (bit s.value i 0)) (turns s h event there c i clock reached over)
        ∙ choose (covers i 0 (turned i (to c))) (to c) (bit s.value i 0) (covers_from i 0 (turned i (to c)) refl (omega arith) (omega arith))

    kept_bit : (i : ℕ) → list_any (covers i 0) (us s h event there) ≡ false → bit (after d s event).value i 0 ≡ bit s.value i 0
    kept_bit i none =
        ap (λ (v : Values). bit v i 0) (made s h event there).value
        ∙ all_written_bit d i 0 s.value (us s h event there) h.order.steady.widths (event_within d sync.lawful s h.order event there)
        ∙ not_updated i 0 (us s h event there) (bit s.value i 0) none

    behind_after : (c i : ℕ) → IsClockOrReset d c → IsReached d c i → (bit (after d s event).value i 0 ≡ was c) ⊎ (bit (after d s event).value i 0 ≡ to c)
    behind_after c i clock reached =
        elim (cases_Bool (list_any (covers i 0) (us s h event there))) [
          | inl over ↦ inr (new_bit c i clock reached over)
          | inr none ↦
              elim (h.behind c i clock reached) [
                | inl e ↦ inl (kept_bit i none ∙ e)
                | inr e ↦ inr (kept_bit i none ∙ e)
              ]
        ]

    to_after : (c i : ℕ) → IsClockOrReset d c → IsReached d c i → bit s.value i 0 ≡ to c → bit (after d s event).value i 0 ≡ to c
    to_after c i clock reached e =
        elim (cases_Bool (list_any (covers i 0) (us s h event there))) [
          | inl over ↦ new_bit c i clock reached over
          | inr none ↦ kept_bit i none ∙ e
        ]

    -- ---- ports behind it

    -- one that hears the event is fed by a signal that it turns
    heard_port :
        (q : ℕ) (target : List Piece) (e : Tree) → doing_at d q ≡ Some (Assign target e) →
        is_heard d s.value (us s h event there) (doing_at d q) ≡ true →
        (c : ℕ) → IsClockOrReset d c → (port : IsReachedPort d c target e) → bit (after d s event).value port.from 0 ≡ to c
    heard_port q target e is heard c clock port =
        new_bit c port.from clock port.reached over
      where
        one : IsSomeHeard d (event_writes d s event) (Assign target e)
        one =
            some_heard d (Assign target e) s.value (event_writes d s event) h.order.steady.widths (event_within d sync.lawful s h.order event there)
            (ap (is_heard d s.value (event_writes d s event)) (sym is) ∙ heard)

        read : reads (widths d) (Sized 1 port.link.signed port.link.spot (tree.Whole port.from)) one.signal one.bit ≡ true
        read = ap (λ (t : Tree). reads (widths d) t one.signal one.bit) (sym port.link.copy) ∙ one.listened

        same : one.signal ≡ port.from
        same = of_signal (widths d) port.from Whole one.signal one.bit read

        inside : one.bit < widths d one.signal
        inside = reads_inside (widths d) (Sized 1 port.link.signed port.link.spot (tree.Whole port.from)) one.signal one.bit read

        first : one.bit ≡ 0
        first =
            let below = inside in
            let width : widths d one.signal ≡ 1 = ap (widths d) same ∙ port.link.one_bit in
            omega (arith, below, width)

        over : IsOver port.from 0 (event_writes d s event)
        over = subst (λ (n : ℕ). IsOver n 0 (event_writes d s event)) same (subst (λ (n : ℕ). IsOver one.signal n (event_writes d s event)) first one.over)

    ports_after :
        (q : ℕ) (target : List Piece) (e : Tree) → doing_at d q ≡ Some (Assign target e) → (after d s event).woken q ≡ true →
        (c : ℕ) → IsClockOrReset d c → (port : IsReachedPort d c target e) → bit (after d s event).value port.from 0 ≡ to c
    ports_after q target e is woken c clock port =
        elim (or_cases (s.woken q) (is_heard d s.value (us s h event there) (doing_at d q)) (either_woken (evaluates event q || runs event q) (s.woken q) _ (sym ((made s h event there).woken q) ∙ woken))) [
          | inl before ↦ to_after c port.from clock port.reached (h.ports q target e is before c clock port)
          | inr heard ↦ heard_port q target e is heard c clock port
        ]

    evaluated : (event' : Event) → IsThere d s event' → (q : ℕ) → evaluates event' q ≡ true → s.woken q ≡ true
    evaluated (Input i) there' q mine = absurd (false≢true mine)
    evaluated (Evaluate p) there' q mine = ap s.woken (eqb-true q p mine) ∙ there'.1
    evaluated (Update p) there' q mine = absurd (false≢true mine)
    evaluated (Run p) there' q mine = absurd (false≢true mine)
    evaluated Delayed there' q mine = absurd (false≢true mine)
    evaluated Activate there' q mine = absurd (false≢true mine)

    pending_after :
        (q : ℕ) (target : List Piece) (e : Tree) → doing_at d q ≡ Some (Assign target e) →
        (bits : List Bit) → (after d s event).pending q ≡ Some bits →
        (c : ℕ) → IsClockOrReset d c → (port : IsReachedPort d c target e) → bits ≡ to c ∷ []
    pending_after q target e is bits due c clock port =
        elim (cases_Bool (evaluates event q)) [
          | inl mine ↦
              let feeds = h.ports q target e is (evaluated event there q mine) c clock port in
              let source : s.value port.from ≡ to c ∷ [] = one_bit (s.value port.from) (to c) (h.order.steady.widths port.from ∙ port.link.one_bit) feeds in
              let drives : value s.value e ≡ to c ∷ [] = ap (value s.value) port.link.copy ∙ ap (λ l. extended 1 port.link.signed l) source in
              let new : Some (drive_now s.value (doing_at d q)) ≡ Some bits =
              sym (choose (evaluates event q) (Some (drive_now s.value (doing_at d q))) _ mine) ∙ sym ((made s h event there).pending q) ∙ due in
              let bits' : drive_now s.value (doing_at d q) ≡ bits = cc (new) in
              sym bits' ∙ ap (drive_now s.value) is ∙ drives
          | inr other ↦
              h.pending q target e is bits
              (either_some (updates event q) (s.pending q) bits
              (sym (refuse (evaluates event q) (Some (drive_now s.value (doing_at d q))) _ other) ∙ sym ((made s h event there).pending q) ∙ due)) c clock port
        ]

    moving_after : IsMoving d was to (after d s event)
    moving_after =
        record {
          order = orderly_after d sync.lawful s event there h.order;
          offered = λ c bits clock due.
              h.offered c bits clock (either_some (takes event c) (s.offered c) bits (sym ((made s h event there).offered c) ∙ due));
          behind = behind_after;
          ports = ports_after;
          pending = pending_after;
        }

    -- ---- bodies behind it

    module _ (p : ℕ) (list : List Watched) (body : Actions) (is : doing_at d p ≡ Some (Edge' list body)) (unfired : IsUnfired d was to p list body) where
      -- a turn of a signal is none of its events
      not_by : (c i : ℕ) → IsClockOrReset d c → IsReached d c i → s.value i ≡ bit s.value i 0 ∷ [] → hears_from (widths d) i 0 (bit s.value i 0 ∷ []) (to c ∷ []) (Edge' list body) ≡ false
      not_by c i clock reached one =
          falsely _ (λ heard.
          elim (or_cases (list_any (item_hears (widths d) i 0 (bit s.value i 0) (to c)) list) false heard) [
            | inl some ↦
                let came = find (item_hears (widths d) i 0 (bit s.value i 0) (to c)) list some in
                let parts = and_parts (may_select (widths d) came.item.signal came.item.selection i 0) (happens came.item.edge (bit s.value i 0) (to c)) came.passes in
                let same : i ≡ came.item.signal = of_signal (widths d) came.item.signal came.item.selection i 0 parts.0 in
                let item : IsItem d p list body came.item = record { does = is; place = came.place; there = came.there } in
                elim (h.behind c i clock reached) [
                  | inl e ↦
                      false≢true (sym (ap (λ (x : Bit). happens came.item.edge x (to c)) e ∙ unfired came.item item c clock (subst (IsReached d c) same reached)) ∙ parts.1)
                  | inr e ↦
                      false≢true (sym (ap (λ (x : Bit). happens came.item.edge x (to c)) e ∙ happens_same came.item.edge (to c)) ∙ parts.1)
                ]
            | inr never ↦ false≢true never
          ])

      unheard : is_heard d s.value (us s h event there) (doing_at d p) ≡ false
      unheard =
          falsely (is_heard d s.value (us s h event there) (doing_at d p)) (λ heard.
          let one = some_heard d (Edge' list body) s.value (event_writes d s event) h.order.steady.widths (event_within d sync.lawful s h.order event there) (ap (is_heard d s.value (event_writes d s event)) (sym is) ∙ heard) in
          let listed = listed_item (widths d) list one.signal one.bit one.listened in
          let item : IsItem d p list body listed.item = record { does = is; place = listed.place; there = listed.there } in
          let control = item_in_cone d sync p list body listed.item item in
          let c = control.clock in
          let width : widths d one.signal ≡ 1 = ap (widths d) listed.same ∙ item_width d sync p list body listed.item item in
          let reached : IsReached d c one.signal = subst (IsReached d c) (sym listed.same) control.reached in
          let inside : one.bit < widths d one.signal = over_inside d (event_writes d s event) (event_within d sync.lawful s h.order event there) one.signal one.bit one.over in
          let first : one.bit ≡ 0 = omega (arith, width, inside) in
          let over : IsOver one.signal 0 (event_writes d s event) = subst (λ (n : ℕ). IsOver one.signal n (event_writes d s event)) first one.over in
          let writes = turns s h event there c one.signal control.is_clock reached over in
          let old : s.value one.signal ≡ bit s.value one.signal 0 ∷ [] = one_bit (s.value one.signal) (bit s.value one.signal 0) (h.order.steady.widths one.signal ∙ width) refl in
          let new : written s.value (turned one.signal (to c)) one.signal ≡ to c ∷ [] = put_at s.value one.signal one.signal (replaced 0 (to c ∷ []) (s.value one.signal)) refl ∙ ap (λ (l : List Bit). replaced 0 (to c ∷ []) l) old in
          let quiet : is_heard d s.value (turned one.signal (to c) ∷ []) (Some (Edge' list body)) ≡ false =
          or_none (hears (widths d) one.signal (s.value one.signal) (written s.value (turned one.signal (to c)) one.signal) (Some (Edge' list body)))
          ∙ ap (λ (l : List Bit). hears_from (widths d) one.signal 0 l (written s.value (turned one.signal (to c)) one.signal) (Edge' list body)) old
          ∙ ap (λ (l : List Bit). hears_from (widths d) one.signal 0 (bit s.value one.signal 0 ∷ []) l (Edge' list body)) new
          ∙ not_by c one.signal control.is_clock reached old in
          false≢true (sym (ap (is_heard d s.value (event_writes d s event)) is ∙ ap (λ (ws : List Write). is_heard d s.value ws (Some (Edge' list body))) writes ∙ quiet) ∙ heard))

      asleep_after : s.woken p ≡ false → (after d s event).woken p ≡ false
      asleep_after still =
          (made s h event there).woken p
          ∙ either_false (evaluates event p || runs event p) _ (ap (λ (x : Bool). x || is_heard d s.value (us s h event there) (doing_at d p)) still ∙ unheard)

  -- ---- gifts

  offered_to : (s : State) (step : List (ℕ × List Bit)) → GivesLevels d to step → IsMoving d was to s → (c : ℕ) (bits : List Bit) → IsClockOrReset d c → offered_after s.offered step c ≡ Some bits → bits ≡ to c ∷ []
  offered_to s step gives h = by s.offered step gives h.offered
    where
      by : (offered : ℕ → Option (List Bit)) (step : List (ℕ × List Bit)) → GivesLevels d to step → ((c : ℕ) (bits : List Bit) → IsClockOrReset d c → offered c ≡ Some bits → bits ≡ to c ∷ []) → (c : ℕ) (bits : List Bit) → IsClockOrReset d c → offered_after offered step c ≡ Some bits → bits ≡ to c ∷ []
      by offered [] gives before c bits clock due = before c bits clock due
      by offered ((j, new) ∷ step) gives before c bits clock due =
          by (put offered j (Some new)) step gives.2
          (λ c' bits' clock' due'.
          elim (cases_eq c' j) [
            | inl same ↦
                let there : Some new ≡ Some bits' = sym (put_at offered j c' (Some new) same) ∙ due' in
                let these : new ≡ bits' = cc (there) in
                sym these ∙ gives.1 (subst (IsClockOrReset d) same clock') ∙ ap (λ (n : ℕ). to n ∷ []) (sym same)
            | inr other ↦ before c' bits' clock' (sym (put_other offered j c' (Some new) other) ∙ due')
          ]) c bits clock due

  gives_wide : (step : List (ℕ × List Bit)) → GivesLevels d to step → AreWide d step
  gives_wide [] gives = tt
  gives_wide ((j, bits) ∷ step) gives = (gives.0, gives_wide step gives.2)

  moving_offer : (s : State) (step : List (ℕ × List Bit)) → GivesLevels d to step → IsMoving d was to s → IsMoving d was to (offer s step)
  moving_offer s step gives h =
      let order = orderly_offer d s step (gives_wide step gives) h.order in
      let same = offer_leaves d s step in
      record {
        order = order;
        offered = λ c bits clock due. offered_to s step gives h c bits clock (sym (ap (λ (u : State). u.offered c) same) ∙ due);
        behind = λ c i clock reached.
            elim (h.behind c i clock reached) [
              | inl e ↦ inl (ap (λ (u : State). bit u.value i 0) same ∙ e)
              | inr e ↦ inr (ap (λ (u : State). bit u.value i 0) same ∙ e)
            ];
        ports = λ p target e is woken c clock port.
            ap (λ (u : State). bit u.value port.from 0) same ∙ h.ports p target e is (sym (ap (λ (u : State). u.woken p) same) ∙ woken) c clock port;
        pending = λ p target e is bits due. h.pending p target e is bits (sym (ap (λ (u : State). u.pending p) same) ∙ due);
      }

  -- ---- moves

  module _ (p : ℕ) (list : List Watched) (body : Actions) (is : doing_at d p ≡ Some (Edge' list body)) (unfired : IsUnfired d was to p list body) (i k : ℕ) (may : MayWrite (body_flow (widths d) body) i k) where
    due_kept : (s : State) (moves : List Move) → CanMoveTo d to s moves → IsMoving d was to s → s.woken p ≡ false → due_bit (move_all d s moves) i k ≡ due_bit s i k
    due_kept s [] can h still = refl
    due_kept s (Take event ∷ moves) can h still =
        due_kept (after d s event) moves can.1 (moving_after s h event can.0) (asleep_after s h event can.0 p list body is unfired still)
        ∙ due_after d sync.lawful p list body is i k (of_body d sync p list body is i k may) (its_sole d sync p list body is i k may) s h.order event can.0
        (at_rest d sync s p still event can.0)
    due_kept s (Give step ∷ moves) can h still =
        let same = offer_leaves d s step in
        due_kept (offer s step) moves can.1 (moving_offer s step can.0 h) (ap (λ (u : State). u.woken p) same ∙ still)
        ∙ ap (λ (u : State). due_bit u i k) same

pub unfired_due : (d : Flat) → IsSynchronous d → UnfiredKeepDue d
unfired_due d sync was to s start moves can p list body is unfired i k may =
    due_kept d sync was to p list body is unfired i k may s moves can moving (start.rest.no_active.processes p (ap is_some is))
  where
    moving : IsMoving d was to s
    moving =
        record {
          order = start.order;
          offered = λ c bits clock due.
              absurd (let none : None ≡ Some bits = sym (start.rest.no_active.inputs c clock.input) ∙ due in cc);
          behind = λ c i clock reached.
              inl (ap (λ (l : List Bit). get_or l 0 X) (follows d sync s start.order ((driven_resolved d sync.lawful).alone s start.resolved) start.rest.no_active c clock (was c) (start.before c clock) i reached));
          ports = λ q target e at woken.
              absurd (false≢true (sym (start.rest.no_active.processes q (ap is_some at)) ∙ woken));
          pending = λ q target e at bits due.
              absurd (let none : None ≡ Some bits = sym (start.rest.no_active.drivers q (ap is_assignment at)) ∙ due in cc);
        }
