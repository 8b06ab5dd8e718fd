-- A step that closes a gate, event by event.
use Rattle.std.proofs.Common.{◌≡◌, ◌∙◌, ◌||◌, ℕ, Bool, true, false, List, [], ◌∷◌, length, get_or, Option, None, Some, refl, sym, ap, subst, inl, inr, arith}
use Rattle.std.specs.Prelude.{IsTrue, is_some}
use Rattle.std.proofs.lemmas.Bool.{cases_eq, false≢true, or_cases}
use Rattle.rtl_bits.specs.declared.Bit.{Bit}
use Rattle.rtl_bits.specs.declared.Bit.TheVariants.{X}
use Rattle.rtl_bits.specs.Bits.{extended, replaced, selected}
use Rattle.rtl_flat.specs.Expression.{Tree}
use Rattle.rtl_flat.specs.Process.{Piece, Watched, Actions, Doing, Assign, Comb, Edge'}
use Rattle.rtl_flat.specs.Value.{value}
use Rattle.event_model.specs.Bodies.{Made}
use Rattle.event_model.specs.Queue.{State, Event, Input, Evaluate, Update, Run, Delayed, Activate, CanRun, IsAtRest, IsThere, after, after_evaluate, after_input, after_run, after_update, doing_at, drive, hears, is_assignment, is_body, is_input, perform_all, resolved, run, wait, write}
use Rattle.rtl_flat.specs.Flats.{Flat, widths}
use Rattle.event_model.specs.Writes.{Values, put, written}
use Rattle.event_edges.specs.event_laws.Steady.{HaveWidths, IsWithin}
use Rattle.event_edges.proofs.event_laws_proofs.Lengths.{have_written, put_at, put_other}
use Rattle.net_model.specs.Control.{IsReached, Itself, Through, whole_of}
use Rattle.event_edges.specs.Synchronous.{IsSynchronous}
use Rattle.event_edges.specs.Turned.{IsReachedPort, IsTurnedPort, set_to}
use Rattle.event_edges.proofs.Hearing.{IsHeard, falsely, hearing}
use Rattle.event_edges.proofs.Ports.{resolves}
use Rattle.event_edges.proofs.Turning.{turned}
use Rattle.event_gates.specs.Closing.{IsClosing, IsShut}
use Rattle.event_gates.specs.Gates.{IsShutter, MayShut}

-- a signal of one bit is written whole
one_replaced : (b : Bit) (bits : List Bit) → length bits ≡ 1 → replaced 0 (b ∷ []) bits ≡ b ∷ []
one_replaced b [] size = absurd (omega (arith, size))
one_replaced b (x ∷ []) size = refl
one_replaced b (x ∷ y ∷ bits) size = absurd (omega (arith, size))

module _ (d : Flat) (sync : IsSynchronous d) (c : ℕ) (b : Bit) (shutter : IsShutter d c b) (old : Values) where
  -- ---- a signal comes to the bit

  module _ (s : State) (h : IsClosing d c b old s) (j : ℕ) (reached : IsReached d c j) where
    one : widths d j ≡ 1
    one = shutter.one_bit j reached

    inside : IsWithin (widths d) (turned j b)
    inside = omega (arith, one)

    now : written s.value (turned j b) j ≡ b ∷ []
    now = put_at s.value j j (replaced 0 (b ∷ []) (s.value j)) refl ∙ one_replaced b (s.value j) (h.wide j ∙ one)

    elsewhere : (i : ℕ) → (i ≡ j → ⊥) → written s.value (turned j b) i ≡ s.value i
    elsewhere i other = put_other s.value j i (replaced 0 (b ∷ []) (s.value j)) other

    stays : (i : ℕ) → s.value i ≡ b ∷ [] → written s.value (turned j b) i ≡ b ∷ []
    stays i e =
        elim (cases_eq i j) [
          | inl same ↦ ap (written s.value (turned j b)) same ∙ now
          | inr other ↦ elsewhere i other ∙ e
        ]

    -- who is woken
    abbrev heard : ℕ → Bool
    heard q = hears (widths d) j (s.value j) (written s.value (turned j b) j) (doing_at d q)

    hearer : (q : ℕ) (does : Doing) → doing_at d q ≡ Some does → heard q ≡ true → MayShut d b does j
    hearer q does is hs =
        let it : IsHeard d (turned j b) does = hearing d s.value (turned j b) does h.wide inside
        (ap (hears (widths d) j (s.value j) (written s.value (turned j b) j)) (sym is) ∙ hs) in
        shutter.heard q does is j it.bit reached it.listened

    ports :
        (q : ℕ) (target : List Piece) (e : Tree) → doing_at d q ≡ Some (Assign target e) → (s.woken q || heard q) ≡ true →
        IsTurnedPort d c b (written s.value (turned j b)) target e
    ports q target e is woken =
        elim (or_cases (s.woken q) (heard q) woken) [
          | inl was ↦
              let port = h.ports q target e is was in
              record { is_reached = port.is_reached; turned = stays port.is_reached.from port.turned }
          | inr hs ↦
              let port = hearer q (Assign target e) is hs in
              record {
                is_reached = record { «from» = j; port = port.port; link = port.link; passed = port.passed; reached = reached };
                turned = now;
              }
        ]

    shut :
        (q : ℕ) (list : Option (List Watched)) (body : Actions) → doing_at d q ≡ Some (Comb list body) → (s.woken q || heard q) ≡ true →
        IsShut d c b (written s.value (turned j b)) body
    shut q list body is woken =
        elim (or_cases (s.woken q) (heard q) woken) [
          | inl was ↦
              let it = h.shut q list body is was in
              record { gate = it.gate; reached = it.reached; closed = stays it.gate it.closed; shuts = it.shuts }
          | inr hs ↦ record { gate = j; reached = reached; closed = now; shuts = hearer q (Comb list body) is hs }
        ]

    waits : (q : ℕ) (events : List Watched) (body : Actions) → doing_at d q ≡ Some (Edge' events body) → (s.woken q || heard q) ≡ false
    waits q events body is =
        ap (λ x. x || heard q) (h.waits q events body is) ∙ falsely (heard q) (λ hs. hearer q (Edge' events body) is hs)

    close_write : IsClosing d c b old (write d s (turned j b))
    close_write =
        record {
          wide = have_written d s.value (turned j b) h.wide inside;
          offered = h.offered;
          ports = ports;
          pending = h.pending;
          shut = shut;
          waits = waits;
          activated = h.activated;
          delayed = h.delayed;
          kept = λ i k apart.
              ap (λ l. get_or l k X) (elsewhere i (λ same. apart (subst (IsReached d c) (sym same) reached))) ∙ h.kept i k apart;
        }

  module _ (s : State) (h : IsClosing d c b old s) where
    -- ---- the input

    taken : (i : ℕ) → IsClosing d c b old (record s { offered = put s.offered i None })
    taken i =
        record {
          wide = h.wide;
          offered = λ j bits input e.
              elim (cases_eq j i) [
                | inl same ↦ absurd (let none = put_at s.offered i j None same in cc)
                | inr other ↦ h.offered j bits input (sym (put_other s.offered i j None other) ∙ e)
              ];
          ports = h.ports;
          pending = h.pending;
          shut = h.shut;
          waits = h.waits;
          activated = h.activated;
          delayed = h.delayed;
          kept = h.kept;
        }

    close_input : (i : ℕ) → IsTrue (is_input d i) → (o : Option (List Bit)) → s.offered i ≡ o → IsClosing d c b old (after_input d s i o)
    close_input i input None is = h
    close_input i input (Some bits) is =
        let (at, new) = h.offered i bits input is in
        let same : turned c b ≡ record { signal = i; at = 0; bits = bits } = ap (λ j. turned j b) (sym at) ∙ ap (λ (l : List Bit). record { signal = i; at = 0; bits = l }) (sym new) in
        subst (λ w. IsClosing d c b old (write d (record s { offered = put s.offered i None }) w)) same
        (close_write (record s { offered = put s.offered i None }) (taken i) c Itself)

    -- ---- who waits now

    slept_ports : (p q : ℕ) (target : List Piece) (e : Tree) → doing_at d q ≡ Some (Assign target e) → put s.woken p false q ≡ true → IsTurnedPort d c b s.value target e
    slept_ports p q target e at awake =
        elim (cases_eq q p) [
          | inl same ↦ absurd (false≢true (sym (put_at s.woken p q false same) ∙ awake))
          | inr other ↦ h.ports q target e at (sym (put_other s.woken p q false other) ∙ awake)
        ]

    slept_shut : (p q : ℕ) (list : Option (List Watched)) (body : Actions) → doing_at d q ≡ Some (Comb list body) → put s.woken p false q ≡ true → IsShut d c b s.value body
    slept_shut p q list body at awake =
        elim (cases_eq q p) [
          | inl same ↦ absurd (false≢true (sym (put_at s.woken p q false same) ∙ awake))
          | inr other ↦ h.shut q list body at (sym (put_other s.woken p q false other) ∙ awake)
        ]

    slept_waits : (p q : ℕ) (events : List Watched) (body : Actions) → doing_at d q ≡ Some (Edge' events body) → put s.woken p false q ≡ false
    slept_waits p q events body at =
        elim (cases_eq q p) [
          | inl same ↦ put_at s.woken p q false same
          | inr other ↦ put_other s.woken p q false other ∙ h.waits q events body at
        ]

    slept : (p : ℕ) → IsClosing d c b old (record s { woken = put s.woken p false })
    slept p =
        record {
          wide = h.wide;
          offered = h.offered;
          ports = slept_ports p;
          pending = h.pending;
          shut = slept_shut p;
          waits = slept_waits p;
          activated = h.activated;
          delayed = h.delayed;
          kept = h.kept;
        }

    -- ---- ports

    module _ (p : ℕ) (target : List Piece) (e : Tree) (is : doing_at d p ≡ Some (Assign target e)) where
      close_evaluate : s.woken p ≡ true → IsClosing d c b old (after_evaluate s p (Some (Assign target e)))
      close_evaluate woken =
          record {
            wide = h.wide;
            offered = h.offered;
            ports = slept_ports p;
            pending = pending;
            shut = slept_shut p;
            waits = slept_waits p;
            activated = h.activated;
            delayed = h.delayed;
            kept = h.kept;
          }
        where
          port : IsTurnedPort d c b s.value target e
          port = h.ports p target e is woken

          new : value s.value e ≡ b ∷ []
          new =
              ap (value s.value) port.is_reached.link.copy
              ∙ ap (λ l. extended 1 port.is_reached.link.signed l) port.turned

          pending :
              (q : ℕ) (target' : List Piece) (e' : Tree) → doing_at d q ≡ Some (Assign target' e') →
              (bits : List Bit) → put s.pending p (Some (value s.value e)) q ≡ Some bits → IsReachedPort d c target' e' × (bits ≡ b ∷ [])
          pending q target' e' at bits due =
              elim (cases_eq q p) [
                | inl same ↦
                    let there : Some (value s.value e) ≡ Some bits = sym (put_at s.pending p q (Some (value s.value e)) same) ∙ due in
                    let bits' : value s.value e ≡ bits = cc (there) in
                    ((h.ports q target' e' at (ap s.woken same ∙ woken)).is_reached, sym bits' ∙ new)
                | inr other ↦
                    h.pending q target' e' at bits (sym (put_other s.pending p q (Some (value s.value e)) other) ∙ due)
              ]

      -- the driver has what was pending
      drives : (bits : List Bit) → IsClosing d c b old (record s { driver = put s.driver p bits; pending = put s.pending p None })
      drives bits =
          record {
            wide = h.wide;
            offered = h.offered;
            ports = h.ports;
            pending = λ q target' e' at bits' due.
                elim (cases_eq q p) [
                  | inl same ↦ absurd (let none = put_at s.pending p q None same in cc)
                  | inr other ↦ h.pending q target' e' at bits' (sym (put_other s.pending p q None other) ∙ due)
                ];
            shut = h.shut;
            waits = h.waits;
            activated = h.activated;
            delayed = h.delayed;
            kept = h.kept;
          }

      -- the port takes it
      close_drive : (o : Option (List Bit)) → s.pending p ≡ o → IsClosing d c b old (drive d s p target o)
      close_drive None due = h
      close_drive (Some bits) due =
          let (port, new) = h.pending p target e is bits due in
          let base = record s { driver = put s.driver p (b ∷ []); pending = put s.pending p None } in
          let shown = resolves d sync (put s.driver p (b ∷ [])) p target e port.from port.port b is port.link (put_at s.driver p p (b ∷ []) refl) in
          let one = close_write base (drives (b ∷ [])) port.port (Through port.from port.port port.reached port.passed) in
          let bits' : turned port.port b ≡ record { signal = port.port; at = 0; bits = selected 0 (widths d port.port) (resolved d (put s.driver p (b ∷ [])) port.port) } = ap (λ (l : List Bit). record { signal = port.port; at = 0; bits = l }) (sym shown) in
          let whole : IsClosing d c b old (drive d s p (whole_of port.port port.link.target_spot) (Some (b ∷ []))) = subst (λ w. IsClosing d c b old (write d base w)) bits' one in
          subst (λ t. IsClosing d c b old (drive d s p t (Some bits))) (sym port.link.whole)
          (subst (λ l. IsClosing d c b old (drive d s p (whole_of port.port port.link.target_spot) (Some l))) (sym new) whole)

    -- ---- each event

    at_evaluate : (p : ℕ) (o : Option Doing) → doing_at d p ≡ o → s.woken p ≡ true → IsClosing d c b old (after_evaluate s p o)
    at_evaluate p None is woken = h
    at_evaluate p (Some (Assign target e)) is woken = close_evaluate p target e is woken
    at_evaluate p (Some (Comb list body)) is woken = h
    at_evaluate p (Some (Edge' events body)) is woken = h

    at_update : (p : ℕ) (o : Option Doing) → doing_at d p ≡ o → IsClosing d c b old (after_update d s p o)
    at_update p None is = h
    at_update p (Some (Assign target e)) is = close_drive p target e is (s.pending p) refl
    at_update p (Some (Comb list body)) is = h
    at_update p (Some (Edge' events body)) is = h

    -- a body that is woken makes nothing
    at_run : (p : ℕ) (o : Option Doing) → doing_at d p ≡ o → is_body o ≡ true → s.woken p ≡ true → IsClosing d c b old (after_run d s p o)
    at_run p None is runs woken = absurd (false≢true runs)
    at_run p (Some (Assign target e)) is runs woken = absurd (false≢true runs)
    at_run p (Some (Edge' events body)) is runs woken = absurd (false≢true (sym (h.waits p events body is) ∙ woken))
    at_run p (Some (Comb list body)) is runs woken =
        let it = h.shut p list body is woken in
        subst (λ (ms : List Made). IsClosing d c b old (wait (perform_all d s ms) p))
        (sym (it.shuts s.value h.wide it.closed)) (slept p)

    closing_after : (event : Event) → IsThere d s event → IsClosing d c b old (after d s event)
    closing_after (Input i) there = close_input i there.0 (s.offered i) refl
    closing_after (Evaluate p) there = at_evaluate p (doing_at d p) refl there.1
    closing_after (Update p) there = at_update p (doing_at d p) refl
    closing_after (Run p) there = at_run p (doing_at d p) refl there.0 there.1
    closing_after Delayed there = absurd (there h.activated)
    closing_after Activate there = absurd (there.1 h.delayed)

  closing_run : (s : State) (events : List Event) → CanRun d s events → IsClosing d c b old s → IsClosing d c b old (run d s events)
  closing_run s [] can h = h
  closing_run s (event ∷ events) can h = closing_run (after d s event) events can.1 (closing_after s h event can.0)

module _ (d : Flat) (sync : IsSynchronous d) (c : ℕ) (b : Bit) (shutter : IsShutter d c b) (s : State) (rest : IsAtRest d s) (wide : HaveWidths d s.value) where
  begins : IsClosing d c b s.value (set_to s c b)
  begins =
      record {
        wide = wide;
        offered = λ i bits input e.
            elim (cases_eq i c) [
              | inl same ↦
                  let there : Some (b ∷ []) ≡ Some bits = sym (put_at s.offered c i (Some (b ∷ [])) same) ∙ e in
                  (same, sym (let bits' : b ∷ [] ≡ bits = cc (there) in bits'))
              | inr other ↦
                  absurd (let some = sym (put_other s.offered c i (Some (b ∷ [])) other) ∙ e in let none = rest.no_active.inputs i input in cc)
            ];
        ports = λ p target e is woken. absurd (false≢true (sym (rest.no_active.processes p (ap is_some is)) ∙ woken));
        pending = λ p target e is bits due. absurd (let none = rest.no_active.drivers p (ap is_assignment is) in cc);
        shut = λ p list body is woken. absurd (false≢true (sym (rest.no_active.processes p (ap is_some is)) ∙ woken));
        waits = λ p events body is. rest.no_active.processes p (ap is_some is);
        activated = rest.no_active.updates;
        delayed = rest.no_delayed;
        kept = λ i k apart. refl;
      }

  pub closes : (events : List Event) → CanRun d (set_to s c b) events → IsClosing d c b s.value (run d (set_to s c b) events)
  closes events can = closing_run d sync c b shutter s.value (set_to s c b) events can begins
