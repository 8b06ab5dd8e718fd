-- Each event but the activation keeps the turn.
use Rattle.std.proofs.Common.{◌≡◌, ◌≢◌, ◌∙◌, ◌==◌, ◌&&◌, ◌||◌, ℕ, Bool, true, false, List, [], ◌∷◌, Option, None, Some, refl, sym, ap, subst, inl, inr}
use Rattle.std.specs.Prelude.{IsTrue}
use Rattle.std.proofs.lemmas.Bool.{and_left, cases_eq, eq-eqb, false≢true, ne_eqb, or_left, or_right}
use Rattle.rtl_bits.specs.declared.Bit.{Bit}
use Rattle.rtl_bits.specs.Bits.{extended, selected}
use Rattle.rtl_flat.specs.Expression.{Tree}
use Rattle.rtl_flat.specs.Process.{Piece, Watched, Actions, Doing, Assign, Comb, Edge'}
use Rattle.rtl_flat.specs.Value.{value}
use Rattle.rtl_flat.specs.WellFormed.{IsBody}
use Rattle.event_model.specs.Bodies.{Made, Now, Later, body_made}
use Rattle.event_model.specs.Queue.{State, Event, Input, Evaluate, Update, Run, Delayed, Activate, IsThere, after, after_evaluate, after_input, after_run, after_update, doing_at, drive, is_body, is_input, perform_all, resolved, write}
use Rattle.rtl_flat.specs.Flats.{Flat, widths}
use Rattle.event_model.specs.Writes.{Values, put}
use Rattle.event_runs.proofs.event_laws_proofs.Lengths.{put_at, put_other}
use Rattle.event_runs.proofs.event_laws_proofs.Made.{body_within}
use Rattle.net_model.specs.Control.{Itself, Through, whole_of}
use Rattle.event_runs.proofs.event_laws_proofs.Laws.{may_now}
use Rattle.event_runs.specs.Plain.{ran_by}
use Rattle.event_edges.specs.Synchronous.{IsSynchronous}
use Rattle.event_edges.specs.Turned.{IsReachedPort, IsTurn, IsTurnedPort, IsTurning, fires}
use Rattle.event_edges.proofs.Hearing.{or_none}
use Rattle.event_edges.proofs.Turning.{turn_write, turned}
use Rattle.event_edges.proofs.Temporaries.{own_all}

-- a body's writes leave who is woken so
perform_woken : (d : Flat) (s : State) (ms : List Made) (q : ℕ) → s.woken q ≡ true → (perform_all d s ms).woken q ≡ true
perform_woken d s [] q h = h
perform_woken d s (Now w ∷ ms) q h = perform_woken d (write d s w) ms q (or_left (s.woken q) _ h)
perform_woken d s (Later us ∷ ms) q h = perform_woken d _ ms q h

module _ (d : Flat) (sync : IsSynchronous d) (c : ℕ) (a b : Bit) (old : Values) (turn : IsTurn d c a b old) where
  same_ran : (ran ran' : ℕ → Bool) (s : State) → ((q : ℕ) → ran' q ≡ ran q) → IsTurning d c a b old ran s → IsTurning d c a b old ran' s
  same_ran ran ran' s same h =
      record {
        wide = h.wide;
        offered = h.offered;
        behind = h.behind;
        ports = h.ports;
        pending = h.pending;
        waits = h.waits;
        fired = λ p events body is. h.fired p events body is ∙ ap (λ x. s.woken p || x) (sym (same p));
        once = λ p events body is. ap (λ x. s.woken p && x) (same p) ∙ h.once p events body is;
        activated = h.activated;
        kept = h.kept;
      }

  module _ (ran : ℕ → Bool) (s : State) (h : IsTurning d c a b old ran s) where
    -- ---- the input

    taken : (i : ℕ) → IsTurning d c a b old ran (record s { offered = put s.offered i None })
    taken i =
        record {
          wide = h.wide;
          offered = λ j bits input e.
              elim (cases_eq j i) [
                | inl same ↦ absurd (let none = put_at s.offered i j None same in cc)
                | inr other ↦ h.offered j bits input (sym (put_other s.offered i j None other) ∙ e)
              ];
          behind = h.behind;
          ports = h.ports;
          pending = h.pending;
          waits = h.waits;
          fired = h.fired;
          once = h.once;
          activated = h.activated;
          kept = h.kept;
        }

    turn_input : (i : ℕ) → IsTrue (is_input d i) → (o : Option (List Bit)) → s.offered i ≡ o → IsTurning d c a b old ran (after_input d s i o)
    turn_input i input None is = h
    turn_input i input (Some bits) is =
        let (at, new) = h.offered i bits input is in
        let same : turned c b ≡ record { signal = i; at = 0; bits = bits } = ap (λ j. turned j b) (sym at) ∙ ap (λ (l : List Bit). record { signal = i; at = 0; bits = l }) (sym new) in
        subst (λ w. IsTurning d c a b old ran (write d (record s { offered = put s.offered i None }) w)) same
        (turn_write d sync c a b old turn ran (record s { offered = put s.offered i None }) (taken i) c Itself)

    -- ---- ports

    module _ (p : ℕ) (target : List Piece) (e : Tree) (is : doing_at d p ≡ Some (Assign target e)) where
      other_block : (q : ℕ) (events : List Watched) (body : Actions) → doing_at d q ≡ Some (Edge' events body) → q ≡ p → ⊥
      other_block q events body at same =
          let kinds : Some (Edge' events body) ≡ Some (Assign target e) = sym at ∙ ap (doing_at d) same ∙ is in cc

      turn_evaluate : s.woken p ≡ true → IsTurning d c a b old ran (after_evaluate s p (Some (Assign target e)))
      turn_evaluate woken =
          record {
            wide = h.wide;
            offered = h.offered;
            behind = h.behind;
            ports = λ q target' e' at awake.
                elim (cases_eq q p) [
                  | inl same ↦ absurd (false≢true (sym (put_at s.woken p q false same) ∙ awake))
                  | inr other ↦ h.ports q target' e' at (sym (put_other s.woken p q false other) ∙ awake)
                ];
            pending = pending;
            waits = λ q list body at.
                elim (cases_eq q p) [
                  | inl same ↦ put_at s.woken p q false same
                  | inr other ↦ put_other s.woken p q false other ∙ h.waits q list body at
                ];
            fired = λ q events body at.
                h.fired q events body at ∙ ap (λ x. x || ran q) (sym (put_other s.woken p q false (other_block q events body at)));
            once = λ q events body at.
                ap (λ x. x && ran q) (put_other s.woken p q false (other_block q events body at)) ∙ h.once q events body at;
            activated = h.activated;
            kept = h.kept;
          }
        where
          port : IsTurnedPort d c b s.value target e
          port = h.ports p target e is woken

          new : value s.value e ≡ b ∷ []
          new =
              ap (value s.value) port.is_reached.link.copy
              ∙ ap (λ l. extended 1 port.is_reached.link.signed l) port.turned

          pending :
              (q : ℕ) (target' : List Piece) (e' : Tree) → doing_at d q ≡ Some (Assign target' e') →
              (bits : List Bit) → put s.pending p (Some (value s.value e)) q ≡ Some bits → IsReachedPort d c target' e' × (bits ≡ b ∷ [])
          pending q target' e' at bits due =
              elim (cases_eq q p) [
                | inl same ↦
                    let there : Some (value s.value e) ≡ Some bits = sym (put_at s.pending p q (Some (value s.value e)) same) ∙ due in
                    let bits' : value s.value e ≡ bits = cc (there) in
                    ((h.ports q target' e' at (ap s.woken same ∙ woken)).is_reached, sym bits' ∙ new)
                | inr other ↦
                    h.pending q target' e' at bits (sym (put_other s.pending p q (Some (value s.value e)) other) ∙ due)
              ]

      -- the driver has what was pending
      drives : (bits : List Bit) → IsTurning d c a b old ran (record s { driver = put s.driver p bits; pending = put s.pending p None })
      drives bits =
          record {
            wide = h.wide;
            offered = h.offered;
            behind = h.behind;
            ports = h.ports;
            pending = λ q target' e' at bits' due.
                elim (cases_eq q p) [
                  | inl same ↦ absurd (let none = put_at s.pending p q None same in cc)
                  | inr other ↦ h.pending q target' e' at bits' (sym (put_other s.pending p q None other) ∙ due)
                ];
            waits = h.waits;
            fired = h.fired;
            once = h.once;
            activated = h.activated;
            kept = h.kept;
          }

      -- the port takes it, where its driver's bit is what all drivers give
      turn_drive :
          (o : Option (List Bit)) → s.pending p ≡ o →
          ((port : IsReachedPort d c target e) → selected 0 (widths d port.port) (resolved d (put s.driver p (b ∷ [])) port.port) ≡ b ∷ []) →
          IsTurning d c a b old ran (drive d s p target o)
      turn_drive None due resolves = h
      turn_drive (Some bits) due resolves =
          let (port, new) = h.pending p target e is bits due in
          let base = record s { driver = put s.driver p (b ∷ []); pending = put s.pending p None } in
          let one = turn_write d sync c a b old turn ran base (drives (b ∷ [])) port.port (Through port.from port.port port.reached port.passed) in
          let bits' : turned port.port b ≡ record { signal = port.port; at = 0; bits = selected 0 (widths d port.port) (resolved d (put s.driver p (b ∷ [])) port.port) } = ap (λ (l : List Bit). record { signal = port.port; at = 0; bits = l }) (sym (resolves port)) in
          let whole : IsTurning d c a b old ran (drive d s p (whole_of port.port port.link.target_spot) (Some (b ∷ []))) = subst (λ w. IsTurning d c a b old ran (write d base w)) bits' one in
          subst (λ t. IsTurning d c a b old ran (drive d s p t (Some bits))) (sym port.link.whole)
          (subst (λ l. IsTurning d c a b old ran (drive d s p (whole_of port.port port.link.target_spot) (Some l))) (sym new) whole)

    -- ---- blocks

    turn_run :
        (p : ℕ) (events : List Watched) (body : Actions) → doing_at d p ≡ Some (Edge' events body) → s.woken p ≡ true →
        IsTurning d c a b old (ran_by ran (Run p)) (after_run d s p (Some (Edge' events body)))
    turn_run p events body is woken =
        record {
          wide = h1.wide;
          offered = h1.offered;
          behind = h1.behind;
          ports = λ q target e at awake.
              elim (cases_eq q p) [
                | inl same ↦ absurd (false≢true (sym (put_at s1.woken p q false same) ∙ awake))
                | inr other ↦ h1.ports q target e at (sym (put_other s1.woken p q false other) ∙ awake)
              ];
          pending = h1.pending;
          waits = λ q list body' at.
              elim (cases_eq q p) [
                | inl same ↦ put_at s1.woken p q false same
                | inr other ↦ put_other s1.woken p q false other ∙ h1.waits q list body' at
              ];
          fired = fired;
          once = λ q events' body' at.
              elim (cases_eq q p) [
                | inl same ↦ and_left (put s1.woken p false q) _ (put_at s1.woken p q false same)
                | inr other ↦
                    ap (λ x. x && (ran q || (q == p))) (put_other s1.woken p q false other)
                    ∙ ap (λ x. s1.woken q && x) (ap (λ x. ran q || x) (ne_eqb q p other) ∙ or_none (ran q))
                    ∙ h1.once q events' body' at
              ];
          activated = h1.activated;
          kept = h1.kept;
        }
      where
        lawful : IsBody d.signals body
        lawful = (sync.lawful p (Edge' events body) is).2

        s1 : State
        s1 = perform_all d s (body_made (widths d) s.value body)

        h1 : IsTurning d c a b old ran (perform_all d s (body_made (widths d) s.value body))
        h1 =
            own_all d sync c a b old turn ran p events body is s (body_made (widths d) s.value body) (body_within d.signals s.value body lawful)
            (λ i k now. sync.blocking p events body is i k (may_now d s.value body i k lawful now)) h

        fired :
            (q : ℕ) (events' : List Watched) (body' : Actions) → doing_at d q ≡ Some (Edge' events' body') →
            fires old (perform_all d s (body_made (widths d) s.value body)).value events' ≡ (put (perform_all d s (body_made (widths d) s.value body)).woken p false q || (ran q || (q == p)))
        fired q events' body' at =
            elim (cases_eq q p) [
              | inl same ↦
                  h1.fired q events' body' at ∙ ap (λ x. x || ran q) (perform_woken d s (body_made (widths d) s.value body) q (ap s.woken same ∙ woken))
                  ∙ sym (or_right (put s1.woken p false q) _ (or_right (ran q) (q == p) (eq-eqb q p same)))
              | inr other ↦
                  h1.fired q events' body' at
                  ∙ ap (λ x. x || ran q) (sym (put_other s1.woken p q false other))
                  ∙ ap (λ x. put s1.woken p false q || x) (sym (ap (λ x. ran q || x) (ne_eqb q p other) ∙ or_none (ran q)))
            ]

    -- ---- each event

    at_evaluate : (p : ℕ) (o : Option Doing) → doing_at d p ≡ o → s.woken p ≡ true → IsTurning d c a b old ran (after_evaluate s p o)
    at_evaluate p None is woken = h
    at_evaluate p (Some (Assign target e)) is woken = turn_evaluate p target e is woken
    at_evaluate p (Some (Comb list body)) is woken = h
    at_evaluate p (Some (Edge' events body)) is woken = h

    -- each port that turns shows its driver's bit
    abbrev pub Resolves : ℕ → Type 0
    Resolves p =
        (target : List Piece) (e : Tree) → doing_at d p ≡ Some (Assign target e) → (port : IsReachedPort d c target e) →
        selected 0 (widths d port.port) (resolved d (put s.driver p (b ∷ [])) port.port) ≡ b ∷ []

    at_update : (p : ℕ) → Resolves p → (o : Option Doing) → doing_at d p ≡ o → IsTurning d c a b old ran (after_update d s p o)
    at_update p resolves None is = h
    at_update p resolves (Some (Assign target e)) is = turn_drive p target e is (s.pending p) refl (resolves target e is)
    at_update p resolves (Some (Comb list body)) is = h
    at_update p resolves (Some (Edge' events body)) is = h

    at_run :
        (p : ℕ) (o : Option Doing) → doing_at d p ≡ o → is_body o ≡ true → s.woken p ≡ true →
        IsTurning d c a b old (ran_by ran (Run p)) (after_run d s p o)
    at_run p None is runs woken = absurd (false≢true runs)
    at_run p (Some (Assign target e)) is runs woken = absurd (false≢true runs)
    at_run p (Some (Comb list body)) is runs woken = absurd (false≢true (sym (h.waits p list body is) ∙ woken))
    at_run p (Some (Edge' events body)) is runs woken = turn_run p events body is woken

    pub turning_after :
        (event : Event) → IsThere d s event → event ≢ Activate → ((p : ℕ) → Resolves p) →
        IsTurning d c a b old (ran_by ran event) (after d s event)
    turning_after (Input i) there active resolves =
        same_ran ran (ran_by ran (Input i)) (after d s (Input i)) (λ q. or_none (ran q)) (turn_input i there.0 (s.offered i) refl)
    turning_after (Evaluate p) there active resolves =
        same_ran ran (ran_by ran (Evaluate p)) (after d s (Evaluate p)) (λ q. or_none (ran q)) (at_evaluate p (doing_at d p) refl there.1)
    turning_after (Update p) there active resolves =
        same_ran ran (ran_by ran (Update p)) (after d s (Update p)) (λ q. or_none (ran q)) (at_update p (resolves p) (doing_at d p) refl)
    turning_after (Run p) there active resolves = at_run p (doing_at d p) refl there.0 there.1
    turning_after Delayed there active resolves = absurd (there h.activated)
    turning_after Activate there active resolves = absurd (active refl)
