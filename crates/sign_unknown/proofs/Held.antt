-- Latches that are closed after a step hold what they had before it, known or not.
use Rattle.std.proofs.Common.{◌≡◌, ◌∙◌, ◌<◌, ◌==◌, ℕ, Bool, false, List, [], ◌∷◌, get_or, refl, sym, ap, subst, inl, inr, arith}
use Rattle.std.proofs.lemmas.Bool.{and_from, and_parts, cases_eq, eq-eqb, eqb-true, le-leb, lt-ltb}
use Rattle.std.proofs.lemmas.List.Elements.{All-cons, All-nil}
use Rattle.rtl_bits.specs.declared.Bit.{Bit}
use Rattle.rtl_bits.specs.declared.Bit.TheVariants.{X}
use Rattle.rtl_bits.specs.Bits.{same_bit}
use Rattle.text_ground.specs.declared.text.Spot.{Spot}
use Rattle.rtl_flat.specs.Expression.{Sized}
use Rattle.rtl_flat.specs.Expression as tree
use Rattle.rtl_flat.specs.Process.{Actions, Comb}
use Rattle.event_model.specs.Queue.{State, Event, CanRun, Reaches, offer, run}
use Rattle.rtl_flat.specs.Flats.{Flat, widths}
use Rattle.event_model.specs.Traces.{Same}
use Rattle.event_model.specs.Writes.{Values}
use Rattle.net_model.specs.declared.fill.Fill.{Fill}
use Rattle.net_model.specs.Control.{IsReached, ReadsAlone}
use Rattle.net_model.specs.Control as control
use Rattle.net_model.specs.Cycle.{Chain, Setting}
use Rattle.net_model.specs.Gates.{Gate, GoesTo, IsLatchBit, Itself, Through, is_open}
use Rattle.net_model.specs.Lawful.{IsSetting}
use Rattle.net_model.specs.Numbers.{bit}
use Rattle.sign_cycles.proofs.event_edges_proofs.Cone.{reached_apart}
use Rattle.sign_cycles.proofs.event_edges_proofs.Ports.{one_bit}
use Rattle.sign_cycles.specs.event_edges.Turned.{set_to}
use Rattle.sign_cycles.specs.event_gates.Fixed.{IsFixed, IsShutBit, SetsOthers}
use Rattle.sign_cycles.specs.event_gates.Gates.{AreFed}
use Rattle.event_gates.proofs.Laws.{closes, rest_fixed, runs_fix}
use Rattle.sign_cycles.specs.net_rest.event_runs.Nets.{AreWide, given_with}
use Rattle.sign_cycles.specs.net_rest.event_runs.Writers.{IsOrderly}
use Rattle.sign_cycles.specs.net_rest.Rest.{IsGated, IsHeldBit}
use Rattle.sign_cycles.proofs.net_rest_proofs.event_laws_proofs.Laws.{writes_variables}
use Rattle.sign_cycles.proofs.net_rest_proofs.event_laws_proofs.Lengths.{put_at}
use Rattle.sign_cycles.proofs.net_rest_proofs.event_runs_proofs.Inputs.{offer_is, orderly_offer}
use Rattle.sign_cycles.proofs.net_rest_proofs.Latches.{closed_makes}
use Rattle.sign_cycles.proofs.net_rest_proofs.Rest.{gate_has, latch_may}
use Rattle.sign_cycles.specs.Agree.{IsNext}
use Rattle.sign_cycles.specs.Formed.{IsCleanClocked}
use Rattle.sign_cycles.proofs.DataSteps.{pairs}
use Rattle.sign_cycles.proofs.Held.{Leave, given_left, leaves_pairs, still_closed}
use Rattle.sign_unknown.proofs.Kept.{IsKept, kept_idle, kept_way}

-- a plain name is read alone
reads_alone : (ws : ℕ → ℕ) (signed : Bool) (spot : Spot) (i : ℕ) → ws i ≡ 1 → ReadsAlone ws (Sized 1 signed spot (tree.Whole i)) i
reads_alone ws signed spot i one =
    let inside : 0 < ws i = omega (arith, one) in
    record {
      bit = 0;
      read = and_from _ _ (eq-eqb i i refl) (and_from _ _ (le-leb 0 0 (omega arith)) (and_from _ _ (lt-ltb 0 (ws i) inside) (lt-ltb 0 (ws i) inside)));
      alone = λ j k h. eqb-true j i (and_parts (j == i) _ h).0;
    }

-- what comes from an input by plain ports is reached from it
gate_reached : (d : Flat) (top s : ℕ) → GoesTo d top s → IsReached d top s
gate_reached d top s Itself = control.Itself
gate_reached d top s (Through i j p task goes there plain) =
    control.Through i j (gate_reached d top i goes)
    (record {
      process = p;
      value = Sized 1 plain.signed plain.spot (tree.Whole i);
      connection = record { task = task; spot = plain.at; there = there; does = plain.does; outside = plain.outside };
      alone = reads_alone (widths d) plain.signed plain.spot i plain.one_bit;
      one_bit = plain.one_bit;
      port_bit = plain.port_bit;
    })

module _ (d : Flat) (chains : ℕ → Chain) (level : ℕ → ℕ) (clean : IsCleanClocked d chains level) (f : Fill) (Doubt : ℕ → Type 0) (s : State) (n : Values) (kept : IsKept d chains f Doubt s n) where
  order : IsOrderly d s
  order = (kept_way d level clean.solvable chains f Doubt s n kept).orderly

  -- ---- one latch

  module _ (i k : ℕ) (latch : IsLatchBit d i k) where
    abbrev gate : Gate
    gate = latch.gate

    abbrev body : Actions
    body = latch.admitted.latch.body

    gated : IsGated d body gate
    gated =
        clean.solvable.gated latch.process latch.admitted.latch.list body latch.admitted.latch.does gate latch.admitted

    fed : AreFed d gate.input
    fed = (clean.gates latch.process gate latch.admitted).fed

    -- a variable isn't reached from an input
    unreached : IsReached d gate.input i → ⊥
    unreached reached =
        reached_apart d clean.synchronous gate.input gated.input i reached
        (writes_variables d body i k (clean.solvable.lawful latch.process (Comb latch.admitted.latch.list body) latch.admitted.latch.does).1 (latch_may d level clean.solvable i k latch))

    -- the gate has its input's bit
    gate_now : bit s.value gate.signal 0 ≡ bit n gate.input 0
    gate_now =
        gate_has d level clean.solvable s.value s.value (kept_idle d level clean.solvable chains f Doubt s n kept) body gate gated
        ∙ ap (λ bits. get_or bits 0 X) (kept.inputs gate.input gated.input)

    shut_bit : same_bit (bit s.value gate.signal 0) gate.opens ≡ false → IsShutBit d gate.input s.value i k
    shut_bit closed =
        let may = latch_may d level clean.solvable i k latch in
        let plain = (clean.solvable.computing latch.process latch.admitted.latch.list body latch.admitted.latch.does).plain in
        record {
          process = latch.process;
          list = latch.admitted.latch.list;
          body = body;
          does = latch.admitted.latch.does;
          gate = gate.signal;
          reached = gate_reached d gate.input gate.signal latch.admitted.latch.comes.goes;
          level = bit s.value gate.signal 0;
          closed = one_bit (s.value gate.signal) (bit s.value gate.signal 0) (kept.wide gate.signal ∙ gated.one_bit) refl;
          shuts = λ u have same.
              closed_makes d body gate gated u have (ap (λ (bits : List Bit). same_bit (get_or bits 0 X) gate.opens) same ∙ closed);
          may = may;
          sole = plain.alone i k may;
          no_late = plain.no_late i k;
        }

    -- where its input isn't set
    held_run :
        is_open n gate ≡ false → (step : List (ℕ × List Bit)) → SetsOthers d gate.input step →
        (events : List Event) → CanRun d (offer s step) events → Same (run d (offer s step) events).value s.value i k
    held_run closed step others events can =
        (runs_fix d clean.solvable.lawful gate.input fed (offer s step) (orderly_offer d s step others.0 order) fixed events can).latches i k shut
        ∙ ap (λ (x : State). bit x.value i k) (offer_is s step)
      where
        fixed : IsFixed d gate.input (offer s step)
        fixed = rest_fixed d clean.solvable.lawful gate.input s kept.rest step others

        shut : IsShutBit d gate.input (offer s step).value i k
        shut =
            subst (λ (x : State). IsShutBit d gate.input x.value i k) (sym (offer_is s step))
            (shut_bit (ap (λ b. same_bit b gate.opens) gate_now ∙ closed))

    -- where it alone is set, so that the latch closes
    held_closing :
        (b : Bit) → same_bit b gate.opens ≡ false → (events : List Event) → CanRun d (set_to s gate.input b) events →
        Same (run d (set_to s gate.input b) events).value s.value i k
    held_closing b closed events can =
        (closes d clean.synchronous gate.input b ((clean.gates latch.process gate latch.admitted).shutter b closed) s kept.rest kept.wide events can).kept
        i k unreached

  -- ---- after a step

  -- gates that aren't set
  pub held_unset :
      (all : List Setting) → AreWide d (pairs all) → (i k : ℕ) (is : IsHeldBit d (given_with n (pairs all)) i k) → Leave is.latch.gate.input all →
      (t : State) → IsNext d s all t → Same t.value s.value i k
  held_unset all wide i k is left t next =
      let closed : is_open n is.latch.gate ≡ false = still_closed d (given_with n (pairs all)) n i k is (given_left n is.latch.gate.input all left) in
      ap (λ (x : State). bit x.value i k) (sym next.reaches.leads)
      ∙ held_run i k is.latch closed (pairs all) (wide, leaves_pairs is.latch.gate.input all left) next.reaches.events next.reaches.can

  -- a step of one input
  pub held_turn :
      (setting : Setting) → IsSetting d setting → (i k : ℕ) → IsHeldBit d (given_with n (pairs (setting ∷ []))) i k →
      (t : State) → IsNext d s (setting ∷ []) t → Same t.value s.value i k
  held_turn setting can_be i k is t next =
      elim (cases_eq setting.input is.latch.gate.input) [
        | inl same ↦ by_closing same
        | inr other ↦
            held_unset (setting ∷ []) (can_be.wide, tt) i k is
            (All-cons (λ (one : Setting). one.input ≡ is.latch.gate.input → ⊥) setting [] other (All-nil (λ (one : Setting). one.input ≡ is.latch.gate.input → ⊥))) t next
      ]
    where
      closed : setting.input ≡ is.latch.gate.input → same_bit (get_or setting.number 0 X) is.latch.gate.opens ≡ false
      closed same =
          ap (λ (bits : List Bit). same_bit (get_or bits 0 X) is.latch.gate.opens) (sym (put_at n setting.input is.latch.gate.input setting.number (sym same)))
          ∙ is.closed

      number_is : setting.input ≡ is.latch.gate.input → setting.number ≡ get_or setting.number 0 X ∷ []
      number_is same =
          one_bit setting.number (get_or setting.number 0 X)
          (can_be.wide ∙ ap (widths d) same
          ∙ ((clean.gates is.latch.process is.latch.gate is.latch.admitted).shutter (get_or setting.number 0 X) (closed same)).one_bit is.latch.gate.input control.Itself) refl

      reaches : setting.input ≡ is.latch.gate.input → Reaches d (set_to s is.latch.gate.input (get_or setting.number 0 X)) t
      reaches same =
          subst (λ (one : ℕ × List Bit). Reaches d (offer s (one ∷ [])) t)
          (ap (λ (j : ℕ). (j, setting.number)) same ∙ ap (λ (bits : List Bit). (is.latch.gate.input, bits)) (number_is same)) next.reaches

      by_closing : setting.input ≡ is.latch.gate.input → Same t.value s.value i k
      by_closing same =
          let way = reaches same in
          ap (λ (x : State). bit x.value i k) (sym way.leads)
          ∙ held_closing i k is.latch (get_or setting.number 0 X) (closed same) way.events way.can
