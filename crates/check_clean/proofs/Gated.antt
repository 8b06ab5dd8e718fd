-- Latches with gates in a design without findings: open, they do what their branch does, and gates are used as such alone.
use Rattle.std.proofs.Common.{◌≡◌, ◌∙◌, ◌==◌, ℕ, true, false, not, List, Option, Some, refl, sym, ap, subst, inl, inr, arith}
use Rattle.std.specs.Prelude.{IsTrue, slice_index_or}
use Rattle.std.proofs.lemmas.Bool.{and_from, and_parts, eq-eqb, false≢true, or_cases, or_left}
use Rattle.rtl_bits.specs.declared.Bit.{Bit}
use Rattle.rtl_bits.specs.declared.Bit.TheVariants.{X}
use Rattle.rtl_bits.specs.Bits.{same_bit}
use Rattle.rtl_flat.specs.Expression.{Sized}
use Rattle.rtl_flat.specs.Expression as tree
use Rattle.rtl_flat.specs.Flows.{body_flow, flow_of, may_target}
use Rattle.rtl_flat.specs.Paths.{Flow, IsSure, IsSureNow, MayWrite, Read, Step, Write, reads_outside, writes_bit, writes_now}
use Rattle.rtl_flat.specs.Process.{Watched, Set, If, Case, Block, Actions, Done, Then, Without, Doing, Assign, Comb, Edge'}
use Rattle.rtl_flat.specs.WellFormed.{IsBody, has_edge}
use Rattle.rtl_flat.proofs.Paths.{decided}
use Rattle.rtl_flat.specs.Flats.{Flat, widths}
use Rattle.event_model.specs.Queue.{doing_at, doing_of, is_input}
use Rattle.check_laws.specs.event_laws.Steady.{AreLawful}
use Rattle.check_laws.proofs.event_laws_proofs.Within.{writes_variables}
use Rattle.net_model.specs.Control.{Here, InClockCone, IsBehind, IsClockOrReset, IsPassedOn, IsReached, Next, waits_for, whole_of}
use Rattle.net_model.specs.Control as control
use Rattle.net_model.specs.Cycle.{opened}
use Rattle.net_model.specs.Gates.{Gate, GoesTo, InCone, IsAdmitted, IsGateOf, Itself, Through}
use Rattle.net_model.specs.Numbers.{bit}
use Rattle.net_model.proofs.Gates.{clock_cone, from_input}
use Rattle.sign_cycles.specs.event_edges.Synchronous.{MayHear, NoSignal, sensitive}
use Rattle.sign_cycles.specs.event_gates.Gates.{AreFed, IsFeeding, IsShutter, MakesNothing, MayShut}
use Rattle.sign_cycles.specs.Formed.{IsGateAlone}
use Rattle.sign_cycles.specs.net_rest.Rest.{IsGated}
use Rattle.sign_cycles.proofs.event_edges_proofs.Cone.{assign_writes, listed_item, whole_bit}
use Rattle.sign_cycles.proofs.event_edges_proofs.Hearing.{passing}
use Rattle.sign_cycles.proofs.net_rest_proofs.Latches.{closed_makes}
use Rattle.sign_cycles.proofs.net_rest_proofs.event_runs_proofs.Signals.{net_input, target_net, variable_input}
use Rattle.check_all.specs.Rules.{HasNoFinding}
use Rattle.check_all.specs.check_gates.Admitted.{AreGates}
use Rattle.check_laws.specs.Expressions.{AreMarked}
use Rattle.check_laws.proofs.Clocks.{each_place, reached}
use Rattle.check_laws.proofs.Designs.{any_weaker, mixed_edges, process_inside, several_drivers}
use Rattle.check_laws.proofs.Gates.{gate_of_decided}
use Rattle.check_laws.proofs.chain_laws_proofs.Branches.{opened_lawful}
use Rattle.rtl_rule.proofs.Lists.{each_from}
use Rattle.check_clean.proofs.Cone.{heard_port, unlisted}
use Rattle.check_clean.proofs.Tested.{holds, test_reads}

-- ---- what a latch does

-- a body without the blocks around it has the same steps
opened_flow : (ws : ℕ → ℕ) (body : Actions) → body_flow ws (opened body) ≡ body_flow ws body
opened_flow ws Done = refl
opened_flow ws (Then (Set target e delayed spot) others) = refl
opened_flow ws (Then (If test taken other spot) others) = refl
opened_flow ws (Then (Case kind full parallel selector branches fallback spot) others) = refl
opened_flow ws (Then (Block body) Done) = opened_flow ws body
opened_flow ws (Then (Block body) (Then one others)) = refl

-- what is written at once is written
sure_now : (flow : Flow) (i k : ℕ) → IsSureNow flow i k → IsSure flow i k
sure_now flow i k h =
    record { written = λ path is. any_weaker (writes_now i k) (writes_bit i k) of_step path (h.written path is) }
  where
    of_step : (step : Step) → writes_now i k step ≡ true → writes_bit i k step ≡ true
    of_step (Read bits) is = is
    of_step (Write delayed may sure) is = (and_parts (not delayed) (sure i k) is).1

module _ (d : Flat) where
  -- what comes by plain ports comes by links
  behind : (top s : ℕ) → GoesTo d top s → IsBehind d top s
  behind top s Itself = Here
  behind top s (Through i j p task goes there plain) =
      Next i j p (whole_of j plain.at) (Sized 1 plain.signed plain.spot (tree.Whole i)) (behind top i goes) (ap doing_of there ∙ ap Some plain.does) (record {
        signed = plain.signed;
        spot = plain.spot;
        target_spot = plain.at;
        whole = refl;
        copy = refl;
        one_bit = plain.one_bit;
        target_bit = plain.port_bit;
      })

  -- and has one bit from where it starts
  start_wide : (top s : ℕ) → GoesTo d top s → widths d s ≡ 1 → widths d top ≡ 1
  start_wide top s Itself one = one
  start_wide top s (Through i j p task goes there plain) one = start_wide top i goes plain.one_bit

  gate_input : (p : ℕ) (gate : Gate) → IsAdmitted d p gate → IsTrue (is_input d gate.input)
  gate_input p gate admitted = from_input d gate.input gate.signal admitted.latch.comes

  pub gated : AreLawful d → (p : ℕ) (list : Option (List Watched)) (body : Actions) → doing_at d p ≡ Some (Comb list body) → (gate : Gate) → IsAdmitted d p gate → IsGated d body gate
  gated lawful p list body is gate admitted =
      let latch = admitted.latch in
      let both : Some (Comb latch.list latch.body) ≡ Some (Comb list body) = sym latch.does ∙ is in
      let same : latch.body ≡ body = cc (both) in
      let whole : opened body ≡ Then (If latch.test latch.branch Without latch.spot) Done = ap opened (sym same) ∙ latch.whole in
      let own : IsBody d.signals (Then (If latch.test latch.branch Without latch.spot) Done) = subst (IsBody d.signals) whole (opened_lawful d.signals body (lawful p (Comb list body) is).1) in
      record {
        test = latch.test;
        branch = latch.branch;
        spot = latch.spot;
        whole = whole;
        input = gate_input p gate admitted;
        behind = behind gate.input gate.signal latch.comes.goes;
        one_bit = latch.one_bit;
        outside = (decided (body_flow (widths d) body) gate.signal 0).outside.0 (ap (λ flow. reads_outside flow gate.signal 0) (sym (opened_flow (widths d) body) ∙ ap (body_flow (widths d)) whole) ∙ or_left _ _ (test_reads d latch.test (gate.signal, gate.opens) latch.tests latch.one_bit));
        tests = λ v wide. holds d v wide latch.test own.0.0 (gate.signal, gate.opens) latch.tests latch.one_bit;
        sure = λ i k may lasting. sure_now (body_flow (widths d) latch.branch) i k (latch.writes i k (subst (λ b. MayWrite (body_flow (widths d) b) i k) (sym same) may));
      }

-- ---- what is reached from inputs

module _ (d : Flat) (lawful : AreLawful d) (marked : AreMarked d) (none : HasNoFinding d) where
  -- no process may write an input
  no_writer : (p : ℕ) (does : Doing) → doing_at d p ≡ Some does → (i : ℕ) → IsTrue (is_input d i) → (k : ℕ) → MayWrite (flow_of (widths d) does) i k → ⊥
  no_writer p (Assign target e) is i input k may =
      elim (or_cases (may_target (widths d) target i k) false ((decided (flow_of (widths d) (Assign target e)) i k).writes.1 may)) [
        | inl here ↦ net_input d i (target_net d lawful p target e is i k here) input
        | inr other ↦ absurd (false≢true other)
      ]
  no_writer p (Comb list body) is i input k may =
      variable_input d i (writes_variables d.signals body (lawful p (Comb list body) is).1 i k may) input
  no_writer p (Edge' events body) is i input k may =
      variable_input d i (writes_variables d.signals body (lawful p (Edge' events body) is).2 i k may) input

  connection_does : (i j : ℕ) (passed : IsPassedOn d i j) → doing_at d passed.process ≡ Some (Assign (whole_of j passed.connection.spot) passed.value)
  connection_does i j passed = ap doing_of passed.connection.there ∙ ap Some passed.connection.does

  port_written : (i j : ℕ) (passed : IsPassedOn d i j) → MayWrite (flow_of (widths d) (Assign (whole_of j passed.connection.spot) passed.value)) j 0
  port_written i j passed =
      assign_writes (widths d) (whole_of j passed.connection.spot) passed.value j 0 (whole_bit (widths d) j passed.connection.spot passed.port_bit)

  -- who may write what is reached from one reads such signals alone (A4)
  fed : (c : ℕ) → IsTrue (is_input d c) → AreFed d c
  fed c input p does is _ k control.Itself may = absurd (no_writer p does is c input k may)
  fed c input p does is _ k (control.Through i j r passed) may =
      let inside = process_inside d lawful p does is j k may in
      let one = passed.port_bit in
      let first : k ≡ 0 = omega (arith, inside, one) in
      let same : p ≡ passed.process = several_drivers d lawful none.a4 p passed.process does (Assign (whole_of j passed.connection.spot) passed.value) is (connection_does i j passed) j 0 (subst (MayWrite (flow_of (widths d) does) j) first may) (port_written i j passed) in
      let both : Some does ≡ Some (Assign (whole_of j passed.connection.spot) passed.value) = sym is ∙ ap (doing_at d) same ∙ connection_does i j passed in
      let what : does ≡ Assign (whole_of j passed.connection.spot) passed.value = cc (both) in
      subst (IsFeeding d c) (sym what) (λ s b read. subst (IsReached d c) (sym (passed.alone.alone s b read)) r)

  -- an input from itself alone
  from_itself : (c i : ℕ) → IsTrue (is_input d i) → IsReached d c i → i ≡ c
  from_itself c _ input control.Itself = refl
  from_itself c _ input (control.Through i j before passed) =
      absurd (no_writer passed.process (Assign (whole_of j passed.connection.spot) passed.value) (connection_does i j passed) j input 0 (port_written i j passed))

  -- a signal is reached from one input alone
  one_start : (c other i : ℕ) → IsTrue (is_input d c) → IsTrue (is_input d other) → IsReached d c i → IsReached d other i → c ≡ other
  one_start c other _ input input' control.Itself r = from_itself other c input r
  one_start c other _ input input' (control.Through i j before passed) r =
      one_start c other i input input' before
      (fed other input' passed.process (Assign (whole_of j passed.connection.spot) passed.value) (connection_does i j passed) j 0 r (port_written i j passed) i passed.alone.bit passed.alone.read)

  gate_reached : (p s : ℕ) (it : IsGateOf d p s) → IsReached d it.gate.input s
  gate_reached p s it =
      subst (IsReached d it.gate.input) it.same (reached d it.gate.input it.gate.signal it.admitted.latch.comes.goes)

  -- ---- clocks and resets

  -- they are used in events and in connections of ports alone, since none of them is a gate
  pub heard : (p : ℕ) (does : Doing) → doing_at d p ≡ Some does → (i k : ℕ) → InClockCone d i → sensitive (widths d) does i k ≡ true → MayHear NoSignal d does i
  heard p (Assign target e) is i k cone read =
      heard_port d lawful marked none.a8 p target e is i k (clock_cone d i cone) read
  heard p (Comb list body) is i k cone lists =
      unlisted d lawful marked none.a8 p list body is i k (clock_cone d i cone) free lists
    where
      free : IsGateOf d p i → ⊥
      free it =
          let same = one_start cone.clock it.gate.input i cone.is_clock.input (gate_input d p it.gate it.admitted) cone.reached (gate_reached p i it) in
          it.admitted.no_clock (subst (IsClockOrReset d) same cone.is_clock)
  heard p (Edge' events body) is i k cone lists = tt

  -- ---- gates

  module _ (gates : List (ℕ × Gate)) (are : AreGates d gates) (p : ℕ) (gate : Gate) (admitted : IsAdmitted d p gate) where
    in_cone : (i : ℕ) → IsReached d gate.input i → InCone d i
    in_cone i r =
        record { control = gate.input; is_control = inr (record { process = p; gate = gate; admitted = admitted; same = refl }); reached = r }

    one_wide : (i : ℕ) → IsReached d gate.input i → widths d i ≡ 1
    one_wide _ control.Itself =
        start_wide d gate.input gate.signal admitted.latch.comes.goes admitted.latch.one_bit
    one_wide _ (control.Through i j r passed) = passed.port_bit

    -- no process waits for edges of it
    no_event : (q : ℕ) (events : List Watched) (body : Actions) → doing_at d q ≡ Some (Edge' events body) → (i k : ℕ) → IsReached d gate.input i → sensitive (widths d) (Edge' events body) i k ≡ true → ⊥
    no_event q events body is i k r lists =
        let item = listed_item (widths d) events i k lists in
        let edge = each_place (λ (one : Watched). IsTrue (has_edge one.edge)) events (each_from (λ (one : Watched). IsTrue (has_edge one.edge)) events (mixed_edges d none.s3 q events body is)) item.place item.item item.there in
        admitted.no_clock (record {
          input = gate_input d p gate admitted;
          signal = i;
          reached = r;
          edges = record {
            process = q;
            events = events;
            body = body;
            does = is;
            waits = passing (waits_for i) events item.place item.item item.there (and_from (item.item.signal == i) _ (eq-eqb item.item.signal i (sym item.same)) edge);
          };
        })

    module _ (b : Bit) (closes : same_bit b gate.opens ≡ false) where
      -- a latch that it gates is closed
      shut : (q : ℕ) (list : Option (List Watched)) (body : Actions) → doing_at d q ≡ Some (Comb list body) → (i : ℕ) → IsReached d gate.input i → IsGateOf d q i → MakesNothing d i b body
      shut q list body is i r it v wide at =
          let same = one_start it.gate.input gate.input i (gate_input d q it.gate it.admitted) (gate_input d p gate admitted) (gate_reached q i it) r in
          let opens = admitted.alike q it.gate it.admitted.latch same in
          let here : bit v it.gate.signal 0 ≡ b = ap (λ s. bit v s 0) it.same ∙ ap (λ l. slice_index_or l 0 X) at in
          closed_makes d body it.gate (gated d lawful q list body is it.gate it.admitted) v wide
          (ap (λ x. same_bit x it.gate.opens) here ∙ ap (same_bit b) opens ∙ closes)

      may_shut : (q : ℕ) (does : Doing) → doing_at d q ≡ Some does → (i k : ℕ) → IsReached d gate.input i → sensitive (widths d) does i k ≡ true → MayShut d b does i
      may_shut q (Assign target e) is i k r read =
          heard_port d lawful marked none.a8 q target e is i k (in_cone i r) read
      may_shut q (Comb list body) is i k r lists =
          elim (gate_of_decided d gates are q i) [
            | inl it ↦ shut q list body is i r it
            | inr free ↦ absurd (unlisted d lawful marked none.a8 q list body is i k (in_cone i r) free lists)
          ]
      may_shut q (Edge' events body) is i k r lists = no_event q events body is i k r lists

      shutter : IsShutter d gate.input b
      shutter =
          record { input = gate_input d p gate admitted; one_bit = one_wide; heard = may_shut }

    pub gate_alone : IsGateAlone d gate
    gate_alone =
        record { fed = fed gate.input (gate_input d p gate admitted); shutter = shutter }
