-- What comes from top inputs through input ports isn't doubtful.
use Rattle.std.proofs.Common.{◌≡◌, ◌∙◌, ◌||◌, ℕ, Bool, true, false, [], Some, refl, sym, ap, subst, inl, inr, arith}
use Rattle.std.specs.Prelude.{IsTrue, nat_le, nat_lt, ◌==◌}
use Rattle.std.specs.List.{slice_get}
use Rattle.std.specs.Option.{IsSomeAnd}
use Rattle.std.proofs.lemmas.Bool.{and_from, eq-eqb, false≢true, lt-ltb, or_left}
use Rattle.rtl_flat.specs.Flats.{Flat, widths}
use Rattle.rtl_flat.specs.Flows.{flow_of, may_target, reads}
use Rattle.rtl_flat.specs.Paths.{MayWrite, reads_outside}
use Rattle.rtl_flat.specs.PathSets.{OfProcess}
use Rattle.rtl_flat.specs.Process.{Assign, Comb, Doing, Edge', Task}
use Rattle.rtl_flat.specs.Signs.{width_in}
use Rattle.rtl_flat.proofs.Paths.{decided}
use Rattle.event_model.specs.Queue.{doing_at, doing_of, is_assignment, is_body, is_input}
use Rattle.net_model.specs.Control.{IsPassedOn, IsReached, Itself, Through, whole_of}
use Rattle.net_model.specs.Gates.{IsControl}
use Rattle.rtl_rule.specs.Parts.{has_some, is_clocked, written}
use Rattle.rtl_rule.proofs.Below.{some_found}
use Rattle.check_assign.specs.Assigned.{AreSeveralDrivers}
use Rattle.check_unknown.specs.Unknowns.{Behind, IsDoubtful, Latched, Unreset}
use Rattle.check_laws.specs.event_laws.Steady.{AreLawful}
use Rattle.check_laws.proofs.Clocks.{is_top_input}
use Rattle.check_laws.proofs.Designs.{process_inside, several_drivers}
use Rattle.check_laws.proofs.event_laws_proofs.Within.{may_read_outside}
use Rattle.net_covers.proofs.net_rest_proofs.event_runs_proofs.Signals.{assign_net, body_variable, net_input, variable_input}
use Rattle.net_covers.proofs.net_rest_proofs.event_runs_proofs.Writers.{of_process}
use Rattle.unknown_laws.specs.Doubt.{ConeIsSure, InputsAreSure}

module _ (d : Flat) (lawful : AreLawful d) where
  -- no process writes an input
  no_input : (p i k : ℕ) → OfProcess MayWrite d.signals d.tasks p i k → IsTrue (is_input d i) → ⊥
  no_input p i k may input =
      let (does, here, may') = of_process MayWrite d p i k may in by_doing does here
    where
      by_doing : (does : Doing) → doing_at d p ≡ Some does → ⊥
      by_doing (Assign target e) here = net_input d i (assign_net d lawful p (ap is_assignment here) i k may) input
      by_doing (Comb list body) here = variable_input d i (body_variable d lawful p (ap is_body here) i k may) input
      by_doing (Edge' events body) here = variable_input d i (body_variable d lawful p (ap is_body here) i k may) input

  -- a bit that a process writes of a signal
  record IsWritten (p s : ℕ) (does : Doing) : Type 0 where
    bit : ℕ
    may : MayWrite (flow_of (widths d) does) s bit

  some_written : (p s : ℕ) (does : Doing) → has_some (widths d) (written d does) s ≡ true → IsWritten p s does
  some_written p s does h =
      let found = some_found (widths d s) (written d does s) h in
      record { bit = found.number; may = (decided (flow_of (widths d) does) s found.number).writes.0 found.is }

  not_written : (p s : ℕ) (task : Task) → slice_get d.tasks p ≡ Some task → IsTrue (is_input d s) → has_some (widths d) (written d task.does) s ≡ true → ⊥
  not_written p s task there input h =
      let bit = some_written p s task.does h in
      no_input p s bit.bit (subst (λ o. IsSomeAnd o (λ (one : Task). MayWrite (flow_of (width_in d.signals) one.does) s bit.bit)) (sym there) bit.may) input

  input_sure : (i : ℕ) → IsTrue (is_input d i) → IsDoubtful d i → ⊥
  input_sure i input (Unreset s h) = not_written h.process s h.task h.there input h.register.writes
  input_sure i input (Latched s k h) = no_input h.process s k h.may input
  input_sure i input (Behind p s t task there doubt reads writes) = not_written p s task there input writes

  module _ (none : AreSeveralDrivers d []) (i j : ℕ) (passed : IsPassedOn d i j) where
    abbrev connects : Doing
    connects = Assign (whole_of j passed.connection.spot) passed.value

    connected : doing_at d passed.process ≡ Some connects
    connected = ap doing_of passed.connection.there ∙ ap Some passed.connection.does

    whole_written : may_target (widths d) (whole_of j passed.connection.spot) j 0 ≡ true
    whole_written =
        let one = passed.port_bit in
        let there = lt-ltb 0 (widths d j) (omega (arith, one)) in
        or_left _ false (and_from (j == j) _ (eq-eqb j j refl) (and_from (nat_le 0 0) _ refl (and_from (nat_lt 0 (widths d j)) _ there there)))

    port_written : MayWrite (flow_of (widths d) connects) j 0
    port_written =
        (decided (flow_of (widths d) connects) j 0).writes.0 (or_left (may_target (widths d) (whole_of j passed.connection.spot) j 0) false whole_written)

    -- the port's one writer is its connection
    writer : (p : ℕ) (does : Doing) → doing_at d p ≡ Some does → (k : ℕ) → MayWrite (flow_of (widths d) does) j k → does ≡ connects
    writer p does is k may =
        let inside = process_inside d lawful p does is j k may in
        let one = passed.port_bit in
        let first : k ≡ 0 = omega (arith, inside, one) in
        let same = several_drivers d lawful none p passed.process does connects is connected j 0 (subst (MayWrite (flow_of (widths d) does) j) first may) port_written in
        same_doing (sym is ∙ ap (doing_at d) same ∙ connected)
      where
        same_doing : Some does ≡ Some connects → does ≡ connects
        same_doing e = cc

    task_writer : (p : ℕ) (task : Task) → slice_get d.tasks p ≡ Some task → has_some (widths d) (written d task.does) j ≡ true → task.does ≡ connects
    task_writer p task there h =
        let bit = some_written p j task.does h in writer p task.does (ap doing_of there) bit.bit bit.may

    alone_or : (b : Bool) → (b || false) ≡ true → b ≡ true
    alone_or true is = refl
    alone_or false is = is

    -- it reads one signal
    read_alone : (t : ℕ) → has_some (widths d) (reads_outside (flow_of (widths d) connects)) t ≡ true → t ≡ i
    read_alone t h =
        let flow = flow_of (widths d) connects in
        let found = some_found (widths d t) (reads_outside flow t) h in
        let outside = (decided flow t found.number).outside.0 found.is in
        let read = (decided flow t found.number).reads.1 (may_read_outside flow t found.number outside) in
        passed.alone.alone t found.number (alone_or (reads (widths d) passed.value t found.number) read)

    port_sure : (IsDoubtful d i → ⊥) → IsDoubtful d j → ⊥
    port_sure sure (Unreset s h) =
        false≢true (sym (ap is_clocked (task_writer h.process h.task h.there h.register.writes)) ∙ h.clocked)
    port_sure sure (Latched s k h) =
        let (does, here, may) = of_process MayWrite d h.process s k h.may in
        false≢true (sym (ap is_assignment h.admitted.latch.does) ∙ ap is_assignment (here ∙ ap Some (writer h.process does here k may)))
    port_sure sure (Behind p s t task there doubt reads' writes) =
        let does = task_writer p task there writes in
        let same = read_alone t (subst (λ one. has_some (widths d) (reads_outside (flow_of (widths d) one)) t ≡ true) does reads') in
        sure (subst (IsDoubtful d) same doubt)

  reached_sure : AreSeveralDrivers d [] → (c i : ℕ) → IsTrue (is_input d c) → IsReached d c i → IsDoubtful d i → ⊥
  reached_sure none c i input Itself = input_sure c input
  reached_sure none c i input (Through h j reached passed) =
      port_sure none h j passed (reached_sure none c h input reached)

pub inputs_sure : (d : Flat) → InputsAreSure d
inputs_sure d lawful none i top = reached_sure d lawful none top.top i top.input top.reached

pub cone_sure : (d : Flat) → ConeIsSure d
cone_sure d lawful none i cone = reached_sure d lawful none cone.control i (input cone.control cone.is_control) cone.reached
  where
    input : (c : ℕ) → IsControl d c → IsTrue (is_input d c)
    input c (inl clock) = clock.input
    input c (inr gate) = subst (λ n. IsTrue (is_input d n)) gate.same (is_top_input d gate.gate.input gate.admitted.latch.comes.input)
