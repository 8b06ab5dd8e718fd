use Rattle.std.proofs.Common.{◌≡◌, ◌∙◌, ◌==◌, ◌<◌, refl, sym, length, arith}
use Rattle.std.proofs.lemmas.Bool.{both_ways, eq-eqb, eqb-true, false≢true}
use Rattle.check_chains.proofs.check_found_proofs.Sites.{read_at}
use Rattle.check_gates.proofs.Marking.{gate_is, gate_there}
use Rattle.check_gates.proofs.Placed.{gate_here, no_gate_end, no_gate_past, passed_next}
use Rattle.check_gates.proofs.marked.is_gate_of.Goals as goal

pub returns-then-eq-2 : goal.returns-then-eq-2
returns-then-eq-2 c = λ d are.
    let gates = c.args.gates.now in
    let place = c.loop-place.place in
    let x = gate_there gates place in
    let at = read_at gates place x c.loop-place-test.true (gate_is gates place c.loop-place-test.true) in
    let same = eqb-true x.process.0 c.args.process.0 (sym c.eq.ensures ∙ c.if-eq.true) in
    let its = eqb-true x.signal.0 c.args.signal.0 (sym c.eq-in-loop-place.ensures ∙ c.if-eq-2.true) in
    (λ h. gate_here d gates are c.args.process.0 c.args.signal.0 place x at same its, λ h. refl)

pub loop-place-preserved : goal.loop-place-preserved
loop-place-preserved c =
    let gates = c.args.gates.now in
    let place = c.loop-place.place in
    let x = gate_there gates place in
    let at = read_at gates place x c.loop-place-test.true (gate_is gates place c.loop-place-test.true) in
    let below : place < length gates = c.loop-place-test.true in
    let other : x.signal.0 ≡ c.args.signal.0 → ⊥ = λ its. both_ways (x.signal.0 == c.args.signal.0) (sym c.eq-in-loop-place.ensures ∙ c.if-eq-2.false) (eq-eqb x.signal.0 c.args.signal.0 its) in (
      omega (arith, below),
      λ order.
          let (start, least, first, before) = c.loop-place.invariant.1 order in
          (start, omega (arith, least), first, passed_next gates c.args.process.0 c.args.signal.0 place x at other before),
    )

pub returns-else-eq : goal.returns-else-eq
returns-else-eq c = λ d are.
    let gates = c.args.gates.now in
    let place = c.loop-place.place in
    let x = gate_there gates place in
    let at = read_at gates place x c.loop-place-test.true (gate_is gates place c.loop-place-test.true) in
    let (start, least, first, before) = c.loop-place.invariant.1 are.in_order in
    (λ h. absurd (false≢true h), λ is. absurd (no_gate_past d gates are c.args.process.0 c.args.signal.0 start place x first least at (λ same. both_ways (x.process.0 == c.args.process.0) (sym c.eq.ensures ∙ c.if-eq.false) (eq-eqb x.process.0 c.args.process.0 same)) before is))

pub returns-after-loop-place : goal.returns-after-loop-place
returns-after-loop-place c = λ d are.
    let gates = c.args.gates.now in
    let (start, least, first, before) = c.loop-place.invariant.1 are.in_order in
    (λ h. absurd (false≢true h), λ is. absurd (no_gate_end d gates are c.args.process.0 c.args.signal.0 c.loop-place.place (omega (arith, c.loop-place-test.false)) before is))
