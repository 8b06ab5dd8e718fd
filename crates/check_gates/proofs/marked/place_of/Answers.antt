use Rattle.std.proofs.Common.{◌+◌, ◌-◌, ◌/◌, ◌<◌, length, arith}
use Rattle.check_chains.proofs.check_found_proofs.Sites.{read_at}
use Rattle.check_gates.proofs.Marking.{gate_is, gate_there}
use Rattle.check_gates.proofs.Placed.{between_above, between_below}
use Rattle.check_gates.proofs.marked.place_of.Goals as goal

pub loop-low-preserved-then-gates-middle : goal.loop-low-preserved-then-gates-middle
loop-low-preserved-then-gates-middle c =
    let gates = c.args.gates.now in
    let low = c.loop-low.low in
    let high = c.loop-low.high in
    let middle = low + (high - low) / 2 in
    let less = c.loop-low-test.true in
    let most = c.loop-low.invariant.1 in
    let below : middle < length gates = omega (arith, less, most) in
    let at = read_at gates middle (gate_there gates middle) below (gate_is gates middle below) in
    (omega (arith, less), most, λ order. between_above gates order c.args.process low high middle (gate_there gates middle) at (c.loop-low.invariant.2 order) c.if-gates-middle.true)

pub loop-low-preserved : goal.loop-low-preserved
loop-low-preserved c =
    let gates = c.args.gates.now in
    let low = c.loop-low.low in
    let high = c.loop-low.high in
    let middle = low + (high - low) / 2 in
    let less = c.loop-low-test.true in
    let most = c.loop-low.invariant.1 in
    let below : middle < length gates = omega (arith, less, most) in
    let at = read_at gates middle (gate_there gates middle) below (gate_is gates middle below) in
    let more = c.if-gates-middle.false in
    (omega (arith, less), omega (arith, below), λ order. between_below gates order c.args.process low high middle (gate_there gates middle) at (c.loop-low.invariant.2 order) (omega (arith, more)))
