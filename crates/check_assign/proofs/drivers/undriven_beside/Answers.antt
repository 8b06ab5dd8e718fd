use Rattle.std.proofs.Common.{ℕ, ◌<◌, [], ◌∷◌, List, length, take, sym, subst, arith}
use Rattle.std.specs.List.{enumerate_from}
use Rattle.std.proofs.lemmas.List.FromFn.{length-enumerate_from}
use Rattle.rtl_flat.specs.declared.signal.Signal.{Signal}
use Rattle.rtl_flat.specs.Flats.{flat}
use Rattle.rtl_rule.specs.Sites.{AreFindings}
use Rattle.check_loops.proofs.check_found_proofs.Gathering.{all_taken, findings_more, take_next}
use Rattle.check_loops.proofs.check_found_proofs.Sites.{numbered_at, read_at}
use Rattle.check_assign.specs.Assigned.{IsUndriven, undriven_at}
use Rattle.check_assign.proofs.drivers.undriven_beside.Goals as goal

pub loop-number-preserved : goal.loop-number-preserved
loop-number-preserved c =
    let d = flat c.args.design.now in
    let n = c.loop-number.number in
    let signal = c.index-signal.result.now in
    let all = enumerate_from 0 d.signals in
    let below : n < length d.signals = omega arith in
    let there = numbered_at 0 d.signals n n signal (read_at d.signals n signal below c.index-signal.ensures) (omega arith) in
    subst (λ (xs : List (ℕ × Signal)). AreFindings (IsUndriven d) undriven_at xs c.push_undriven.new.found.items) (sym (take_next all n (n, signal) there))
    (findings_more (IsUndriven d) undriven_at (take n all) ((n, signal) ∷ []) c.loop-number.found.items c.push_undriven.new.found.items c.loop-number.invariant c.in_ok-push_undriven.ensures)

pub returns : goal.returns
returns c =
    let d = flat c.args.design.now in
    let count = length-enumerate_from 0 d.signals in
    all_taken (IsUndriven d) undriven_at (enumerate_from 0 d.signals) c.loop-number.number c.loop-number.found.items (omega (arith, count)) c.loop-number.invariant
