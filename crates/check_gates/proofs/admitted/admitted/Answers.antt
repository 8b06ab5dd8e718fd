use Rattle.std.proofs.Common.{◌≡◌, ◌∙◌, ◌++◌, cond, take, None, Some, ap, sym, arith}
use Rattle.std.specs.List.{filter_map}
use Rattle.std.specs.Option.{option_to_list}
use Rattle.std.proofs.lemmas.List.{take_all}
use Rattle.check_gates.specs.Latches.{kept}
use Rattle.check_gates.proofs.Linked.{kept_next, pass_kept, push_kept}
use Rattle.check_gates.proofs.Marking.{gate_is, gate_there}
use Rattle.check_gates.proofs.admitted.admitted.Goals as goal
use Rattle.check_gates.proofs.admitted.admitted.Goals.{then-admits+in_ok-push, else-admits}

pub loop-gate-preserved : goal.loop-gate-preserved
loop-gate-preserved c =
    let gates = c.args.gates.now in
    let at = c.loop-gate.gate-index in
    let item = gate_there gates at in
    let f = kept c.args.inputs.now in
    let front = filter_map f (take at gates) in
    let kept : c.if-admits.found.items ≡ front ++ option_to_list (f item) =
    elim c.if-admits.branch [
      | then-admits+in_ok-push w ↦
          push_kept c.loop-gate.found.items c.if-admits.found.items front (f item) item c.loop-gate.invariant (ap (λ b. cond b (Some item) None) (sym c.admits.ensures ∙ w.if-admits.true)) (ap (λ v. v.items) w.found-is ∙ w.in_ok-push.ensures.items)
      | else-admits w ↦
          pass_kept c.loop-gate.found.items c.if-admits.found.items front (f item) c.loop-gate.invariant (ap (λ b. cond b (Some item) None) (sym c.admits.ensures ∙ w.if-admits.false)) (ap (λ v. v.items) w.found-is)
    ] in
    kept ∙ sym (kept_next f gates at item c.loop-gate-test.true (gate_is gates at c.loop-gate-test.true))

pub returns : goal.returns
returns c =
    c.loop-gate.invariant ∙ ap (filter_map (kept c.args.inputs.now)) (take_all c.loop-gate.gate-index c.args.gates.now (omega arith))
