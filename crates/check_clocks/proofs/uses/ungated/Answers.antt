use Rattle.std.proofs.Common.{◌≡◌, ◌∙◌, ◌+◌, take, sym, subst}
use Rattle.std.proofs.lemmas.List.{take_more}
use Rattle.check_gates.specs.Admitted.{gates_of}
use Rattle.check_clocks.specs.Uses.{places_of, ungated}
use Rattle.check_clocks.proofs.Gated.{left_out, put_in, same_gate}
use Rattle.check_clocks.proofs.uses.ungated.Goals as goal
use Rattle.check_clocks.proofs.uses.ungated.Goals.{then-not-is_gate_of+in_ok-push, else-not-is_gate_of}

pub loop-one-preserved : goal.loop-one-preserved
loop-one-preserved c = λ s.
    let gates = gates_of c.args.gates.now in
    let p = c.args.p.0 in
    let uses = c.args.uses.now in
    let i = c.loop-one.one-index in
    let (d, are) = c.requires in
    let more = take_more uses i _ c.loop-one-test.true in
    let same = same_gate d gates are p _ c.is_gate_of.result (c.is_gate_of.ensures d are) in
    elim c.if-not-is_gate_of.branch [
      | then-not-is_gate_of+in_ok-push w ↦
          subst (λ (v : _). places_of s v.items ≡ ungated gates p s (take (i + 1) uses)) (sym w.others-is)
          (subst (λ l. places_of s w.push.new.self.items ≡ ungated gates p s l) (sym more)
          (put_in gates p (take i uses) c.loop-one.others.items w.push.new.self.items _ (sym same ∙ w.if-not-is_gate_of.true) w.in_ok-push.ensures.items c.loop-one.invariant s))
      | else-not-is_gate_of w ↦
          subst (λ (v : _). places_of s v.items ≡ ungated gates p s (take (i + 1) uses)) (sym w.others-is)
          (subst (λ l. places_of s c.loop-one.others.items ≡ ungated gates p s l) (sym more)
          (left_out gates p (take i uses) c.loop-one.others.items _ (sym same ∙ w.if-not-is_gate_of.false) c.loop-one.invariant s))
    ]
