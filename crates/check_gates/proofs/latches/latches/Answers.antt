use Rattle.std.proofs.Common.{◌≡◌, ◌∙◌, ◌<◌, ◌+◌, ℕ, Some, None, length, ap, sym, subst, arith}
use Rattle.std.specs.Prelude.{◌↔◌}
use Rattle.std.specs.List.{slice_get}
use Rattle.std.specs.Option.{IsSomeAnd}
use Rattle.rtl_flat.specs.Flats.{flat}
use Rattle.net_model.specs.Gates.{ComesFrom}
use Rattle.check_chains.specs.rtl_scan.Arrows.{Among}
use Rattle.check_chains.specs.rtl_scan.Graph.{row}
use Rattle.check_chains.proofs.check_found_proofs.Sites.{task_count}
use Rattle.check_gates.specs.Admitted.{gates_of}
use Rattle.check_gates.specs.Forms.{IsFormOf}
use Rattle.check_gates.specs.Latches.{AreLatches}
use Rattle.check_gates.proofs.Latched.{latches_next, latches_pass, read_some}
use Rattle.check_gates.proofs.Linked.{none_of}
use Rattle.check_gates.proofs.Topped.{comes_from}
use Rattle.check_gates.proofs.Waiting.{task_there}
use Rattle.check_gates.proofs.latches.latches.Goals as goal
use Rattle.check_gates.proofs.latches.latches.Goals.{in-Some+in_ok-push_gates, in_default}

pub loop-number-preserved : goal.loop-number-preserved
loop-number-preserved c =
    let design = c.args.design.now in
    let d = flat design in
    let n = c.loop-number.number in
    let forms = c.args.forms.now in
    let below : n < length forms = c.loop-number-test.true in
    let size = c.requires.size in
    let count = task_count design in
    let (task, there) = task_there design n (omega (arith, below, size, count)) in
    let old = gates_of c.loop-number.gates.items in
    elim c.match-forms-number.branch [
      | in-Some+in_ok-push_gates w ↦
          let form = w.in-Some.form in
          let at : slice_get forms n ≡ Some (Some form) = read_some forms n _ (Some form) below w.in-Some.is in
          let is = subst (λ o. IsSomeAnd o (λ task. IsFormOf d task.does (Some form))) there (c.requires.each n (Some form) at) in
          let tops = c.in_ok-tops.tops.items in
          let row_is = w.row_at.ensures ∙ ap (λ r. row r form.signal.0) w.deref.ensures.value in
          let come = λ (t : ℕ). subst (λ l. Among l t ↔ ComesFrom d t form.signal.0) (sym row_is) (comes_from d tops c.in_ok-tops.ensures form.signal.0 t) in
          subst (λ (v : _). AreLatches d (n + 1) (gates_of v.items)) (sym w.gates-is)
          (latches_next d n task there old c.loop-number.invariant form is w.row_at.result.now come (gates_of w.push_gates.new.gates.items) w.in_ok-push_gates.ensures)
      | in_default w ↦
          let at : slice_get forms n ≡ Some None = read_some forms n _ None below (none_of _ (λ form is. w.in_default.not-Some form is)) in
          let is = subst (λ o. IsSomeAnd o (λ task. IsFormOf d task.does None)) there (c.requires.each n None at) in
          subst (λ (v : _). AreLatches d (n + 1) (gates_of v.items)) (sym w.gates-is) (latches_pass d n task there old c.loop-number.invariant is)
    ]

pub returns : goal.returns
returns c =
    let d = flat c.args.design.now in
    let past = c.loop-number-test.false in
    let most = c.loop-number.auto.number-end in
    let size = c.requires.size in
    let all : c.loop-number.number ≡ length d.tasks = omega (arith, past, most, size) in
    subst (λ n. AreLatches d n (gates_of c.loop-number.gates.items)) all c.loop-number.invariant
