use Rattle.std.proofs.Common.{◌≡◌, ◌++◌, ◌+◌, List, ℕ, Some, arith, ap, ◌∙◌}
use Rattle.std.specs.List.{slice_get}
use Rattle.std.proofs.lemmas.Option.{slice_get_within}
use Rattle.event_queue.specs.Sims.{state_of}
use Rattle.desk_runs.specs.Lines.{rested_line, unsettled_line}
use Rattle.desk_runs.specs.Progress.{design_of, steps_of}
use Rattle.desk_runs.proofs.Progressing.{ended, found_at, next_rested, next_stopped}
use Rattle.desk_runs.proofs.run.Run.next.Goals as goal

pub returns-in_default-clause-goes : goal.returns-in_default-clause-goes
returns-in_default-clause-goes c = λ bytes at.
    ended (design_of c.args.self.now) (steps_of c.args.self.now).policy (steps_of c.args.self.now).steps.items c.deref.result.now c.args.self.now.before c.args.self.now.sim bytes at.under c.deref.ensures.value c.in_default.ensures.lookup.3

pub returns-in_ok-push_rested-in-Ok-clause-goes : goal.returns-in_ok-push_rested-in-Ok-clause-goes
returns-in_ok-push_rested-in-Ok-clause-goes c = λ bytes at.
    let run = c.args.self.now in
    let all = (steps_of run).steps.items in
    let found : slice_get all run.before ≡ Some c.in-Some.step.now = found_at all c.deref.result.now run.before c.in-Some.step.now c.deref.ensures.value c.in-Some.ensures.lookup.3.0 c.in-Some.ensures.lookup.1 in
    let line : c.push_rested.new.out.items ≡ rested_line (design_of run).instances.items (design_of run).signals.items (run.before + 1) (state_of c.step.new.self).value =
    c.in_ok-push_rested-in-Ok.ensures ∙ ap (λ (l : List ℕ). l ++ rested_line (design_of run).instances.items (design_of run).signals.items (run.before + 1) (state_of c.step.new.self).value) c.clear.ensures.items
    in
    record {
      fits = at.fits;
      within = omega (arith, slice_get_within all run.before c.in-Some.step.now found);
      under = next_rested (design_of run) (steps_of run).policy all run.before c.in-Some.step.now c.deref-2.result.now run.sim c.step.new.self bytes c.push_rested.new.out.items
          found at.within c.deref-2.ensures.value at.under c.in-Ok.ensures.run c.in-Ok.ensures.same c.in-Ok.ensures.done c.in-Ok.ensures.rest c.in-Ok.ensures.free.1 line;
    }

pub returns-in_ok-push_unsettled-in-Err-clause-goes :
    goal.returns-in_ok-push_unsettled-in-Err-clause-goes
returns-in_ok-push_unsettled-in-Err-clause-goes c = λ bytes at.
    let run = c.args.self.now in
    let all = (steps_of run).steps.items in
    let found : slice_get all run.before ≡ Some c.in-Some.step.now = found_at all c.deref.result.now run.before c.in-Some.step.now c.deref.ensures.value c.in-Some.ensures.lookup.3.0 c.in-Some.ensures.lookup.1 in
    let line : c.push_unsettled.new.out.items ≡ unsettled_line (run.before + 1) =
    c.in_ok-push_unsettled-in-Err.ensures ∙ ap (λ (l : List ℕ). l ++ unsettled_line (run.before + 1)) c.clear.ensures.items
    in
    next_stopped (design_of run) (steps_of run).policy all run.before c.in-Some.step.now c.deref-2.result.now run.sim c.step.new.self bytes c.push_unsettled.new.out.items
    found at.within c.deref-2.ensures.value at.under c.in-Err.ensures.run c.in-Err.ensures.dear line
