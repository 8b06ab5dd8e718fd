use Rattle.std.proofs.Common.{◌==◌, ◌∙◌, List, map, subst, sym, arith}
use Rattle.rtl_flat.specs.Flats.{flat}
use Rattle.event_model.specs.declared.policy.Policy.{Policy}
use Rattle.event_model.specs.declared.setting.Setting.{Setting}
use Rattle.event_model.specs.Policies.{IsDone, IsTooDear, budget}
use Rattle.event_model.specs.Queue.{offer}
use Rattle.event_queue.specs.Offers.{set_of}
use Rattle.event_queue.specs.Sims.{Runs, flat_of, left_of, level_of, state_of}
use Rattle.netlist_eval.specs.Sims.{shown}
use Rattle.demo_replay.specs.Runs.{GoOn}
use Rattle.demo_replay.proofs.Going.{few_left, some_left, stuck, went}
use Rattle.demo_replay.proofs.run.Run.next.Goals as goal

pub settings-requires-clause-left : goal.settings-requires-clause-left
settings-requires-clause-left c =
    let run = c.args.self.now in
    let kept = run.setup.now in
    few_left kept run.trial.number run.taken
    (some_left kept run.trial.number run.taken c.len.result run.sim run.net c.requires.0 c.requires.1 (c.len.ensures ∙ kept.basis.tops.ok.0) (λ e. c.if-self-steps.false (e ∙ sym c.steps.ensures)))

pub overflow_add-self : goal.overflow_add-self
overflow_add-self c =
    let run = c.args.self.now in
    let kept = run.setup.now in
    let few = few_left kept run.trial.number run.taken
    (some_left kept run.trial.number run.taken c.len.result run.sim run.net c.requires.0 c.requires.1 (c.len.ensures ∙ kept.basis.tops.ok.0) (λ e. c.if-self-steps.false (e ∙ sym c.steps.ensures))) in
    omega (arith, few)

pub returns-in-Ok-clause-goes : goal.returns-in-Ok-clause-goes
returns-in-Ok-clause-goes c = λ moments at.
    let run = c.args.self.now in
    let kept = run.setup.now in
    let trial = run.trial.number in
    let s = run.sim in
    let t = c.step.new.self in
    let n = run.net in
    let m = c.turn.new.net in
    let settings = c.in_ok-settings.settings.items in
    let left = some_left kept trial run.taken c.len.result s n moments at (c.len.ensures ∙ kept.basis.tops.ok.0) (λ e. c.if-self-steps.false (e ∙ sym c.steps.ensures)) in
    let runs = subst (λ (p : Policy). Runs p (level_of s) (flat_of s) (offer (state_of s) (map set_of settings)) (budget (flat_of s)) (state_of t) (left_of t)) c.policy.ensures
    (subst (λ (l : List Setting). Runs c.policy.result (level_of s) (flat_of s) (offer (state_of s) (map set_of l)) (budget (flat_of s)) (state_of t) (left_of t)) c.deref.ensures.value (c.step.ensures.run at.resting.free)) in
    let done = subst (λ (p : Policy). IsDone p (level_of s) (flat_of s) (state_of t)) c.policy.ensures c.in-Ok.ensures.done in
    let goes = subst (λ (l : List Setting). GoOn (flat kept.design.now) (trial == 32) trial l (shown n) (shown m)) c.deref-in-Ok.ensures.value (c.turn.ensures.goes kept.design.now at.netlist) in
    let size = at.count in
    (went kept trial run.taken s n moments at settings left c.in_ok-settings.ensures.exact t m c.step.ensures.same runs done c.in-Ok.ensures.rest c.in-Ok.ensures.free.1 c.turn.ensures.netlist goes, omega (arith, left, size))

pub returns-in-Ok-clause-fewer : goal.returns-in-Ok-clause-fewer
returns-in-Ok-clause-fewer c = λ _.
    let run = c.args.self.now in
    let kept = run.setup.now in
    let left = some_left kept run.trial.number run.taken c.len.result run.sim run.net c.requires.0 c.requires.1 (c.len.ensures ∙ kept.basis.tops.ok.0) (λ e. c.if-self-steps.false (e ∙ sym c.steps.ensures)) in
    omega (arith, left)

pub returns-clause-goes : goal.returns-clause-goes
returns-clause-goes c = λ moments at.
    let run = c.args.self.now in
    let kept = run.setup.now in
    let trial = run.trial.number in
    let s = run.sim in
    let t = c.step.new.self in
    let settings = c.in_ok-settings.settings.items in
    let left = some_left kept trial run.taken c.len.result s run.net moments at (c.len.ensures ∙ kept.basis.tops.ok.0) (λ e. c.if-self-steps.false (e ∙ sym c.steps.ensures)) in
    let runs = subst (λ (p : Policy). Runs p (level_of s) (flat_of s) (offer (state_of s) (map set_of settings)) (budget (flat_of s)) (state_of t) (left_of t)) c.policy.ensures
    (subst (λ (l : List Setting). Runs c.policy.result (level_of s) (flat_of s) (offer (state_of s) (map set_of l)) (budget (flat_of s)) (state_of t) (left_of t)) c.deref.ensures.value (c.step.ensures.run at.resting.free)) in
    let dear = subst (λ (p : Policy). IsTooDear p (level_of s) (flat_of s) (state_of t) (left_of t)) c.policy.ensures (c.in-Err.ensures.dear at.resting.free) in
    stuck kept trial run.taken s run.net moments at settings left c.in_ok-settings.ensures.exact t runs dear
