use Rattle.std.proofs.Common.{◌∙◌, ◌+◌, ℕ, Bool, Vec, ap, map}
use Rattle.std.specs.declared.alloc.Global.{Global}
use Rattle.std.proofs.lemmas.Result.{IfOk-weaker}
use Rattle.event_model.specs.declared.setting.Setting.{Setting}
use Rattle.rtl_flat.specs.Flats.{flat}
use Rattle.event_queue.specs.Offers.{AreAllowed}
use Rattle.netlist_eval.specs.Sims.{shown}
use Rattle.demo_trials.specs.Fitting.{InputsMeet, SettingsMeet}
use Rattle.demo_trials.specs.Steps.{input}
use Rattle.demo_replay.proofs.Setting.{settings_lawful, step_allowed}
use Rattle.demo_replay.proofs.run.Run.settings.Goals as goal

pub returns-clause-allowed : goal.returns-clause-allowed
returns-clause-allowed c =
    let run = c.args.self.now in
    let kept = run.setup.now in
    let at = c.requires.at.1 in
    let made = c.deref.result.now in
    IfOk-weaker c.step.result (λ (settings : Vec Setting Global). (test : ℕ → ℕ → Bool) → InputsMeet test made → SettingsMeet test settings.items)
    (λ (settings : Vec Setting Global). AreAllowed (flat kept.design.now) settings.items)
    (λ settings fit. step_allowed kept at.is_of (shown run.net) at.numbers made (ap (map input) c.deref.ensures.value ∙ c.in_ok-inputs.ensures) settings.items fit) c.step.ensures.fitting

pub returns-clause-lawful : goal.returns-clause-lawful
returns-clause-lawful c =
    let run = c.args.self.now in
    let at = c.requires.at.1 in
    settings_lawful run.setup.now at.is_of (shown run.net) at.numbers c.deref.result.now (ap (map input) c.deref.ensures.value ∙ c.in_ok-inputs.ensures) run.trial.number (run.taken + 1) run.trial.in_range
    c.step.result c.step.ensures.exact c.step.ensures.fitting c.step.ensures.known
