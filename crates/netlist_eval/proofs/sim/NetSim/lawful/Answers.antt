use Rattle.std.proofs.Common.{[], sym, subst}
use Rattle.std.proofs.Math.Logic.{∥∥₁_elim}
use Rattle.std.proofs.Props.{props}
use Rattle.event_model.specs.declared.setting.Setting.{Setting}
use Rattle.net_model.specs.Lawful.{SetsData}
use Rattle.net_turn.specs.net_settle.Settle.{setting_view}
use Rattle.netlist_eval.specs.declared.step.Step.{Step}
use Rattle.netlist_eval.specs.Sims.{flat_of, shown}
use Rattle.netlist_eval.specs.Steps.{IsLawful}
use Rattle.netlist_eval.proofs.Lawfully.{all_map, map_all}
use Rattle.netlist_eval.proofs.sim.NetSim.lawful.Goals as goal

no_setting : Setting
no_setting = record { signal = record { 0 = 0 }; value = [] }

pub returns-in-Data : goal.returns-in-Data
returns-in-Data c =
    let d = flat_of c.args.self.now in
    let n = shown c.args.self.now in
    let settings = c.in-Data.settings.now in (
      λ h.
          subst (λ (step : Step). IsLawful d n step) (sym c.in-Data.is)
          ∣ all_map (SetsData d) setting_view settings no_setting (c.all_set_data.ensures.0 h) ∣₁,
      λ lawful.
          ∥∥₁_elim (subst (λ (step : Step). IsLawful d n step) c.in-Data.is lawful) (hlevel props)
          (λ all. c.all_set_data.ensures.1 (map_all (SetsData d) setting_view settings no_setting all)),
    )
