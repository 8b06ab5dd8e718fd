use Rattle.std.proofs.Common.{List, refl, subst, arith}
use Rattle.std.specs.List.{All}
use Rattle.std.proofs.lemmas.List.{take_all}
use Rattle.std.proofs.lemmas.List.Elements.{All-more}
use Rattle.event_model.specs.declared.setting.Setting.{Setting}
use Rattle.net_model.specs.Lawful.{SetsData}
use Rattle.net_turn.specs.net_settle.Settle.{setting_view}
use Rattle.netlist_eval.specs.Sims.{flat_of}
use Rattle.netlist_eval.proofs.sim.NetSim.all_set_data.Goals as goal

pub loop-setting-preserved : goal.loop-setting-preserved
loop-setting-preserved c =
    let d = flat_of c.args.self.now in
    All-more (λ (setting : Setting). SetsData d (setting_view setting)) c.args.settings.now c.loop-setting.setting-index c.setting-item.result (omega arith) c.loop-setting.invariant
    (subst (λ (setting : Setting). SetsData d (setting_view setting)) c.setting-item.is (c.sets_data.ensures.0 c.if-not-sets_data.false))

pub returns : goal.returns
returns c =
    let d = flat_of c.args.self.now in
    let all = take_all c.loop-setting.setting-index c.args.settings.now (omega arith) in
    (λ h. subst (λ (l : List Setting). All (λ setting. SetsData d (setting_view setting)) l) all c.loop-setting.invariant, λ h. refl)
