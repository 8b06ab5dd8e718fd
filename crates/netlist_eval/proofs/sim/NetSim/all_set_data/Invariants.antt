use Rattle.std.proofs.Common.{take}
use Rattle.std.specs.List.{All}
use Rattle.net_model.specs.Lawful.{SetsData}
use Rattle.net_turn.specs.net_settle.Settle.{setting_view}
use Rattle.netlist_eval.specs.Sims.{flat_of}
use Rattle.netlist_eval.proofs.sim.NetSim.all_set_data.Given as goal

abbrev pub invariant-loop-setting : goal.invariant-loop-setting
invariant-loop-setting l =
    All (λ setting. SetsData (flat_of l.self) (setting_view setting)) (take l.setting-index l.settings)
