use Rattle.std.proofs.Common.{◌≡◌, drop, map, not}
use Rattle.std.specs.List.{list_all}
use Rattle.rtl_bits.specs.Bits.{has_unknown}
use Rattle.net_model.specs.Cycle.{Setting}
use Rattle.netlist_eval.specs.net_settle.Settle.{setting_view}
use Rattle.vcd_check.proofs.follow.are_known.Given as goal

abbrev pub invariant-loop-setting : goal.invariant-loop-setting
invariant-loop-setting l =
    list_all (λ (setting : Setting). not (has_unknown setting.number)) (map setting_view l.settings)
    ≡ list_all (λ (setting : Setting). not (has_unknown setting.number)) (map setting_view (drop l.setting-index l.settings))
