use Rattle.std.proofs.Common.{◌≡◌, ◌++◌, drop, map, not}
use Rattle.std.specs.List.{filter}
use Rattle.net_model.specs.Cycle.{Setting}
use Rattle.netlist_eval.specs.net_settle.Settle.{setting_view}
use Rattle.vcd_check.specs.Checks.{is_marked}
use Rattle.vcd_check.proofs.follow.data_of.Given as goal

abbrev pub invariant-loop-setting : goal.invariant-loop-setting
invariant-loop-setting l =
    map setting_view l.made.items ++ filter (λ (setting : Setting). not (is_marked l.marks setting.input)) (map setting_view (drop l.setting-index l.settings))
    ≡ filter (λ (setting : Setting). not (is_marked l.marks setting.input)) (map setting_view l.settings)
