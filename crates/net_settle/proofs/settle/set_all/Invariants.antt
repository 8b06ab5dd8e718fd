use Rattle.std.proofs.Common.{◌≡◌, map, take}
use Rattle.rtl_flat.specs.Value.{store}
use Rattle.net_model.specs.Cycle.{given_after}
use Rattle.net_settle.specs.Work.{IsAble}
use Rattle.net_settle.specs.Settle.{setting_view}
use Rattle.net_settle.proofs.settle.set_all.Given as goal

abbrev pub invariant-loop-setting : goal.invariant-loop-setting
invariant-loop-setting l =
    IsAble l.maps × (l.maps.design ≡ l.fn.maps.design)
    × (store l.maps.numbers.items ≡ given_after (store l.fn.maps.numbers.items) (map setting_view (take l.setting-index l.settings)))
