use Rattle.std.proofs.Common.{◌≡◌}
use Rattle.rtl_flat.specs.Value.{store}
use Rattle.rtl_flat.specs.Flats.{flat}
use Rattle.net_solve.specs.Laws.{AreDone}
use Rattle.net_settle.specs.Work.{IsAble, numbers_of}
use Rattle.net_settle.proofs.work.work.Given as goal

abbrev pub invariant-loop-p : goal.invariant-loop-p
invariant-loop-p l =
    IsAble l.maps × (l.maps.design ≡ l.fn.maps.design)
    × AreDone (flat l.fn.maps.design.now) l.fill (numbers_of l.order) (store l.fn.maps.numbers.items) l.p-index (store l.maps.numbers.items)
