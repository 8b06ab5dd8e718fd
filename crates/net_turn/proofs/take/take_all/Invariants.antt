use Rattle.std.proofs.Common.{◌≡◌, ℕ}
use Rattle.rtl_flat.specs.Value.{store}
use Rattle.rtl_flat.specs.Flats.{flat}
use Rattle.net_model.specs.Numbers.{AreNumbers}
use Rattle.net_settle.specs.Work.{IsAble}
use Rattle.net_turn.specs.Runs.{ArePut, AreRuns, runs_of, numbers_with}
use Rattle.net_turn.proofs.take.take_all.Given as goal

abbrev pub invariant-loop-one : goal.invariant-loop-one
invariant-loop-one l =
    IsAble l.maps × (l.maps.design ≡ l.fn.maps.design) × AreNumbers (flat l.fn.maps.design.now) (store l.after)
    × ((i : ℕ) → store l.maps.numbers.items i ≡ store l.before i)
    × (AreRuns (flat l.fn.maps.design.now) (runs_of (store l.before) (numbers_with (store l.before) l.turn) l.clocked)
    → ArePut (flat l.fn.maps.design.now) l.fill (store l.before) (runs_of (store l.before) (numbers_with (store l.before) l.turn) l.clocked) l.one-index (store l.after))
