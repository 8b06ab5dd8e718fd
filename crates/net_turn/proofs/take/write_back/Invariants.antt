use Rattle.std.proofs.Common.{◌≡◌, ◌<◌, ℕ}
use Rattle.rtl_flat.specs.Value.{store}
use Rattle.net_settle.specs.Work.{IsAble}
use Rattle.net_turn.proofs.take.write_back.Given as goal

abbrev pub invariant-loop-place : goal.invariant-loop-place
invariant-loop-place l =
    IsAble l.maps × (l.maps.design ≡ l.fn.maps.design)
    × ((i : ℕ) → i < l.place → store l.maps.numbers.items i ≡ store l.after i)
