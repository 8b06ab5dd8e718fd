use Rattle.std.proofs.Common.{◌≡◌, drop, map}
use Rattle.rtl_flat.specs.Value.{store}
use Rattle.net_list.specs.check_chains.Views.{guard_view}
use Rattle.net_turn.specs.Runs.{active_of, numbers_of, numbers_with}
use Rattle.net_turn.proofs.choice.active_branch.Given as goal

abbrev pub invariant-loop-place : goal.invariant-loop-place
invariant-loop-place l =
    active_of (numbers_with (store l.before) l.turn) (drop l.place (map guard_view l.resets)) (drop l.place (numbers_of l.tops))
    ≡ active_of (numbers_with (store l.before) l.turn) (map guard_view l.resets) (numbers_of l.tops)
