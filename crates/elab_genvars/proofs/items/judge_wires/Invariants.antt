use Rattle.std.proofs.Common.{◌≡◌, map, drop}
use Rattle.std.specs.List.{flat_map}
use Rattle.std.specs.Option.{option_map}
use Rattle.rtl_tree.specs.TreeItem.{net}
use Rattle.elab_scope.specs.Faults.{after}
use Rattle.elab_genvars.specs.Genvars.{told_of, net_genvars}
use Rattle.elab_genvars.proofs.items.judge_wires.Given as goal

abbrev pub invariant-loop-wire : goal.invariant-loop-wire
invariant-loop-wire g l =
    let uses = net_genvars (g.S.Sorts.sorts l.names) in
    after (option_map told_of l.best) (flat_map uses (map net (drop l.wire-index l.all)))
    ≡ after (option_map told_of l.initial.best) (flat_map uses (map net l.all))
