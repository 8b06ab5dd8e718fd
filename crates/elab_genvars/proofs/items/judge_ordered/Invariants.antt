use Rattle.std.proofs.Common.{◌≡◌, map, drop}
use Rattle.std.specs.List.{flat_map}
use Rattle.std.specs.Option.{option_map}
use Rattle.rtl_tree.specs.TreeItem.{positional}
use Rattle.elab_scope.specs.Faults.{after}
use Rattle.elab_genvars.specs.Genvars.{told_of, positional_genvars}
use Rattle.elab_genvars.proofs.items.judge_ordered.Given as goal

abbrev pub invariant-loop-argument : goal.invariant-loop-argument
invariant-loop-argument g l =
    let uses = positional_genvars (g.S.Sorts.sorts l.names) in
    after (option_map told_of l.best) (flat_map uses (map positional (drop l.argument-index l.all)))
    ≡ after (option_map told_of l.initial.best) (flat_map uses (map positional l.all))
