use Rattle.std.proofs.Common.{◌≡◌, ◌++◌, map, drop}
use Rattle.elab_items.specs.Rosters.{listing}
use Rattle.elab_items.specs.Signals.{home, signals_in}
use Rattle.elab_items.proofs.signals.push_signals.Given as goal

abbrev pub invariant-loop-one : goal.invariant-loop-one
invariant-loop-one l =
    l.signals.items ++ signals_in (home l.at) (map listing (drop l.one-index l.listings))
    ≡ l.initial.signals.items ++ signals_in (home l.at) (map listing l.listings)
