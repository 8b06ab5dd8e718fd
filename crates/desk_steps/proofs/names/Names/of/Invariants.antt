use Rattle.std.proofs.Common.{◌≡◌, drop}
use Rattle.desk_steps.specs.Names.{ahead, names_from, names_of}
use Rattle.desk_steps.proofs.names.Names.of.Given as goal

abbrev pub invariant-loop-number : goal.invariant-loop-number
invariant-loop-number l =
    (names_of l.made ≡ names_from l.skipped l.number (drop l.number l.design.signals.items)) × (l.skipped ≡ ahead l.design.instances.items)
