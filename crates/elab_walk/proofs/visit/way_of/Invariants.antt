use Rattle.std.proofs.Common.{◌≡◌, ◌++◌, map, drop}
use Rattle.elab_walk.proofs.visit.way_of.Given as goal

abbrev pub invariant-loop-name : goal.invariant-loop-name
invariant-loop-name l =
    map (λ text. text.now) l.made.items ++ map (λ text. text.now) (drop l.name-index l.way)
    ≡ map (λ text. text.now) l.way
