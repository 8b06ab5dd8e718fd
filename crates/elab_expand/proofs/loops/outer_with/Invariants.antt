use Rattle.std.proofs.Common.{◌≡◌, ◌++◌, map, drop}
use Rattle.elab_scope.specs.Names.{meanings}
use Rattle.elab_expand.proofs.loops.outer_with.Given as goal

abbrev pub invariant-loop-names : goal.invariant-loop-names
invariant-loop-names l =
    map (λ names. meanings names.now) l.made.items ++ map (λ names. meanings names.now) (drop l.names-index l.outer)
    ≡ map (λ names. meanings names.now) l.outer
