use Rattle.std.proofs.Common.{◌≡◌, map, drop}
use Rattle.elab_scope.specs.Names.{meanings}
use Rattle.elab_expand.specs.Scoping.{first_found, innermost}
use Rattle.elab_expand.proofs.scopes.innermost.Given as goal

abbrev pub invariant-loop-names : goal.invariant-loop-names
invariant-loop-names l =
    first_found (innermost (map (λ names. meanings names.now) (drop l.names-index l.all)) l.name) l.found
    ≡ innermost (map (λ names. meanings names.now) l.all) l.name
