-- The plain form of a chain of resets.
use Rattle.std.specs.Prelude.{map}
use Rattle.rtl_flat.specs.Expression.{tree}
use Rattle.rtl_flat.specs.Process.{action, body_of, watched}
use Rattle.net_model.specs.Cycle as cycle
use Rattle.check_chains.specs.declared.chain.Chain.{Chain}
use Rattle.check_chains.specs.declared.chain.Guard.{Guard}

abbrev pub guard_view : Guard → cycle.Guard
guard_view guard =
    record { item = watched guard.item.now; test = tree guard.test.now; branch = body_of (map action guard.branch.now) }

abbrev pub chain_view : Chain → cycle.Chain
chain_view chain =
    record { resets = map guard_view chain.resets.items; clock = watched chain.clock.now; part = body_of (map action chain.part.now) }
