use Rattle.std.proofs.Common.{◌≡◌, map, take}
use Rattle.rtl_flat.specs.Process.{watched}
use Rattle.check_chains.specs.Inner.{events_view}
use Rattle.check_chains.proofs.chain.all_of.Given as goal

abbrev pub invariant-loop-item : goal.invariant-loop-item
invariant-loop-item l = events_view l.all.items ≡ map watched (take l.item-index l.events)
