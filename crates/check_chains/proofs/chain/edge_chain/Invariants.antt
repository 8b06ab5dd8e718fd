use Rattle.std.proofs.Common.{◌≡◌, ◌-◌, map, length, vec_len}
use Rattle.rtl_flat.specs.Process.{action, body_of, watched}
use Rattle.rtl_flat.specs.Flats.{flat}
use Rattle.check_chains.specs.Chains.{chain_in}
use Rattle.check_chains.specs.Inner.{events_view, prefixed}
use Rattle.check_chains.specs.Views.{guard_view}
use Rattle.check_chains.proofs.chain.edge_chain.Given as goal

abbrev pub invariant-loop-left : goal.invariant-loop-left
invariant-loop-left l =
    prefixed (map guard_view l.resets.items) (chain_in (flat l.design) (vec_len l.left - 1) (events_view l.left.items) (body_of (map action l.rest)))
    ≡ chain_in (flat l.design) (length (map watched l.events) - 1) (map watched l.events) (body_of (map action l.body))

abbrev pub decreases-loop-left : goal.decreases-loop-left
decreases-loop-left l = vec_len l.left
