use Rattle.std.proofs.Common.{◌≡◌, None}
use Rattle.rtl_prep.specs.Prepares as spec
use Rattle.rtl_prep.proofs.whole.outermost.Given as goal

abbrev pub invariant-loop-chain : goal.invariant-loop-chain
invariant-loop-chain l =
    (goal.iterator-loop-chain).can_next l.chain-iterator × (goal.iterator-loop-chain).is_finite l.chain-iterator
    × (spec.outermost l.at l.chain-iterator ≡ spec.outermost None l.chains)
