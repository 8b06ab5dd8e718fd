use Rattle.std.proofs.Common.{◌≡◌, ℕ, drop}
use Rattle.std.specs.Ordering.{nat_cmp}
use Rattle.std.specs.BTreeMap.{get}
use Rattle.check_gates.specs.check_chains.check_found.Marked.{joined, least_of}
use Rattle.check_clocks.specs.Uses.{places_of}
use Rattle.check_clocks.proofs.uses.firsts_of.Given as goal

abbrev pub invariant-loop-one : goal.invariant-loop-one
invariant-loop-one l =
    (s : ℕ) → joined (get nat_cmp l.firsts.spots s) (least_of (places_of s (drop l.one-index l.uses))) ≡ least_of (places_of s l.uses)
