use Rattle.std.proofs.Common.{◌≡◌, true, take}
use Rattle.check_chains.specs.rtl_scan.Sets.{has}
use Rattle.check_gates.proofs.Fitting.{AllBits}
use Rattle.check_gates.proofs.fit.are_apart.Given as goal

abbrev pub invariant-loop-row : goal.invariant-loop-row
invariant-loop-row l =
    AllBits (take l.row-index l.rows) (λ s k. has l.bits.masks s k ≡ true → ⊥)
