use Rattle.std.proofs.Common.{take}
use Rattle.std.specs.List.Sorted.{IsNonDecreasingBy}
use Rattle.text_build.proofs.run.run_len.Given as goal

abbrev pub invariant-loop-index : goal.invariant-loop-index
invariant-loop-index l = IsNonDecreasingBy (λ region. region.at) (take l.index l.regions)
