use Rattle.std.proofs.Common.{◌≡◌, ℕ, take}
use Rattle.check_gates.specs.Admitted.{gates_of}
use Rattle.check_clocks.specs.Uses.{places_of, ungated}
use Rattle.check_clocks.proofs.uses.ungated.Given as goal

abbrev pub invariant-loop-one : goal.invariant-loop-one
invariant-loop-one l =
    (s : ℕ) → places_of s l.others.items ≡ ungated (gates_of l.gates) l.p.0 s (take l.one-index l.uses)
