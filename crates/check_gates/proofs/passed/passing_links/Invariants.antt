use Rattle.rtl_flat.specs.Flats.{flat}
use Rattle.check_gates.specs.Passed.{ArePassing}
use Rattle.check_gates.proofs.passed.passing_links.Given as goal

abbrev pub invariant-loop-number : goal.invariant-loop-number
invariant-loop-number l = ArePassing (flat l.scans.design.now) l.number l.links.items
