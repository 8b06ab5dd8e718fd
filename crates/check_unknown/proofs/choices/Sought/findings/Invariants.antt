use Rattle.std.proofs.Common.{◌≡◌, map}
use Rattle.rtl_flat.specs.Process.{task}
use Rattle.rtl_flat.specs.Flats.{flat}
use Rattle.check_unknown.specs.Doubts.{choices_found, choices_of, rule_of}
use Rattle.check_unknown.specs.Lists.{below}
use Rattle.check_unknown.proofs.choices.Sought.findings.Given as goal

abbrev pub invariant-loop-p : goal.invariant-loop-p
invariant-loop-p l =
    l.found.items ≡ below (λ p one. choices_found (rule_of l.self) (choices_of l.self) (flat l.design) l.marks one) 0 (map task l.design.processes.items) l.p
