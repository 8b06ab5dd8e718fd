use Rattle.std.proofs.Common.{◌≡◌, drop}
use Rattle.check_parts.specs.rtl_scan.Bodies.{branches_of}
use Rattle.check_case.specs.Cases.{all_disjoint}
use Rattle.check_case.proofs.Apart.{rest_disjoint}
use Rattle.check_case.proofs.disjoint.are_disjoint.Given as goal

abbrev pub invariant-loop-item : goal.invariant-loop-item
invariant-loop-item l =
    rest_disjoint l.seen (branches_of (drop l.item-index l.items)) ≡ all_disjoint (branches_of l.items)
