use Rattle.std.proofs.Common.{◌≡◌, ◌++◌, drop}
use Rattle.rtl_flat.specs.Flows.{labels_of}
use Rattle.rtl_scan.specs.Bodies.{branches_of}
use Rattle.check_parts.specs.Kept.{expressions}
use Rattle.check_parts.proofs.expressions.push_labels.Given as goal

abbrev pub invariant-loop-item : goal.invariant-loop-item
invariant-loop-item l =
    expressions l.found.items ++ labels_of (branches_of (drop l.item-index l.items))
    ≡ expressions l.fn.found.items ++ labels_of (branches_of l.items)
