use Rattle.std.proofs.Common.{◌≡◌, ◌++◌, drop}
use Rattle.std.specs.List.{flat_map}
use Rattle.rtl_rule.specs.Parts.{own_labels}
use Rattle.check_parts.specs.Kept.{actions, expressions}
use Rattle.check_parts.proofs.expressions.labels.Given as goal

abbrev pub invariant-loop-one : goal.invariant-loop-one
invariant-loop-one l =
    expressions l.found.items ++ flat_map own_labels (actions (drop l.one-index l.one-items))
    ≡ flat_map own_labels (actions l.one-items)
