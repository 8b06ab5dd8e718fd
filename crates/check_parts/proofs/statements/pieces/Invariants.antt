use Rattle.std.proofs.Common.{◌≡◌, ◌++◌, drop}
use Rattle.std.specs.List.{flat_map}
use Rattle.rtl_rule.specs.Parts.{own_pieces}
use Rattle.check_parts.specs.Kept.{actions, targets}
use Rattle.check_parts.proofs.statements.pieces.Given as goal

abbrev pub invariant-loop-one : goal.invariant-loop-one
invariant-loop-one l =
    targets l.found.items ++ flat_map own_pieces (actions (drop l.one-index l.one-items))
    ≡ flat_map own_pieces (actions l.one-items)
