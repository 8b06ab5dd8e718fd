use Rattle.std.proofs.Common.{◌≡◌, ◌+◌, ◌*◌, ◌++◌, map, drop}
use Rattle.rtl_flat.specs.Process.{action, body_of}
use Rattle.rtl_flat.specs.WellFormed.{statements}
use Rattle.rtl_rule.specs.Parts.{all_branches, all_of}
use Rattle.rtl_scan.specs.Bodies.{branches_of}
use Rattle.rtl_scan.specs.Loads.{load, other_load, items_load}
use Rattle.check_parts.specs.Kept.{actions}
use Rattle.check_parts.proofs.statements.+body.Given as goal

abbrev pub invariant-push_body-loop-one : goal.invariant-push_body-loop-one
invariant-push_body-loop-one l =
    actions l.found.items ++ all_of (body_of (map action (drop l.one-index l.body)))
    ≡ actions l.fn.found.items ++ all_of (body_of (map action l.body))

abbrev pub invariant-push_branches-loop-item : goal.invariant-push_branches-loop-item
invariant-push_branches-loop-item l =
    actions l.found.items ++ all_branches (branches_of (drop l.item-index l.items))
    ≡ actions l.fn.found.items ++ all_branches (branches_of l.items)

abbrev pub decreases-push_body : goal.decreases-push_body
decreases-push_body l = 4 * load l.body.now + 1

abbrev pub decreases-push_statement : goal.decreases-push_statement
decreases-push_statement l = 4 * statements (action l.one.now)

abbrev pub decreases-push_branches : goal.decreases-push_branches
decreases-push_branches l = 4 * items_load l.items.now + 3

abbrev pub decreases-push_other : goal.decreases-push_other
decreases-push_other l = 4 * other_load l.body.now + 3
