use Rattle.std.proofs.Common.{◌≡◌, ◌+◌, if◌then◌else◌, map, nat_le, drop}
use Rattle.text_grammar.specs.GrammarStmt.{defaults}
use Rattle.rtl_tree.specs.TreeStmt.{branch, branch_row}
use Rattle.text_build.proofs.proper.has_one_default.Given as goal

abbrev pub invariant-loop-item : goal.invariant-loop-item
invariant-loop-item l =
    nat_le ((if l.found then 1 else 0) + defaults (branch_row (map branch (drop l.item-index l.items)))) 1
    ≡ nat_le (defaults (branch_row (map branch l.items))) 1
