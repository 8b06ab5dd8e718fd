use Rattle.std.proofs.Common.{◌≡◌, ◌+◌, ◌-◌, ◌≤◌, List, length, drop}
use Rattle.rtl_rule.specs.declared.finding.Finding.{Finding}
use Rattle.rtl_rule.specs.Order.{ranked}
use Rattle.check_found.proofs.Merged.{IsMerging}
use Rattle.check_found.proofs.order.merged.Given as goal

abbrev pub invariant-loop-i : goal.invariant-loop-i
invariant-loop-i l =
    (l.i ≤ length l.one) × (l.j ≤ length l.other) × ((a b : List Finding) → l.one ≡ ranked a → l.other ≡ ranked b → IsMerging l.all.items (drop l.i l.one) (drop l.j l.other) l.one l.other)

abbrev pub decreases-loop-i : goal.decreases-loop-i
decreases-loop-i l = length l.one + length l.other - (l.i + l.j)
