use Rattle.std.proofs.Common.{◌≡◌, reverse, ◌++◌, ◌≤◌, length}
use Rattle.text_survey.specs.Depths as spec
use Rattle.text_survey.proofs.depths.merge.Given as goal

abbrev pub invariant-loop-place : goal.invariant-loop-place
invariant-loop-place l =
    (l.both.items ++ spec.merged (reverse l.deeper.items) (reverse l.other.items) ≡ spec.merged (reverse l.fn.a.items) (reverse l.fn.b.items))
    × (length l.other.items ≤ length l.deeper.items)

abbrev pub decreases-loop-place : goal.decreases-loop-place
decreases-loop-place l = length l.other.items

abbrev pub invariant-loop-place-2 : goal.invariant-loop-place-2
invariant-loop-place-2 l = l.both.items ++ reverse l.deeper.items ≡ spec.merged (reverse l.fn.a.items) (reverse l.fn.b.items)

abbrev pub decreases-loop-place-2 : goal.decreases-loop-place-2
decreases-loop-place-2 l = length l.both.items
