use Rattle.std.proofs.Common.{◌≡◌, drop, length}
use Rattle.desk_memo.specs.Rulings.{are_told}
use Rattle.desk_memo.specs.Shown.{all_used, lists_in}
use Rattle.desk_memo.proofs.current.are_told.Given as goal

abbrev pub invariant-loop-place : goal.invariant-loop-place
invariant-loop-place l = are_told l.files l.conditions (all_used (drop l.place l.used)) (lists_in (drop l.place l.elsewhere)) ≡ are_told l.files l.conditions (all_used l.used) (lists_in l.elsewhere)
