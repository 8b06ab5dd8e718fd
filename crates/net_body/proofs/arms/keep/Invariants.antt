use Rattle.std.proofs.Common.{◌≡◌, ◌<◌, ℕ, [], length}
use Rattle.net_body.specs.Marks.{maps, view_at}
use Rattle.net_body.proofs.Siding.{EachBelow, IsAt}
use Rattle.net_body.proofs.arms.keep.Given as goal

abbrev pub invariant-loop-place : goal.invariant-loop-place
invariant-loop-place l =
    EachBelow (IsAt (maps l.numbers l.marks) []) l.place l.asides
    × ((i : ℕ) → i < l.place → view_at (λ aside. length aside.mark.next) 0 l.asides i ≡ view_at (λ mark. length mark.next) 0 l.marks i)
