use Rattle.std.proofs.Common.{◌≡◌, ◌<◌, ℕ, []}
use Rattle.rtl_flat.specs.Value.{store}
use Rattle.net_body.specs.Marks.{view_at}
use Rattle.net_body.proofs.arms.restore_numbers.Given as goal

abbrev pub invariant-loop-place : goal.invariant-loop-place
invariant-loop-place l =
    (i : ℕ) → i < l.place → store l.numbers i ≡ view_at (λ aside. aside.number) [] l.asides i
