use Rattle.std.proofs.Common.{◌≡◌, ◌<◌, ℕ, length, false, None}
use Rattle.rtl_bits.specs.Bits.{is_one_at}
use Rattle.net_body.specs.Marks.{next_bit, view_at}
use Rattle.net_body.proofs.arms.restore_marks.Given as goal

abbrev pub invariant-loop-place : goal.invariant-loop-place
invariant-loop-place l =
    ((i : ℕ) → i < l.place → view_at next_bit (λ j. None) l.marks i ≡ view_at (λ aside. next_bit aside.mark) (λ j. None) l.asides i)
    × ((i : ℕ) → i < l.place → view_at (λ mark. is_one_at mark.wrote) (λ j. false) l.marks i ≡ (λ k. false))
    × ((i : ℕ) → i < l.place → view_at (λ mark. is_one_at mark.late) (λ j. false) l.marks i ≡ (λ k. false))
    × ((i : ℕ) → i < l.place → view_at (λ mark. length mark.next) 0 l.marks i ≡ view_at (λ aside. length aside.mark.next) 0 l.asides i)
