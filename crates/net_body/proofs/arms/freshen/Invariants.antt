use Rattle.std.proofs.Common.{◌≡◌, ◌<◌, ℕ, length, false, None}
use Rattle.rtl_bits.specs.Bits.{is_one_at}
use Rattle.net_body.specs.Marks.{next_bit, view_at}
use Rattle.net_body.proofs.arms.freshen.Given as goal

abbrev pub invariant-loop-place : goal.invariant-loop-place
invariant-loop-place l =
    (view_at next_bit (λ j. None) l.marks ≡ view_at next_bit (λ j. None) l.initial.marks)
    × ((i : ℕ) → i < l.place → (k : ℕ) → view_at (λ mark. is_one_at mark.wrote) (λ j. false) l.marks i k ≡ false)
    × ((i : ℕ) → i < l.place → (k : ℕ) → view_at (λ mark. is_one_at mark.late) (λ j. false) l.marks i k ≡ false)
    × ((i : ℕ) → view_at (λ mark. length mark.next) 0 l.marks i ≡ view_at (λ mark. length mark.next) 0 l.initial.marks i)
