use Rattle.std.proofs.Common.{◌≡◌, ℕ, length, take, false, None}
use Rattle.rtl_bits.specs.Bits.{is_one_at}
use Rattle.net_body.specs.Marks.{HaveMarks, next_bit, view_at}
use Rattle.net_body.proofs.maps.clear_marks.Given as goal

abbrev pub invariant-loop-number : goal.invariant-loop-number
invariant-loop-number l =
    (length l.marks.items ≡ l.number-index)
    × ((i k : ℕ) → view_at next_bit (λ j. None) l.marks.items i k ≡ None)
    × ((i k : ℕ) → view_at (λ mark. is_one_at mark.wrote) (λ j. false) l.marks.items i k ≡ false)
    × ((i k : ℕ) → view_at (λ mark. is_one_at mark.late) (λ j. false) l.marks.items i k ≡ false)
    × HaveMarks (take l.number-index l.numbers) l.marks.items
