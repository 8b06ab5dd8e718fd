use Rattle.std.proofs.Common.{◌≡◌, ◌<◌, ℕ, List, length, false, None}
use Rattle.rtl_bits.specs.Bits.{is_one_at}
use Rattle.net_model.specs.Block.{Maps, joined_arms}
use Rattle.net_body.specs.Asides.{AreAside, IsBounded}
use Rattle.net_body.specs.Marks.{next_bit, view_at}
use Rattle.net_body.proofs.arms.join_marks.Given as goal

abbrev pub invariant-loop-place : goal.invariant-loop-place
invariant-loop-place l =
    ((m : Maps) (arms : List Maps) → AreAside m arms l.asides → IsBounded m arms → (i : ℕ) → i < l.place → view_at next_bit (λ j. None) l.marks i ≡ (joined_arms m arms).next i)
    × ((m : Maps) (arms : List Maps) → AreAside m arms l.asides → (i : ℕ) → i < l.place → view_at (λ mark. is_one_at mark.wrote) (λ j. false) l.marks i ≡ (joined_arms m arms).wrote i)
    × ((m : Maps) (arms : List Maps) → AreAside m arms l.asides → (i : ℕ) → i < l.place → view_at (λ mark. is_one_at mark.late) (λ j. false) l.marks i ≡ (joined_arms m arms).late i)
    × ((i : ℕ) → i < l.place → view_at (λ mark. length mark.next) 0 l.marks i ≡ view_at (λ aside. length aside.mark.next) 0 l.asides i)
