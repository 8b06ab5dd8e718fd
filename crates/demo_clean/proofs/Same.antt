-- A settled state shows the numbers, and so no difference.
use Rattle.std.proofs.Common.{◌≡◌, ◌∙◌, ◌&&◌, ℕ, Bool, true, List, [], ◌∷◌, refl, sym, ap, arith}
use Rattle.std.proofs.lemmas.List.{ext_get_or}
use Rattle.rtl_bits.specs.declared.Bit.{Bit}
use Rattle.rtl_bits.specs.declared.Bit.TheVariants.{Zero, One, X, Z}
use Rattle.rtl_bits.specs.Bits.{same_bit}
use Rattle.event_model.specs.Queue.{State}
use Rattle.rtl_flat.specs.Flats.{Flat}
use Rattle.event_model.specs.Writes.{Values}
use Rattle.net_model.specs.declared.fill.Fill.{Fill}
use Rattle.net_model.specs.Cycle.{Chain}
use Rattle.net_model.specs.Solution.{IsLasting}
use Rattle.demo_told.specs.Same.{are_same}
use Rattle.demo_clean.proofs.Begins.{IsShowing}

bit_self : (b : Bit) → same_bit b b ≡ true
bit_self Zero = refl
bit_self One = refl
bit_self X = refl
bit_self Z = refl

same_self : (bits : List Bit) → are_same bits bits ≡ true
same_self [] = refl
same_self (b ∷ bits) = ap (λ (test : Bool). test && are_same bits bits) (bit_self b) ∙ same_self bits

pub shows_same : (d : Flat) (chains : ℕ → Chain) (f : Fill) (s : State) (n : Values) → IsShowing d chains f s n → (i : ℕ) → IsLasting d i → are_same (s.value i) (n i) ≡ true
shows_same d chains f s n showing i lasts =
    ap (λ bits. are_same bits (n i)) values ∙ same_self (n i)
  where
    values : s.value i ≡ n i
    values =
        ext_get_or X (s.value i) (n i) (showing.settled.wide i ∙ sym (showing.are.wide i)) (λ k below.
        let size = showing.settled.wide i in
        (showing.settled.shows i k (omega (arith, below, size)) lasts).same ∙ showing.same i k lasts)
