-- Reductions against what the code computes.
use Rattle.std.proofs.Common.{◌≡◌, ℕ, ◌+◌, ◌*◌, ◌%◌, Bool, true, false, cond, ◌||◌, List, [], ◌∷◌, map, refl, ap, ◌∙◌, sym, arith}
use Rattle.std.specs.Prelude.{◌==◌}
use Rattle.std.specs.List.{list_any}
use Rattle.std.proofs.lemmas.Nat.{ones_cat}
use Rattle.std.proofs.lemmas.Bool.Decides.{nat_tests}
use lib.Count.{ones}
use Rattle.rtl_bits.specs.declared.Bit.{Bit}
use Rattle.rtl_bits.specs.declared.Bit.TheVariants.{Zero, One, X, Z}
use Rattle.rtl_bits.specs.Bit.{known_bit, is_one, is_unknown, and_bit, or_bit, xor_bit, not_bit}
use Rattle.rtl_bits.specs.Bits.{number, has_unknown, reduced, truth_bit}
use Rattle.rtl_bits.specs.Digits.{differ}

abbrev truth_of : Bool → Bool → Bit
truth_of p q = cond p One (cond q X Zero)

or_step : (b : Bit) (p q : Bool) → or_bit b (truth_of p q) ≡ truth_of (is_one b || p) (is_unknown b || q)
or_step Zero true true = refl
or_step Zero true false = refl
or_step Zero false true = refl
or_step Zero false false = refl
or_step One true true = refl
or_step One true false = refl
or_step One false true = refl
or_step One false false = refl
or_step X true true = refl
or_step X true false = refl
or_step X false true = refl
or_step X false false = refl
or_step Z true true = refl
or_step Z true false = refl
or_step Z false true = refl
or_step Z false false = refl

pub reduced-or : (a : List Bit) → reduced or_bit Zero a ≡ truth_bit a
reduced-or [] = refl
reduced-or (b ∷ a) = ap (or_bit b) (reduced-or a) ∙ or_step b (list_any is_one a) (has_unknown a)

and_step : (b r : Bit) → and_bit b (not_bit r) ≡ not_bit (or_bit (not_bit b) r)
and_step Zero Zero = refl
and_step Zero One = refl
and_step Zero X = refl
and_step Zero Z = refl
and_step One Zero = refl
and_step One One = refl
and_step One X = refl
and_step One Z = refl
and_step X Zero = refl
and_step X One = refl
and_step X X = refl
and_step X Z = refl
and_step Z Zero = refl
and_step Z One = refl
and_step Z X = refl
and_step Z Z = refl

pub reduced-and : (a : List Bit) → reduced and_bit One a ≡ not_bit (reduced or_bit Zero (map not_bit a))
reduced-and [] = refl
reduced-and (b ∷ a) = ap (and_bit b) (reduced-and a) ∙ and_step b (reduced or_bit Zero (map not_bit a))

abbrev is_odd : ℕ → Bool
is_odd n = n % 2 == 1

-- x where it isn't known, else the parity
abbrev parity_of : Bool → Bool → Bit
parity_of u p = cond u X (known_bit p)

xor_step : (b : Bit) (u p : Bool) → xor_bit b (parity_of u p) ≡ parity_of (is_unknown b || u) (differ (is_one b) p)
xor_step Zero true true = refl
xor_step Zero true false = refl
xor_step Zero false true = refl
xor_step Zero false false = refl
xor_step One true true = refl
xor_step One true false = refl
xor_step One false true = refl
xor_step One false false = refl
xor_step X true true = refl
xor_step X true false = refl
xor_step X false true = refl
xor_step X false false = refl
xor_step Z true true = refl
xor_step Z true false = refl
xor_step Z false true = refl
xor_step Z false false = refl

odd_step : (b : Bool) (n : ℕ) → is_odd (n + cond b 1 0) ≡ differ b (is_odd n)
odd_step true n = grind (arith, nat_tests)
odd_step false n = grind (arith, nat_tests)

ones_step : (b : Bool) (n : ℕ) → ones (n * 2 + cond b 1 0) ≡ ones n + cond b 1 0
unfolding ones
ones_step true n = ones_cat 1 n 1 (omega arith)
ones_step false n = ones_cat 1 n 0 (omega arith)

pub reduced-xor : (a : List Bit) → reduced xor_bit Zero a ≡ cond (has_unknown a) X (known_bit (ones (number a) % 2 == 1))
unfolding ones
reduced-xor [] = refl
reduced-xor (b ∷ a) =
    ap (xor_bit b) (reduced-xor a) ∙ xor_step b (has_unknown a) (is_odd (ones (number a)))
    ∙ ap (λ p. parity_of (is_unknown b || has_unknown a) p)
    (sym (odd_step (is_one b) (ones (number a))) ∙ ap is_odd (sym (ones_step (is_one b) (number a))))

pub ruleset reductions = (reduced-or, reduced-and, reduced-xor)
