-- What a tally says of the bits that it counts.
use Rattle.std.proofs.Common.{ℕ, zero, suc, ◌≡◌, ◌∙◌, ◌≤◌, ◌<◌, ◌+◌, ◌^◌, arith, true, false, cond, List, [], ◌∷◌, length, replicate, refl, sym, ap}
use Rattle.rtl_bits.specs.declared.Bit.{Bit}
use Rattle.rtl_bits.specs.declared.Bit.TheVariants.{Zero, One, X, Z}
use Rattle.rtl_bits.specs.Bit.{resolve_bit}
use Rattle.rtl_bits.specs.Bits.{reduced, same_bit}
use Rattle.event_tally.specs.declared.tally.Tally.{Tally}
use Rattle.event_tally.specs.Tallies.{times, HasRoom, IsTally}

-- what so many drivers at 0, at 1 and at x give together
pub resolution : ℕ → ℕ → ℕ → Bit
resolution zero zero zero = Z
resolution zero (suc o) zero = One
resolution (suc z) zero zero = Zero
resolution (suc z) (suc o) zero = X
resolution z o (suc u) = X

zero_more : (z o u : ℕ) → resolve_bit Zero (resolution z o u) ≡ resolution (suc z) o u
unfolding resolution
zero_more zero zero zero = refl
zero_more zero (suc o) zero = refl
zero_more (suc z) zero zero = refl
zero_more (suc z) (suc o) zero = refl
zero_more zero zero (suc u) = refl
zero_more zero (suc o) (suc u) = refl
zero_more (suc z) zero (suc u) = refl
zero_more (suc z) (suc o) (suc u) = refl

one_more : (z o u : ℕ) → resolve_bit One (resolution z o u) ≡ resolution z (suc o) u
unfolding resolution
one_more zero zero zero = refl
one_more zero (suc o) zero = refl
one_more (suc z) zero zero = refl
one_more (suc z) (suc o) zero = refl
one_more zero zero (suc u) = refl
one_more zero (suc o) (suc u) = refl
one_more (suc z) zero (suc u) = refl
one_more (suc z) (suc o) (suc u) = refl

x_more : (z o u : ℕ) → resolve_bit X (resolution z o u) ≡ resolution z o (suc u)
unfolding resolution
x_more zero zero zero = refl
x_more zero (suc o) zero = refl
x_more (suc z) zero zero = refl
x_more (suc z) (suc o) zero = refl
x_more zero zero (suc u) = refl
x_more zero (suc o) (suc u) = refl
x_more (suc z) zero (suc u) = refl
x_more (suc z) (suc o) (suc u) = refl

-- the drivers of a bit give together what their numbers say
pub resolved_is : (bits : List Bit) → reduced resolve_bit Z bits ≡ resolution (times Zero bits) (times One bits) (times X bits)
unfolding resolution
resolved_is [] = refl
resolved_is (Zero ∷ bits) = ap (resolve_bit Zero) (resolved_is bits) ∙ zero_more (times Zero bits) (times One bits) (times X bits)
resolved_is (One ∷ bits) = ap (resolve_bit One) (resolved_is bits) ∙ one_more (times Zero bits) (times One bits) (times X bits)
resolved_is (X ∷ bits) = ap (resolve_bit X) (resolved_is bits) ∙ x_more (times Zero bits) (times One bits) (times X bits)
resolved_is (Z ∷ bits) = resolved_is bits

pub tally_bit : (bits : List Bit) (tally : Tally) → IsTally bits tally → reduced resolve_bit Z bits ≡ resolution tally.zeros tally.ones tally.unknowns
tally_bit bits tally is =
    resolved_is bits
    ∙ ap (λ z. resolution z (times One bits) (times X bits)) (sym is.zeros)
    ∙ ap (λ o. resolution tally.zeros o (times X bits)) (sym is.ones)
    ∙ ap (resolution tally.zeros tally.ones) (sym is.unknowns)

-- ---- what the numbers give

pub some_x : (z o u : ℕ) → 0 < u → resolution z o u ≡ X
unfolding resolution
some_x z o zero h = absurd (omega (arith, h))
some_x zero zero (suc u) h = refl
some_x zero (suc o) (suc u) h = refl
some_x (suc z) zero (suc u) h = refl
some_x (suc z) (suc o) (suc u) h = refl

pub apart_x : (z o u : ℕ) → 0 < z → 0 < o → resolution z o u ≡ X
unfolding resolution
apart_x zero o u h g = absurd (omega (arith, h))
apart_x (suc z) zero u h g = absurd (omega (arith, g))
apart_x (suc z) (suc o) zero h g = refl
apart_x (suc z) (suc o) (suc u) h g = refl

pub all_zero : (z : ℕ) → 0 < z → resolution z 0 0 ≡ Zero
unfolding resolution
all_zero zero h = absurd (omega (arith, h))
all_zero (suc z) h = refl

pub all_one : (o : ℕ) → 0 < o → resolution 0 o 0 ≡ One
unfolding resolution
all_one zero h = absurd (omega (arith, h))
all_one (suc o) h = refl

pub all_z : resolution 0 0 0 ≡ Z
unfolding resolution
all_z = refl

-- no more bits are a given one than there are
pub times-le-length : (bit : Bit) (bits : List Bit) → times bit bits ≤ length bits
times-le-length bit [] = omega arith
times-le-length bit (b ∷ bs) =
    let rest = times-le-length bit bs in
    elim (same_bit bit b) as (λ t. cond t (suc (times bit bs)) (times bit bs) ≤ length (b ∷ bs)) [ true ↦ omega (arith, rest) | false ↦ omega (arith, rest) ]

pub times_of_z : (bit : Bit) (n : ℕ) → same_bit bit Z ≡ false → times bit (replicate n Z) ≡ 0
times_of_z bit zero apart = refl
times_of_z bit (suc n) apart =
    ap (λ t. cond t (suc (times bit (replicate n Z))) (times bit (replicate n Z))) apart ∙ times_of_z bit n apart

-- ---- one bit more or less

pub room_of_others : (others : List Bit) (tally : Tally) → IsTally others tally → length others + 1 < 2 ^ 32 → HasRoom tally
room_of_others others tally is few =
    let z = times-le-length Zero others in
    let o = times-le-length One others in
    let u = times-le-length X others in
    let zeros = is.zeros in
    let ones = is.ones in
    let unknowns = is.unknowns in
    record { zeros = omega (arith, z, zeros, few); ones = omega (arith, o, ones, few); unknowns = omega (arith, u, unknowns, few) }

-- a tally counts bits only by their numbers
pub tally_same : (xs ys : List Bit) (tally : Tally) → ((bit : Bit) → times bit xs ≡ times bit ys) → IsTally xs tally → IsTally ys tally
tally_same xs ys tally same is =
    record { zeros = is.zeros ∙ same Zero; ones = is.ones ∙ same One; unknowns = is.unknowns ∙ same X }
