-- Sizes and values at work.
use Rattle.std.proofs.Common.{◌≡◌, ℕ, Bool, true, false, List, [], ◌∷◌, replicate, refl}
use Rattle.std.specs.Prelude.{pos, negsuc}
use Rattle.rtl_bits.specs.declared.Bit.{Bit}
use Rattle.rtl_bits.specs.declared.Bit.TheVariants.{Zero, One, X, Z}
use Rattle.rtl_bits.specs.declared.Edge.TheVariants.{No, Pos}
use Rattle.rtl_bits.specs.Bits.{bits_of, is_one_at}
use Rattle.text_ground.specs.declared.text.Spot.{Spot}
use Rattle.rtl_flat.specs.declared.signal.Signal.{Signal}
use Rattle.rtl_flat.specs.declared.signal.Kind.TheVariants.{Net}
use Rattle.rtl_flat.specs.declared.expr.Join.TheVariants.{Add}
use Rattle.rtl_flat.specs.declared.expr.Compare.TheVariants.{Equal, Less}
use Rattle.rtl_flat.specs.declared.expr.Shift.TheVariants.{ArithmeticRight}
use Rattle.rtl_flat.specs.Sizing.{Source, Number, Whole, BitAt, Joined, Compared, Shifted, Chosen, Concat, Empty, Beside, Recast, alone, assigned, in_case}
use Rattle.rtl_flat.specs.Process as piece
use Rattle.rtl_flat.specs.Value.{value}
use Rattle.rtl_flat.specs.WellFormed.{has_edge, target_width}

abbrev here : Spot
here = record { file = 0; at = 0 }

abbrev net : ℕ → Bool → Signal
net width signed =
    record { path = []; width = width; signed = signed; low = 0; kind = Net; top_output = false; instance = 0; spot = here }

-- a literal that is z everywhere is so in 64 bits too
z_in_64_bits : (v : ℕ → List Bit) → value v (assigned [] 64 (Number here (replicate 32 Z) false false)) ≡ replicate 64 Z
z_in_64_bits v = refl

-- one that is sized is extended with 0
sized_z : (v : ℕ → List Bit) → value v (assigned [] 4 (Number here (Z ∷ []) false true)) ≡ Z ∷ Zero ∷ Zero ∷ Zero ∷ []
sized_z v = refl

-- the sum of two bytes keeps its carry in 9 bits, and loses it in a concatenation
abbrev bytes : List Signal
bytes = net 8 false ∷ net 8 false ∷ []

abbrev sum : Source
sum = Joined here Add (Whole here 0) (Whole here 1)

in_9_bits : value (λ i. bits_of 8 255) (assigned bytes 9 sum) ≡ bits_of 9 510
unfolding is_one_at
in_9_bits = refl

in_braces : value (λ i. bits_of 8 255) (assigned bytes 9 (Concat here (Beside sum Empty))) ≡ bits_of 9 254
unfolding is_one_at
in_braces = refl

-- a signed signal is extended by its sign, and shifted with it unless it is made unsigned
abbrev nibble : List Signal
nibble = net 4 true ∷ []

abbrev one : Source
one = Number here (bits_of 32 1) true false

extended_by_sign : value (λ i. bits_of 4 8) (assigned nibble 8 (Whole here 0)) ≡ bits_of 8 248
unfolding is_one_at
extended_by_sign = refl

shifted_by_sign : value (λ i. bits_of 4 8) (assigned nibble 4 (Shifted here ArithmeticRight (Whole here 0) one)) ≡ bits_of 4 12
unfolding is_one_at
shifted_by_sign = refl

shifted_unsigned : value (λ i. bits_of 4 8) (assigned nibble 4 (Shifted here ArithmeticRight (Recast here false (Whole here 0)) one)) ≡ bits_of 4 4
unfolding is_one_at
shifted_unsigned = refl

-- the target's width is no operand of a comparison, whose operands are sized with each other
compared_in_9_bits : value (λ i. bits_of 8 255) (assigned bytes 1 (Compared here Equal sum (Number here (bits_of 9 510) false true))) ≡ One ∷ []
unfolding is_one_at
compared_in_9_bits = refl

-- one unsigned operand makes a comparison unsigned
minus_one_is_large : value (λ i. bits_of 4 15) (alone nibble (Compared here Less (Whole here 0) (Number here (bits_of 4 1) false true))) ≡ Zero ∷ []
unfolding is_one_at
minus_one_is_large = refl

minus_one_is_small : value (λ i. bits_of 4 15) (alone nibble (Compared here Less (Whole here 0) (Number here (bits_of 4 1) true true))) ≡ One ∷ []
unfolding is_one_at
minus_one_is_small = refl

-- an unknown condition leaves what both arms have
merged : value (λ i. X ∷ []) (alone (net 1 false ∷ []) (Chosen here (Whole here 0) (Number here (bits_of 2 1) false true) (Number here (bits_of 2 3) false true))) ≡ One ∷ X ∷ []
unfolding is_one_at
merged = refl

-- a select below the range of its signal reads x
below_range : value (λ i. bits_of 8 255) (alone bytes (BitAt here 0 (negsuc 0))) ≡ X ∷ []
below_range = refl

-- a selector adds in the bits of the widest label
selector : value (λ i. bits_of 2 3) (in_case (net 2 false ∷ net 2 false ∷ []) (sum ∷ Number here (bits_of 3 6) false true ∷ []) sum) ≡ bits_of 3 6
unfolding is_one_at
selector = refl

-- of a list's items, `posedge clk` has an edge and `a` has none
rise : has_edge Pos ≡ true
rise = refl

change : has_edge No ≡ false
change = refl

-- {a, b[3]} = .. has nine bits, where a has eight
nine_bits : target_width bytes (record { signal = 0; selection = piece.Whole; spot = here } ∷ record { signal = 1; selection = piece.BitAt 0 (pos 3); spot = here } ∷ []) ≡ 9
nine_bits = refl
