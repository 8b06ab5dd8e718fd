-- The definitions at work on small texts.
use Rattle.std.proofs.Common.{◌≡◌, refl, ℕ, Bool, true, false, None, [], ◌∷◌}
use Rattle.rtl_bits.specs.declared.Edge.TheVariants.{No, Pos}
use Rattle.rtl_flat.specs.declared.expr.Shift.TheVariants as shift
use Rattle.text_ground.specs.declared.text.Spot.{Spot}
use Rattle.rtl_flat.specs.declared.signal.Kind.TheVariants.{TopInput}
use Rattle.rtl_flat.specs.declared.signal.Signal.{Signal}
use Rattle.rtl_flat.specs.Expression as sized
use Rattle.rtl_flat.specs.Flats.{Flat}
use Rattle.rtl_flat.specs.Process.{Piece, Watched, Doing}
use Rattle.rtl_flat.specs.Process as part
use Rattle.rtl_rule.specs.declared.finding.Finding.{Finding}
use Rattle.rtl_rule.specs.declared.rule.Rule.TheVariants as rule
use Rattle.rtl_rule.specs.Parts.{number}
use Rattle.check_readings.specs.Readings.{amounts, is_list_index, joined, joined_parts, once, whole_signal}

abbrev spot_at : ℕ → Spot
spot_at at = record { file = 0; at = at }

abbrev signal_of : ℕ → Bool → Signal
signal_of width signed =
    record { path = []; width = width; signed = signed; low = 0; kind = TopInput; top_output = false; instance = 0; spot = spot_at 0 }

-- `v` of two bits with a sign, `u` of two without, and `f` of eight
abbrev ports : Flat
ports =
    record { signals = signal_of 2 true ∷ signal_of 2 false ∷ signal_of 8 false ∷ []; tasks = [] }

abbrev read : ℕ → sized.Tree
read signal = sized.Sized 8 false (spot_at 0) (sized.Whole signal)

-- as many low bits of a signal
abbrev low_bits : ℕ → ℕ → sized.Tree
low_bits signal width = sized.Sized width false (spot_at 20) (sized.Part signal 0 width)

whole : whole_signal ports (low_bits 0 2) ≡ number 0
whole = refl

a_bit_short : whole_signal ports (low_bits 0 1) ≡ None
a_bit_short = refl

without_sign : whole_signal ports (low_bits 1 2) ≡ None
without_sign = refl

-- no part-select
all_of_it : whole_signal ports (sized.Sized 2 true (spot_at 0) (sized.Whole 0)) ≡ None
all_of_it = refl

-- `f >> f[v[1:0]]`: the amount, and its index
abbrev picked : sized.Tree
picked = sized.Sized 1 false (spot_at 15) (sized.BitBy 2 0 false (low_bits 0 2))

abbrev shifted : Doing
shifted =
    part.Assign [] (sized.Sized 8 false (spot_at 10) (sized.Shifted shift.Right false (read 2) picked))

two_amounts : amounts shifted ≡ picked ∷ low_bits 0 2 ∷ []
two_amounts = refl

abbrev piece : ℕ → Piece
piece signal =
    record { signal = signal; selection = part.BitBy 0 (read 1); spot = spot_at signal }

-- `{f[u], v[u]}`, and `f[u]`
two_parts : joined (part.Assign (piece 2 ∷ piece 0 ∷ []) (read 2)) ≡ piece 2 ∷ piece 0 ∷ []
two_parts = refl

one_part : joined_parts (piece 2 ∷ []) ≡ []
one_part = refl

-- `f[u]`, and `posedge f[u]`
level : is_list_index (record { signal = 2; selection = part.BitBy 0 (read 1); edge = No; spot = spot_at 0 }) ≡ true
level = refl

edge : is_list_index (record { signal = 2; selection = part.BitBy 0 (read 1); edge = Pos; spot = spot_at 0 }) ≡ false
edge = refl

abbrev finding : ℕ → Finding
finding at =
    record { rule = rule.TargetIndex; signal = number 2; instance = 0; spot = spot_at at }

-- the second and the third turn of a loop find the same
each_once : once (finding 9 ∷ finding 4 ∷ finding 9 ∷ []) ≡ finding 4 ∷ finding 9 ∷ []
each_once = refl
