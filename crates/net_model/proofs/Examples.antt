-- What synthesis makes of small bodies, whatever simulation does with them.
use Rattle.std.proofs.Common.{◌≡◌, ℕ, zero, suc, Bool, true, false, List, [], ◌∷◌, pos, refl}
use Rattle.rtl_bits.specs.declared.Bit.{Bit}
use Rattle.rtl_bits.specs.declared.Bit.TheVariants.{Zero, One, X, Z}
use Rattle.rtl_bits.specs.declared.Edge.{Edge}
use Rattle.rtl_bits.specs.declared.Edge.TheVariants as edge
use Rattle.text_ground.specs.declared.text.Spot.{Spot}
use Rattle.rtl_flat.specs.declared.act.CaseKind.{CaseKind}
use Rattle.rtl_flat.specs.declared.act.CaseKind.TheVariants as kind
use Rattle.rtl_flat.specs.declared.expr.Compare.TheVariants as compare
use Rattle.rtl_flat.specs.declared.expr.Fold.TheVariants as fold
use Rattle.rtl_flat.specs.declared.expr.Join.TheVariants as join
use Rattle.rtl_flat.specs.Expression.{Tree, Sized, Literal, Compared, Folded, Joined}
use Rattle.rtl_flat.specs.Expression as tree
use Rattle.rtl_flat.specs.Process.{Piece, Watched, Action, Set, If, Case, Actions, Done, Then, Otherwise, Without, With, Branches, NoBranch, Branch}
use Rattle.rtl_flat.specs.Process as part
use Rattle.event_model.specs.Writes.{Values}
use Rattle.net_model.specs.declared.fill.Fill.TheVariants as fill
use Rattle.net_model.specs.Block.{block_bit}
use Rattle.net_model.specs.Cycle.{Chain, IsChained, register_bit}
use Rattle.net_model.specs.Numbers.{digits}

spot : Spot
spot = record { file = 0; at = 0 }

-- signals 0 and 3 have two bits, all others one
abbrev ws : ℕ → ℕ
ws zero = 2
ws (suc zero) = 1
ws (suc (suc zero)) = 1
ws (suc (suc (suc zero))) = 2
ws (suc (suc (suc (suc i)))) = 1

abbrev whole : ℕ → Tree
whole i = Sized (ws i) false spot (tree.Whole i)

abbrev literal : ℕ → List Bit → Tree
literal width bits = Sized width false spot (Literal bits)

abbrev piece : ℕ → Piece
piece i = record { signal = i; selection = part.Whole; spot = spot }

abbrev set : ℕ → Tree → Bool → Actions
set i e delayed = Then (Set (piece i ∷ []) e delayed spot) Done

-- the numbers of signals 0 to 4, of which the last holds what was before
abbrev numbers : List Bit → Bit → Bit → List Bit → Bit → Values
numbers s a b y q zero = s
numbers s a b y q (suc zero) = a ∷ []
numbers s a b y q (suc (suc zero)) = b ∷ []
numbers s a b y q (suc (suc (suc zero))) = y
numbers s a b y q (suc (suc (suc (suc i)))) = q ∷ []

-- ---- a case that promises an item: `(* full_case *) case (s) 2'b00: q = a; 2'b01: q = b; endcase`

abbrev promised : Actions
promised =
    Then (Case kind.Plain true false (whole 0) (Branch (literal 2 (Zero ∷ Zero ∷ []) ∷ []) (set 4 (whole 1) false) (Branch (literal 2 (One ∷ Zero ∷ []) ∷ []) (set 4 (whole 2) false) NoBranch)) Without spot) Done

-- where no item matches it has the fill, whatever was held
promise_at_zero : block_bit ws fill.Zero (numbers (One ∷ One ∷ []) One One (Zero ∷ Zero ∷ []) One) promised 4 0 ≡ Zero
promise_at_zero = refl

promise_at_one : block_bit ws fill.One (numbers (One ∷ One ∷ []) One One (Zero ∷ Zero ∷ []) Zero) promised 4 0 ≡ One
promise_at_one = refl

promise_kept : block_bit ws fill.Zero (numbers (One ∷ Zero ∷ []) Zero One (Zero ∷ Zero ∷ []) Zero) promised 4 0 ≡ One
promise_kept = refl

-- ---- arms side by side: `(* parallel_case *) case (1'b1) a: y = 2'b01; b: y = 2'b10; default: y = 2'b11; endcase`

abbrev side_by_side : Actions
side_by_side =
    Then (Case kind.Plain false true (literal 1 (One ∷ [])) (Branch (whole 1 ∷ []) (set 3 (literal 2 (One ∷ Zero ∷ [])) false) (Branch (whole 2 ∷ []) (set 3 (literal 2 (Zero ∷ One ∷ [])) false) NoBranch)) (With (set 3 (literal 2 (One ∷ One ∷ [])) false)) spot) Done

abbrev arms : Bit → Bit → ℕ → Bit
arms a b k =
    block_bit ws fill.Zero (numbers (Zero ∷ Zero ∷ []) a b (Zero ∷ Zero ∷ []) Zero) side_by_side 3 k

both_low : arms One One 0 ≡ One
both_low = refl

both_high : arms One One 1 ≡ One
both_high = refl

one_low : arms One Zero 0 ≡ One
one_low = refl

one_high : arms One Zero 1 ≡ Zero
one_high = refl

neither_low : arms Zero Zero 0 ≡ One
neither_low = refl

neither_high : arms Zero Zero 1 ≡ One
neither_high = refl

-- ---- a latch: `if (a) q = b;` holds what it had while a is 0

abbrev latch : Actions
latch = Then (If (whole 1) (set 4 (whole 2) false) Without spot) Done

held : block_bit ws fill.Zero (numbers (Zero ∷ Zero ∷ []) Zero Zero (Zero ∷ Zero ∷ []) One) latch 4 0 ≡ One
held = refl

passed : block_bit ws fill.Zero (numbers (Zero ∷ Zero ∷ []) One Zero (Zero ∷ Zero ∷ []) One) latch 4 0 ≡ Zero
passed = refl

-- ---- labels: x in `case` matches nothing, z in `casez` matches anything

abbrev labelled : CaseKind → Bit → Actions
labelled kind bit =
    Then (Case kind false false (whole 1) (Branch (literal 1 (bit ∷ []) ∷ []) (set 4 (literal 1 (One ∷ [])) false) NoBranch) (With (set 4 (literal 1 (Zero ∷ [])) false)) spot) Done

abbrev none : Values
none = numbers (Zero ∷ Zero ∷ []) One Zero (Zero ∷ Zero ∷ []) Zero

x_in_case : block_bit ws fill.One none (labelled kind.Plain X) 4 0 ≡ Zero
x_in_case = refl

x_in_casez : block_bit ws fill.One none (labelled kind.Z X) 4 0 ≡ Zero
x_in_casez = refl

z_in_casez : block_bit ws fill.One none (labelled kind.Z Z) 4 0 ≡ One
z_in_casez = refl

x_in_casex : block_bit ws fill.One none (labelled kind.X X) 4 0 ≡ One
x_in_casex = refl

-- ---- what has no number has the fill

unknown_literal : digits fill.One none (Sized 3 false spot (Literal (X ∷ Zero ∷ Z ∷ []))) ≡ One ∷ Zero ∷ One ∷ []
unknown_literal = refl

over_zero : digits fill.One none (Sized 2 false spot (Joined join.Divide false (literal 2 (One ∷ Zero ∷ [])) (whole 0))) ≡ One ∷ One ∷ []
over_zero = refl

bit_outside : digits fill.One none (Sized 1 false spot (tree.BitBy 0 0 false (literal 2 (Zero ∷ One ∷ [])))) ≡ One ∷ []
bit_outside = refl

-- `1'bx === 1'b1` is `==` of what the fill makes of it
case_equal : digits fill.One none (Sized 1 false spot (Compared compare.CaseEqual false (literal 1 (X ∷ [])) (literal 1 (One ∷ [])))) ≡ One ∷ []
case_equal = refl

-- ---- a register: `always @(posedge b or negedge a) if (!a) q <= 1'b1; else q <= s[0];`

abbrev item : ℕ → Edge → Watched
item i e = record { signal = i; selection = part.Whole; edge = e; spot = spot }

abbrev low : Tree
low = Sized 1 false spot (Folded fold.Negation (whole 1))

abbrev register : Chain
register =
    record {
      resets = record { item = item 1 edge.Neg; test = low; branch = set 4 (literal 1 (One ∷ [])) true } ∷ [];
      clock = item 2 edge.Pos;
      part = set 4 (Sized 1 false spot (tree.BitAt 0 0 (pos 0))) true;
    }

abbrev body : Actions
body = Then (If low (set 4 (literal 1 (One ∷ [])) true) (With register.part) spot) Done

is_chained : IsChained register.resets register.part body
is_chained = (register.part, spot, refl, refl)

abbrev after : Bit → Bit → Bit → Bit → Bit → Bit
after a a' b b' q =
    register_bit ws fill.Zero (numbers (Zero ∷ Zero ∷ []) a b (Zero ∷ Zero ∷ []) q) (numbers (One ∷ Zero ∷ []) a' b' (Zero ∷ Zero ∷ []) q) register 4 0

-- at its edge it takes what was before the edge
clocked : after One One Zero One One ≡ Zero
clocked = refl

-- at the other edge of its clock, and where its reset ends, it keeps what it had
falls : after One One One Zero One ≡ One
falls = refl

released : after Zero One Zero Zero One ≡ One
released = refl

-- while its reset is active it has the constant, at an edge of its clock too
reset : after One Zero Zero Zero Zero ≡ One
reset = refl

reset_at_edge : after Zero Zero Zero One Zero ≡ One
reset_at_edge = refl

-- ---- `q1 <= q2; q2 <= q1;` exchanges what both had; with blocking assignments both have what the second had

abbrev pair : Bool → Actions
pair delayed =
    Then (Set (piece 1 ∷ []) (whole 2) delayed spot) (Then (Set (piece 2 ∷ []) (whole 1) delayed spot) Done)

abbrev of_pair : Bool → ℕ → Bit
of_pair delayed i =
    block_bit ws fill.Zero (numbers (Zero ∷ Zero ∷ []) One Zero (Zero ∷ Zero ∷ []) Zero) (pair delayed) i 0

first_exchanged : of_pair true 1 ≡ Zero
first_exchanged = refl

second_exchanged : of_pair true 2 ≡ One
second_exchanged = refl

first_copied : of_pair false 1 ≡ Zero
first_copied = refl

second_copied : of_pair false 2 ≡ Zero
second_copied = refl
