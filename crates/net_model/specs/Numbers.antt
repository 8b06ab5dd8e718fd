-- The numbers of expressions as synthesis takes them (IEEE 1364.1-2002 sections 5.1 and 5.5). A number is the list of its
-- binary digits, the least significant first.
-- Worked examples: proofs/Examples.antt.
use Rattle.std.specs.Prelude.{◌≡◌, ℕ, pos, ◌-ℤ◌, Bool, false, not, cond, List, [], ◌∷◌, ◌++◌, map, length}
use Rattle.std.specs.List.{slice_index_or}
use Rattle.rtl_bits.specs.declared.Bit.{Bit}
use Rattle.rtl_bits.specs.declared.Bit.TheVariants.{Zero, One, X, Z}
use Rattle.rtl_bits.specs.Bits.{copies, extended, has_unknown, selected, truth_bit}
use Rattle.rtl_flat.specs.declared.act.CaseKind.{CaseKind}
use Rattle.rtl_flat.specs.Expression.{Tree, Sized, Literal, Whole, BitAt, BitBy, Part, Turned, Joined, Compared, Linked, Folded, Shifted, Chosen, Empty, Beside, Repeated, Recast}
use Rattle.rtl_flat.specs.Flows.{literal}
use Rattle.rtl_flat.specs.Labels.{label_matches}
use Rattle.rtl_flat.specs.Value.{bit_at, bit_by, chosen, compared, folded, joined, linked, shifted, turned, value}
use Rattle.rtl_flat.specs.Flats.{Flat, widths}
use Rattle.event_model.specs.Writes.{Values}
use Rattle.net_model.specs.declared.fill.Fill.{Fill}
use Rattle.net_model.specs.declared.fill.Fill.TheVariants as fill

-- ---- digits

abbrev pub fill_bit : Fill → Bit
fill_bit fill.Zero = Zero
fill_bit fill.One = One

-- a bit as a digit: the fill stands for x and z
abbrev pub filled_bit : Fill → Bit → Bit
filled_bit f Zero = Zero
filled_bit f One = One
filled_bit f X = fill_bit f
filled_bit f Z = fill_bit f

abbrev pub filled : Fill → List Bit → List Bit
filled f bits = map (filled_bit f) bits

-- bit k of signal i
abbrev pub bit : Values → ℕ → ℕ → Bit
bit n i k = slice_index_or (n i) k X

-- numbers for the signals of a design: of each as many digits as it has bits, all of them known
pub record AreNumbers (d : Flat) (n : Values) : Type 0 where
  pub wide : (i : ℕ) → length (n i) ≡ widths d i
  pub known : (i : ℕ) → has_unknown (n i) ≡ false

-- the number of an expression, where `n` has those of signals. On digits the operators give digits, but for a quotient by
-- 0; on digits `===` is `==`
abbrev pub digits : Fill → Values → Tree → List Bit
digits f n (Sized width signed spot e) = extended width signed (digits f n e)
digits f n (Literal bits) = filled f bits
digits f n (Whole i) = n i
digits f n (BitAt i low index) = filled_bit f (bit_at (n i) (index -ℤ pos low)) ∷ []
digits f n (BitBy i low signed index) =
    filled_bit f (bit_by (n i) low signed (digits f n index)) ∷ []
digits f n (Part i low width) = selected low width (n i)
digits f n (Turned operator a) = turned operator (digits f n a)
digits f n (Joined operator signed a b) =
    filled f (joined operator signed (digits f n a) (digits f n b))
digits f n (Compared operator signed a b) =
    compared operator signed (digits f n a) (digits f n b) ∷ []
digits f n (Linked operator a b) = linked operator (digits f n a) (digits f n b) ∷ []
digits f n (Folded operator a) = folded operator (digits f n a) ∷ []
digits f n (Shifted operator signed a amount) =
    shifted operator signed (digits f n a) (digits f n amount)
digits f n (Chosen c a b) = chosen (truth_bit (digits f n c)) (digits f n a) (digits f n b)
digits f n Empty = []
digits f n (Beside a others) = digits f n others ++ digits f n a
digits f n (Repeated times a) = copies times (digits f n a)
digits f n (Recast a) = digits f n a

-- ---- labels of cases

-- whether a label is one literal
abbrev pub is_some_literal : List (List Bit) → Bool
is_some_literal [] = false
is_some_literal (bits ∷ others) = not false

abbrev pub is_literal : Tree → Bool
is_literal label = is_some_literal (literal label)

-- what a label is compared with: a literal keeps its x and z bits, any other label is its number
abbrev pub label_digits : Fill → Values → Tree → List Bit
label_digits f n label = cond (is_literal label) (value n label) (digits f n label)

-- whether a label matches the number of a selector: z in `casez`, and x or z in `casex`, match anything; in any other
-- place an x or z matches nothing, since the number has none
abbrev pub label_meets : Fill → Values → CaseKind → List Bit → Tree → Bool
label_meets f n kind bits label = label_matches kind bits (label_digits f n label)
