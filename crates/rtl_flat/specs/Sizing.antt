-- How an expression gets its widths and signs, from the root downwards (IEEE 1364-2001 sections 4.4
-- and 4.5).
-- Worked examples: proofs/Examples.antt.
use Rattle.std.specs.Prelude.{ℕ, zero, suc, ℤ, ◌+◌, ◌-◌, ◌*◌, ◌<◌, ◌≤◌, max, Bool, true, false, not, ◌&&◌, cond, List, [], ◌∷◌, ◌++◌, length, take, replicate}
use Rattle.rtl_bits.specs.declared.Bit.{Bit}
use Rattle.rtl_bits.specs.Bit.{is_unknown}
use Rattle.rtl_bits.specs.Bits.{top_bit, extended}
use Rattle.text_ground.specs.declared.text.Spot.{Spot}
use Rattle.rtl_flat.specs.declared.signal.Signal.{Signal}
use Rattle.rtl_flat.specs.declared.expr.Turn.{Turn}
use Rattle.rtl_flat.specs.declared.expr.Join.{Join}
use Rattle.rtl_flat.specs.declared.expr.Compare.{Compare}
use Rattle.rtl_flat.specs.declared.expr.Link.{Link}
use Rattle.rtl_flat.specs.declared.expr.Fold.{Fold}
use Rattle.rtl_flat.specs.declared.expr.Shift.{Shift}
use Rattle.rtl_flat.specs.Expression.{Tree, Sized}
use Rattle.rtl_flat.specs.Expression as tree
use Rattle.rtl_flat.specs.Signs.{width_in}

-- an expression whose names are signals, before it has sizes: `Number` has the bits of a literal,
-- whether it is signed, and whether its width was written
pub data Source : Type 0 where
  Number : (spot : Spot) (bits : List Bit) (signed sized : Bool) → Source
  Whole : (spot : Spot) (signal : ℕ) → Source
  BitAt : (spot : Spot) (signal : ℕ) (index : ℤ) → Source
  BitBy : (spot : Spot) (signal : ℕ) (index : Source) → Source
  Part : (spot : Spot) (signal low width : ℕ) → Source
  Turned : (spot : Spot) (operator : Turn) (operand : Source) → Source
  Joined : (spot : Spot) (operator : Join) (left right : Source) → Source
  Compared : (spot : Spot) (operator : Compare) (left right : Source) → Source
  Linked : (spot : Spot) (operator : Link) (left right : Source) → Source
  Folded : (spot : Spot) (operator : Fold) (operand : Source) → Source
  Shifted : (spot : Spot) (operator : Shift) (operand amount : Source) → Source
  Chosen : (spot : Spot) (condition taken otherwise : Source) → Source
  Concat : (spot : Spot) (parts : Source) → Source
  Empty : Source
  Beside : (first others : Source) → Source
  Repeated : (spot : Spot) (times : ℕ) (operand : Source) → Source
  Recast : (spot : Spot) (signed : Bool) (operand : Source) → Source

-- whether the signal with a number is declared signed
abbrev pub signed_in : List Signal → ℕ → Bool
signed_in [] i = false
signed_in (s ∷ signals) zero = s.signed
signed_in (s ∷ signals) (suc i) = signed_in signals i

-- the number of the least significant bit in the declaration of the signal with a number
abbrev pub low_in : List Signal → ℕ → ℕ
low_in [] i = 0
low_in (s ∷ signals) zero = s.low
low_in (s ∷ signals) (suc i) = low_in signals i

-- the width that an expression has by itself (section 4.4.1, table 4-22)
abbrev pub own_width : List Signal → Source → ℕ
own_width ss (Number spot bits signed sized) = length bits
own_width ss (Whole spot i) = width_in ss i
own_width ss (BitAt spot i index) = 1
own_width ss (BitBy spot i index) = 1
own_width ss (Part spot i low width) = width
own_width ss (Turned spot operator a) = own_width ss a
own_width ss (Joined spot operator a b) = max (own_width ss a) (own_width ss b)
own_width ss (Compared spot operator a b) = 1
own_width ss (Linked spot operator a b) = 1
own_width ss (Folded spot operator a) = 1
own_width ss (Shifted spot operator a amount) = own_width ss a
own_width ss (Chosen spot c a b) = max (own_width ss a) (own_width ss b)
own_width ss (Concat spot parts) = own_width ss parts
own_width ss Empty = 0
own_width ss (Beside a others) = own_width ss a + own_width ss others
own_width ss (Repeated spot times a) = times * own_width ss a
own_width ss (Recast spot signed a) = own_width ss a

-- the sign that an expression has by itself (section 4.5.1): one unsigned operand makes it unsigned
abbrev pub own_sign : List Signal → Source → Bool
own_sign ss (Number spot bits signed sized) = signed
own_sign ss (Whole spot i) = signed_in ss i
own_sign ss (Turned spot operator a) = own_sign ss a
own_sign ss (Joined spot operator a b) = own_sign ss a && own_sign ss b
own_sign ss (Shifted spot operator a amount) = own_sign ss a
own_sign ss (Chosen spot c a b) = own_sign ss a && own_sign ss b
own_sign ss (Recast spot signed a) = signed
own_sign ss _ = false

-- a literal at a width: one without a written width is extended with its highest bit where that is x
-- or z (section 2.5.1), and else a literal is extended like any operand
abbrev pub literal_at : ℕ → Bool → Bool → List Bit → List Bit
literal_at width signed sized bits =
    cond (not sized && is_unknown (top_bit bits)) (take width bits ++ replicate (width - length bits) (top_bit bits)) (extended width signed bits)

-- an expression with the width and the sign of its context (section 4.5.2): operands of arithmetic
-- and bitwise operators, the arms of `?:` and what is shifted take them; the operands of a
-- comparison are sized with each other; all other operands are sized by themselves
abbrev pub sized : List Signal → ℕ → Bool → Source → Tree
sized ss w s (Number spot bits signed z) = Sized w s spot (tree.Literal (literal_at w s z bits))
sized ss w s (Whole spot i) = Sized w s spot (tree.Whole i)
sized ss w s (BitAt spot i index) = Sized w s spot (tree.BitAt i (low_in ss i) index)
sized ss w s (BitBy spot i index) =
    Sized w s spot (tree.BitBy i (low_in ss i) (own_sign ss index) (sized ss (own_width ss index) (own_sign ss index) index))
sized ss w s (Part spot i low width) = Sized w s spot (tree.Part i low width)
sized ss w s (Turned spot operator a) = Sized w s spot (tree.Turned operator (sized ss w s a))
sized ss w s (Joined spot operator a b) =
    Sized w s spot (tree.Joined operator s (sized ss w s a) (sized ss w s b))
sized ss w s (Compared spot operator a b) =
    let width = max (own_width ss a) (own_width ss b) in
    let signed = own_sign ss a && own_sign ss b in
    Sized w s spot (tree.Compared operator signed (sized ss width signed a) (sized ss width signed b))
sized ss w s (Linked spot operator a b) =
    Sized w s spot (tree.Linked operator (sized ss (own_width ss a) (own_sign ss a) a) (sized ss (own_width ss b) (own_sign ss b) b))
sized ss w s (Folded spot operator a) =
    Sized w s spot (tree.Folded operator (sized ss (own_width ss a) (own_sign ss a) a))
sized ss w s (Shifted spot operator a amount) =
    Sized w s spot (tree.Shifted operator s (sized ss w s a) (sized ss (own_width ss amount) (own_sign ss amount) amount))
sized ss w s (Chosen spot c a b) =
    Sized w s spot (tree.Chosen (sized ss (own_width ss c) (own_sign ss c) c) (sized ss w s a) (sized ss w s b))
sized ss w s (Concat spot parts) = Sized w s spot (sized ss w s parts)
sized ss w s Empty = tree.Empty
sized ss w s (Beside a others) =
    tree.Beside (sized ss (own_width ss a) (own_sign ss a) a) (sized ss w s others)
sized ss w s (Repeated spot times a) =
    Sized w s spot (tree.Repeated times (sized ss (own_width ss a) (own_sign ss a) a))
sized ss w s (Recast spot signed a) =
    Sized w s spot (tree.Recast (sized ss (own_width ss a) (own_sign ss a) a))

-- an expression by itself, as an index or a condition is
abbrev pub alone : List Signal → Source → Tree
alone ss e = sized ss (own_width ss e) (own_sign ss e) e

-- the value of an assignment to a target of a width: the target counts for the width, not the sign
abbrev pub assigned : List Signal → ℕ → Source → Tree
assigned ss width e = sized ss (max width (own_width ss e)) (own_sign ss e) e

-- the width of the widest of some expressions
abbrev pub widest : List Signal → List Source → ℕ
widest ss [] = 0
widest ss (e ∷ others) = max (own_width ss e) (widest ss others)

-- whether all of some expressions are signed
abbrev pub all_signed : List Signal → List Source → Bool
all_signed ss [] = true
all_signed ss (e ∷ others) = own_sign ss e && all_signed ss others

-- the selector of a case, or one of its labels, sized with all of them (section 9.5)
abbrev pub in_case : List Signal → List Source → Source → Tree
in_case ss all e = sized ss (widest ss all) (all_signed ss all) e

abbrev mutual
  -- whether an expression over signals can be sized: they are there, parts lie inside them, and what
  -- is sized by itself has no more than 128 bits
  pub IsLawful : List Signal → Source → Type 0
  IsLawful ss (Number spot bits signed z) = 1 ≤ length bits
  IsLawful ss (Whole spot i) = i < length ss
  IsLawful ss (BitAt spot i index) = i < length ss
  IsLawful ss (BitBy spot i index) =
      (i < length ss) × IsLawful ss index × (own_width ss index ≤ 128)
  IsLawful ss (Part spot i low width) =
      (i < length ss) × (1 ≤ width) × (low + width ≤ width_in ss i)
  IsLawful ss (Turned spot operator a) = IsLawful ss a
  IsLawful ss (Joined spot operator a b) = IsLawful ss a × IsLawful ss b
  IsLawful ss (Compared spot operator a b) =
      IsLawful ss a × IsLawful ss b × (max (own_width ss a) (own_width ss b) ≤ 128)
  IsLawful ss (Linked spot operator a b) =
      IsLawful ss a × IsLawful ss b × (own_width ss a ≤ 128) × (own_width ss b ≤ 128)
  IsLawful ss (Folded spot operator a) = IsLawful ss a × (own_width ss a ≤ 128)
  IsLawful ss (Shifted spot operator a amount) =
      IsLawful ss a × IsLawful ss amount × (own_width ss amount ≤ 128)
  IsLawful ss (Chosen spot c a b) =
      IsLawful ss c × IsLawful ss a × IsLawful ss b × (own_width ss c ≤ 128)
  IsLawful ss (Concat spot parts) = AreLawful ss parts × (1 ≤ own_width ss parts)
  IsLawful ss Empty = ⊥
  IsLawful ss (Beside a others) = ⊥
  IsLawful ss (Repeated spot times a) = IsLawful ss a × (1 ≤ times * own_width ss a) × (own_width ss a ≤ 128)
  IsLawful ss (Recast spot signed a) = IsLawful ss a × (own_width ss a ≤ 128)

  -- the same of the parts of a concatenation
  pub AreLawful : List Signal → Source → Type 0
  AreLawful ss Empty = Unit {0}
  AreLawful ss (Beside a others) =
      IsLawful ss a × (own_width ss a ≤ 128) × AreLawful ss others
  AreLawful ss _ = ⊥

-- whether each signal has a bit
abbrev pub HaveBits : List Signal → Type 0
HaveBits ss = (i : ℕ) → i < length ss → 1 ≤ width_in ss i
