-- Signs of expressions (IEEE 1364-2001 section 4.5), and what expressions say of declarations.
-- Worked examples: crates/tests_layers/stdin.
use Rattle.std.specs.Prelude.{ℕ, zero, suc, Bool, true, false, ◌≡◌, List, [], ◌∷◌, length}
use Rattle.std.specs.List.{slice_get}
use Rattle.std.specs.Option.{IsSomeAnd}
use Rattle.rtl_flat.specs.declared.signal.Signal.{Signal}
use Rattle.rtl_flat.specs.Expression.{Tree, Sized, Literal, Whole, BitAt, BitBy, Part, Turned, Joined, Compared, Linked, Folded, Shifted, Chosen, Empty, Beside, Repeated, Recast}
use Rattle.rtl_flat.specs.Sizes.{IsSized}

-- a condition on the signal with a number, which is there
abbrev pub Has : (Signal → Type 0) → List Signal → ℕ → Type 0
Has P signals i = IsSomeAnd (slice_get signals i) P

-- the width of the signal with a number
abbrev pub width_in : List Signal → ℕ → ℕ
width_in [] i = 0
width_in (s ∷ signals) zero = s.width
width_in (s ∷ signals) (suc i) = width_in signals i

-- the sign that an expression has
abbrev pub sign_of : Tree → Bool
sign_of (Sized width signed spot e) = signed
sign_of _ = false

-- whether a form may have a sign: operands that take their context have that sign too; selects,
-- comparisons, concatenations and the like are unsigned (section 4.5.1), and so are signals that
-- aren't declared signed
abbrev pub MayHaveSign : List Signal → Bool → Tree → Type 0
MayHaveSign signals signed (Literal bits) = Unit {0}
MayHaveSign signals signed (Whole i) = signed ≡ true → Has (λ s. s.signed ≡ true) signals i
MayHaveSign signals signed (Turned operator a) = sign_of a ≡ signed
MayHaveSign signals signed (Joined operator t a b) = (sign_of a ≡ signed) × (sign_of b ≡ signed)
MayHaveSign signals signed (Shifted operator t a amount) = sign_of a ≡ signed
MayHaveSign signals signed (Chosen c a b) = (sign_of a ≡ signed) × (sign_of b ≡ signed)
MayHaveSign signals signed (Recast a) = Unit {0}
MayHaveSign signals signed _ = signed ≡ false

-- whether signs are lawful in all of an expression, and its selects number bits as the signals'
-- declarations do
abbrev pub IsDeclared : List Signal → Tree → Type 0
IsDeclared signals (Sized width signed spot e) =
    MayHaveSign signals signed e × IsDeclared signals e
IsDeclared signals (Literal bits) = Unit {0}
IsDeclared signals (Whole i) = Unit {0}
IsDeclared signals (BitAt i low index) = Has (λ s. s.low ≡ low) signals i
IsDeclared signals (BitBy i low signed index) =
    Has (λ s. s.low ≡ low) signals i × IsDeclared signals index
IsDeclared signals (Part i low width) = Unit {0}
IsDeclared signals (Turned operator a) = IsDeclared signals a
IsDeclared signals (Joined operator signed a b) = IsDeclared signals a × IsDeclared signals b
IsDeclared signals (Compared operator signed a b) =
    (sign_of a ≡ sign_of b) × IsDeclared signals a × IsDeclared signals b
IsDeclared signals (Linked operator a b) = IsDeclared signals a × IsDeclared signals b
IsDeclared signals (Folded operator a) = IsDeclared signals a
IsDeclared signals (Shifted operator signed a amount) =
    IsDeclared signals a × IsDeclared signals amount
IsDeclared signals (Chosen c a b) =
    IsDeclared signals c × IsDeclared signals a × IsDeclared signals b
IsDeclared signals Empty = Unit {0}
IsDeclared signals (Beside a others) = IsDeclared signals a × IsDeclared signals others
IsDeclared signals (Repeated times a) = IsDeclared signals a
IsDeclared signals (Recast a) = IsDeclared signals a

-- whether an expression over signals is sized, and signed, by the standard's rules
pub record IsExpression (signals : List Signal) (e : Tree) : Type 0 where
  pub widths : IsSized (length signals) (width_in signals) e
  pub signs : IsDeclared signals e
