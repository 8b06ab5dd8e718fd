-- Widths of expressions (IEEE 1364-2001 section 4.4), and which expressions are sized by its rules.
-- Worked examples: crates/tests_layers/stdin.
use Rattle.std.specs.Prelude.{ℕ, Bool, true, false, IsTrue, ◌≡◌, ◌+◌, ◌*◌, ◌<◌, ◌≤◌, length}
use Rattle.rtl_flat.specs.Expression.{Tree, Sized, Literal, Whole, BitAt, BitBy, Part, Turned, Joined, Compared, Linked, Folded, Shifted, Chosen, Empty, Beside, Repeated, Recast}

-- how many bits an expression has, where `ws` gives the widths of signals
abbrev pub width_of : (ℕ → ℕ) → Tree → ℕ
width_of ws (Sized width signed spot e) = width
width_of ws (Literal bits) = length bits
width_of ws (Whole i) = ws i
width_of ws (BitAt i low index) = 1
width_of ws (BitBy i low signed index) = 1
width_of ws (Part i low width) = width
width_of ws (Turned operator a) = width_of ws a
width_of ws (Joined operator signed a b) = width_of ws a
width_of ws (Compared operator signed a b) = 1
width_of ws (Linked operator a b) = 1
width_of ws (Folded operator a) = 1
width_of ws (Shifted operator signed a amount) = width_of ws a
width_of ws (Chosen c a b) = width_of ws a
width_of ws Empty = 0
width_of ws (Beside a others) = width_of ws a + width_of ws others
width_of ws (Repeated times a) = times * width_of ws a
width_of ws (Recast a) = width_of ws a

-- whether a form stands at the width of its context and hands it on to its operands (section 4.4.1):
-- so it is with arithmetic and bitwise operators, the arms of `?:` and what is shifted; a literal
-- stands at that width as well
abbrev pub takes_context : Tree → Bool
takes_context (Literal bits) = true
takes_context (Turned operator a) = true
takes_context (Joined operator signed a b) = true
takes_context (Shifted operator signed a amount) = true
takes_context (Chosen c a b) = true
takes_context _ = false

-- whether a form may stand at a width: it has a bit or more, and no more than that; just that many
-- where it takes the width of its context
pub record FitsWidth (ws : ℕ → ℕ) (width : ℕ) (e : Tree) : Type 0 where
  pub not_empty : 1 ≤ width_of ws e
  pub inside : width_of ws e ≤ width
  pub whole : IsTrue (takes_context e) → width_of ws e ≡ width

-- whether an expression over n signals is sized: each width is 1 to 128, operands in one context
-- have one width, parts lie inside their signals, and what is shifted has a bit
abbrev pub IsSized : ℕ → (ℕ → ℕ) → Tree → Type 0
IsSized n ws (Sized width signed spot e) =
    (width ≤ 128) × FitsWidth ws width e × IsSized n ws e
IsSized n ws (Literal bits) = Unit {0}
IsSized n ws (Whole i) = i < n
IsSized n ws (BitAt i low index) = i < n
IsSized n ws (BitBy i low signed index) = (i < n) × IsSized n ws index
IsSized n ws (Part i low width) = (i < n) × (low + width ≤ ws i)
IsSized n ws (Turned operator a) = IsSized n ws a
IsSized n ws (Joined operator signed a b) =
    (width_of ws a ≡ width_of ws b) × IsSized n ws a × IsSized n ws b
IsSized n ws (Compared operator signed a b) =
    (width_of ws a ≡ width_of ws b) × IsSized n ws a × IsSized n ws b
IsSized n ws (Linked operator a b) = IsSized n ws a × IsSized n ws b
IsSized n ws (Folded operator a) = IsSized n ws a
IsSized n ws (Shifted operator signed a amount) =
    (1 ≤ width_of ws a) × IsSized n ws a × IsSized n ws amount
IsSized n ws (Chosen c a b) =
    (width_of ws a ≡ width_of ws b) × IsSized n ws c × IsSized n ws a × IsSized n ws b
IsSized n ws Empty = Unit {0}
IsSized n ws (Beside a others) = IsSized n ws a × IsSized n ws others
IsSized n ws (Repeated times a) = IsSized n ws a
IsSized n ws (Recast a) = IsSized n ws a
