-- Simulated values beside synthesised numbers: of expressions, of the cases that a run takes, and of whole bodies.
use Rattle.std.specs.Prelude.{◌≡◌, ◌⊎◌, ℕ, ◌<◌, true, false, List, [], ◌∷◌, ◌++◌, Option, None, Some, cond, ◌-◌, length, unwrap_or}
use Rattle.std.specs.List.{slice_index_or}
use Rattle.rtl_bits.specs.declared.Bit.{Bit}
use Rattle.rtl_bits.specs.declared.Bit.TheVariants.{X}
use Rattle.rtl_bits.specs.Bit.{is_unknown}
use Rattle.rtl_bits.specs.Bits.{has_unknown}
use Rattle.rtl_flat.specs.declared.act.CaseKind.{CaseKind}
use Rattle.rtl_flat.specs.Expression.{Tree}
use Rattle.rtl_flat.specs.Flows.{body_flow, complete_by_labels, labels_of}
use Rattle.rtl_flat.specs.Paths.{IsSure, MayWrite, ReadsOutside}
use Rattle.rtl_flat.specs.Process.{Actions, Branches}
use Rattle.rtl_flat.specs.Signs.{IsExpression}
use Rattle.rtl_flat.specs.Sizes.{width_of}
use Rattle.rtl_flat.specs.Value.{value}
use Rattle.rtl_flat.specs.WellFormed.{AreBranches, IsBody}
use Rattle.event_model.specs.Bodies.{Made, Now, Later, body_made, some_matches}
use Rattle.rtl_flat.specs.Flats.{Flat, widths}
use Rattle.event_model.specs.Traces.{FollowsPath, Same, covers}
use Rattle.event_model.specs.Writes.{Values, Write, all_written}
use Rattle.event_laws.specs.Steady.{HaveWidths}
use Rattle.event_laws.specs.Laws.{AgreeOutside, after_body}
use Rattle.net_model.specs.declared.fill.Fill.{Fill}
use Rattle.net_model.specs.declared.fill.Fill.TheVariants as fill
use Rattle.net_model.specs.Block.{block_bit}
use Rattle.net_model.specs.Numbers.{AreNumbers, bit, digits}
use Rattle.net_model.specs.Solution.{start}
use Rattle.net_laws.specs.Tame.{AreSplit, AreTame, ArePlainly, IsFirm}

-- ---- expressions

-- a number of so many digits
pub record IsNumber (width : ℕ) (bits : List Bit) : Type 0 where
  pub wide : length bits ≡ width
  pub known : has_unknown bits ≡ false

-- the value of an expression is known, and is its number
pub record IsExact (f : Fill) (v : Values) (e : Tree) : Type 0 where
  pub known : has_unknown (value v e) ≡ false
  pub same : digits f v e ≡ value v e

-- so it is where the expression is firm and the signals are known
abbrev pub AreExact : Flat → Type 0
AreExact d =
    (f : Fill) (v : Values) (e : Tree) →
    AreNumbers d v → IsExpression d.signals e → IsFirm d e → IsExact f v e

-- ---- cases and paths

-- of a case that is complete by its labels an item matches
abbrev pub AreCovered : Flat → Type 0
AreCovered d =
    (v : Values) (kind : CaseKind) (selector : Tree) (branches : Branches) →
    AreNumbers d v → IsExpression d.signals selector → AreBranches d.signals selector branches → IsFirm d selector →
    complete_by_labels (widths d) kind selector branches ≡ true →
    some_matches kind v (value v selector) (labels_of branches) ≡ true

-- the run of a tame body takes a path
abbrev pub TakePaths : Flat → Type 0
TakePaths d =
    (v : Values) (body : Actions) →
    AreNumbers d v → IsBody d.signals body → AreTame d body → FollowsPath (widths d) v body

-- and leaves numbers
abbrev pub LeaveNumbers : Flat → Type 0
LeaveNumbers d =
    (v : Values) (body : Actions) →
    AreNumbers d v → IsBody d.signals body → AreTame d body → AreNumbers d (after_body d v body)

-- ---- bodies

-- the writes that are made later, in their order
abbrev pub late_writes : List Made → List Write
late_writes [] = []
late_writes (Now w ∷ others) = late_writes others
late_writes (Later ws ∷ others) = ws ++ late_writes others

-- what a run leaves when its late writes are made too
abbrev pub at_last : Flat → Values → Actions → Values
at_last d v body =
    all_written (after_body d v body) (late_writes (body_made (widths d) v body))

-- a bit that is to be written, after further writes in their order
abbrev pub last_written : ℕ → ℕ → Option Bit → List Write → Option Bit
last_written i k old [] = old
last_written i k old (w ∷ others) =
    last_written i k (cond (covers i k w) (Some (slice_index_or w.bits (k - w.at) X)) old) others

-- the bit that the last of the late writes over it gives, where there is one
abbrev pub last_late : Flat → Values → Actions → ℕ → ℕ → Option Bit
last_late d v body i k =
    last_written i k None (late_writes (body_made (widths d) v body))

-- the function of a body gives to a bit what the run makes of it
abbrev pub ClockedIs : Flat → Type 0
ClockedIs d =
    (f : Fill) (v : Values) (body : Actions) (i k : ℕ) →
    AreNumbers d v → IsBody d.signals body → AreTame d body → AreSplit d body →
    block_bit (widths d) f v body i k ≡ bit (at_last d v body) i k

-- the same bit by bit: the last of its late writes, or else what is written at once
abbrev pub LateIs : Flat → Type 0
LateIs d =
    (f : Fill) (v : Values) (body : Actions) (i k : ℕ) →
    AreNumbers d v → IsBody d.signals body → AreTame d body → AreSplit d body →
    block_bit (widths d) f v body i k ≡ unwrap_or (last_late d v body i k) (bit (after_body d v body) i k)

-- of blocking assignments alone all is made at once
abbrev pub BlockIs : Flat → Type 0
BlockIs d =
    (f : Fill) (v : Values) (body : Actions) (i k : ℕ) →
    AreNumbers d v → IsBody d.signals body → AreTame d body → ArePlainly d body →
    block_bit (widths d) f v body i k ≡ bit (after_body d v body) i k

-- the fill doesn't show
abbrev pub FillsAgree : Flat → Type 0
FillsAgree d =
    (v : Values) (body : Actions) (i k : ℕ) →
    AreNumbers d v → IsBody d.signals body → AreTame d body → AreSplit d body →
    block_bit (widths d) fill.Zero v body i k ≡ block_bit (widths d) fill.One v body i k

-- a bit that every path writes depends on what the body reads outside alone, and any other on what it was, too
abbrev pub TameDepends : Flat → Type 0
TameDepends d =
    (f : Fill) (n m : Values) (body : Actions) (i k : ℕ) →
    AreNumbers d n → AreNumbers d m → IsBody d.signals body → AreTame d body → AreSplit d body →
    AgreeOutside d body n m → Same n m i k ⊎ IsSure (body_flow (widths d) body) i k →
    block_bit (widths d) f n body i k ≡ block_bit (widths d) f m body i k

-- ---- any body

-- the number of an expression has a digit for each of its bits, whatever its operands are
abbrev pub DigitsAreKnown : Flat → Type 0
DigitsAreKnown d =
    (f : Fill) (n : Values) (e : Tree) →
    AreNumbers d n → IsExpression d.signals e → IsNumber (width_of (widths d) e) (digits f n e)

-- so the function of a body gives digits
abbrev pub BlocksAreKnown : Flat → Type 0
BlocksAreKnown d =
    (f : Fill) (n : Values) (body : Actions) (i k : ℕ) →
    AreNumbers d n → IsBody d.signals body → k < widths d i →
    is_unknown (block_bit (widths d) f n body i k) ≡ false

-- the function of a body depends on what it reads outside and may write, whatever its expressions are
abbrev pub BlockDepends : Flat → Type 0
BlockDepends d =
    (f : Fill) (n m : Values) (body : Actions) →
    HaveWidths d n → HaveWidths d m → IsBody d.signals body →
    ((i k : ℕ) → ReadsOutside (body_flow (widths d) body) i k → Same n m i k) →
    ((i k : ℕ) → MayWrite (body_flow (widths d) body) i k → Same n m i k) →
    (i k : ℕ) → Same n m i k →
    block_bit (widths d) f n body i k ≡ block_bit (widths d) f m body i k

-- so what it gives in a design's equations depends on its own bits as they are held, and on the others that it reads outside
abbrev pub StartDepends : Flat → Type 0
StartDepends d =
    (f : Fill) (held held' n n' : Values) (body : Actions) →
    IsBody d.signals body →
    ((i k : ℕ) → MayWrite (body_flow (widths d) body) i k → Same held held' i k) →
    ((i k : ℕ) → ReadsOutside (body_flow (widths d) body) i k → (MayWrite (body_flow (widths d) body) i k → ⊥) →
    Same n n' i k) →
    (i k : ℕ) → MayWrite (body_flow (widths d) body) i k →
    block_bit (widths d) f (start d body held n) body i k ≡ block_bit (widths d) f (start d body held' n') body i k
