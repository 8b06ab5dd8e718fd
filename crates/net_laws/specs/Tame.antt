-- Conditions under which the run of a body from known values makes what synthesis makes of it.
use Rattle.std.specs.Prelude.{◌≡◌, ℕ, ℤ, pos, negsuc, ◌-ℤ◌, ◌<◌, ◌≤◌, ◌^◌, Bool, true, false, List}
use Rattle.std.specs.List.{All}
use Rattle.rtl_bits.specs.declared.Bit.{Bit}
use Rattle.rtl_bits.specs.Bits.{has_unknown, number}
use Rattle.rtl_flat.specs.declared.act.CaseKind.{CaseKind}
use Rattle.rtl_flat.specs.declared.expr.Join.{Join}
use Rattle.rtl_flat.specs.declared.expr.Join.TheVariants as join
use Rattle.rtl_flat.specs.Expression.{Tree, Sized, Literal, Whole, BitAt, BitBy, Part, Turned, Joined, Compared, Linked, Folded, Shifted, Chosen, Empty, Beside, Repeated, Recast}
use Rattle.rtl_flat.specs.Flows.{body_flow, complete_by_labels, labels_of}
use Rattle.rtl_flat.specs.Paths.{MayWriteLate, MayWriteNow}
use Rattle.rtl_flat.specs.Process.{Selection, Action, Set, If, Case, Block, Actions, Done, Then, Otherwise, Without, With, Branches, NoBranch, Branch}
use Rattle.rtl_flat.specs.Process as part
use Rattle.rtl_flat.specs.Sizes.{width_of}
use Rattle.rtl_flat.specs.Value.{value}
use Rattle.event_model.specs.Bodies.{some_matches}
use Rattle.rtl_flat.specs.Flats.{Flat, widths}
use Rattle.event_model.specs.Writes.{Values}
use Rattle.net_model.specs.declared.fill.Fill.{Fill}
use Rattle.net_model.specs.Numbers.{AreNumbers, digits, is_literal}

-- ---- expressions

-- a place inside a signal of so many bits
abbrev pub IsPlace : ℤ → ℕ → Type 0
IsPlace (pos k) width = k < width
IsPlace (negsuc k) width = ⊥

-- an expression whose number is never 0
abbrev pub IsNeverZero : Flat → Tree → Type 0
IsNeverZero d e =
    (f : Fill) (n : Values) → AreNumbers d n → number (digits f n e) ≡ 0 → ⊥

-- an operator has a number at every left operand: `/` and `%` need another divisor than 0 (IEEE 1364-2001 section 4.1.5)
abbrev pub IsDefinedBy : Flat → Join → Tree → Type 0
IsDefinedBy d join.Add b = Unit {0}
IsDefinedBy d join.Subtract b = Unit {0}
IsDefinedBy d join.Multiply b = Unit {0}
IsDefinedBy d join.Divide b = IsNeverZero d b
IsDefinedBy d join.Remainder b = IsNeverZero d b
IsDefinedBy d join.And b = Unit {0}
IsDefinedBy d join.Or b = Unit {0}
IsDefinedBy d join.Xor b = Unit {0}
IsDefinedBy d join.Xnor b = Unit {0}

-- an expression that is known wherever the signals are: no x or z in a literal, no bit outside its signal, whatever the
-- index is, and no divisor that is 0 (IEEE 1364-2001 sections 4.1.5 and 4.2.1)
abbrev pub IsFirm : Flat → Tree → Type 0
IsFirm d (Sized width signed spot e) = IsFirm d e
IsFirm d (Literal bits) = has_unknown bits ≡ false
IsFirm d (Whole i) = Unit {0}
IsFirm d (BitAt i low index) = IsPlace (index -ℤ pos low) (widths d i)
IsFirm d (BitBy i low signed index) =
    (signed ≡ false) × (low ≡ 0) × (2 ^ width_of (widths d) index ≤ widths d i) × IsFirm d index
IsFirm d (Part i low width) = Unit {0}
IsFirm d (Turned operator a) = IsFirm d a
IsFirm d (Joined operator signed a b) = IsFirm d a × IsFirm d b × IsDefinedBy d operator b
IsFirm d (Compared operator signed a b) = IsFirm d a × IsFirm d b
IsFirm d (Linked operator a b) = IsFirm d a × IsFirm d b
IsFirm d (Folded operator a) = IsFirm d a
IsFirm d (Shifted operator signed a amount) = IsFirm d a × IsFirm d amount
IsFirm d (Chosen c a b) = IsFirm d c × IsFirm d a × IsFirm d b
IsFirm d Empty = Unit {0}
IsFirm d (Beside a others) = IsFirm d a × IsFirm d others
IsFirm d (Repeated times a) = IsFirm d a
IsFirm d (Recast a) = IsFirm d a

-- ---- statements

-- the index of a target, which may be outside: both meanings then write nothing
abbrev pub HasFirmIndex : Flat → Selection → Type 0
HasFirmIndex d part.Whole = Unit {0}
HasFirmIndex d (part.BitAt low index) = Unit {0}
HasFirmIndex d (part.BitBy low index) = IsFirm d index
HasFirmIndex d (part.Part low width) = Unit {0}

-- a label of a case, in which a literal may have x and z
abbrev pub IsFirmLabel : Flat → Tree → Type 0
IsFirmLabel d label = is_literal label ≡ false → IsFirm d label

-- a case keeps the promise of `full_case`: it has a `default`, or is complete by its labels (IEEE 1364.1-2002 section 6.1.1)
abbrev pub IsHonest : Flat → CaseKind → Bool → Tree → Branches → Otherwise → Type 0
IsHonest d kind full selector branches (With body) = Unit {0}
IsHonest d kind full selector branches Without =
    full ≡ true → complete_by_labels (widths d) kind selector branches ≡ true

abbrev mutual
  -- a statement of firm expressions and honest cases
  pub IsTame : Flat → Action → Type 0
  IsTame d (Set target e delayed spot) =
      All (λ piece. HasFirmIndex d piece.selection) target × IsFirm d e
  IsTame d (If test taken other spot) = IsFirm d test × AreTame d taken × IsTameOther d other
  IsTame d (Case kind full parallel selector branches fallback spot) =
      IsFirm d selector × IsHonest d kind full selector branches fallback × AreTameItems d branches × IsTameOther d fallback
  IsTame d (Block body) = AreTame d body

  -- the same of a body
  pub AreTame : Flat → Actions → Type 0
  AreTame d Done = Unit {0}
  AreTame d (Then first others) = IsTame d first × AreTame d others

  pub IsTameOther : Flat → Otherwise → Type 0
  IsTameOther d Without = Unit {0}
  IsTameOther d (With body) = AreTame d body

  pub AreTameItems : Flat → Branches → Type 0
  AreTameItems d NoBranch = Unit {0}
  AreTameItems d (Branch labels body others) =
      All (IsFirmLabel d) labels × AreTame d body × AreTameItems d others

-- ---- items that exclude one another

-- at most one item of a case matches
abbrev pub OneMatches : CaseKind → Values → List Bit → Branches → Type 0
OneMatches kind v bits NoBranch = Unit {0}
OneMatches kind v bits (Branch labels body others) =
    (some_matches kind v bits labels ≡ true → some_matches kind v bits (labels_of others) ≡ false) × OneMatches kind v bits others

-- a case keeps the promise of `parallel_case`: from no numbers do two items match (IEEE 1364.1-2002 section 6.1.1)
abbrev pub IsParallel : Flat → CaseKind → Bool → Tree → Branches → Type 0
IsParallel d kind parallel selector branches =
    parallel ≡ true → (n : Values) → AreNumbers d n → OneMatches kind n (value n selector) branches

abbrev mutual
  -- a statement in which each case keeps that promise
  pub IsExclusive : Flat → Action → Type 0
  IsExclusive d (Set target e delayed spot) = Unit {0}
  IsExclusive d (If test taken other spot) = AreExclusive d taken × IsExclusiveOther d other
  IsExclusive d (Case kind full parallel selector branches fallback spot) =
      IsParallel d kind parallel selector branches × AreExclusiveItems d branches × IsExclusiveOther d fallback
  IsExclusive d (Block body) = AreExclusive d body

  -- the same of a body
  pub AreExclusive : Flat → Actions → Type 0
  AreExclusive d Done = Unit {0}
  AreExclusive d (Then first others) = IsExclusive d first × AreExclusive d others

  pub IsExclusiveOther : Flat → Otherwise → Type 0
  IsExclusiveOther d Without = Unit {0}
  IsExclusiveOther d (With body) = AreExclusive d body

  pub AreExclusiveItems : Flat → Branches → Type 0
  AreExclusiveItems d NoBranch = Unit {0}
  AreExclusiveItems d (Branch labels body others) = AreExclusive d body × AreExclusiveItems d others

-- ---- ways to write

-- no bit is written by blocking and by nonblocking assignments, and of cases that promise it one item matches
pub record AreSplit (d : Flat) (body : Actions) : Type 0 where
  pub one_way :
      (i k : ℕ) → MayWriteNow (body_flow (widths d) body) i k → MayWriteLate (body_flow (widths d) body) i k → ⊥
  pub exclusive : AreExclusive d body

-- all is written by blocking assignments, and of cases that promise it one item matches
pub record ArePlainly (d : Flat) (body : Actions) : Type 0 where
  pub at_once : (i k : ℕ) → MayWriteLate (body_flow (widths d) body) i k → ⊥
  pub exclusive : AreExclusive d body
