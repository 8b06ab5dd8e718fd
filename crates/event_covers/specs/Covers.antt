-- What an unknown value may be, and which statements keep that. An x stands for a value that isn't known, and in an
-- expression a z does so too (IEEE 1364-2001 section 3.1).
-- Worked examples: proofs/Example.antt.
use Rattle.std.specs.Prelude.{◌≡◌, ℕ, false, true, List}
use Rattle.std.specs.List.{AllZip, slice_index_or}
use Rattle.rtl_bits.specs.declared.Bit.{Bit}
use Rattle.rtl_bits.specs.declared.Bit.TheVariants.{X}
use Rattle.rtl_bits.specs.Bit.{is_unknown}
use Rattle.rtl_flat.specs.declared.expr.Compare.{Compare}
use Rattle.rtl_flat.specs.declared.expr.Compare.TheVariants as compare
use Rattle.rtl_flat.specs.Expression.{Tree, Sized, Literal, Whole, BitAt, BitBy, Part, Turned, Joined, Compared, Linked, Folded, Shifted, Chosen, Empty, Beside, Repeated, Recast}
use Rattle.rtl_flat.specs.Flats.{Flat, widths}
use Rattle.rtl_flat.specs.Flows.{labels_of, reads, reads_all, target_reads}
use Rattle.rtl_flat.specs.Paths.{BitSet, no_bit, either}
use Rattle.rtl_flat.specs.Process.{Action, Set, If, Case, Block, Actions, Done, Then, Otherwise, Without, With, Branches, NoBranch, Branch}
use Rattle.rtl_flat.specs.Signs.{IsExpression}
use Rattle.rtl_flat.specs.Value.{value}
use Rattle.rtl_flat.specs.WellFormed.{IsBody}
use Rattle.event_model.specs.Bodies.{Made, Now, Later, body_made}
use Rattle.event_model.specs.Traces.{Same, body_trace}
use Rattle.event_model.specs.Writes.{Values, Write}
use Rattle.event_laws.specs.Laws.{MakesNow, after_body}
use Rattle.event_laws.specs.Steady.{HaveWidths}

-- ---- what may be another

-- a bit may be another: an x or z may be any, and a known bit itself alone (section 3.1)
abbrev pub MayBe : Bit → Bit → Type 0
MayBe x b = is_unknown x ≡ false → x ≡ b

-- each bit of a value may be the bit at its place in another value, which has as many bits
abbrev pub AllMayBe : List Bit → List Bit → Type 0
AllMayBe a b = AllZip MayBe a b

-- each bit of each signal may be the bit that another state has there
abbrev pub StoresMayBe : Values → Values → Type 0
StoresMayBe v u = (i k : ℕ) → MayBe (slice_index_or (v i) k X) (slice_index_or (u i) k X)

-- a write may be another to the same bits
pub record WriteMayBe (w z : Write) : Type 0 where
  pub signal : w.signal ≡ z.signal
  pub at : w.at ≡ z.at
  pub bits : AllMayBe w.bits z.bits

-- writes may be others, each in its turn
abbrev pub WritesMayBe : List Write → List Write → Type 0
WritesMayBe ws zs = AllZip WriteMayBe ws zs

-- a write at once may be another write at once, and an update for later another update for later (section 9.2)
abbrev pub OneMayBe : Made → Made → Type 0
OneMayBe (Now w) (Now z) = WriteMayBe w z
OneMayBe (Now w) (Later zs) = ⊥
OneMayBe (Later ws) (Now z) = ⊥
OneMayBe (Later ws) (Later zs) = WritesMayBe ws zs

-- what one run makes may be what another makes, each in its turn
abbrev pub MadeMayBe : List Made → List Made → Type 0
MadeMayBe ms ns = AllZip OneMayBe ms ns

-- ---- statements that keep it

-- whether a comparison is x where it would depend on an unknown bit: `===` and `!==` never are (section 4.1.8)
abbrev pub IsPlainCompare : Compare → Type 0
IsPlainCompare compare.Equal = Unit {0}
IsPlainCompare compare.NotEqual = Unit {0}
IsPlainCompare compare.CaseEqual = ⊥
IsPlainCompare compare.CaseNotEqual = ⊥
IsPlainCompare compare.Less = Unit {0}
IsPlainCompare compare.LessOrEqual = Unit {0}
IsPlainCompare compare.Greater = Unit {0}
IsPlainCompare compare.GreaterOrEqual = Unit {0}

-- an expression has no `===` and no `!==`
abbrev pub IsPlainTree : Tree → Type 0
IsPlainTree (Sized width signed spot e) = IsPlainTree e
IsPlainTree (Literal bits) = Unit {0}
IsPlainTree (Whole i) = Unit {0}
IsPlainTree (BitAt i low index) = Unit {0}
IsPlainTree (BitBy i low signed index) = IsPlainTree index
IsPlainTree (Part i low width) = Unit {0}
IsPlainTree (Turned operator a) = IsPlainTree a
IsPlainTree (Joined operator signed a b) = IsPlainTree a × IsPlainTree b
IsPlainTree (Compared operator signed a b) = IsPlainCompare operator × IsPlainTree a × IsPlainTree b
IsPlainTree (Linked operator a b) = IsPlainTree a × IsPlainTree b
IsPlainTree (Folded operator a) = IsPlainTree a
IsPlainTree (Shifted operator signed a amount) = IsPlainTree a × IsPlainTree amount
IsPlainTree (Chosen c a b) = IsPlainTree c × IsPlainTree a × IsPlainTree b
IsPlainTree Empty = Unit {0}
IsPlainTree (Beside a others) = IsPlainTree a × IsPlainTree others
IsPlainTree (Repeated times a) = IsPlainTree a
IsPlainTree (Recast a) = IsPlainTree a

abbrev mutual
  -- no value that a statement assigns has a `===` or a `!==`; what decides may have them
  pub IsPlainAction : Action → Type 0
  IsPlainAction (Set target e delayed spot) = IsPlainTree e
  IsPlainAction (If test taken other spot) = ArePlainActions taken × ArePlainOtherwise other
  IsPlainAction (Case kind full parallel selector branches fallback spot) =
      ArePlainBranches branches × ArePlainOtherwise fallback
  IsPlainAction (Block body) = ArePlainActions body

  pub ArePlainActions : Actions → Type 0
  ArePlainActions Done = Unit {0}
  ArePlainActions (Then first others) = IsPlainAction first × ArePlainActions others

  pub ArePlainOtherwise : Otherwise → Type 0
  ArePlainOtherwise Without = Unit {0}
  ArePlainOtherwise (With body) = ArePlainActions body

  pub ArePlainBranches : Branches → Type 0
  ArePlainBranches NoBranch = Unit {0}
  ArePlainBranches (Branch labels body others) = ArePlainActions body × ArePlainBranches others

abbrev mutual
  -- the bits that decide what a statement does: those that its conditions (section 9.4), selectors and labels (section 9.5)
  -- and the indices of its targets (section 4.2.1) read
  pub action_choices : (ℕ → ℕ) → Action → BitSet
  action_choices ws (Set target e delayed spot) = target_reads ws target
  action_choices ws (If test taken other spot) =
      either (reads ws test) (either (body_choices ws taken) (other_choices ws other))
  action_choices ws (Case kind full parallel selector branches fallback spot) =
      either (either (reads ws selector) (reads_all ws (labels_of branches)))
      (either (branch_choices ws branches) (other_choices ws fallback))
  action_choices ws (Block body) = body_choices ws body

  pub body_choices : (ℕ → ℕ) → Actions → BitSet
  body_choices ws Done = no_bit
  body_choices ws (Then first others) = either (action_choices ws first) (body_choices ws others)

  pub other_choices : (ℕ → ℕ) → Otherwise → BitSet
  other_choices ws Without = no_bit
  other_choices ws (With body) = body_choices ws body

  pub branch_choices : (ℕ → ℕ) → Branches → BitSet
  branch_choices ws NoBranch = no_bit
  branch_choices ws (Branch labels body others) = either (body_choices ws body) (branch_choices ws others)

-- ---- the laws

-- the value of an expression may be its value from what the signals may be
abbrev pub ValuesMay : Flat → Type 0
ValuesMay d =
    (v u : Values) (e : Tree) →
    HaveWidths d v → HaveWidths d u → StoresMayBe v u → IsExpression d.signals e → IsPlainTree e →
    AllMayBe (value v e) (value u e)

-- what decides is the same from two values
abbrev pub AgreeOnChoices : Flat → Actions → Values → Values → Type 0
AgreeOnChoices d body v u = (i k : ℕ) → body_choices (widths d) body i k ≡ true → Same v u i k

-- a run writes nothing at once that decides
abbrev pub KeepsChoices : Flat → Actions → Values → Type 0
KeepsChoices d body v = (i k : ℕ) → body_choices (widths d) body i k ≡ true → MakesNow d v body i k → ⊥

-- what a run makes and leaves may be what another does, by the same steps
pub record RunMayBe (d : Flat) (body : Actions) (v u : Values) : Type 0 where
  pub made : MadeMayBe (body_made (widths d) v body) (body_made (widths d) u body)
  pub steps : body_trace (widths d) v body ≡ body_trace (widths d) u body
  pub after : StoresMayBe (after_body d v body) (after_body d u body)

-- so it is where they start from values that may be one another and agree on what decides
abbrev pub BodiesMay : Flat → Type 0
BodiesMay d =
    (v u : Values) (body : Actions) →
    HaveWidths d v → HaveWidths d u → StoresMayBe v u → IsBody d.signals body → ArePlainActions body →
    AgreeOnChoices d body v u → KeepsChoices d body v → RunMayBe d body v u
