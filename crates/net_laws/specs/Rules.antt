-- What the rules X1, Z1, X2, X3, C1 and C2 ask of a body: no finding of theirs.
use Rattle.std.specs.Prelude.{◌≡◌, ℕ, ◌-ℤ◌, pos, ◌≤◌, ◌^◌, true, false, List, [], ◌∷◌}
use Rattle.std.specs.List.{All, list_any}
use Rattle.rtl_bits.specs.declared.Bit.{Bit}
use Rattle.rtl_bits.specs.declared.Bit.TheVariants.{X, Z}
use Rattle.rtl_bits.specs.Bits.{all_with, may_equal, number, same_bit}
use Rattle.rtl_flat.specs.declared.expr.Join.{Join}
use Rattle.rtl_flat.specs.declared.expr.Join.TheVariants as join
use Rattle.rtl_flat.specs.Expression.{Tree, Sized, Literal, Whole, BitAt, BitBy, Part, Turned, Joined, Compared, Linked, Folded, Shifted, Chosen, Empty, Beside, Repeated, Recast}
use Rattle.rtl_flat.specs.Flows.{labels_of, literal}
use Rattle.rtl_flat.specs.Process.{Selection, Action, Set, If, Case, Block, Actions, Done, Then, Otherwise, Without, With, Branches, NoBranch, Branch}
use Rattle.rtl_flat.specs.Process as part
use Rattle.rtl_flat.specs.Signs.{IsExpression}
use Rattle.rtl_flat.specs.Sizes.{width_of}
use Rattle.rtl_flat.specs.Value.{value}
use Rattle.rtl_flat.specs.WellFormed.{IsBody}
use Rattle.rtl_flat.specs.Flats.{Flat, widths}
use Rattle.net_model.specs.Numbers.{is_literal}
use Rattle.net_laws.specs.Tame.{AreExclusive, AreTame, IsFirm, IsHonest, IsPlace}

-- ---- expressions

-- an expression and each one in it
abbrev pub EachPart : (Tree → Type 0) → Tree → Type 0
EachPart P (Sized width signed spot e) = P (Sized width signed spot e) × EachPart P e
EachPart P (Literal bits) = P (Literal bits)
EachPart P (Whole i) = P (Whole i)
EachPart P (BitAt i low index) = P (BitAt i low index)
EachPart P (BitBy i low signed index) = P (BitBy i low signed index) × EachPart P index
EachPart P (Part i low width) = P (Part i low width)
EachPart P (Turned operator a) = P (Turned operator a) × EachPart P a
EachPart P (Joined operator signed a b) = P (Joined operator signed a b) × EachPart P a × EachPart P b
EachPart P (Compared operator signed a b) = P (Compared operator signed a b) × EachPart P a × EachPart P b
EachPart P (Linked operator a b) = P (Linked operator a b) × EachPart P a × EachPart P b
EachPart P (Folded operator a) = P (Folded operator a) × EachPart P a
EachPart P (Shifted operator signed a amount) = P (Shifted operator signed a amount) × EachPart P a × EachPart P amount
EachPart P (Chosen c a b) = P (Chosen c a b) × EachPart P c × EachPart P a × EachPart P b
EachPart P Empty = P Empty
EachPart P (Beside a others) = P (Beside a others) × EachPart P a × EachPart P others
EachPart P (Repeated times a) = P (Repeated times a) × EachPart P a
EachPart P (Recast a) = P (Recast a) × EachPart P a

-- X1 and Z1: a literal doesn't have a bit of a kind
abbrev pub HasNone : Bit → Tree → Type 0
HasNone b (Literal bits) = list_any (same_bit b) bits ≡ false
HasNone b _ = Unit {0}

-- X2: a bit-select has its bit whatever the index is
abbrev pub SelectsInside : Flat → Tree → Type 0
SelectsInside d (BitAt i low index) = IsPlace (index -ℤ pos low) (widths d i)
SelectsInside d (BitBy i low signed index) =
    (signed ≡ false) × (low ≡ 0) × (2 ^ width_of (widths d) index ≤ widths d i)
SelectsInside d _ = Unit {0}

-- an operand that is no signal, nor a part of one
abbrev pub IsNoSignal : Tree → Type 0
IsNoSignal (Whole i) = ⊥
IsNoSignal (BitAt i low index) = ⊥
IsNoSignal (BitBy i low signed index) = ⊥
IsNoSignal (Part i low width) = ⊥
IsNoSignal _ = Unit {0}

-- an expression that reads no signal and is a power of two
pub record IsPower (e : Tree) : Type 0 where
  pub constant : EachPart IsNoSignal e
  pub exponent : ℕ
  pub is : number (value (λ i. []) e) ≡ 2 ^ exponent

-- X3: a divisor is a power of two
abbrev pub DividesBy : Join → Tree → Type 0
DividesBy join.Add b = Unit {0}
DividesBy join.Subtract b = Unit {0}
DividesBy join.Multiply b = Unit {0}
DividesBy join.Divide b = IsPower b
DividesBy join.Remainder b = IsPower b
DividesBy join.And b = Unit {0}
DividesBy join.Or b = Unit {0}
DividesBy join.Xor b = Unit {0}
DividesBy join.Xnor b = Unit {0}

abbrev pub DividesByPower : Tree → Type 0
DividesByPower (Joined operator signed a b) = DividesBy operator b
DividesByPower _ = Unit {0}

-- no finding of X1, Z1, X2 or X3 in an expression
pub record IsClear (d : Flat) (e : Tree) : Type 0 where
  pub x1 : EachPart (HasNone X) e
  pub z1 : EachPart (HasNone Z) e
  pub x2 : EachPart (SelectsInside d) e
  pub x3 : EachPart DividesByPower e

-- ---- statements

abbrev mutual
  -- a statement and each one in it
  pub EachIn : (Action → Type 0) → Action → Type 0
  EachIn P (Set target e delayed spot) = P (Set target e delayed spot)
  EachIn P (If test taken other spot) = P (If test taken other spot) × EachOf P taken × EachOther P other
  EachIn P (Case kind full parallel selector branches fallback spot) =
      P (Case kind full parallel selector branches fallback spot) × EachItem P branches × EachOther P fallback
  EachIn P (Block body) = P (Block body) × EachOf P body

  -- each statement of a body
  pub EachOf : (Action → Type 0) → Actions → Type 0
  EachOf P Done = Unit {0}
  EachOf P (Then first others) = EachIn P first × EachOf P others

  pub EachOther : (Action → Type 0) → Otherwise → Type 0
  EachOther P Without = Unit {0}
  EachOther P (With body) = EachOf P body

  pub EachItem : (Action → Type 0) → Branches → Type 0
  EachItem P NoBranch = Unit {0}
  EachItem P (Branch labels body others) = EachOf P body × EachItem P others

-- the index of a target
abbrev pub OfIndex : (Tree → Type 0) → Selection → Type 0
OfIndex P part.Whole = Unit {0}
OfIndex P (part.BitAt low index) = Unit {0}
OfIndex P (part.BitBy low index) = P index
OfIndex P (part.Part low width) = Unit {0}

-- the labels of a case but those that are one literal
abbrev pub OfLabels : (Tree → Type 0) → Branches → Type 0
OfLabels P NoBranch = Unit {0}
OfLabels P (Branch labels body others) =
    All (λ label. is_literal label ≡ false → P label) labels × OfLabels P others

-- the expressions that stand in a statement itself
abbrev pub OfStatement : (Tree → Type 0) → Action → Type 0
OfStatement P (Set target e delayed spot) = All (λ piece. OfIndex P piece.selection) target × P e
OfStatement P (If test taken other spot) = P test
OfStatement P (Case kind full parallel selector branches fallback spot) = P selector × OfLabels P branches
OfStatement P (Block body) = Unit {0}

-- C1: a case with `full_case` and no `default` is complete by its labels
abbrev pub IsFull : Flat → Action → Type 0
IsFull d (Case kind full parallel selector branches fallback spot) =
    IsHonest d kind full selector branches fallback
IsFull d _ = Unit {0}

-- two labels are literals that differ in a bit which is 0 in one and 1 in the other
pub record AreApart (a b : Tree) : Type 0 where
  pub left : List Bit
  pub right : List Bit
  pub is_left : literal a ≡ left ∷ []
  pub is_right : literal b ≡ right ∷ []
  pub differ : all_with may_equal left right ≡ false

-- each label of an item is apart from each of the items behind it
abbrev pub AreDisjoint : Branches → Type 0
AreDisjoint NoBranch = Unit {0}
AreDisjoint (Branch labels body others) =
    All (λ a. All (AreApart a) (labels_of others)) labels × AreDisjoint others

-- C2: the items of a case with `parallel_case` are disjoint
abbrev pub HasDisjoint : Action → Type 0
HasDisjoint (Case kind full parallel selector branches fallback spot) =
    parallel ≡ true → AreDisjoint branches
HasDisjoint _ = Unit {0}

-- ---- what the rules give

-- X1, Z1, X2 and X3: an expression without a finding is firm
abbrev pub FirmByRules : Flat → Type 0
FirmByRules d = (e : Tree) → IsExpression d.signals e → IsClear d e → IsFirm d e

-- with C1 a body is tame
abbrev pub TameByRules : Flat → Type 0
TameByRules d =
    (body : Actions) → IsBody d.signals body → EachOf (OfStatement (IsClear d)) body → EachOf (IsFull d) body → AreTame d body

-- with C2 at most one item of a case that promises it matches
abbrev pub ExclusiveByRules : Flat → Type 0
ExclusiveByRules d =
    (body : Actions) → IsBody d.signals body → AreTame d body → EachOf HasDisjoint body → AreExclusive d body
