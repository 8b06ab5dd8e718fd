-- What the expressions of a design are in which a rule has no finding.
use Rattle.std.specs.Prelude.{◌≡◌, ℕ, List, [], map, Some}
use Rattle.std.specs.List.{All, slice_get}
use Rattle.rtl_bits.specs.declared.Bit.TheVariants.{X, Z}
use Rattle.rtl_flat.specs.Expression.{Tree, Sized, Literal, Whole, BitAt, BitBy, Part, Turned, Joined, Compared, Linked, Folded, Shifted, Chosen, Empty, Beside, Repeated, Recast}
use Rattle.rtl_flat.specs.declared.act.Process.{Process}
use Rattle.rtl_flat.specs.Process.{Piece, Actions, Assign, Task, task}
use Rattle.rtl_flat.specs.Signs.{sign_of}
use Rattle.event_model.specs.Queue.{doing_at}
use Rattle.net_laws.specs.event_laws.Steady.{AreLawful}
use Rattle.net_laws.specs.Rules.{DividesByPower, EachPart, HasNone, SelectsInside}
use Rattle.net_laws.specs.Tame.{AreExclusive, AreTame, IsFirm}
use Rattle.rtl_rule.specs.Parts.{labels, trees, valued_trees}
use Rattle.rtl_flat.specs.Flats.{Flat}
use Rattle.check_case.specs.Cases.{AreFullCase, AreParallelCase}
use Rattle.check_assign.specs.Assigned.{AreTristate}
use Rattle.check_unknown.specs.Unknowns.{AreDivideVariable, AreSelectRange, AreUnknownLiteral}
use Rattle.check_laws.specs.Cases.{IsBodyOf}

-- ---- the form of stored expressions

abbrev mutual
  -- an expression in which each operand has its width, its sign and its place
  pub IsMarked : Tree → Type 0
  IsMarked (Sized width signed spot e) = IsForm e
  IsMarked _ = ⊥

  -- an operator with such operands; an index says itself whether it is signed
  pub IsForm : Tree → Type 0
  IsForm (Sized width signed spot e) = ⊥
  IsForm (Literal bits) = Unit {0}
  IsForm (Whole i) = Unit {0}
  IsForm (BitAt i low index) = Unit {0}
  IsForm (BitBy i low signed index) = (sign_of index ≡ signed) × IsMarked index
  IsForm (Part i low width) = Unit {0}
  IsForm (Turned operator a) = IsMarked a
  IsForm (Joined operator signed a b) = IsMarked a × IsMarked b
  IsForm (Compared operator signed a b) = IsMarked a × IsMarked b
  IsForm (Linked operator a b) = IsMarked a × IsMarked b
  IsForm (Folded operator a) = IsMarked a
  IsForm (Shifted operator signed a amount) = IsMarked a × IsMarked amount
  IsForm (Chosen c a b) = IsMarked c × IsMarked a × IsMarked b
  IsForm Empty = Unit {0}
  IsForm (Beside a others) = IsMarked a × IsRow others
  IsForm (Repeated times a) = IsMarked a
  IsForm (Recast a) = IsMarked a

  -- the parts of a concatenation behind its first
  pub IsRow : Tree → Type 0
  IsRow Empty = Unit {0}
  IsRow (Beside a others) = IsMarked a × IsRow others
  IsRow _ = ⊥

-- whether all expressions of the processes are so, as those of each stored design are
abbrev pub AreMarked : Flat → Type 0
AreMarked d =
    (p : ℕ) (task : Task) → slice_get d.tasks p ≡ Some task → All IsMarked (trees task.does) × All IsMarked (labels task.does)

-- ---- rules on expressions

-- X1: no literal has an x, but for labels that are one
abbrev pub UnknownLiteral : Flat → Type 0
UnknownLiteral d =
    AreMarked d → AreUnknownLiteral d [] →
    (p : ℕ) (task : Task) → slice_get d.tasks p ≡ Some task → All (EachPart (HasNone X)) (valued_trees task.does)

-- Z1: none has a z
abbrev pub Tristate : Flat → Type 0
Tristate d =
    AreMarked d → AreTristate d [] →
    (p : ℕ) (task : Task) → slice_get d.tasks p ≡ Some task → All (EachPart (HasNone Z)) (valued_trees task.does)

-- X2: each bit-select of an expression has its bit whatever the index is
abbrev pub SelectRange : Flat → Type 0
SelectRange d =
    AreMarked d → AreSelectRange d [] →
    (p : ℕ) (task : Task) → slice_get d.tasks p ≡ Some task →
    All (EachPart (SelectsInside d)) (trees task.does) × All (EachPart (SelectsInside d)) (labels task.does)

-- X3: where no bit-select is outside, either, each divisor is a power of two
abbrev pub DivideVariable : Flat → Type 0
DivideVariable d =
    AreLawful d → AreMarked d → AreSelectRange d [] → AreDivideVariable d [] →
    (p : ℕ) (task : Task) → slice_get d.tasks p ≡ Some task →
    All (EachPart DividesByPower) (trees task.does) × All (EachPart DividesByPower) (labels task.does)

-- ---- bodies and assignments

-- no finding of the rules on expressions and on words of cases
pub record HasNoDoubt (d : Flat) : Type 0 where
  pub x1 : AreUnknownLiteral d []
  pub z1 : AreTristate d []
  pub x2 : AreSelectRange d []
  pub x3 : AreDivideVariable d []
  pub c1 : AreFullCase d []
  pub c2 : AreParallelCase d []

-- what is assigned continuously is then known where signals are
abbrev pub FirmAssigns : Flat → Type 0
FirmAssigns d =
    AreLawful d → AreMarked d → HasNoDoubt d →
    (p : ℕ) (target : List Piece) (value : Tree) → doing_at d p ≡ Some (Assign target value) →
    IsFirm d value

-- from known values each body makes what synthesis makes of it
abbrev pub TameBodies : Flat → Type 0
TameBodies d =
    AreLawful d → AreMarked d → HasNoDoubt d →
    (p : ℕ) (body : Actions) → IsBodyOf d p body → AreTame d body

-- and of a case with `parallel_case` one item matches at most
abbrev pub ExclusiveBodies : Flat → Type 0
ExclusiveBodies d =
    AreLawful d → AreMarked d → HasNoDoubt d →
    (p : ℕ) (body : Actions) → IsBodyOf d p body → AreExclusive d body

-- the processes of a stored design have marked expressions
abbrev pub StoredAreMarked : Flat → Type 0
StoredAreMarked d = (processes : List Process) → d.tasks ≡ map task processes → AreMarked d
