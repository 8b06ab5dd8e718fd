-- It serves inner contracts and proofs; no answer of the program is stated by it.
-- What holds of a design holds in one way only, as a fact that its type keeps has to.
use Rattle.std.specs.Prelude.{ℕ, ◌≡◌, ◌+◌, ◌≤◌, Bool, true, List, [], ◌∷◌, length, Option, Some, None}
use Rattle.std.specs.List.{slice_get}
use Rattle.std.specs.Option.{IsSomeAnd-prop}
use Rattle.std.proofs.Props.{props}
use Rattle.rtl_flat.specs.declared.signal.Kind.{Kind}
use Rattle.rtl_flat.specs.declared.signal.Kind.TheVariants.{Net, Var}
use Rattle.rtl_flat.specs.declared.signal.Signal.{Signal}
use Rattle.rtl_flat.specs.declared.instance.Instance.{Instance}
use Rattle.rtl_flat.specs.declared.instance.DroppedRegion.{DroppedRegion}
use Rattle.rtl_flat.specs.declared.instance.Delay.{Delay}
use Rattle.rtl_flat.specs.Expression.{Tree, Sized, Literal, Whole, BitAt, BitBy, Part, Turned, Joined, Compared, Linked, Folded, Shifted, Chosen, Empty, Beside, Repeated, Recast}
use Rattle.rtl_flat.specs.Sizes.{IsSized}
use Rattle.rtl_flat.specs.Signs.{Has, width_in, MayHaveSign, IsDeclared, IsExpression}
use Rattle.rtl_flat.specs.Process.{Selection, Piece, Watched, Action, Actions, Otherwise, Branches, Doing, Task}
use Rattle.rtl_flat.specs.Process as part
use Rattle.rtl_flat.specs.WellFormed.{IsSelection, IsAssignment, IsFixed, HasNoneTwice, IsWhole, IsWatched, IsAction, IsBody, IsOtherwise, AreBranches, IsList, IsProcess, IsUnder, IsHierarchy, IsDesign}

pub has_one : (P : Signal → Type 0) → ((s : Signal) → IsProp (P s)) → (signals : List Signal) (i : ℕ) → IsProp (Has P signals i)
has_one P one signals i = IsSomeAnd-prop (slice_get signals i) P one

pub sized_one : (n : ℕ) (ws : ℕ → ℕ) (e : Tree) → IsProp (IsSized n ws e)
sized_one n ws (Sized w s spot e) = hlevel (props, sized_one n ws e)
sized_one n ws (Literal bits) = hlevel props
sized_one n ws (Whole i) = hlevel props
sized_one n ws (BitAt i low index) = hlevel props
sized_one n ws (BitBy i low s e) = hlevel (props, sized_one n ws e)
sized_one n ws (Part i low w) = hlevel props
sized_one n ws (Turned o a) = sized_one n ws a
sized_one n ws (Joined o s a b) = hlevel (props, sized_one n ws a, sized_one n ws b)
sized_one n ws (Compared o s a b) = hlevel (props, sized_one n ws a, sized_one n ws b)
sized_one n ws (Linked o a b) = hlevel (props, sized_one n ws a, sized_one n ws b)
sized_one n ws (Folded o a) = sized_one n ws a
sized_one n ws (Shifted o s a b) = hlevel (props, sized_one n ws a, sized_one n ws b)
sized_one n ws (Chosen c a b) =
    hlevel (props, sized_one n ws c, sized_one n ws a, sized_one n ws b)
sized_one n ws Empty = hlevel props
sized_one n ws (Beside a b) = hlevel (props, sized_one n ws a, sized_one n ws b)
sized_one n ws (Repeated k a) = sized_one n ws a
sized_one n ws (Recast a) = sized_one n ws a

pub may_have_sign_one : (signals : List Signal) (t : Bool) (e : Tree) → IsProp (MayHaveSign signals t e)
may_have_sign_one signals t (Sized w s spot e) = hlevel props
may_have_sign_one signals t (Literal bits) = hlevel props
may_have_sign_one signals t (Whole i) =
    hlevel (props, has_one (λ s. s.signed ≡ true) (λ s. hlevel props) signals i)
may_have_sign_one signals t (BitAt i low index) = hlevel props
may_have_sign_one signals t (BitBy i low s e) = hlevel props
may_have_sign_one signals t (Part i low w) = hlevel props
may_have_sign_one signals t (Turned o a) = hlevel props
may_have_sign_one signals t (Joined o s a b) = hlevel props
may_have_sign_one signals t (Compared o s a b) = hlevel props
may_have_sign_one signals t (Linked o a b) = hlevel props
may_have_sign_one signals t (Folded o a) = hlevel props
may_have_sign_one signals t (Shifted o s a b) = hlevel props
may_have_sign_one signals t (Chosen c a b) = hlevel props
may_have_sign_one signals t Empty = hlevel props
may_have_sign_one signals t (Beside a b) = hlevel props
may_have_sign_one signals t (Repeated k a) = hlevel props
may_have_sign_one signals t (Recast a) = hlevel props

-- of the number that a declaration gives to the least significant bit
pub low_one : (signals : List Signal) (i low : ℕ) → IsProp (Has (λ s. s.low ≡ low) signals i)
low_one signals i low = has_one (λ s. s.low ≡ low) (λ s. hlevel props) signals i

pub declared_one : (signals : List Signal) (e : Tree) → IsProp (IsDeclared signals e)
declared_one ss (Sized w s spot e) = hlevel (props, may_have_sign_one ss s e, declared_one ss e)
declared_one ss (Literal bits) = hlevel props
declared_one ss (Whole i) = hlevel props
declared_one ss (BitAt i low index) = low_one ss i low
declared_one ss (BitBy i low s e) = hlevel (props, low_one ss i low, declared_one ss e)
declared_one ss (Part i low w) = hlevel props
declared_one ss (Turned o a) = declared_one ss a
declared_one ss (Joined o s a b) = hlevel (props, declared_one ss a, declared_one ss b)
declared_one ss (Compared o s a b) = hlevel (props, declared_one ss a, declared_one ss b)
declared_one ss (Linked o a b) = hlevel (props, declared_one ss a, declared_one ss b)
declared_one ss (Folded o a) = declared_one ss a
declared_one ss (Shifted o s a b) = hlevel (props, declared_one ss a, declared_one ss b)
declared_one ss (Chosen c a b) =
    hlevel (props, declared_one ss c, declared_one ss a, declared_one ss b)
declared_one ss Empty = hlevel props
declared_one ss (Beside a b) = hlevel (props, declared_one ss a, declared_one ss b)
declared_one ss (Repeated k a) = declared_one ss a
declared_one ss (Recast a) = declared_one ss a

pub expression_one : (signals : List Signal) (e : Tree) → IsProp (IsExpression signals e)
expression_one ss e =
    hlevel (props, sized_one (length ss) (width_in ss) e, declared_one ss e)

pub selection_one : (signals : List Signal) (i : ℕ) (s : Selection) → IsProp (IsSelection signals i s)
selection_one ss i part.Whole = hlevel props
selection_one ss i (part.BitAt low index) = low_one ss i low
selection_one ss i (part.BitBy low e) = hlevel (props, low_one ss i low, expression_one ss e)
selection_one ss i (part.Part low w) =
    hlevel (props, has_one (λ s. low + w ≤ s.width) (λ s. hlevel props) ss i)

pub assignment_one : (signals : List Signal) (kind : Kind) (target : List Piece) (e : Tree) → IsProp (IsAssignment signals kind target e)
assignment_one ss kind target e =
    hlevel (props, λ (p : Piece). selection_one ss p.signal p.selection, λ (p : Piece). has_one (λ s. s.kind ≡ kind) (λ s. hlevel props) ss p.signal, expression_one ss e)

pub fixed_one : (s : Selection) → IsProp (IsFixed s)
fixed_one part.Whole = hlevel props
fixed_one (part.BitAt low index) = hlevel props
fixed_one (part.BitBy low e) = hlevel props
fixed_one (part.Part low w) = hlevel props

pub none_twice_one : (signals : List Signal) (target : List Piece) → IsProp (HasNoneTwice signals target)
none_twice_one ss [] = hlevel props
none_twice_one ss (p ∷ others) = hlevel (props, none_twice_one ss others)

pub whole_one : (s : Selection) → IsProp (IsWhole s)
whole_one part.Whole = hlevel props
whole_one (part.BitAt low index) = hlevel props
whole_one (part.BitBy low e) = hlevel props
whole_one (part.Part low w) = hlevel props

pub watched_one : (signals : List Signal) (item : Watched) → IsProp (IsWatched signals item)
watched_one ss item =
    hlevel (props, selection_one ss item.signal item.selection, whole_one item.selection, has_one (λ s. s.width ≡ 1) (λ s. hlevel props) ss item.signal)

mutual
  pub action_one : (signals : List Signal) (a : Action) → IsProp (IsAction signals a)
  action_one ss (part.Set target e delayed spot) = assignment_one ss Var target e
  action_one ss (part.If e body other spot) =
      hlevel (props, expression_one ss e, body_one ss body, otherwise_one ss other)
  action_one ss (part.Case kind full parallel e branches other spot) =
      hlevel (props, expression_one ss e, branches_one ss e branches, otherwise_one ss other)
  action_one ss (part.Block body) = body_one ss body

  pub body_one : (signals : List Signal) (body : Actions) → IsProp (IsBody signals body)
  body_one ss part.Done = hlevel props
  body_one ss (part.Then first others) = hlevel (props, action_one ss first, body_one ss others)

  pub otherwise_one : (signals : List Signal) (other : Otherwise) → IsProp (IsOtherwise signals other)
  otherwise_one ss part.Without = hlevel props
  otherwise_one ss (part.With body) = body_one ss body

  pub branches_one : (signals : List Signal) (e : Tree) (branches : Branches) → IsProp (AreBranches signals e branches)
  branches_one ss e part.NoBranch = hlevel props
  branches_one ss e (part.Branch labels body others) =
      hlevel (props, expression_one ss, body_one ss body, branches_one ss e others)

pub list_one : (signals : List Signal) (list : Option (List Watched)) → IsProp (IsList signals list)
list_one ss None = hlevel props
list_one ss (Some items) = hlevel (props, watched_one ss)

pub process_one : (signals : List Signal) (d : Doing) → IsProp (IsProcess signals d)
process_one ss (part.Assign target e) =
    hlevel (props, assignment_one ss Net target e, λ (p : Piece). fixed_one p.selection, none_twice_one ss target)
process_one ss (part.Comb list body) = hlevel (props, list_one ss list, body_one ss body)
process_one ss (part.Edge' events body) = hlevel (props, watched_one ss, body_one ss body)

pub under_one : (depth : ℕ) (instances : List Instance) → IsProp (IsUnder depth instances)
under_one depth [] = hlevel props
under_one depth (one ∷ others) = hlevel (props, under_one one.depth others)

pub hierarchy_one : (instances : List Instance) → IsProp (IsHierarchy instances)
hierarchy_one [] = hlevel props
hierarchy_one (top ∷ others) = hlevel (props, under_one 1 others)

pub design_one : (signals : List Signal) (tasks : List Task) (instances : List Instance) (dropped : List DroppedRegion) (delays : List Delay) → IsProp (IsDesign signals tasks instances dropped delays)
design_one signals tasks instances dropped delays =
    hlevel (props, hierarchy_one instances, λ (one : Task). process_one signals one.does)
