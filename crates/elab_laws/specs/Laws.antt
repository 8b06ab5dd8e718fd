-- What is without faults is lawful in the design: the laws that elaboration rests on.
use Rattle.std.specs.Prelude.{ℕ, ℤ, ◌<◌, ◌≤◌, ◌≡◌, Bool, true, false, List, [], ◌∷◌, map, length, Option}
use Rattle.std.specs.List.{All, list_any}
use Rattle.text_ground.specs.declared.text.Spot.{Spot}
use Rattle.rtl_tree.specs.TreeExpr.{Formula}
use Rattle.rtl_tree.specs.TreeStmt.{Action, Target}
use Rattle.rtl_tree.specs.TreeItem.{Happening, Listed, Sensitivity}
use Rattle.rtl_flat.specs.declared.signal.Kind.TheVariants.{Net, Var}
use Rattle.rtl_flat.specs.declared.signal.Signal.{Signal}
use Rattle.rtl_flat.specs.declared.instance.Instance.{Instance}
use Rattle.rtl_flat.specs.Expression.{Sized, nodes}
use Rattle.rtl_flat.specs.Expression as tree
use Rattle.rtl_flat.specs.Process.{Assign, Comb, Edge', Whole, body_of}
use Rattle.rtl_flat.specs.Signs.{Has, IsExpression, width_in}
use Rattle.rtl_flat.specs.Sizing.{HaveBits, signed_in, sized}
use Rattle.rtl_flat.specs.WellFormed.{IsAssignment, IsBody, IsList, IsProcess, IsSignal, IsWatched, has_edge, statements_of}
use Rattle.elab_body.specs.elab_scope.declared.context.Context.{Context}
use Rattle.elab_body.specs.elab_scope.declared.rules.Writer.TheVariants.{Continuous, Procedural}
use Rattle.elab_body.specs.elab_scope.declared.widths.Breadth.{Breadth}
use Rattle.elab_body.specs.elab_scope.declared.widths.Breadth.TheVariants.{Bits}
use Rattle.elab_body.specs.elab_scope.Expressions.{faults}
use Rattle.elab_body.specs.elab_scope.Names.{Meanings, indexed}
use Rattle.elab_body.specs.elab_scope.Own.{breadth, sign}
use Rattle.elab_body.specs.elab_scope.Sources.{Describes, source}
use Rattle.elab_body.specs.elab_scope.Targets.{assigned_context, pieces_of, target_breadth, target_faults}
use Rattle.elab_body.specs.elab_scope.Trees.{tree_of}
use Rattle.elab_body.specs.elab_scope.Widths.{bits, wider}
use Rattle.elab_body.specs.elab_nodes.Nodes.{node_count}
use Rattle.elab_body.specs.Acts.{acts}
use Rattle.elab_body.specs.Bodies.{steps}
use Rattle.elab_body.specs.Events.{is_clocked_by, listing_of, sensitivity_faults, watched_of}
use Rattle.elab_body.specs.Steps.{Step, checked, delays_of}
use Rattle.elab_body.specs.Faultless.{AreFaultless, node_total, statement_count}
use Rattle.elab_laws.specs.Scopes.{IsScopeOf}

-- ---- signals

-- signals of a design have bits, and no more than 128
abbrev pub SignalsLaw : Type 0
SignalsLaw =
    (instances : List Instance) (signals : List Signal) → All (IsSignal instances) signals → HaveBits signals × ((i : ℕ) → i < length signals → width_in signals i ≤ 128)

-- ---- expressions

-- an expression without faults has the sizes and the signs of the standard, in each context (IEEE 1364-2001 sections 4.4
-- and 4.5)
abbrev pub SizesLaw : Type 0
SizesLaw =
    (file base : ℕ) (scope : Meanings) (signals : List Signal) → Describes base signals scope → (e : Formula) → faults scope e ≡ [] → (c : Context) → tree_of file base scope e c ≡ sized signals c.width c.signed (source file base scope e)

-- the nodes that are counted of an expression are those of its tree in the design, in each context
abbrev pub NodesLaw : Type 0
NodesLaw =
    (file base : ℕ) (scope : Meanings) (e : Formula) (c : Context) → length (nodes (tree_of file base scope e c)) ≡ node_count scope e

-- ---- assignments

-- a continuous assignment: its target is of nets, at places that are known, and has no bit twice; its value is sized
-- with it
abbrev pub ContinuousLaw : Type 0
ContinuousLaw =
    (file base : ℕ) (scope : Meanings) (signals : List Signal) → IsScopeOf base signals scope → (target : Target) (value : Formula) → target_faults Continuous scope target ≡ [] → faults scope value ≡ [] → IsProcess signals (Assign (pieces_of file base scope target) (tree_of file base scope value (assigned_context scope value target)))

-- an assignment in a statement: its target is of variables
abbrev pub ProceduralLaw : Type 0
ProceduralLaw =
    (file base : ℕ) (scope : Meanings) (signals : List Signal) → IsScopeOf base signals scope → (target : Target) (value : Formula) → target_faults Procedural scope target ≡ [] → faults scope value ≡ [] → IsAssignment signals Var (pieces_of file base scope target) (tree_of file base scope value (assigned_context scope value target))

-- ---- sensitivity lists

-- a list without edges
abbrev pub ListLaw : Type 0
ListLaw =
    (file base : ℕ) (scope : Meanings) (signals : List Signal) → IsScopeOf base signals scope → (list : Sensitivity) → sensitivity_faults scope list ≡ [] → is_clocked_by list ≡ false → IsList signals (listing_of file base scope list)

-- events of which one is an edge
abbrev pub EventsLaw : Type 0
EventsLaw =
    (file base : ℕ) (scope : Meanings) (signals : List Signal) → IsScopeOf base signals scope → (events : List Happening) → sensitivity_faults scope (Listed events) ≡ [] → is_clocked_by (Listed events) ≡ true → All (IsWatched signals) (map (watched_of file base scope) events) × (list_any (λ item. has_edge item.edge) (map (watched_of file base scope) events) ≡ true)

-- ---- bodies

-- in a turn of a loop the names stand for the same signals
abbrev pub TurnLaw : Type 0
TurnLaw =
    (base : ℕ) (scope : Meanings) (signals : List Signal) → IsScopeOf base signals scope → (name : List ℕ) (number : Option ℤ) → IsScopeOf base signals (indexed scope name number)

abbrev pub BodyLaw : Type 0
BodyLaw =
    (file base : ℕ) (scope : Meanings) (signals : List Signal) → IsScopeOf base signals scope → (body : Action) → AreFaultless (steps body scope) → IsBody signals (body_of (acts file base body scope))

-- the statements of a body are no more than those that count among its steps
abbrev pub CountLaw : Type 0
CountLaw =
    (file base : ℕ) (scope : Meanings) (signals : List Signal) → IsScopeOf base signals scope → (body : Action) → AreFaultless (steps body scope) → statements_of (body_of (acts file base body scope)) ≤ statement_count (steps body scope)

-- steps of which nothing is told, where so many statements, delays and nodes of expressions are allowed
abbrev pub LimitLaw : Type 0
LimitLaw =
    (statements delays nodes : ℕ) (all : List Step) → checked statements delays nodes all ≡ [] → AreFaultless all × (statement_count all ≤ statements) × (length (delays_of all) ≤ delays) × (node_total all ≤ nodes)

-- an `always` that waits for no edge
abbrev pub CombLaw : Type 0
CombLaw =
    (file base : ℕ) (scope : Meanings) (signals : List Signal) → IsScopeOf base signals scope → (list : Sensitivity) (body : Action) → sensitivity_faults scope list ≡ [] → is_clocked_by list ≡ false → AreFaultless (steps body scope) → IsProcess signals (Comb (listing_of file base scope list) (body_of (acts file base body scope)))

-- an `always` that waits for an edge
abbrev pub EdgeLaw : Type 0
EdgeLaw =
    (file base : ℕ) (scope : Meanings) (signals : List Signal) → IsScopeOf base signals scope → (events : List Happening) (body : Action) → sensitivity_faults scope (Listed events) ≡ [] → is_clocked_by (Listed events) ≡ true → AreFaultless (steps body scope) → IsProcess signals (Edge' (map (watched_of file base scope) events) (body_of (acts file base body scope)))

-- ---- connections of instances (IEEE 1364-2001 section 12.3.9): continuous assignments to or from a port

-- a signal that is read whole, in a context that is no narrower and signed only where the signal is
abbrev pub ReadLaw : Type 0
ReadLaw =
    (signals : List Signal) → HaveBits signals → (port width : ℕ) (signed : Bool) (spot : Spot) → port < length signals → width_in signals port ≤ width → width ≤ 128 → (signed ≡ true → signed_in signals port ≡ true) → IsExpression signals (Sized width signed spot (tree.Whole port))

-- an input takes its argument
abbrev pub InputLaw : Type 0
InputLaw =
    (file base : ℕ) (scope : Meanings) (signals : List Signal) → IsScopeOf base signals scope → (port : ℕ) (spot : Spot) (own : Breadth) (value : Formula) → port < length signals → width_in signals port ≤ 128 → own ≡ Bits (width_in signals port) → Has (λ s. s.kind ≡ Net) signals port → faults scope value ≡ [] → IsProcess signals (Assign (record { signal = port; selection = Whole; spot = spot } ∷ []) (tree_of file base scope value (record { width = bits (wider own (breadth scope value)); signed = sign scope value })))

-- an output drives its argument
abbrev pub OutputLaw : Type 0
OutputLaw =
    (file base : ℕ) (scope : Meanings) (signals : List Signal) → IsScopeOf base signals scope → (target : Target) (port : ℕ) (signed : Bool) (spot : Spot) (own : Breadth) → port < length signals → width_in signals port ≤ 128 → own ≡ Bits (width_in signals port) → (signed ≡ true → signed_in signals port ≡ true) → target_faults Continuous scope target ≡ [] → IsProcess signals (Assign (pieces_of file base scope target) (Sized (bits (wider (target_breadth scope target) own)) signed spot (tree.Whole port)))
