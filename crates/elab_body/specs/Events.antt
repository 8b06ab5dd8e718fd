-- Sensitivity lists (IEEE 1364-2001 section 9.7.4).
-- Worked examples: crates/tests_layers/stdin.
use Rattle.std.specs.Prelude.{ℕ, Bool, true, false, ◌==◌, if◌then◌else◌, List, [], ◌∷◌, ◌++◌, map, Option, None, Some}
use Rattle.std.specs.List.{list_any}
use Rattle.rtl_bits.specs.declared.Edge.{Edge}
use Rattle.rtl_bits.specs.declared.Edge.TheVariants.{No, Pos, Neg}
use Rattle.rtl_const.specs.Constant.{constant}
use Rattle.rtl_tree.specs.declared.tree.item.EventEdge.{EventEdge}
use Rattle.rtl_tree.specs.declared.tree.item.EventEdge.TheVariants.{Posedge, Negedge}
use Rattle.rtl_tree.specs.TreeExpr.{Identifier}
use Rattle.rtl_tree.specs.TreeItem.{Happening, Edge as Edged, Change, ChangeBit, ChangePart, Sensitivity, Star, StarInParens, Listed}
use Rattle.rtl_flat.specs.Process.{Watched, Whole}
use Rattle.elab_nodes.specs.elab_scope.declared.known.Known.{Known}
use Rattle.elab_nodes.specs.elab_scope.declared.known.Known.TheVariants as known
use Rattle.elab_nodes.specs.elab_scope.Expressions.{faults, constant_faults}
use Rattle.elab_nodes.specs.elab_scope.Faults.{Undeclared, NotAssignable, Width, Refusal}
use Rattle.elab_nodes.specs.elab_scope.Names.{Meanings, numbers_in}
use Rattle.elab_nodes.specs.elab_scope.Rules.{fault, part_faults, range_faults}
use Rattle.elab_nodes.specs.elab_scope.Targets.{bit_selection, part_selection}
use Rattle.elab_nodes.specs.elab_scope.Trees.{field_in, low_of, own_context, signal_of, spot_in, tree_of}

-- an event is a change of a signal
abbrev pub watch_faults : Identifier → Option Known → List Refusal
watch_faults name None = fault name.at (Undeclared name.text) ∷ []
watch_faults name (Some (known.Signal number role shape)) = []
watch_faults name (Some _) = fault name.at (NotAssignable name.text) ∷ []

-- an edge is one of a single bit
abbrev pub edge_faults : ℕ → Option Known → List Refusal
edge_faults at (Some (known.Signal number role (Some shape))) =
    if shape.width == 1 then [] else fault at Width ∷ []
edge_faults at _ = []

abbrev pub event_faults : Meanings → Happening → List Refusal
event_faults scope (Edged edge at name) =
    watch_faults name (scope name.text) ++ edge_faults at (scope name.text)
event_faults scope (Change name) = watch_faults name (scope name.text)
event_faults scope (ChangeBit name index) =
    watch_faults name (scope name.text) ++ range_faults name (scope name.text) ++ faults scope index
event_faults scope (ChangePart name msb lsb) =
    watch_faults name (scope name.text)
    ++ range_faults name (scope name.text)
    ++ constant_faults scope msb
    ++ constant_faults scope lsb
    ++ part_faults name.at (scope name.text) (constant (numbers_in scope) msb) (constant (numbers_in scope) lsb)

abbrev pub events_faults : Meanings → List Happening → List Refusal
events_faults scope [] = []
events_faults scope (event ∷ others) = event_faults scope event ++ events_faults scope others

abbrev pub sensitivity_faults : Meanings → Sensitivity → List Refusal
sensitivity_faults scope Star = []
sensitivity_faults scope StarInParens = []
sensitivity_faults scope (Listed events) = events_faults scope events

abbrev pub edge_of_event : EventEdge → Edge
edge_of_event Posedge = Pos
edge_of_event Negedge = Neg

-- an event of a file in the design, where signals of the module are numbered from a base on
abbrev pub watched_of : ℕ → ℕ → Meanings → Happening → Watched
watched_of file base scope (Edged edge at name) =
    record { signal = signal_of base (scope name.text); selection = Whole; edge = edge_of_event edge; spot = spot_in file at }
watched_of file base scope (Change name) =
    record { signal = signal_of base (scope name.text); selection = Whole; edge = No; spot = spot_in file name.at }
watched_of file base scope (ChangeBit name index) =
    record { signal = signal_of base (scope name.text); selection = bit_selection (low_of (scope name.text)) (constant (numbers_in scope) index) (tree_of file base scope index (own_context scope index)); edge = No; spot = spot_in file name.at }
watched_of file base scope (ChangePart name msb lsb) =
    record { signal = signal_of base (scope name.text); selection = part_selection (field_in (scope name.text) (constant (numbers_in scope) msb) (constant (numbers_in scope) lsb)); edge = No; spot = spot_in file name.at }

-- the list of a process; none for `@*`
abbrev pub listing_of : ℕ → ℕ → Meanings → Sensitivity → Option (List Watched)
listing_of file base scope Star = None
listing_of file base scope StarInParens = None
listing_of file base scope (Listed events) = Some (map (watched_of file base scope) events)

abbrev pub is_edge_event : Happening → Bool
is_edge_event (Edged edge at name) = true
is_edge_event (Change name) = false
is_edge_event (ChangeBit name index) = false
is_edge_event (ChangePart name msb lsb) = false

-- whether a process waits for an edge
abbrev pub is_clocked_by : Sensitivity → Bool
is_clocked_by Star = false
is_clocked_by StarInParens = false
is_clocked_by (Listed events) = list_any is_edge_event events
