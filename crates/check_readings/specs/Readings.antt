-- Texts that simulators and synthesis tools were seen to read in two ways, one of which the flat design has.
-- Worked examples: proofs/Example.antt, crates/tests_rows/stdin.
use Rattle.std.specs.Prelude.{ℕ, ◌≡◌, ◌==◌, Bool, true, false, not, ◌&&◌, if◌then◌else◌, List, [], ◌∷◌, ◌++◌, map, Option, Some, None}
use Rattle.std.specs.List.{dedup, filter, flat_map, slice_get}
use Rattle.std.specs.Option.{is_some}
use Rattle.std.specs.Str.{bytes_eq}
use Rattle.text_ground.specs.declared.dropped.DropKind.{DropKind}
use Rattle.text_ground.specs.declared.dropped.DropKind.TheVariants.{Comment, Initial, TranslateOff}
use Rattle.rtl_flat.specs.declared.expr.SigId.{SigId}
use Rattle.rtl_flat.specs.declared.instance.DroppedRegion.{DroppedRegion}
use Rattle.rtl_flat.specs.declared.note.Note.{Note}
use Rattle.rtl_flat.specs.declared.note.Reading.{Reading}
use Rattle.rtl_flat.specs.declared.note.Reading.TheVariants as reading
use Rattle.rtl_flat.specs.declared.signal.Signal.{Signal}
use Rattle.rtl_flat.specs.Expression.{Tree, Sized, BitBy, Part, Shifted}
use Rattle.rtl_flat.specs.Flats.{Flat, Parts}
use Rattle.rtl_flat.specs.Process.{Selection, Piece, Watched, Action, Doing, Assign, Comb, Edge'}
use Rattle.rtl_flat.specs.Process as part
use Rattle.rtl_flat.specs.WellFormed.{has_edge}
use Rattle.rtl_rule.specs.declared.finding.Finding.{Finding}
use Rattle.rtl_rule.specs.declared.rule.Rule.{Rule}
use Rattle.rtl_rule.specs.declared.rule.Rule.TheVariants as rule
use Rattle.rtl_rule.specs.Order.{rank_of, ranked}
use Rattle.rtl_rule.specs.Parts.{At, all_of, found_at, index_of, items_of, labels, nodes, number, own_pieces, pieces, place_of, sites, trees}
use Rattle.rtl_rule.specs.Sites.{AreFindings}

-- whether a selection is a bit whose index is computed
abbrev pub is_computed : Selection → Bool
is_computed (part.BitBy low index) = true
is_computed _ = false

-- ---- P5: in which order the parts of a concatenated target are written (IEEE 1364-2001 sections 4.1.14 and 9.2)

-- the parts of a target that has two or more
abbrev pub joined_parts : List Piece → List Piece
joined_parts [] = []
joined_parts (one ∷ []) = []
joined_parts (one ∷ next ∷ others) = one ∷ next ∷ others

abbrev pub own_joined : Action → List Piece
own_joined action = joined_parts (own_pieces action)

-- those of a process
abbrev pub joined : Doing → List Piece
joined (Assign target value) = joined_parts target
joined (Comb list body) = flat_map own_joined (all_of body)
joined (Edge' events body) = flat_map own_joined (all_of body)

-- a part of such a target has a computed index
abbrev pub IsTargetIndex : At Piece → Type 0
IsTargetIndex site = is_computed site.it.selection ≡ true

abbrev pub target_index_at : At Piece → Finding
target_index_at site =
    found_at rule.TargetIndex site (number site.it.signal) site.it.spot

abbrev pub AreTargetIndex : Flat → List Finding → Type 0
AreTargetIndex d = AreFindings IsTargetIndex target_index_at (sites joined d)

-- ---- P6: whether an item of a list waits for a change of its one bit (section 9.7.2) or of any bit of the signal

-- whether an item without an edge has a computed index
abbrev pub is_list_index : Watched → Bool
is_list_index item = not (has_edge item.edge) && is_computed item.selection

abbrev pub IsListIndex : At Watched → Type 0
IsListIndex site = is_list_index site.it ≡ true

abbrev pub list_index_at : At Watched → Finding
list_index_at site = found_at rule.ListIndex site (number site.it.signal) site.it.spot

abbrev pub AreListIndex : Flat → List Finding → Type 0
AreListIndex d = AreFindings IsListIndex list_index_at (sites items_of d)

-- ---- P12: the sign of a part-select of all bits, which has none (section 4.5.1), where a number is asked for that has no
-- sign: as a shift's right operand (section 4.1.12), and as an index

-- the amount or the index that an expression itself has
abbrev pub own_amount : Tree → List Tree
own_amount (Sized width signed spot (Shifted operator s operand amount)) = amount ∷ []
own_amount (Sized width signed spot (BitBy signal low s index)) = index ∷ []
own_amount _ = []

-- those of a process: in its list, in its targets, and anywhere in its expressions
abbrev pub amounts : Doing → List Tree
amounts does =
    flat_map (λ item. index_of item.selection) (items_of does)
    ++ flat_map (λ piece. index_of piece.selection) (pieces does)
    ++ flat_map own_amount (flat_map nodes (trees does ++ labels does))

-- whether a signal, if there is one, is signed and has so many bits
abbrev pub is_signed_of : ℕ → Option Signal → Bool
is_signed_of width None = false
is_signed_of width (Some signal) = signal.signed && (signal.width == width)

-- the signal of which an expression is a part-select of all bits, if it is a signed one
abbrev pub whole_signal : Flat → Tree → Option SigId
whole_signal d (Sized w s spot (Part signal low width)) =
    if is_signed_of width (slice_get d.signals signal) then number signal else None
whole_signal d _ = None

abbrev pub IsWholeSelect : Flat → At Tree → Type 0
IsWholeSelect d site = is_some (whole_signal d site.it) ≡ true

abbrev pub whole_select_at : Flat → At Tree → Finding
whole_select_at d site =
    found_at rule.WholeSelect site (whole_signal d site.it) (place_of site.task.spot site.it)

abbrev pub AreWholeSelect : Flat → List Finding → Type 0
AreWholeSelect d = AreFindings (IsWholeSelect d) (whole_select_at d) (sites amounts d)

-- ---- P8: a comment that is worded like a pragma and tells the desk nothing, which another tool may obey (IEEE 1364.1-2002
-- section 6.1)

abbrev pub is_comment : DropKind → Bool
is_comment Comment = true
is_comment Initial = false
is_comment TranslateOff = false

abbrev pub comment_at : DroppedRegion → Finding
comment_at region =
    record { rule = rule.PragmaWords; signal = None; instance = region.instance; spot = region.spot }

abbrev pub comments : List DroppedRegion → List Finding
comments dropped = map comment_at (filter (λ region. is_comment region.kind) dropped)

-- ---- P1 to P4, P9 to P11 and P13: what elaboration noted of the text

-- the rule that a note is about
abbrev pub rule_of : Reading → Rule
rule_of reading.ParameterFormat = rule.ParameterFormat
rule_of reading.ConstantValue = rule.ConstantValue
rule_of reading.PortContext = rule.PortContext
rule_of reading.CaseSigns = rule.CaseSigns
rule_of reading.ToolMacro = rule.ToolMacro
rule_of reading.UnsizedNumber = rule.UnsizedNumber
rule_of reading.PortSign = rule.PortSign
rule_of reading.LateParameter = rule.LateParameter
rule_of reading.LoopSign = rule.LoopSign

abbrev pub note_at : Note → Finding
note_at note =
    record { rule = rule_of note.reading; signal = note.signal; instance = note.instance; spot = note.spot }

-- ---- all of them

-- whether two findings are ranked alike, so that all they say is the same
abbrev pub is_same : Finding → Finding → Bool
is_same one other = bytes_eq (rank_of one) (rank_of other)

-- findings in their order, equal ones once: a loop gives a part, an item or a select for each of its turns
abbrev pub once : List Finding → List Finding
once findings = dedup is_same (ranked findings)

-- whether these are all findings about readings, in their order
pub record AreReadingFindings (d : Parts) (findings : List Finding) : Type 0 where
  pub target : List Finding
  pub listed : List Finding
  pub select : List Finding
  pub are_target : AreTargetIndex d.flat target
  pub are_listed : AreListIndex d.flat listed
  pub are_select : AreWholeSelect d.flat select
  pub in_order : findings ≡ once (target ++ listed ++ select ++ comments d.dropped ++ map note_at d.notes)
