-- Where x, z and what synthesis ignores make a difference (IEEE 1364.1-2002 sections 5.5 and 6, IEEE 1364-2001 sections
-- 4.1 and 4.2).
-- Worked examples: proofs/Example.antt, crates/tests_rows/stdin.
use Rattle.std.specs.Prelude.{ℕ, ◌≡◌, ◌^◌, ℤ, nat_lt, Bool, true, false, not, ◌&&◌, ◌||◌, List, [], ◌∷◌, ◌++◌, length, Option, Some, None}
use Rattle.std.specs.List.{filter_map, flat_map, list_all, list_any, slice_get}
use Rattle.rtl_bits.specs.declared.Bit.{Bit}
use Rattle.rtl_bits.specs.declared.Bit.TheVariants as bit
use Rattle.rtl_bits.specs.Bits.{top_bit}
use Rattle.rtl_bits.specs.Bit.{is_one}
use Rattle.text_ground.specs.declared.text.Spot.{Spot}
use Rattle.text_ground.specs.declared.dropped.DropKind.TheVariants.{Initial, TranslateOff}
use Rattle.rtl_flat.specs.declared.act.CaseKind.TheVariants.{Plain, Z, X}
use Rattle.rtl_flat.specs.declared.expr.Compare.TheVariants as compare
use Rattle.rtl_flat.specs.declared.expr.Join.TheVariants as join
use Rattle.rtl_flat.specs.declared.instance.Delay.{Delay}
use Rattle.rtl_flat.specs.declared.instance.DroppedRegion.{DroppedRegion}
use Rattle.rtl_flat.specs.Expression.{Tree, Sized, Compared, Joined}
use Rattle.rtl_flat.specs.Expression as tree
use Rattle.rtl_flat.specs.Flows.{flow_of, is_place, labels_of, reads}
use Rattle.rtl_flat.specs.Paths.{reads_outside}
use Rattle.rtl_flat.specs.Process.{Selection, Piece, Watched, Action, Set, If, Case, Block, Doing, Task}
use Rattle.rtl_flat.specs.Process as part
use Rattle.rtl_flat.specs.Signs.{sign_of}
use Rattle.rtl_flat.specs.Sizes.{width_of}
use Rattle.net_model.specs.Gates.{IsLatchBit}
use Rattle.rtl_rule.specs.declared.finding.Finding.{Finding}
use Rattle.rtl_rule.specs.declared.rule.Rule.{Rule}
use Rattle.rtl_rule.specs.declared.rule.Rule.TheVariants as rule
use Rattle.rtl_rule.specs.Order.{ranked}
use Rattle.rtl_rule.specs.Parts.{constant_of, At, first_written, found_at, has_literal, has_some, is_clocked, is_x, items_of, labels, least_place, literal_places, nodes, number, pieces, place_of, process_sites, sites, some_below, statements, trees, written}
use Rattle.rtl_flat.specs.Flats.{Flat, Parts, widths}
use Rattle.rtl_rule.specs.Sites.{AreFindings}
use Rattle.check_chains.specs.Chains.{IsRegisterOf, chain_of, has_chain}

-- all expressions of processes with their operands, labels too
abbrev pub all_nodes : Doing → List Tree
all_nodes does = flat_map nodes (trees does ++ labels does)

abbrev pub node_sites : Flat → List (At Tree)
node_sites d = sites all_nodes d

-- ---- X1

-- a literal has an x bit, which isn't a label of its own
abbrev pub IsUnknownLiteral : At Doing → Type 0
IsUnknownLiteral site = has_literal is_x site.it ≡ true

abbrev pub unknown_literal_at : Flat → At Doing → Finding
unknown_literal_at d site =
    found_at rule.UnknownLiteral site (first_written d site) (least_place site.task.spot (literal_places is_x site))

abbrev pub AreUnknownLiteral : Flat → List Finding → Type 0
AreUnknownLiteral d = AreFindings IsUnknownLiteral (unknown_literal_at d) (process_sites d)

-- ---- X2

-- an index, in the numbering of the declaration
pub data Pointer : Type 0 where
  Fixed : (index : ℤ) → Pointer
  Computed : (index : Tree) → Pointer

-- a bit-select of a signal, whose lowest bit the declaration numbers `low`
pub record Pick : Type 0 where
  pub signal : ℕ
  pub low : ℕ
  pub index : Pointer
  pub spot : Spot

abbrev pub pick : ℕ → ℕ → Pointer → Spot → Option Pick
pick signal low index spot =
    Some (record { signal = signal; low = low; index = index; spot = spot })

abbrev pub pick_in : Tree → Option Pick
pick_in (Sized w s spot (tree.BitAt signal low index)) = pick signal low (Fixed index) spot
pick_in (Sized w s spot (tree.BitBy signal low signed index)) =
    pick signal low (Computed index) spot
pick_in _ = None

abbrev pub pick_of : ℕ → Spot → Selection → Option Pick
pick_of signal spot (part.BitAt low index) = pick signal low (Fixed index) spot
pick_of signal spot (part.BitBy low index) = pick signal low (Computed index) spot
pick_of signal spot _ = None

-- the bit-selects of a process: in its list, its expressions and its targets
abbrev pub picks : Doing → List Pick
picks does =
    filter_map (λ (item : Watched). pick_of item.signal item.spot item.selection) (items_of does)
    ++ filter_map pick_in (all_nodes does)
    ++ filter_map (λ (piece : Piece). pick_of piece.signal piece.spot piece.selection) (pieces does)

-- whether it may be outside its signal; a computed one counts as inside where it is unsigned, the signal is numbered from 0
-- and has a bit for each of its values
abbrev pub may_miss : (ℕ → ℕ) → Pick → Pointer → Bool
may_miss ws one (Fixed index) = not (some_below (ws one.signal) (is_place one.low index))
may_miss ws one (Computed index) =
    sign_of index || (nat_lt 0 one.low || nat_lt (ws one.signal) (2 ^ width_of ws index))

abbrev pub IsSelectRange : Flat → At Pick → Type 0
IsSelectRange d site = may_miss (widths d) site.it site.it.index ≡ true

abbrev pub select_range_at : At Pick → Finding
select_range_at site = found_at rule.SelectRange site (number site.it.signal) site.it.spot

abbrev pub AreSelectRange : Flat → List Finding → Type 0
AreSelectRange d = AreFindings (IsSelectRange d) select_range_at (sites picks d)

-- ---- X3

abbrev pub is_zero : Bit → Bool
is_zero bit.Zero = true
is_zero _ = false

-- whether bits are known and just one of them is 1
abbrev pub has_one : List Bit → Bool
has_one [] = false
has_one (bit.Zero ∷ others) = has_one others
has_one (bit.One ∷ others) = list_all is_zero others
has_one (_ ∷ others) = false

-- whether a divisor is a constant and a power of two, which a negative number isn't
abbrev pub is_power : Bool → Option (List Bit) → Bool
is_power signed None = false
is_power signed (Some bits) = has_one bits && not (signed && is_one (top_bit bits))

abbrev pub divides_by_other : Flat → Tree → Bool
divides_by_other d (Sized w s spot (Joined join.Divide signed a b)) =
    not (is_power signed (constant_of d b))
divides_by_other d (Sized w s spot (Joined join.Remainder signed a b)) =
    not (is_power signed (constant_of d b))
divides_by_other d _ = false

abbrev pub IsDivideVariable : Flat → At Tree → Type 0
IsDivideVariable d site = divides_by_other d site.it ≡ true

-- at the operator
abbrev pub at_node : Rule → Flat → At Tree → Finding
at_node name d site =
    found_at name site (first_written d site) (place_of site.task.spot site.it)

abbrev pub AreDivideVariable : Flat → List Finding → Type 0
AreDivideVariable d =
    AreFindings (IsDivideVariable d) (at_node rule.DivideVariable d) (node_sites d)

-- ---- X4

abbrev pub is_case_equality : Tree → Bool
is_case_equality (Sized w s spot (Compared compare.CaseEqual signed a b)) = true
is_case_equality (Sized w s spot (Compared compare.CaseNotEqual signed a b)) = true
is_case_equality _ = false

abbrev pub IsCaseEquality : At Tree → Type 0
IsCaseEquality site = is_case_equality site.it ≡ true

abbrev pub AreCaseEquality : Flat → List Finding → Type 0
AreCaseEquality d = AreFindings IsCaseEquality (at_node rule.CaseEquality d) (node_sites d)

-- ---- D1

abbrev pub in_task : Delay → Option Task → Option (At Delay)
in_task delay None = None
in_task delay (Some task) =
    Some (record { process = delay.process.0; task = task; it = delay })

-- each delay in its process
abbrev pub delay_sites : Parts → List (At Delay)
delay_sites d =
    filter_map (λ (delay : Delay). in_task delay (slice_get d.flat.tasks delay.process.0)) d.delays

-- every delay is one
abbrev pub IsDelayIgnored : At Delay → Type 0
IsDelayIgnored site = Unit {0}

abbrev pub delay_ignored_at : Flat → At Delay → Finding
delay_ignored_at d site =
    found_at rule.DelayIgnored site (first_written d site) site.it.spot

abbrev pub AreDelayIgnored : Parts → List Finding → Type 0
AreDelayIgnored d = AreFindings IsDelayIgnored (delay_ignored_at d.flat) (delay_sites d)

-- ---- D2 and D3

abbrev pub at_region : Rule → DroppedRegion → Finding
at_region name one =
    record { rule = name; signal = None; instance = one.instance; spot = one.spot }

-- an `initial` that is dropped
abbrev pub IsInitialIgnored : DroppedRegion → Type 0
IsInitialIgnored one = one.kind ≡ Initial

abbrev pub AreInitialIgnored : Parts → List Finding → Type 0
AreInitialIgnored d = AreFindings IsInitialIgnored (at_region rule.InitialIgnored) d.dropped

-- a region between pragmas that is dropped
abbrev pub IsTranslateOff : DroppedRegion → Type 0
IsTranslateOff one = one.kind ≡ TranslateOff

abbrev pub AreTranslateOff : Parts → List Finding → Type 0
AreTranslateOff d = AreFindings IsTranslateOff (at_region rule.TranslateOff) d.dropped

-- ---- what may be x after power-up

-- a register of a clocked process without an asynchronous reset
pub record IsUnreset (d : Flat) (s : ℕ) : Type 0 where
  pub process : ℕ
  pub task : Task
  pub there : slice_get d.tasks process ≡ Some task
  pub clocked : is_clocked task.does ≡ true
  pub register : IsRegisterOf d task.does s
  pub no_reset : has_chain (λ chain. nat_lt 0 (length chain.resets)) (chain_of d task.does) ≡ false

-- a signal is doubtful where it is such a register, or a latch, or is written by a process that reads a doubtful signal
-- before it has written it
pub data IsDoubtful (d : Flat) : ℕ → Type 0 where
  Unreset : (s : ℕ) → IsUnreset d s → IsDoubtful d s
  Latched : (s k : ℕ) → IsLatchBit d s k → IsDoubtful d s
  Behind : (p s t : ℕ) (task : Task) → slice_get d.tasks p ≡ Some task → IsDoubtful d t → has_some (widths d) (reads_outside (flow_of (widths d) task.does)) t ≡ true → has_some (widths d) (written d task.does) s ≡ true → IsDoubtful d s

-- ---- U1 and U2

-- what decides which statement or bit is meant, and its place
pub record Choice : Type 0 where
  pub spot : Spot
  pub trees : List Tree

abbrev pub choice : Spot → List Tree → List Choice
choice spot all = record { spot = spot; trees = all } ∷ []

abbrev pub of_selection : Spot → Selection → List Choice
of_selection spot (part.BitBy low index) = choice spot (index ∷ [])
of_selection spot _ = []

abbrev pub index_choice : Piece → List Choice
index_choice piece = of_selection piece.spot piece.selection

-- conditions, the selectors and labels of plain cases, and the indices of targets
abbrev pub choices_in : Action → List Choice
choices_in (Set target e delayed spot) = flat_map index_choice target
choices_in (If test taken other spot) = choice spot (test ∷ [])
choices_in (Case Plain full parallel selector branches fallback spot) =
    choice spot (selector ∷ labels_of branches)
choices_in _ = []

-- the selectors and labels of `casez` and `casex`
abbrev pub wild_choices_in : Action → List Choice
wild_choices_in (Case Z full parallel selector branches fallback spot) =
    choice spot (selector ∷ labels_of branches)
wild_choices_in (Case X full parallel selector branches fallback spot) =
    choice spot (selector ∷ labels_of branches)
wild_choices_in _ = []

-- a choice that reads a doubtful signal
pub record IsDoubtfulChoice (d : Flat) (site : At Choice) : Type 0 where
  pub signal : ℕ
  pub doubtful : IsDoubtful d signal
  pub reads : list_any (λ e. has_some (widths d) (reads (widths d) e) signal) site.it.trees ≡ true

abbrev pub at_choice : Rule → Flat → At Choice → Finding
at_choice name d site = found_at name site (first_written d site) site.it.spot

abbrev pub AreXOptimism : Flat → List Finding → Type 0
AreXOptimism d =
    AreFindings (IsDoubtfulChoice d) (at_choice rule.XOptimism d) (sites (λ does. flat_map choices_in (statements does)) d)

abbrev pub AreWildSelector : Flat → List Finding → Type 0
AreWildSelector d =
    AreFindings (IsDoubtfulChoice d) (at_choice rule.WildSelector d) (sites (λ does. flat_map wild_choices_in (statements does)) d)

-- ---- all of them

-- whether these are all findings about x, z and what synthesis ignores, in their order
pub record AreUnknownFindings (d : Parts) (findings : List Finding) : Type 0 where
  pub literal : List Finding
  pub range : List Finding
  pub divide : List Finding
  pub equality : List Finding
  pub delay : List Finding
  pub initial : List Finding
  pub region : List Finding
  pub optimism : List Finding
  pub wild : List Finding
  pub are_literal : AreUnknownLiteral d.flat literal
  pub are_range : AreSelectRange d.flat range
  pub are_divide : AreDivideVariable d.flat divide
  pub are_equality : AreCaseEquality d.flat equality
  pub are_delay : AreDelayIgnored d delay
  pub are_initial : AreInitialIgnored d initial
  pub are_region : AreTranslateOff d region
  pub are_optimism : AreXOptimism d.flat optimism
  pub are_wild : AreWildSelector d.flat wild
  pub in_order : findings ≡ ranked (literal ++ range ++ divide ++ equality ++ delay ++ initial ++ region ++ optimism ++ wild)
