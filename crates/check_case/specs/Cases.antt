-- What is wrong with case statements (IEEE 1364.1-2002 sections 5.4 and 6.3, IEEE 1364-2001 section 9.5).
-- Worked examples: proofs/Example.antt, crates/tests_rows/stdin.
use Rattle.std.specs.Prelude.{ℕ, ◌≡◌, Bool, true, false, not, ◌&&◌, List, [], ◌∷◌, ◌++◌, map, Option}
use Rattle.std.specs.List.{flat_map, list_all}
use Rattle.rtl_bits.specs.declared.Bit.{Bit}
use Rattle.rtl_bits.specs.Bit.{is_unknown}
use Rattle.rtl_bits.specs.Bits.{all_with, may_equal}
use Rattle.text_ground.specs.declared.text.Spot.{Spot}
use Rattle.rtl_flat.specs.declared.expr.SigId.{SigId}
use Rattle.rtl_flat.specs.declared.act.CaseKind.{CaseKind}
use Rattle.rtl_flat.specs.declared.act.CaseKind.TheVariants.{Plain, Z, X}
use Rattle.rtl_flat.specs.Expression.{Tree}
use Rattle.rtl_flat.specs.Flows.{action_then, complete_by_labels, labels_of, literal}
use Rattle.rtl_flat.specs.Paths.{End, may_write}
use Rattle.rtl_flat.specs.Process.{Action, Set, If, Case, Block, Without, Branches, NoBranch, Branch}
use Rattle.rtl_rule.specs.declared.finding.Finding.{Finding}
use Rattle.rtl_rule.specs.declared.rule.Rule.TheVariants.{FullCase, ParallelCase, UnknownItem}
use Rattle.rtl_rule.specs.Order.{ranked}
use Rattle.rtl_rule.specs.Parts.{At, sites, first_of, first_written, found_at, place_of, statements, is_x, is_literal_with}
use Rattle.rtl_flat.specs.Flats.{Flat, widths}
use Rattle.rtl_rule.specs.Sites.{AreFindings}

-- each statement of each process
abbrev pub statement_sites : Flat → List (At Action)
statement_sites d = sites statements d

-- where a statement stands: a case at its word
abbrev pub spot_of : Spot → Action → Spot
spot_of otherwise (Set target value delayed spot) = spot
spot_of otherwise (If test taken other spot) = spot
spot_of otherwise (Case kind full parallel selector branches fallback spot) = spot
spot_of otherwise (Block body) = otherwise

-- the least signal that a statement may write
abbrev pub first_in : Flat → Action → Option SigId
first_in d one = first_of d (may_write (action_then (widths d) one End))

-- ---- C1

-- a case that says `full_case`, has no `default` and isn't complete by its labels
abbrev pub is_false_full : (ℕ → ℕ) → Action → Bool
is_false_full ws (Case kind full parallel selector branches Without spot) =
    full && not (complete_by_labels ws kind selector branches)
is_false_full ws _ = false

abbrev pub IsFullCase : Flat → At Action → Type 0
IsFullCase d site = is_false_full (widths d) site.it ≡ true

abbrev pub full_case_at : Flat → At Action → Finding
full_case_at d site =
    found_at FullCase site (first_in d site.it) (spot_of site.task.spot site.it)

abbrev pub AreFullCase : Flat → List Finding → Type 0
AreFullCase d = AreFindings (IsFullCase d) (full_case_at d) (statement_sites d)

-- ---- C2

-- whether two labels are literals that differ in a bit that is 0 in one and 1 in the other
abbrev pub some_differ : List (List Bit) → List (List Bit) → Bool
some_differ (one ∷ _) (other ∷ _) = not (all_with may_equal one other)
some_differ _ _ = false

abbrev pub are_disjoint : Tree → Tree → Bool
are_disjoint a b = some_differ (literal a) (literal b)

-- whether every label of one item is shown disjoint from every label of another
abbrev pub items_disjoint : List Tree → List Tree → Bool
items_disjoint one other = list_all (λ a. list_all (are_disjoint a) other) one

-- whether an item is shown disjoint from each of some items
abbrev pub disjoint_from : List Tree → Branches → Bool
disjoint_from one NoBranch = true
disjoint_from one (Branch labels body others) =
    items_disjoint one labels && disjoint_from one others

-- whether all items are shown disjoint
abbrev pub all_disjoint : Branches → Bool
all_disjoint NoBranch = true
all_disjoint (Branch labels body others) = disjoint_from labels others && all_disjoint others

-- a case that says `parallel_case`, and two of its items aren't shown disjoint
abbrev pub is_false_parallel : Action → Bool
is_false_parallel (Case kind full parallel selector branches fallback spot) =
    parallel && not (all_disjoint branches)
is_false_parallel _ = false

abbrev pub IsParallelCase : At Action → Type 0
IsParallelCase site = is_false_parallel site.it ≡ true

abbrev pub parallel_case_at : Flat → At Action → Finding
parallel_case_at d site =
    found_at ParallelCase site (first_in d site.it) (spot_of site.task.spot site.it)

abbrev pub AreParallelCase : Flat → List Finding → Type 0
AreParallelCase d = AreFindings IsParallelCase (parallel_case_at d) (statement_sites d)

-- ---- C3

-- a label with the kind of its case
pub record Label : Type 0 where
  pub kind : CaseKind
  pub label : Tree

abbrev pub label_in : CaseKind → Tree → Label
label_in kind label = record { kind = kind; label = label }

abbrev pub own_kinds : Action → List Label
own_kinds (Case kind full parallel selector branches fallback spot) =
    map (label_in kind) (labels_of branches)
own_kinds _ = []

-- whether a bit of a label matches no known bit
abbrev pub never_matches : CaseKind → Bit → Bool
never_matches Plain b = is_unknown b
never_matches Z b = is_x b
never_matches X b = false

-- a label that is one literal with such a bit
abbrev pub IsUnknownItem : At Label → Type 0
IsUnknownItem site = is_literal_with (never_matches site.it.kind) site.it.label ≡ true

abbrev pub unknown_item_at : Flat → At Label → Finding
unknown_item_at d site =
    found_at UnknownItem site (first_written d site) (place_of site.task.spot site.it.label)

abbrev pub AreUnknownItem : Flat → List Finding → Type 0
AreUnknownItem d =
    AreFindings IsUnknownItem (unknown_item_at d) (sites (λ does. flat_map own_kinds (statements does)) d)

-- ---- all of them

-- whether these are all findings about case statements, in their order
pub record AreCaseFindings (d : Flat) (findings : List Finding) : Type 0 where
  pub full : List Finding
  pub parallel : List Finding
  pub unknown : List Finding
  pub are_full : AreFullCase d full
  pub are_parallel : AreParallelCase d parallel
  pub are_unknown : AreUnknownItem d unknown
  pub in_order : findings ≡ ranked (full ++ parallel ++ unknown)
