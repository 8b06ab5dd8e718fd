-- It serves inner contracts and proofs; no answer of the program is stated by it.
-- Choices that read a signal which is marked.
use Rattle.std.specs.Prelude.{ℕ, Bool, true, false, List, length, map, slice_index_or}
use Rattle.std.specs.List.{filter, flat_map, list_any}
use Rattle.text_ground.specs.declared.text.Spot.{Spot}
use Rattle.rtl_flat.specs.declared.act.CaseKind.{CaseKind}
use Rattle.rtl_flat.specs.declared.act.CaseKind.TheVariants as case
use Rattle.rtl_flat.specs.Expression.{Tree}
use Rattle.rtl_flat.specs.Flows.{reads}
use Rattle.rtl_flat.specs.Paths.{BitSet}
use Rattle.rtl_flat.specs.Process.{Action, Task}
use Rattle.rtl_rule.specs.declared.finding.Finding.{Finding}
use Rattle.rtl_rule.specs.declared.rule.Rule.{Rule}
use Rattle.rtl_rule.specs.declared.rule.Rule.TheVariants as rule
use Rattle.rtl_rule.specs.Parts.{sites, statements}
use Rattle.rtl_flat.specs.Flats.{Flat, widths}
use Rattle.rtl_rule.specs.Sites.{AreFindings}
use Rattle.check_chains.specs.check_parts.Reads as met
use Rattle.check_unknown.specs.declared.choices.Sought.{Sought}
use Rattle.check_unknown.specs.declared.choices.Sought.TheVariants.{Plain, Wild}
use Rattle.check_unknown.specs.Lists.{at_spots}
use Rattle.check_unknown.specs.Unknowns.{Choice, IsDoubtfulChoice, at_choice, choices_in, wild_choices_in}

-- whether a set has a bit of a signal that is marked
abbrev pub meets : (ℕ → ℕ) → List Bool → BitSet → Bool
meets ws marks = met.meets ws (length marks) (λ s. slice_index_or marks s false)

-- whether some expressions read a signal that is marked
abbrev pub any_meets : (ℕ → ℕ) → List Bool → List Tree → Bool
any_meets ws marks es = list_any (λ e. meets ws marks (reads ws e)) es

-- the places of such choices
abbrev pub choice_spots : (ℕ → ℕ) → List Bool → List Choice → List Spot
choice_spots ws marks all =
    map (λ (one : Choice). one.spot) (filter (λ (one : Choice). any_meets ws marks one.trees) all)

abbrev pub choices_found : Rule → (Action → List Choice) → Flat → List Bool → Task → List Finding
choices_found rule list d marks task =
    at_spots rule d (choice_spots (widths d) marks (flat_map list (statements task.does))) task

-- ---- the choices that a rule is about

abbrev pub choices_of : Sought → Action → List Choice
choices_of Plain one = choices_in one
choices_of Wild one = wild_choices_in one

abbrev pub rule_of : Sought → Rule
rule_of Plain = rule.XOptimism
rule_of Wild = rule.WildSelector

abbrev pub is_plain : Sought → Bool
is_plain Plain = true
is_plain Wild = false

abbrev pub seeks : Sought → CaseKind → Bool
seeks Plain case.Plain = true
seeks Plain case.Z = false
seeks Plain case.X = false
seeks Wild case.Plain = false
seeks Wild case.Z = true
seeks Wild case.X = true

abbrev pub AreSought : Sought → Flat → List Finding → Type 0
AreSought sought d =
    AreFindings (IsDoubtfulChoice d) (at_choice (rule_of sought) d) (sites (λ does. flat_map (choices_of sought) (statements does)) d)
