-- The rules that look at all expressions, process by process.
use Rattle.std.proofs.Common.{ℕ, ◌≡◌, ◌+◌, length, Some}
use Rattle.std.specs.List.{slice_get}
use Rattle.rtl_flat.specs.Process.{Task}
use Rattle.rtl_rule.specs.declared.rule.Rule.TheVariants.{CaseEquality, DivideVariable}
use Rattle.rtl_flat.specs.Flats.{Flat, widths}
use Rattle.check_unknown.specs.declared.node_rules.NodeFindings.{NodeFindings}
use Rattle.check_unknown.specs.Lists.{below, literal_found, misses_found, nodes_found}
use Rattle.check_unknown.specs.Parts.{AddsProcess, AreNodeFindings}
use Rattle.check_unknown.specs.Unknowns.{divides_by_other, is_case_equality, picks}
use Rattle.check_unknown.proofs.Lists.{below_more}
use Rattle.check_unknown.proofs.Picks.{misses_all}
use Rattle.check_unknown.proofs.Processes.{literals_all, nodes_all}

-- what the processes below a number have
pub record HasBelow (d : Flat) (n : ℕ) (found : NodeFindings) : Type 0 where
  pub literals : found.literals.items ≡ below (literal_found d) 0 d.tasks n
  pub ranges : found.ranges.items ≡ below (λ p one. misses_found (widths d) one.instance (picks one.does)) 0 d.tasks n
  pub divisions : found.divisions.items ≡ below (λ p one. nodes_found DivideVariable (divides_by_other d) d one) 0 d.tasks n
  pub equalities : found.equalities.items ≡ below (λ p one. nodes_found CaseEquality is_case_equality d one) 0 d.tasks n

pub below_also : (d : Flat) (n : ℕ) (task : Task) → slice_get d.tasks n ≡ Some task → (old new : NodeFindings) → HasBelow d n old → AddsProcess d n task old new → HasBelow d (n + 1) new
below_also d n task there old new h more =
    record {
      literals = below_more (literal_found d) d.tasks n task old.literals.items new.literals.items there h.literals more.literals;
      ranges = below_more (λ p one. misses_found (widths d) one.instance (picks one.does)) d.tasks n task old.ranges.items new.ranges.items there h.ranges more.ranges;
      divisions = below_more (λ p one. nodes_found DivideVariable (divides_by_other d) d one) d.tasks n task old.divisions.items new.divisions.items there h.divisions more.divisions;
      equalities = below_more (λ p one. nodes_found CaseEquality is_case_equality d one) d.tasks n task old.equalities.items new.equalities.items there h.equalities more.equalities;
    }

pub below_end : (d : Flat) (n : ℕ) → n ≡ length d.tasks → (found : NodeFindings) → HasBelow d n found → AreNodeFindings d found
below_end d n all found h =
    record {
      literals = literals_all d n all found.literals.items h.literals;
      ranges = misses_all d n all found.ranges.items h.ranges;
      divisions = nodes_all DivideVariable (divides_by_other d) d n all found.divisions.items h.divisions;
      equalities = nodes_all CaseEquality is_case_equality d n all found.equalities.items h.equalities;
    }
