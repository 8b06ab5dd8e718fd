-- It serves inner contracts and proofs; no answer of the program is stated by it.
-- The findings of all rules, put together by their kinds.
use Rattle.std.specs.Prelude.{ℕ, ◌≡◌, List, ◌++◌}
use Rattle.rtl_flat.specs.Process.{Task}
use Rattle.rtl_rule.specs.declared.finding.Finding.{Finding}
use Rattle.rtl_rule.specs.declared.rule.Rule.TheVariants.{CaseEquality, DivideVariable}
use Rattle.rtl_flat.specs.Flats.{Flat, Parts, widths}
use Rattle.check_unknown.specs.declared.node_rules.NodeFindings.{NodeFindings}
use Rattle.check_unknown.specs.Lists.{literal_found, misses_found, nodes_found}
use Rattle.check_unknown.specs.Unknowns.{AreCaseEquality, AreDelayIgnored, AreDivideVariable, AreInitialIgnored, AreSelectRange, AreTranslateOff, AreUnknownLiteral, AreWildSelector, AreXOptimism, divides_by_other, is_case_equality, picks}

-- the findings of each rule that looks at all expressions of processes
pub record AreNodeFindings (d : Flat) (found : NodeFindings) : Type 0 where
  pub literals : AreUnknownLiteral d found.literals.items
  pub ranges : AreSelectRange d found.ranges.items
  pub divisions : AreDivideVariable d found.divisions.items
  pub equalities : AreCaseEquality d found.equalities.items

-- those of one process are added
pub record AddsProcess (d : Flat) (p : ℕ) (task : Task) (old new : NodeFindings) : Type 0 where
  pub literals : new.literals.items ≡ old.literals.items ++ literal_found d p task
  pub ranges : new.ranges.items ≡ old.ranges.items ++ misses_found (widths d) task.instance (picks task.does)
  pub divisions : new.divisions.items ≡ old.divisions.items ++ nodes_found DivideVariable (divides_by_other d) d task
  pub equalities : new.equalities.items ≡ old.equalities.items ++ nodes_found CaseEquality is_case_equality d task

-- the findings of literals, selects and operators
pub record AreOfExpressions (d : Flat) (found : List Finding) : Type 0 where
  pub literal : List Finding
  pub range : List Finding
  pub divide : List Finding
  pub equality : List Finding
  pub are_literal : AreUnknownLiteral d literal
  pub are_range : AreSelectRange d range
  pub are_divide : AreDivideVariable d divide
  pub are_equality : AreCaseEquality d equality
  pub is : found ≡ literal ++ range ++ divide ++ equality

pub record AreOfDropped (d : Parts) (old new : List Finding) : Type 0 where
  pub delay : List Finding
  pub initial : List Finding
  pub region : List Finding
  pub are_delay : AreDelayIgnored d delay
  pub are_initial : AreInitialIgnored d initial
  pub are_region : AreTranslateOff d region
  pub is : new ≡ old ++ delay ++ initial ++ region

pub record AreOfChoices (d : Flat) (old new : List Finding) : Type 0 where
  pub optimism : List Finding
  pub wild : List Finding
  pub are_optimism : AreXOptimism d optimism
  pub are_wild : AreWildSelector d wild
  pub is : new ≡ old ++ optimism ++ wild
