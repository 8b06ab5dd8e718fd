-- Steps of a body without faults, how many of them count as statements, and how many nodes they have.
-- Worked examples: proofs/Examples.antt.
use Rattle.std.specs.Prelude.{ℕ, ◌+◌, List, [], ◌∷◌}
use Rattle.elab_body.specs.Steps.{Step, Faulty, Statement, Turn, Delay, Nodes}

-- whether no step is a fault
abbrev pub AreFaultless : List Step → Type 0
AreFaultless [] = Unit {0}
AreFaultless (Faulty told ∷ steps) = ⊥
AreFaultless (Statement at ∷ steps) = AreFaultless steps
AreFaultless (Turn at ∷ steps) = AreFaultless steps
AreFaultless (Delay at ∷ steps) = AreFaultless steps
AreFaultless (Nodes at count ∷ steps) = AreFaultless steps

-- how many statements count, turns that leave none among them
abbrev pub statement_count : List Step → ℕ
statement_count [] = 0
statement_count (Faulty told ∷ steps) = statement_count steps
statement_count (Statement at ∷ steps) = 1 + statement_count steps
statement_count (Turn at ∷ steps) = 1 + statement_count steps
statement_count (Delay at ∷ steps) = statement_count steps
statement_count (Nodes at count ∷ steps) = statement_count steps

-- how many nodes of expressions count
abbrev pub node_total : List Step → ℕ
node_total [] = 0
node_total (Faulty told ∷ steps) = node_total steps
node_total (Statement at ∷ steps) = node_total steps
node_total (Turn at ∷ steps) = node_total steps
node_total (Delay at ∷ steps) = node_total steps
node_total (Nodes at count ∷ steps) = count + node_total steps
