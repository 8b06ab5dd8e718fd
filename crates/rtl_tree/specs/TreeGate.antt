-- The plain form of gates.
-- Worked examples: crates/tests_layers/stdin.
use Rattle.std.specs.Prelude.{ℕ, List, map, Option}
use Rattle.std.specs.Option.{option_map}
use Rattle.rtl_tree.specs.TreeExpr.{Identifier, Formula, identifier, formula}
use Rattle.rtl_tree.specs.TreeStmt.{Target, Span, target, span}
use Rattle.rtl_tree.specs.declared.tree.gate.GateTicks.{GateTicks}
use Rattle.rtl_tree.specs.declared.tree.gate.GateTicks.TheVariants as ticking
use Rattle.rtl_tree.specs.declared.tree.gate.GateDelay.{GateDelay}
use Rattle.rtl_tree.specs.declared.tree.gate.Gate as code

-- how long gates are delayed: as an assignment is, or by a pair for rise and fall
pub data GateSpan : Type 0 where
  One : (span : Span) → GateSpan
  Two : (rise fall : Formula) → GateSpan

-- the delay of gates, with the place of its mark
pub record GatePause : Type 0 where
  pub at : ℕ
  pub span : GateSpan

-- a gate: its name, its first output, and its other terminals
pub record Gate : Type 0 where
  pub name : Option Identifier
  pub output : Target
  pub terminals : List Formula

abbrev pub gate_span : GateTicks → GateSpan
gate_span (ticking.One ticks) = One (span ticks)
gate_span (ticking.Two rise fall) = Two (formula rise) (formula fall)

abbrev pub gate_pause : GateDelay → GatePause
gate_pause delay = record { at = delay.at; span = gate_span delay.ticks }

abbrev pub gate : code.Gate → Gate
gate written =
    record {
      name = option_map identifier written.name;
      output = target written.output;
      terminals = map formula written.terminals.items;
    }
