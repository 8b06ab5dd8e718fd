-- What synthesis makes of a design without a finding of the first grade: registers, blocks between them, and an order in
-- which these are worked out (IEEE 1364.1-2002 sections 5.2 and 5.3).
-- Worked examples: crates/tests_rows/stdin.
use Rattle.std.specs.Prelude.{◌≡◌, ℕ, List, Vec}
use Rattle.std.specs.declared.alloc.Global.{Global}
use Rattle.rtl_bits.specs.declared.Bit.{Bit}
use Rattle.rtl_flat.specs.declared.act.ProcId.{ProcId}
use Rattle.rtl_flat.specs.Flats.{Flat, Parts}
use Rattle.rtl_rule.specs.declared.finding.Finding.{Finding}
use Rattle.check_all.specs.Findings.{AreAllFindings, IsClean}
use Rattle.netlist_eval.specs.net_list.declared.fault.InferFault.{InferFault}
use Rattle.netlist_eval.specs.net_list.declared.fault.InferFault.TheVariants.{Memory}
use Rattle.netlist_eval.specs.net_list.Failing.{IsFirst}
use Rattle.netlist_eval.specs.net_list.Faults.{AreAlone, AreFormed, IsContended, IsShapeless}
use Rattle.netlist_eval.specs.net_order.declared.order.Ranking.{Ranking}
use Rattle.netlist_eval.specs.net_order.declared.order.Ranking.TheVariants.{Order}
use Rattle.netlist_eval.specs.net_order.Order.{IsCyclic, IsRanking}
use Rattle.netlist_eval.specs.declared.fault.NetFault.{NetFault}
use Rattle.netlist_eval.specs.declared.fault.NetFault.TheVariants as fault
use Rattle.netlist_eval.specs.Steps.{IsFault}
use Rattle.net_start.specs.Start.{AreKnown}

-- each process that waits for edges makes registers, no process without edges may write what a lower one may write, and no
-- signal is written on or behind a cycle of these
pub record HasNetlist (d : Flat) : Type 0 where
  pub formed : AreFormed d
  pub alone : AreAlone d
  pub no_cycle : (s : ℕ) → IsCyclic d s → ⊥

-- processes without edges have an order
pub record IsOrdered (ranking : Ranking) : Type 0 where
  pub order : Vec ProcId Global
  pub is : ranking ≡ Order order

-- so want of memory alone keeps registers and blocks from being inferred, its processes from being put in order, and a simulator
-- of whatever known values from beginning
pub record HasHardware (d : Flat) : Type 0 where
  pub netlist : HasNetlist d
  pub registers : (fault : InferFault) → IsFirst (IsShapeless d) fault → fault ≡ Memory
  pub blocks : (fault : InferFault) → IsFirst (IsContended d) fault → fault ≡ Memory
  pub ordered : (ranking : Ranking) → IsRanking d ranking → IsOrdered ranking
  pub begins :
      (values : List (List Bit)) → AreKnown values →
      (found : NetFault) → IsFault d values found → found ≡ fault.Memory

-- where none of all findings of a design is of the first grade, it has
abbrev pub HardwareByRules : Parts → Type 0
HardwareByRules d =
    (findings : List Finding) → AreAllFindings d findings → IsClean findings → HasHardware d.flat
