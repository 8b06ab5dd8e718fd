use Rattle.std.proofs.Common.{subst}
use Rattle.std.specs.Prelude.{MatchOption, Option}
use Rattle.rtl_flat.specs.Flats.{flat}
use Rattle.netlist_eval.specs.net_list.declared.netlist.Netlist.{Netlist}
use Rattle.vcd_check.specs.Checks.{IsNetlistOf}
use Rattle.vcd_check.specs.Verdicts.{LacksNetlist}
use Rattle.vcd_check.proofs.compares.tell.Goals as goal

pub returns-in_default-clause-fault : goal.returns-in_default-clause-fault
returns-in_default-clause-fault c =
    let design = c.args.design.now in
    subst (λ (o : Option Netlist). MatchOption o (LacksNetlist (flat design)) (IsNetlistOf design)) c.in_default.is c.in_ok-netlist.ensures.netlist
