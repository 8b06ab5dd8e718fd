use Rattle.std.proofs.Common.{subst}
use Rattle.rtl_flat.specs.Flats.{flat}
use Rattle.netlist_eval.specs.Steps.{IsOrderFault}
use Rattle.vcd_check.specs.Verdicts.{Cyclic}
use Rattle.vcd_check.proofs.setup.basis_of.Goals as goal

pub returns-in-Err-Cyclic : goal.returns-in-Err-Cyclic
returns-in-Err-Cyclic c =
    let least = subst (IsOrderFault (flat c.args.design.now)) c.in-Err-Cyclic.field-0-is c.in-Err-Cyclic.ensures.fault in
    Cyclic c.in-Err-Cyclic.field-0-0.0 least.cyclic

pub unreachable-requires : goal.unreachable-requires
unreachable-requires c =
    subst (IsOrderFault (flat c.args.design.now)) c.in-Err-NotKnown.field-0-is c.in-Err-NotKnown.ensures.fault
