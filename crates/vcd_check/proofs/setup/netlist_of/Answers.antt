use Rattle.std.proofs.Common.{subst}
use Rattle.rtl_flat.specs.declared.design.Design.{Design}
use Rattle.rtl_flat.specs.Flats.{flat}
use Rattle.netlist_eval.specs.net_list.Failing.{IsFirst}
use Rattle.netlist_eval.specs.net_list.Faults.{AreFormed, IsContended, IsShapeless}
use Rattle.vcd_check.specs.Verdicts.{Contended, Shapeless}
use Rattle.vcd_check.proofs.setup.netlist_of.Goals as goal

pub returns-in-Err-Shape-clause-netlist : goal.returns-in-Err-Shape-clause-netlist
returns-in-Err-Shape-clause-netlist c =
    let d = flat c.args.design.now in
    let least = subst (IsFirst (IsShapeless d)) c.in-Err-Shape.field-0-is c.in-Err-Shape.ensures.least in
    Shapeless c.in-Err-Shape.field-0-0.0 least.holds

pub returns-in-Ok-blocks-clause-formed : goal.returns-in-Ok-blocks-clause-formed
returns-in-Ok-blocks-clause-formed c =
    subst (λ (one : Design). AreFormed (flat one)) c.in-Ok.ensures.design c.in-Ok.registers.formed

pub returns-in-Err-Shape-blocks-clause-netlist : goal.returns-in-Err-Shape-blocks-clause-netlist
returns-in-Err-Shape-blocks-clause-netlist c =
    let d = flat c.args.design.now in
    let least = subst (IsFirst (IsContended d)) c.in-Err-Shape-blocks.field-0-is c.in-Err-Shape-blocks.ensures.least in
    Contended c.in-Err-Shape-blocks.field-0-0.0 least.holds
