use Rattle.std.proofs.Common.{sym, subst}
use Rattle.rtl_flat.specs.declared.design.Design.{Design}
use Rattle.rtl_flat.specs.Flats.{flat}
use Rattle.net_list.specs.Faults.{AreAlone}
use Rattle.net_list.proofs.Apart.{apart}
use Rattle.net_list.proofs.netlist.Netlist.join.Goals as goal

pub invariant_of-result : goal.invariant_of-result
invariant_of-result c =
    let design = c.args.registers.design.now in
    record {
      formed = c.args.registers.formed;
      apart = apart (flat design) c.args.registers.formed (subst (λ (other : Design). AreAlone (flat other)) (sym c.requires) c.args.blocks.alone);
      chosen = c.args.registers.chosen;
    }
