use Rattle.std.proofs.Common.{Option, subst}
use Rattle.std.specs.Prelude.{MatchOption}
use Rattle.netlist_eval.specs.net_list.declared.netlist.Netlist.{Netlist}
use Rattle.netlist_eval.specs.declared.basis.Basis.{Basis}
use Rattle.netlist_eval.specs.Basis.{IsBasisOf}
use Rattle.rtl_flat.specs.Flats.{flat}
use Rattle.net_model.specs.declared.fill.Fill.TheVariants.{One, Zero}
use Rattle.demo_replay.specs.Setups.{LacksNetlist}
use Rattle.demo_replay.specs.Tables.{IsNetlistOf}
use Rattle.demo_replay.proofs.setup.Setup.of.Goals as goal

pub returns-in_default : goal.returns-in_default
returns-in_default c =
    let design = c.args.design.now in
    subst (λ (o : Option Basis). MatchOption o (LacksNetlist (flat design)) (IsBasisOf (flat design))) c.in_default.is c.in_ok-basis.ensures

pub returns-in_default-2 : goal.returns-in_default-2
returns-in_default-2 c =
    let design = c.args.design.now in
    subst (λ (o : Option Netlist). MatchOption o (LacksNetlist (flat design)) (IsNetlistOf design Zero)) c.in_default-2.is c.in_ok-zero.ensures.netlist

pub returns-in_default-3 : goal.returns-in_default-3
returns-in_default-3 c =
    let design = c.args.design.now in
    subst (λ (o : Option Netlist). MatchOption o (LacksNetlist (flat design)) (IsNetlistOf design One)) c.in_default-3.is c.in_ok-one.ensures.netlist
