use Rattle.std.proofs.Common.{Option, subst}
use Rattle.std.specs.Prelude.{IfErr, MatchOption}
use Rattle.rtl_flat.specs.declared.design.Design.{Design}
use Rattle.rtl_flat.specs.Flats.{flat}
use Rattle.demo_replay.specs.declared.setup.Setup.{Setup as Kept}
use Rattle.demo_replay.specs.Replays.{IsReplayFault}
use Rattle.demo_replay.specs.Setups.{LacksNetlist}
use Rattle.demo_replay.specs.Tables.{IsOf}
use Rattle.demo_replay.proofs.replays.replay.Goals as goal

pub returns-in_default-clause-fault : goal.returns-in_default-clause-fault
returns-in_default-clause-fault c =
    let design = c.args.design.now in
    (c.in_ok-trial.ensures.legal, subst (λ (o : Option Kept). MatchOption o (LacksNetlist (flat design)) (IsOf design)) c.in_default.is c.in_ok-setup.ensures)

pub returns-clause-fault : goal.returns-clause-fault
returns-clause-fault c =
    let design = c.args.design.now in
    let is = subst (λ (o : Option Kept). MatchOption o (LacksNetlist (flat design)) (IsOf design)) c.in-Some.is c.in_ok-setup.ensures in
    subst (λ (one : Design). IfErr c.shown_by.result (IsReplayFault (flat one) c.args.demo.now)) is.design_is c.shown_by.ensures.fault
