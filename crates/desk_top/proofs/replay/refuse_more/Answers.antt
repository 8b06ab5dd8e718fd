use Rattle.std.proofs.Common.{sym, subst}
use Rattle.rtl_flat.specs.Flats.{flat, flat_in}
use Rattle.desk_verdict.specs.demo_replay.declared.fault.ReplayFault.{ReplayFault}
use Rattle.desk_verdict.specs.demo_replay.Replays.{IsReplayFault}
use Rattle.desk_top.specs.Outcome.{IsDemoRun, Misnamed, More}
use Rattle.desk_top.proofs.replay.refuse_more.Goals as goal

pub returns-in_ok-malformed-in-Ok-clause-work : goal.returns-in_ok-malformed-in-Ok-clause-work
returns-in_ok-malformed-in-Ok-clause-work c text leads =
    subst (IsDemoRun (flat_in c.args.design.now) text) (sym c.in_ok-malformed-in-Ok.ensures)
    (More c.args.demo.now leads c.in-Ok.ensures.legal)

pub returns-in_ok-malformed-in-Err-Illegal-clause-work : goal.returns-in_ok-malformed-in-Err-Illegal-clause-work
returns-in_ok-malformed-in-Err-Illegal-clause-work c text leads =
    let its = subst (λ (fault : ReplayFault). IsReplayFault (flat c.args.design.now) c.args.demo.now fault) c.in-Err-Illegal.field-0-is c.in-Err-Illegal.ensures.fault in
    subst (IsDemoRun (flat_in c.args.design.now) text) (sym c.in_ok-malformed-in-Err-Illegal.ensures)
    (Misnamed c.args.demo.now _ leads its)

pub returns-in_ok-malformed-in-Err-NoNetlist-clause-work : goal.returns-in_ok-malformed-in-Err-NoNetlist-clause-work
returns-in_ok-malformed-in-Err-NoNetlist-clause-work c text leads =
    let its = subst (λ (fault : ReplayFault). IsReplayFault (flat c.args.design.now) c.args.demo.now fault) c.in-Err-NoNetlist.field-0-is c.in-Err-NoNetlist.ensures.fault in
    subst (IsDemoRun (flat_in c.args.design.now) text) (sym c.in_ok-malformed-in-Err-NoNetlist.ensures)
    (More c.args.demo.now leads its.0)

pub returns-in_ok-malformed-in-Err-Unsettled-clause-work : goal.returns-in_ok-malformed-in-Err-Unsettled-clause-work
returns-in_ok-malformed-in-Err-Unsettled-clause-work c text leads =
    let its = subst (λ (fault : ReplayFault). IsReplayFault (flat c.args.design.now) c.args.demo.now fault) c.in-Err-Unsettled.field-0-is c.in-Err-Unsettled.ensures.fault in
    subst (IsDemoRun (flat_in c.args.design.now) text) (sym c.in_ok-malformed-in-Err-Unsettled.ensures)
    (More c.args.demo.now leads its.0)

pub returns-in_ok-malformed-in-Err-Same-clause-work : goal.returns-in_ok-malformed-in-Err-Same-clause-work
returns-in_ok-malformed-in-Err-Same-clause-work c text leads =
    let its = subst (λ (fault : ReplayFault). IsReplayFault (flat c.args.design.now) c.args.demo.now fault) c.in-Err-Same.field-0-is c.in-Err-Same.ensures.fault in
    subst (IsDemoRun (flat_in c.args.design.now) text) (sym c.in_ok-malformed-in-Err-Same.ensures)
    (More c.args.demo.now leads its.0)
