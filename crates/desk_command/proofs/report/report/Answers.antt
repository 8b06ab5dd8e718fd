use Rattle.std.proofs.Common.{arith, refl}
use Rattle.desk_command.specs.Commands.{Started, Unstarted}
use Rattle.desk_command.proofs.Started.{load_cause, over_tables}
use Rattle.desk_command.proofs.report.report.Goals as goal

pub returns-in-Ok-clause-reported : goal.returns-in-Ok-clause-reported
returns-in-Ok-clause-reported g c =
    Started (over_tables (g.K.Keeper.tables c.args.keeper.now) c.in-Ok.desk _ c.in-Ok.ensures.started
    (c.report_over.ensures.reported (g.K.Keeper.count c.args.keeper.now) (g.K.Keeper.count c.start.new.keeper) (c.in-Ok.ensures.calm (λ same. cc))))
    c.in-Ok.ensures.migrated

pub returns-in-Err-clause-reported : goal.returns-in-Err-clause-reported
returns-in-Err-clause-reported g c =
    Unstarted (c.refuse.ensures.refused (g.K.Keeper.tables c.args.keeper.now) (g.K.Keeper.count c.args.keeper.now) (g.K.Keeper.count c.start.new.keeper)
    c.in-Err.ensures.started (λ same. c.in-Err.ensures.unkept (cc)) (λ other. c.in-Err.ensures.calm (λ same. other (cc))))
    (refl, refl) c.in-Err.ensures.same

pub returns-in-Ok-clause-load_failed : goal.returns-in-Ok-clause-load_failed
returns-in-Ok-clause-load_failed g c =
    λ more. absurd (omega (arith, c.in-Ok.ensures.calm (λ same. cc), more))

pub returns-in-Err-clause-load_failed : goal.returns-in-Err-clause-load_failed
returns-in-Err-clause-load_failed g c =
    load_cause c.in-Err.fault c.refuse.result (g.K.Keeper.count c.args.keeper.now) (g.K.Keeper.count c.start.new.keeper)
    c.refuse.ensures.unkept (λ other. c.in-Err.ensures.calm (λ same. other (cc)))
