use Rattle.std.proofs.Common.{arith}
use Rattle.desk_core.specs.Reports.{told_in}
use Rattle.desk_command.specs.Commands.{Reported}
use Rattle.desk_command.proofs.Told.{told_delivered}
use Rattle.desk_command.proofs.report.report_on.Goals as goal

pub returns-in-Ok-clause-reported : goal.returns-in-Ok-clause-reported
returns-in-Ok-clause-reported g c =
    Reported (told_in c.in-Ok.report) c.in-Ok.ensures
    (told_delivered (told_in c.in-Ok.report) c.status_of.result c.deref.result.now c.deliver.result (g.S.Sink.taken c.args.out.now) (g.S.Sink.taken c.deliver.new.out)
    c.status_of.ensures.outcome c.deref.ensures.value
    (c.deliver.ensures.delivers (λ same. absurd (omega (arith, c.status_of.ensures.below, same)))))
