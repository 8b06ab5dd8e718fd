use Rattle.desk_command.specs.Commands.{OnDay}
use Rattle.desk_command.proofs.Told.{day_taken}
use Rattle.desk_command.proofs.report.report_over.Goals as goal

pub returns-in-Ok-clause-reported : goal.returns-in-Ok-clause-reported
returns-in-Ok-clause-reported g c =
    λ keeper keeper' still. OnDay c.in-Ok.today
    (day_taken (g.C.Clock.days c.args.clock.now) (g.C.Clock.days c.today.new.self) c.in-Ok.today c.in-Ok.ensures.told)
    c.in-Ok.ensures.calm still c.report_on.ensures.reported
