use Rattle.std.proofs.Common.{sym, subst}
use Rattle.rtl_flat.specs.Flats.{flat_in}
use Rattle.desk_demo.specs.Files.{IsMalformed}
use Rattle.desk_demo.specs.declared.file.Malformed.{Malformed}
use Rattle.desk_top.specs.Outcome.{IsDemoRun, IsRerun, Read, Unread}
use Rattle.desk_top.proofs.Answered.{work_map}
use Rattle.desk_top.proofs.replay.run_file.Goals as goal

pub returns-in-Ok-clause-work : goal.returns-in-Ok-clause-work
returns-in-Ok-clause-work c =
    let flat = flat_in c.args.design.now in
    work_map {P = IsRerun flat c.in-Ok.demo} {Q = IsDemoRun flat c.args.text.now} c.run_demo.result c.run_demo.ensures.work
    (λ outcome is. Read c.in-Ok.demo outcome c.in-Ok.ensures.told is)

pub returns-in_ok-malformed-in-Err-First-clause-work : goal.returns-in_ok-malformed-in-Err-First-clause-work
returns-in_ok-malformed-in-Err-First-clause-work c =
    let flat = flat_in c.args.design.now in
    let unread = subst (λ (fault : Malformed). IsMalformed c.args.design.now.signals.items c.args.text.now fault) c.in-Err-First.field-0-is c.in-Err-First.ensures.malformed in
    subst (IsDemoRun flat c.args.text.now) (sym c.in_ok-malformed-in-Err-First.ensures) (Unread unread)

pub returns-in-Err-More-clause-work : goal.returns-in-Err-More-clause-work
returns-in-Err-More-clause-work c =
    c.refuse_more.ensures.work c.args.text.now
    (subst (λ (fault : Malformed). IsMalformed c.args.design.now.signals.items c.args.text.now fault) c.in-Err-More.field-0-is c.in-Err-More.ensures.malformed)
