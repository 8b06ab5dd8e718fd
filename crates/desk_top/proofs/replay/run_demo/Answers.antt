use Rattle.std.proofs.Common.{◌≡◌, Some, sym, subst}
use Rattle.rtl_flat.specs.Flats.{flat_in}
use Rattle.desk_top.specs.Outcome.{Differs, Fails, IsRerun, fault_outcome, replay_outcome}
use Rattle.desk_top.proofs.Answered.{work_map}
use Rattle.desk_top.proofs.replay.run_demo.Goals as goal

pub returns-in-Ok-clause-work : goal.returns-in-Ok-clause-work
returns-in-Ok-clause-work c =
    let flat = flat_in c.args.design.now in
    let demo = c.args.demo.now in
    work_map {P = λ outcome. outcome ≡ replay_outcome flat demo c.in-Ok.shown} {Q = IsRerun flat demo} c.show.result c.show.ensures.work
    (λ outcome is. subst (IsRerun flat demo) (sym is) (Differs c.in-Ok.shown c.in-Ok.ensures.shown))

pub returns-in-Err-clause-work : goal.returns-in-Err-clause-work
returns-in-Err-clause-work c =
    let flat = flat_in c.args.design.now in
    let demo = c.args.demo.now in
    work_map {P = λ outcome. fault_outcome c.in-Err.fault ≡ Some outcome} {Q = IsRerun flat demo} c.tell.result c.tell.ensures.work
    (λ outcome is. Fails c.in-Err.fault outcome c.in-Err.ensures.fault is)
