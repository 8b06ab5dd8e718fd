use Rattle.std.proofs.Common.{◌≡◌, Some, sym, subst}
use Rattle.rtl_flat.specs.Flats.{flat_in}
use Rattle.vcd_check.specs.vcd_signals.vcd_read.Reading.{dump_of}
use Rattle.desk_top.specs.Outcome.{IsCompared, Told, Untold, compare_outcome, verdict_outcome}
use Rattle.desk_top.proofs.Answered.{work_map}
use Rattle.desk_top.proofs.vcd.compare_with.Goals as goal

pub returns-in-Ok-clause-work : goal.returns-in-Ok-clause-work
returns-in-Ok-clause-work c =
    let flat = flat_in c.args.design.now in
    let its = IsCompared flat c.args.scope.now (dump_of c.args.dump.now) in
    work_map {P = λ outcome. outcome ≡ verdict_outcome flat c.in-Ok.verdict} {Q = its} c.tell.result c.tell.ensures.work
    (λ outcome is. subst its (sym is) (Told c.in-Ok.verdict c.in-Ok.ensures.verdict))

pub returns-in-Err-clause-work : goal.returns-in-Err-clause-work
returns-in-Err-clause-work c =
    let flat = flat_in c.args.design.now in
    let its = IsCompared flat c.args.scope.now (dump_of c.args.dump.now) in
    work_map {P = λ outcome. compare_outcome flat c.in-Err.fault ≡ Some outcome} {Q = its} c.tell_fault.result c.tell_fault.ensures.work
    (λ outcome is. Untold c.in-Err.fault outcome c.in-Err.ensures.fault is)
