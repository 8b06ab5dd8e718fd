use Rattle.std.proofs.Common.{◌∙◌, ℕ, List, Err, subst, sym, arith}
use Rattle.desk_core.specs.Starting.{IsStart}
use Rattle.desk_core.specs.declared.start.StartFault.{StartFault}
use Rattle.desk_top.specs.Delivery.{Delivers}
use Rattle.desk_command.specs.Commands.{taken_between}
use Rattle.desk_command.proofs.Started.{on_bad_tables}
use Rattle.desk_command.proofs.starting.refuse.Goals as goal

pub returns-in-Ok-clause-refused : goal.returns-in-Ok-clause-refused
returns-in-Ok-clause-refused g c =
    let before = g.S.Sink.taken c.args.out.now in
    let after = g.S.Sink.taken c.deliver.new.out in
    λ told faults faults' start rose calm. on_bad_tables told faults faults' c.in-BadTables.table c.in-BadTables.row c.deliver.result (taken_between before after)
    (subst (λ (fault : StartFault). IsStart told (Err fault)) c.in-BadTables.is start)
    (calm (λ same. let no = sym c.in-BadTables.is ∙ same in cc))
    (subst (λ (bytes : List ℕ). Delivers (record { status = 14; bytes = bytes }) c.deliver.result before after) (c.deref.ensures.value ∙ c.in-Ok.ensures)
    (c.deliver.ensures.delivers (λ same. absurd (omega (arith, same)))))
