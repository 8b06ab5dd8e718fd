use Rattle.agenda.proofs.Kept.{distinct_numbers}
use Rattle.agenda.proofs.Agenda.new.Goals as goal

pub ranks_of-requires-clause-distinct : goal.ranks_of-requires-clause-distinct
ranks_of-requires-clause-distinct c =
    rw c.deref-2.ensures.value
    (distinct_numbers c.deref.result.now c.in_ok-number_at.number_at.items c.in_ok-number_at.ensures)
