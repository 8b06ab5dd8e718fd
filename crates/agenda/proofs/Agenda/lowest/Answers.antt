use Rattle.std.proofs.lemmas.List.{get_or_read}
use Rattle.agenda.proofs.Kept.{empty_is, lowest_is, number_at_fits}
use Rattle.agenda.proofs.Agenda.lowest.Goals as goal

pub returns-in_err-rank-clause-lowest : goal.returns-in_err-rank-clause-lowest
returns-in_err-rank-clause-lowest c =
    rw (c.from_residual.ensures, ← c.self.view_is)
    (empty_is c.self.invariant c.in_err-rank.ensures.least)

pub returns-clause-lowest : goal.returns-clause-lowest
returns-clause-lowest c =
    let s = c.self.inside in
    let r = c.in_ok-rank.rank in
    let number = get_or_read s.number_at.items _ _ (number_at_fits c.self.invariant r c.in_ok-rank.ensures.within) c.index.ensures 0 in
    rw (number, ← c.self.view_is)
    (lowest_is c.self.invariant r c.in_ok-rank.ensures.least)
