use Rattle.std.proofs.Common.{◌<◌, false, length, ap, arith}
use Rattle.std.proofs.lemmas.List.{get_or_read}
use Rattle.agenda.specs.Agendas.{Numbered}
use Rattle.agenda.proofs.Kept.{number_fits, rank_fits, written}
use Rattle.agenda.proofs.Agenda.remove.Goals as goal

pub remove-requires-2 : goal.remove-requires-2
remove-requires-2 c =
    let s = c.self.inside in
    let lt : c.args.number < length s.members = let e = ap (λ (a : Numbered). length a.flags) c.self.view_is in omega (arith, c.requires, e) in
    let rank = get_or_read s.rank_of.items _ _ (number_fits c.self.invariant c.args.number lt) c.index.ensures 0 in
    omega (arith, rank, rank_fits c.self.invariant c.args.number lt)

pub invariant_of-self : goal.invariant_of-self
invariant_of-self c =
    let s = c.self.inside in
    let lt : c.args.number < length s.members = let e = ap (λ (a : Numbered). length a.flags) c.self.view_is in omega (arith, c.requires, e) in
    let rank = get_or_read s.rank_of.items _ _ (number_fits c.self.invariant c.args.number lt) c.index.ensures 0 in
    rw (c.remove.ensures, c.remove-2.ensures, rank) (written c.self.invariant c.args.number false lt)
