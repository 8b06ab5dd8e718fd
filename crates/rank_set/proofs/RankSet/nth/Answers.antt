use Rattle.std.proofs.Common.{ap, sym, ◌∙◌, ◌*◌, arith, length}
use Rattle.rank_set.specs.Ranks.{members}
use Rattle.rank_set.specs.Words.{has, flags_of}
use Rattle.rank_set.proofs.Law.{member_within}
use Rattle.rank_set.proofs.Views.{nth_is, members_fit}
use Rattle.rank_set.proofs.RankSet.nth.Goals as goal

pub nth_bit-requires-clause-some : goal.nth_bit-requires-clause-some
nth_bit-requires-clause-some c =
    let words = c.self.inside.words.items in
    let view = ap members c.self.view_is in
    let fit = members_fit words c.self.inside.size (64 * length words) c.self.invariant.within in
    rw c.deref.ensures.value (omega (arith, c.requires, view, fit))

pub returns-clause-nth : goal.returns-clause-nth
returns-clause-nth c =
    rw (← c.self.view_is)
    (nth_is c.self.invariant
    (ap (λ words. has words c.nth_bit.result) (sym c.deref.ensures.value) ∙ c.nth_bit.ensures.bit)
    (ap (λ words. members (flags_of words c.nth_bit.result)) (sym c.deref.ensures.value) ∙ c.nth_bit.ensures.before))

pub returns-clause-within : goal.returns-clause-within
returns-clause-within c = member_within c.args.self.now c.nth_bit.result (returns-clause-nth c).member
