use Rattle.std.proofs.Common.{ap, sym, subst, ◌∙◌}
use Rattle.rank_set.proofs.Law.{member_within}
use Rattle.rank_set.specs.Words.{has, IsFirstBit}
use Rattle.rank_set.proofs.Views.{empty_is, least_is}
use Rattle.rank_set.proofs.RankSet.least.Goals as goal

pub returns-in_err-number-clause-least : goal.returns-in_err-number-clause-least
returns-in_err-number-clause-least c =
    rw (c.from_residual.ensures, ← c.self.view_is)
    (empty_is c.self.invariant (λ w. ap (λ words. has words w) (sym c.deref.ensures.value) ∙ c.in_err-number.ensures w))

pub returns-clause-least : goal.returns-clause-least
returns-clause-least c =
    rw (← c.self.view_is)
    (least_is c.self.invariant (subst (λ words. IsFirstBit words c.first_bit_in.result) c.deref-2.ensures.value c.first_bit_in.ensures))

pub returns-clause-within : goal.returns-clause-within
returns-clause-within c = member_within c.args.self.now c.first_bit_in.result (returns-clause-least c).member
