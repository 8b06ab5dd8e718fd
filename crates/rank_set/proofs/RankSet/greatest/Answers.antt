use Rattle.std.proofs.Common.{ap, sym, subst, ◌∙◌}
use Rattle.rank_set.proofs.Law.{member_within}
use Rattle.rank_set.specs.Words.{has, IsLastBit}
use Rattle.rank_set.proofs.Views.{empty_is, greatest_is}
use Rattle.rank_set.proofs.RankSet.greatest.Goals as goal

pub returns-in_err-number-clause-greatest : goal.returns-in_err-number-clause-greatest
returns-in_err-number-clause-greatest c =
    rw (c.from_residual.ensures, ← c.self.view_is)
    (empty_is c.self.invariant (λ w. ap (λ words. has words w) (sym c.deref.ensures.value) ∙ c.in_err-number.ensures w))

pub returns-clause-greatest : goal.returns-clause-greatest
returns-clause-greatest c =
    rw (← c.self.view_is)
    (greatest_is c.self.invariant (subst (λ words. IsLastBit words c.last_bit_in.result) c.deref-2.ensures.value c.last_bit_in.ensures))

pub returns-clause-within : goal.returns-clause-within
returns-clause-within c = member_within c.args.self.now c.last_bit_in.result (returns-clause-greatest c).member
