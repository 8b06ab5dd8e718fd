use Rattle.std.proofs.Common.{◌∙◌, sym, arith}
use Rattle.check_case.proofs.Apart.{equal_end}
use Rattle.check_case.proofs.disjoint.may_equal.Goals as goal

pub returns : goal.returns
returns c =
    sym (equal_end c.args.one c.args.other c.loop-at.at (λ inside. omega arith)) ∙ c.loop-at.invariant
