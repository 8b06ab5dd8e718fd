use Rattle.std.proofs.Common.{length}
use Rattle.std.specs.Prelude.{bit_or}
use Rattle.net_body.proofs.Merging.{next_over, over_is}
use Rattle.net_body.proofs.mark.Mark.with_next.Goals as goal

pub returns-clause-next : goal.returns-clause-next
returns-clause-next c = λ k.
    next_over c.args.at c.args.bits c.args.self.next c.replace-next.result (bit_or c.ones-written.result c.args.self.has_next) c.args.self.has_next k
    c.replace-next.ensures.bits c.requires
    (over_is c.ones-written.result c.args.at c.width.result (length c.args.bits) c.args.self.has_next k c.width.ensures.exact (c.ones-written.ensures k))

pub returns-clause-wrote : goal.returns-clause-wrote
returns-clause-wrote c = λ k.
    over_is c.ones-written.result c.args.at c.width.result (length c.args.bits) c.args.self.wrote k c.width.ensures.exact (c.ones-written.ensures k)

pub returns-clause-late : goal.returns-clause-late
returns-clause-late c = λ k.
    over_is c.ones-written.result c.args.at c.width.result (length c.args.bits) c.args.self.late k c.width.ensures.exact (c.ones-written.ensures k)
