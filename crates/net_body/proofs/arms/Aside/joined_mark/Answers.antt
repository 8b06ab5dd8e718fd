use Rattle.rtl_bits.specs.Digits.{one_at_or}
use Rattle.net_body.proofs.Merging.{next_picked}
use Rattle.net_body.proofs.arms.Aside.joined_mark.Goals as goal

pub returns-clause-next : goal.returns-clause-next
returns-clause-next c = λ k.
    next_picked c.args.self.late c.args.self.mark.has_next c.args.self.sum c.args.self.mark.next c.merged.result k (c.merged.ensures.at k)

pub returns-clause-wrote : goal.returns-clause-wrote
returns-clause-wrote c = λ k. one_at_or c.args.self.wrote c.args.self.mark.wrote k

pub returns-clause-late : goal.returns-clause-late
returns-clause-late c = λ k. one_at_or c.args.self.late c.args.self.mark.late k
