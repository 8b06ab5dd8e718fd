use Rattle.std.proofs.Common.{◌∙◌, arith}
use Rattle.rtl_bits.specs.Digits.{one_at_or}
use Rattle.net_body.specs.Marks.{next_bit}
use Rattle.net_body.proofs.Merging.{give_filled, next_picked}
use Rattle.net_body.proofs.mark.Mark.filled_next.Goals as goal

pub returns-clause-next : goal.returns-clause-next
returns-clause-next c = λ k.
    next_picked c.args.mask c.args.self.has_next c.filled-filled.result c.args.self.next c.merged.result k (c.merged.ensures.at k)
    ∙ give_filled c.args.mask c.width.result c.args.bit c.filled-filled.result (next_bit c.args.self k) k c.filled-filled.ensures.bits
    (λ there. let below = c.requires k there in let wide = c.width.ensures.exact in omega (arith, below, wide))

pub returns-clause-wrote : goal.returns-clause-wrote
returns-clause-wrote c = λ k. one_at_or c.args.mask c.args.self.wrote k

pub returns-clause-late : goal.returns-clause-late
returns-clause-late c = λ k. one_at_or c.args.mask c.args.self.late k
