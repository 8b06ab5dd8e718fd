use Rattle.std.proofs.Common.{◌∙◌, cond, length, get_or, ap}
use Rattle.std.specs.Prelude.{unwrap_or}
use Rattle.rtl_bits.specs.declared.Bit.TheVariants.{X}
use Rattle.rtl_bits.specs.Bit.{or_bit}
use Rattle.rtl_bits.specs.Bits.{is_one_at, zip_with}
use Rattle.rtl_bits.specs.Digits.{one_at_or}
use Rattle.rtl_bits.proofs.Lists.{tabulate-congr}
use Rattle.net_body.specs.Marks.{next_bit}
use Rattle.net_body.proofs.Ending.{unwrap_pick}
use Rattle.net_body.proofs.arms.Aside.with.Goals as goal

pub returns-clause-sum : goal.returns-clause-sum
returns-clause-sum c =
    let mark = c.args.mark in
    let number = c.args.number in
    c.or.ensures.bits
    ∙ ap (λ bits. zip_with or_bit bits c.args.self.sum)
    (c.merged.ensures.bits
    ∙ tabulate-congr (length number) (λ k. cond (is_one_at mark.has_next k) (get_or mark.next k X) (get_or number k X)) (λ k. unwrap_or (next_bit mark k) (get_or number k X))
    (λ k below. unwrap_pick (is_one_at mark.has_next k) (get_or mark.next k X) (get_or number k X)))

pub returns-clause-wrote : goal.returns-clause-wrote
returns-clause-wrote c = λ k. one_at_or c.args.mark.wrote c.args.self.wrote k

pub returns-clause-late : goal.returns-clause-late
returns-clause-late c = λ k. one_at_or c.args.mark.late c.args.self.late k
