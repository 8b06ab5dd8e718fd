use Rattle.std.proofs.Common.{◌∙◌, ◌+◌, ◌%◌, ap, w64}
use Rattle.std.specs.Int.{int_pow}
use Rattle.std.proofs.lemmas.Int.{to_z-of_z}
use Rattle.rtl_const.specs.Constant.{ranged}
use Rattle.rtl_const.proofs.Powers.{even_raised}
use Rattle.rtl_const.proofs.number.raised_natural.Goals as goal

pub returns : goal.returns
returns c =
    c.raised_short-2.ensures
    ∙ ap (λ a. ranged c.args.at (int_pow a (64 + c.args.right % 2))) (to_z-of_z w64 c.args.left c.ranges.left)
    ∙ even_raised c.args.at c.args.right c.args.left c.if-right-lt64.false
