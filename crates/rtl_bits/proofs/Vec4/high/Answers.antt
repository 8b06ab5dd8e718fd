use Rattle.std.proofs.Common.{◌≤◌, length, sym, ◌∙◌, arith}
use Rattle.rtl_bits.proofs.PlaneLemmas.{drop_planes}
use Rattle.rtl_bits.proofs.Vec4.high.Goals as goal

pub returns-clause-bits : goal.returns-clause-bits
returns-clause-bits c =
    let inside : c.args.at ≤ length c.args.self = omega arith in
    c.of_digits.ensures.bits ∙ rw c.width-width.ensures.exact (sym (drop_planes _ _ _ _ c.self.view_is _ inside))
