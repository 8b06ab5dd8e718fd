use Rattle.std.proofs.Common.{◌∙◌}
use Rattle.rtl_bits.proofs.PlaneLemmas.{append_planes}
use Rattle.rtl_bits.proofs.Vec4.join.Goals as goal

pub returns-clause-bits : goal.returns-clause-bits
returns-clause-bits c =
    c.of_digits.ensures.bits
    ∙ rw (c.width-low_width.ensures.exact, c.width.ensures.exact)
    (append_planes _ _ _ _ _ _ _ _ c.self.view_is c.high.view_is c.self.invariant c.high.invariant c.requires)
