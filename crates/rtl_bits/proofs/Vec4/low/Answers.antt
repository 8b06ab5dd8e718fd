use Rattle.std.proofs.Common.{sym, ◌∙◌}
use Rattle.rtl_bits.proofs.PlaneLemmas.{take_planes}
use Rattle.rtl_bits.proofs.Vec4.low.Goals as goal

pub returns-clause-bits : goal.returns-clause-bits
returns-clause-bits c =
    c.of_digits.ensures.bits ∙ sym (take_planes _ _ _ _ c.self.view_is _ c.requires.inside)
