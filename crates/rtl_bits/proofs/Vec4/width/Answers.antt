use Rattle.std.proofs.Common.{length, sym, ◌∙◌, ap}
use Rattle.rtl_bits.specs.Inside.{width_back}
use Rattle.rtl_bits.proofs.Vec4.width.Goals as goal

pub returns-clause-exact : goal.returns-clause-exact
returns-clause-exact c = sym (width_back _ _ _) ∙ ap length c.self.view_is
