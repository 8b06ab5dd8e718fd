use Rattle.std.proofs.Common.{not, ap}
use Rattle.demo_told.proofs.Same.{same_is}
use Rattle.demo_told.proofs.demo.Shown.differs.Goals as goal

pub returns : goal.returns
returns c =
    ap not (same_is c.is_same.result c.args.self.now.simulated c.args.self.now.synthesised c.is_same.ensures)
