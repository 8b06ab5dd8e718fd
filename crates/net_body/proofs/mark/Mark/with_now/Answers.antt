use Rattle.std.proofs.Common.{refl}
use Rattle.net_body.proofs.Merging.{over_is}
use Rattle.net_body.proofs.mark.Mark.with_now.Goals as goal

pub returns-clause-wrote : goal.returns-clause-wrote
returns-clause-wrote c = λ k. over_is c.ones.result c.args.at c.args.count c.args.count c.args.self.wrote k refl (c.ones.ensures k)
