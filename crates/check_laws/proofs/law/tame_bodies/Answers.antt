use Rattle.check_laws.proofs.Bodies.{tame_bodies}
use Rattle.check_laws.proofs.law.tame_bodies.Goals as goal

pub returns : goal.returns
returns c = tame_bodies
