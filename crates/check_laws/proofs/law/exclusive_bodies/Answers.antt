use Rattle.check_laws.proofs.Bodies.{exclusive_bodies}
use Rattle.check_laws.proofs.law.exclusive_bodies.Goals as goal

pub returns : goal.returns
returns c = exclusive_bodies
